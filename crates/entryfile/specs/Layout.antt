-- The layout of an entry file: the fields of the opening and of each entry, in the order of the file, with the range
-- of each.
use Rattle.std.specs.Prelude.{ℕ, zero, suc, Bool, cond, List, [], ◌∷◌, ◌==◌}
use Rattle.market.specs.Ranges.{within, limit, largest}
use Rattle.market.specs.Kinds.{capability_fits}
use Rattle.market.specs.Families.{is_family, figure_count}
use Rattle.market.specs.declared.family.Family.{Family}
use Rattle.entryfile.specs.declared.fault.EntryFault.TheVariants.{Unknown, OutOfRange}
use Rattle.entryfile.specs.Forms.{Form, done, field}

-- a number within a range, and what follows it
abbrev pub number : (ℕ → Bool) → (ℕ → Form) → Form
number test rest = field OutOfRange test rest

-- the version of the format that this reader and writer know
abbrev pub version_form : Form → Form
version_form rest = field Unknown (within 1 1) (λ _. rest)

-- numbers one after another, each in its range
abbrev pub row_form : List (ℕ → Bool) → Form → Form
row_form [] rest = rest
row_form (test ∷ tests) rest = number test (λ _. row_form tests rest)

-- business days and factor of a month
abbrev pub month_ranges : List (ℕ → Bool)
month_ranges = within 1 23 ∷ within 1 100 ∷ []

abbrev pub month_form : Form → Form
month_form rest = row_form month_ranges rest

-- so many items, one after another
abbrev pub items_form : (Form → Form) → ℕ → Form → Form
items_form item zero rest = rest
items_form item (suc k) rest = item (items_form item k rest)

abbrev pub months_form : ℕ → Form → Form
months_form k rest = items_form month_form k rest

-- a price for each zone
abbrev pub price_ranges : List (ℕ → Bool)
price_ranges = within 0 limit ∷ []

abbrev pub price_form : Form → Form
price_form rest = row_form price_ranges rest

abbrev pub prices_form : ℕ → Form → Form
prices_form k rest = items_form price_form k rest

-- buy-out rate and pass mark
abbrev pub shares_form : Form
shares_form = number (within 0 100) (λ rate. number (within 1 100) (λ mark. done))

abbrev pub zones_form : Form
zones_form = number (within 1 10) (λ zones. prices_form zones shares_form)

-- first and last hour of the window
abbrev pub window_form : Form
window_form = number (within 1 24) (λ first. number (within first 24) (λ last. zones_form))

abbrev pub opening_form : Form
opening_form = number (within 1 6) (λ months. months_form months window_form)

-- the number of an award: any number, since one that names no award is for the book to refuse
abbrev pub award : (ℕ → Form) → Form
award rest = number (within 0 largest) rest

-- so many figures
abbrev pub figures_form : ℕ → Form
figures_form zero = done
figures_form (suc k) = number (within 0 limit) (λ _. figures_form k)

abbrev pub award_form : ℕ → Form
award_form zones = number (within 1 999) (λ holder. number (within 1 zones) (λ zone. number (within 1 7) (λ kind. number (within 10 limit) (λ quantity. number (within quantity limit) (λ icap. number (capability_fits kind) (λ capability. done))))))

abbrev pub lodge_form : ℕ → Form
lodge_form zones = award (λ n. number (within 1 999) (λ holder. number (within 1 zones) (λ zone. number (within 1 7) (λ kind. number (within 10 limit) (λ quantity. number (capability_fits kind) (λ capability. done))))))

-- Approve and Reject
abbrev pub named_form : Form
named_form = award (λ n. done)

-- Buy-out and Reduction
abbrev pub take_off_form : Form
take_off_form = award (λ n. number (within 1 limit) (λ quantity. done))

abbrev pub sheet_form : List Family → Form
sheet_form families = award (λ n. number (is_family families) (λ family. figures_form (figure_count families family)))

abbrev pub standby_form : Form
standby_form = award (λ n. number (within 1 24) (λ hour. done))

abbrev pub test_form : Form
test_form = award (λ n. number (within 0 limit) (λ delivered. done))

abbrev pub mark_form : Form
mark_form = award (λ n. number (within 1 2) (λ sort. done))

-- the fields of an entry, by its number
abbrev pub fields_form : ℕ → List Family → ℕ → Form
fields_form zones families k = cond (k == 1) (award_form zones) (cond (k == 2) (lodge_form zones) (cond (k == 3) named_form (cond (k == 4) named_form (cond (k == 5) take_off_form (cond (k == 6) take_off_form (cond (k == 7) done (cond (k == 8) (sheet_form families) (cond (k == 9) standby_form (cond (k == 10) done (cond (k == 11) test_form (cond (k == 12) mark_form done)))))))))))

-- the entry's number, its sender, its fields
abbrev pub entry_form : ℕ → List Family → Form
entry_form zones families = field Unknown (within 1 13) (λ k. number (within 0 999) (λ sender. fields_form zones families k))

-- Whole files: version and opening, and all entries after them.
use Rattle.std.specs.Prelude.{ℕ, zero, suc, cond, List, [], ◌∷◌, ◌++◌, length, Some, None, Ok, Err, Option, nat_le}
use Rattle.std.specs.List.{flat_map}
use Rattle.market.specs.Openings.{Terms}
use Rattle.market.specs.declared.family.Family.{Family}
use Rattle.market.specs.declared.month.Month.{Month}
use Rattle.entryfile.specs.declared.fault.EntryFault.{EntryFault}
use Rattle.entryfile.specs.Forms.{Form, Got}
use Rattle.entryfile.specs.Lists.{month_pair}
use Rattle.entryfile.specs.Layout.{version_form, opening_form}
use Rattle.entryfile.specs.Items.{Item, entry_at, item_bytes, numbers_bytes}

-- days and factor, month by month
abbrev pub month_numbers : List Month → List ℕ
month_numbers ms = flat_map month_pair ms

-- from the number of zones on
abbrev pub zone_numbers : Terms → List ℕ
zone_numbers t = length t.prices ∷ (t.prices ++ (t.buyout_rate ∷ t.pass_mark ∷ []))

-- the numbers of an opening, in the order of the file
abbrev pub opening_numbers : Terms → List ℕ
opening_numbers t = length t.months ∷ (month_numbers t.months ++ (t.first_hour ∷ t.last_hour ∷ zone_numbers t))

-- what stands before the entries: version 1 and the opening
abbrev pub head_form : Form
head_form = version_form opening_form

abbrev pub head_numbers : Terms → List ℕ
head_numbers t = 1 ∷ opening_numbers t

abbrev pub head_bytes : Terms → List ℕ
head_bytes t = numbers_bytes (head_numbers t)

abbrev pub zones_of : Terms → ℕ
zones_of t = length t.prices

-- the entries that are read whole, and the fault that ends the reading, if there is one
pub record Listing : Type 0 where
  pub items : List Item
  pub fault : Option EntryFault

abbrev pub listing : List Item → Option EntryFault → Listing
listing is f = record { items = is; fault = f }

abbrev pub also : Item → Listing → Listing
also i l = listing (i ∷ l.items) l.fault

abbrev pub go_on : (ℕ → Listing) → Got Item → Listing
go_on rest (Ok p) = also p.0 (rest p.1)
go_on rest (Err e) = listing [] (Some e)

-- from a place on, in at most so many turns
unfoldable pub entries_by : ℕ → ℕ → List Family → List ℕ → ℕ → Listing
entries_by zero zones families file at = listing [] None
entries_by (suc turns) zones families file at = cond (nat_le (length file) at) (listing [] None) (go_on (entries_by turns zones families file) (entry_at zones families file at))

-- all entries from a place on; each has a byte at least, so a turn for each byte is enough
abbrev pub entries_from : ℕ → List Family → List ℕ → ℕ → Listing
entries_from zones families file at = entries_by (length file) zones families file at

abbrev pub items_bytes : List Item → List ℕ
items_bytes is = flat_map item_bytes is

-- the bytes of a whole file
abbrev pub file_bytes : Terms → List Item → List ℕ
file_bytes t is = head_bytes t ++ items_bytes is

-- Reading undoes writing, and writing undoes reading: for numbers of a form, for an entry, for a list of entries.
use Rattle.std.specs.Prelude.{◌≡◌, ℕ, ◌+◌, ◌^◌, ◌<◌, ◌≤◌, true, List, [], ◌∷◌, ◌++◌, length, drop, None, Ok}
use Rattle.std.specs.Int.Digits.{AllBelowBase}
use Rattle.std.specs.List.{between}
use Rattle.market.specs.declared.family.Family.{Family}
use Rattle.entryfile.specs.Forms.{Form, form_at, accepts}
use Rattle.entryfile.specs.Layout.{entry_form}
use Rattle.entryfile.specs.Items.{Item, entry_at, item_bytes, numbers_bytes, reference_fits}
use Rattle.entryfile.specs.Files.{entries_from, items_bytes, listing}

-- numbers that have the form and fit in 32 bits
pub record Written (form : Form) (ns : List ℕ) : Type 0 where
  pub fits : accepts form ns ≡ true
  pub small : AllBelowBase (2 ^ 32) ns

-- these bytes stand in the file from a place to a place
pub record Stands (file : List ℕ) (at : ℕ) (bytes : List ℕ) (end : ℕ) : Type 0 where
  pub is : bytes ≡ between at end file
  pub on : at ≤ end
  pub within : end ≤ length file

-- an entry that can be written under an opening with so many zones
pub record Good (zones : ℕ) (families : List Family) (i : Item) : Type 0 where
  pub written : Written (entry_form zones families) i.numbers
  pub reference : reference_fits i.reference ≡ true

abbrev pub AllGood : ℕ → List Family → List Item → Type 0
AllGood zones families [] = Unit {0}
AllGood zones families (i ∷ is) = Good zones families i × AllGood zones families is

-- numbers of a form are read back from their bytes, whatever follows
abbrev pub FormReads : Type 0
FormReads = (form : Form) (ns file : List ℕ) (at : ℕ) (post : List ℕ) → Written form ns → drop at file ≡ numbers_bytes ns ++ post → form_at form file at ≡ Ok (ns, at + length (numbers_bytes ns))

-- numbers that were read have the form, and just the bytes that were read
abbrev pub FormWrites : Type 0
FormWrites = (form : Form) (file ns : List ℕ) (at end : ℕ) → AllBelowBase 256 file → at ≤ length file → form_at form file at ≡ Ok (ns, end) → Written form ns × Stands file at (numbers_bytes ns) end

-- an entry is read back from its bytes, whatever follows
abbrev pub EntryReads : Type 0
EntryReads = (zones : ℕ) (families : List Family) (file : List ℕ) (at : ℕ) (i : Item) (post : List ℕ) → Good zones families i → drop at file ≡ item_bytes i ++ post → entry_at zones families file at ≡ Ok (i, at + length (item_bytes i))

-- an entry that was read can be written, and has just the bytes that were read, one at least
abbrev pub EntryWrites : Type 0
EntryWrites = (zones : ℕ) (families : List Family) (file : List ℕ) (at : ℕ) (i : Item) (end : ℕ) → AllBelowBase 256 file → at ≤ length file → entry_at zones families file at ≡ Ok (i, end) → Good zones families i × Stands file at (item_bytes i) end × (at < end)

-- a list of entries is read back from its bytes
abbrev pub EntriesRead : Type 0
EntriesRead = (zones : ℕ) (families : List Family) (file : List ℕ) (at : ℕ) (is : List Item) → AllGood zones families is → at ≤ length file → drop at file ≡ items_bytes is → entries_from zones families file at ≡ listing is None

-- entries that were read to the end of the file can be written, and have just the bytes that were read
abbrev pub EntriesWrite : Type 0
EntriesWrite = (zones : ℕ) (families : List Family) (file : List ℕ) (at : ℕ) (is : List Item) → AllBelowBase 256 file → at ≤ length file → entries_from zones families file at ≡ listing is None → AllGood zones families is × (items_bytes is ≡ drop at file)

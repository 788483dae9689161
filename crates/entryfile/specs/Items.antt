-- Entries as they stand in a file: their numbers and their reference.
use Rattle.std.specs.Prelude.{ℕ, ◌+◌, ◌-◌, Bool, cond, ◌&&◌, List, ◌++◌, length, Ok, Err, nat_lt}
use Rattle.std.specs.List.{flat_map, between, list_all}
use Rattle.number.specs.Numbers.{encode}
use Rattle.number.specs.declared.NumberCause.TheVariants.{Ends}
use Rattle.market.specs.Ranges.{within}
use Rattle.market.specs.declared.family.Family.{Family}
use Rattle.entryfile.specs.declared.fault.EntryFault.TheVariants.{Number, OutOfRange, BadText}
use Rattle.entryfile.specs.Forms.{Form, Got, checked_at, ahead, form_at}
use Rattle.entryfile.specs.Layout.{entry_form}

-- an entry by its numbers, from the entry's number and its sender on, and the bytes of its reference
pub record Item : Type 0 where
  pub numbers : List ℕ
  pub reference : List ℕ

abbrev pub item : List ℕ → List ℕ → Item
item ns t = record { numbers = ns; reference = t }

-- a reference is printable ASCII
abbrev pub printable : ℕ → Bool
printable b = within 32 126 b

abbrev pub whole_text : List ℕ → ℕ → ℕ → Got (List ℕ)
whole_text t at end = cond (list_all printable t) (Ok (t, end)) (Err (BadText at))

-- so many bytes of text; a text that is cut short is cause 1, even with a bad byte in it
unfoldable pub text_at : ℕ → List ℕ → ℕ → Got (List ℕ)
text_at n file at = cond (nat_lt (length file - at) n) (Err (Number (record { cause = Ends; place = at }))) (whole_text (between at (at + n) file) at (at + n))

abbrev pub after_length : List ℕ → Got ℕ → Got (List ℕ)
after_length file (Ok p) = text_at p.0 file p.1
after_length file (Err e) = Err e

-- a length of 0 to 32, and so many bytes
abbrev pub reference_at : List ℕ → ℕ → Got (List ℕ)
reference_at file at = after_length file (checked_at OutOfRange (within 0 32) file at)

-- a reference that fits in a file
abbrev pub reference_fits : List ℕ → Bool
reference_fits t = within 0 32 (length t) && list_all printable t

abbrev pub called : List ℕ → Got (List ℕ) → Got Item
called ns (Ok p) = Ok (item ns p.0, p.1)
called ns (Err e) = Err e

abbrev pub with_reference : List ℕ → Got (List ℕ) → Got Item
with_reference file (Ok p) = called p.0 (reference_at file p.1)
with_reference file (Err e) = Err e

-- an entry whose first numbers are read, by the form of its fields
abbrev pub entry_with : List ℕ → Form → List ℕ → ℕ → Got Item
entry_with first form file at = with_reference file (ahead first (form_at form file at))

-- the entry at a place and the place after it
abbrev pub entry_at : ℕ → List Family → List ℕ → ℕ → Got Item
entry_at zones families file at = with_reference file (form_at (entry_form zones families) file at)

-- the bytes of numbers, one after another
abbrev pub numbers_bytes : List ℕ → List ℕ
numbers_bytes ns = flat_map encode ns

-- the bytes of a reference: its length, and itself
abbrev pub reference_bytes : List ℕ → List ℕ
reference_bytes t = encode (length t) ++ t

-- the bytes of an entry
abbrev pub item_bytes : Item → List ℕ
item_bytes i = numbers_bytes i.numbers ++ reference_bytes i.reference

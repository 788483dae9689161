-- What the code's values say: an entry's numbers in the order of the file, and its reference.
use Rattle.std.specs.Prelude.{◌≡◌, ℕ, zero, suc, ◌-◌, List, [], ◌∷◌, length, drop, Ok, Err, Result}
use Rattle.std.specs.Borrow.{Bor}
use Rattle.std.specs.List.{between}
use Rattle.number.specs.Numbers.{Decoded, decode}
use Rattle.market.specs.Kinds.{kind_number, mark_number}
use Rattle.entryfile.specs.declared.fault.EntryFault.{EntryFault}
use Rattle.entryfile.specs.declared.entry.Figures.{Figures}
use Rattle.entryfile.specs.declared.entry.Figures.TheVariants.{Encoded, Listed}
use Rattle.entryfile.specs.declared.entry.Entry.{Entry}
use Rattle.entryfile.specs.declared.entry.Entry.TheVariants.{Award, Lodge, Approve, Reject, BuyOut, Reduction, Start, Sheet, Standby, DayEnd, Test, Marking, Closing}
use Rattle.entryfile.specs.declared.entry.Turn.{Turn}
use Rattle.entryfile.specs.Forms.{Got}
use Rattle.entryfile.specs.Items.{Item, item, reference_bytes}

-- outside every range: it stands for bytes that are no numbers, so that nothing accepts them
abbrev pub unreadable : ℕ
unreadable = 4294967296

abbrev pub and_then : (List ℕ → List ℕ) → List ℕ → Decoded → List ℕ
and_then rest bytes (Ok p) = p.0 ∷ rest (drop p.1 bytes)
and_then rest bytes (Err e) = unreadable ∷ []

-- the numbers that bytes spell, in at most so many turns
unfoldable pub numbers_by : ℕ → List ℕ → List ℕ
numbers_by turns [] = []
numbers_by zero (b ∷ bs) = unreadable ∷ []
numbers_by (suc turns) (b ∷ bs) = and_then (numbers_by turns) (b ∷ bs) (decode (b ∷ bs))

-- the numbers that bytes spell; each has a byte at least
unfoldable pub numbers_in : List ℕ → List ℕ
numbers_in bytes = numbers_by (length bytes) bytes

abbrev pub figures_of : Figures → List ℕ
figures_of (Encoded bytes) = numbers_in bytes.now
figures_of (Listed numbers) = numbers.now

-- the entry's number, its sender and its fields, in the order of the file
abbrev pub numbers_of : ℕ → Entry → List ℕ
numbers_of s (Award a) = 1 ∷ s ∷ a.holder ∷ a.zone ∷ kind_number a.kind ∷ a.quantity ∷ a.cleared_icap ∷ a.capability ∷ []
numbers_of s (Lodge t) = 2 ∷ s ∷ t.award ∷ t.new_holder ∷ t.zone ∷ kind_number t.kind ∷ t.quantity ∷ t.capability ∷ []
numbers_of s (Approve d) = 3 ∷ s ∷ d.award ∷ []
numbers_of s (Reject d) = 4 ∷ s ∷ d.award ∷ []
numbers_of s (BuyOut o) = 5 ∷ s ∷ o.award ∷ o.quantity ∷ []
numbers_of s (Reduction o) = 6 ∷ s ∷ o.award ∷ o.quantity ∷ []
numbers_of s (Start p) = 7 ∷ s ∷ []
numbers_of s (Sheet f) = 8 ∷ s ∷ f.award ∷ f.family ∷ figures_of f.figures
numbers_of s (Standby b) = 9 ∷ s ∷ b.award ∷ b.hour ∷ []
numbers_of s (DayEnd p) = 10 ∷ s ∷ []
numbers_of s (Test c) = 11 ∷ s ∷ c.award ∷ c.delivered ∷ []
numbers_of s (Marking m) = 12 ∷ s ∷ m.award ∷ mark_number m.sort ∷ []
numbers_of s (Closing p) = 13 ∷ s ∷ []

abbrev pub reference_of : Entry → List ℕ
reference_of (Award a) = a.reference.now
reference_of (Lodge t) = t.reference.now
reference_of (Approve d) = d.reference.now
reference_of (Reject d) = d.reference.now
reference_of (BuyOut o) = o.reference.now
reference_of (Reduction o) = o.reference.now
reference_of (Start p) = p.reference.now
reference_of (Sheet f) = f.reference.now
reference_of (Standby b) = b.reference.now
reference_of (DayEnd p) = p.reference.now
reference_of (Test c) = c.reference.now
reference_of (Marking m) = m.reference.now
reference_of (Closing p) = p.reference.now

abbrev pub item_of : Turn → Item
item_of turn = item (numbers_of turn.sender turn.entry) (reference_of turn.entry)

-- results of the code, by what their values say
abbrev pub view_by : {X : Type 0} → (X → List ℕ) → Result (X × ℕ) EntryFault → Got (List ℕ)
view_by numbers (Ok p) = Ok (numbers p.0, p.1)
view_by numbers (Err e) = Err e

abbrev pub numbered_view : {K : Type 0} → (K → ℕ) → Result (K × ℕ) EntryFault → Got ℕ
numbered_view number (Ok p) = Ok (number p.0, p.1)
numbered_view number (Err e) = Err e

abbrev pub bytes_view : Result (Bor (List ℕ) × ℕ) EntryFault → Got (List ℕ)
bytes_view (Ok p) = Ok (p.0.now, p.1)
bytes_view (Err e) = Err e

-- a family, the number of its figures, and the place after it
abbrev pub family_view : Result ((ℕ × ℕ) × ℕ) EntryFault → Got ℕ
family_view (Ok p) = Ok (p.0.0, p.1)
family_view (Err e) = Err e

abbrev pub figures_view : Result (Bor (List ℕ) × ℕ) EntryFault → Got (List ℕ)
figures_view (Ok p) = Ok (numbers_in p.0.now, p.1)
figures_view (Err e) = Err e

-- an entry with its sender
abbrev pub entry_item : ℕ → Entry → Item
entry_item s e = item (numbers_of s e) (reference_of e)

abbrev pub item_view : {X : Type 0} → (X → Item) → Result (X × ℕ) EntryFault → Got Item
item_view read (Ok p) = Ok (read p.0, p.1)
item_view read (Err e) = Err e

abbrev pub entry_view : ℕ → Result (Entry × ℕ) EntryFault → Got Item
entry_view s r = item_view (entry_item s) r

abbrev pub turn_view : Result (Turn × ℕ) EntryFault → Got Item
turn_view (Ok p) = Ok (item_of p.0, p.1)
turn_view (Err e) = Err e

-- where a sheet with this reference ends at a place of a file, its figures are the part of the file that stands just
-- before the reference and its length
abbrev pub SheetStands : List ℕ → ℕ → List ℕ → Figures → Type 0
SheetStands file end t (Encoded bytes) = bytes.now ≡ between (end - length (reference_bytes t) - length bytes.now) (end - length (reference_bytes t)) file
SheetStands file end t (Listed numbers) = ⊥

-- every other entry has no figures
abbrev pub FiguresStand : List ℕ → ℕ → Entry → Type 0
FiguresStand file end (Award a) = Unit {0}
FiguresStand file end (Lodge t) = Unit {0}
FiguresStand file end (Approve d) = Unit {0}
FiguresStand file end (Reject d) = Unit {0}
FiguresStand file end (BuyOut o) = Unit {0}
FiguresStand file end (Reduction o) = Unit {0}
FiguresStand file end (Start p) = Unit {0}
FiguresStand file end (Sheet f) = SheetStands file end f.reference.now f.figures
FiguresStand file end (Standby b) = Unit {0}
FiguresStand file end (DayEnd p) = Unit {0}
FiguresStand file end (Test c) = Unit {0}
FiguresStand file end (Marking m) = Unit {0}
FiguresStand file end (Closing p) = Unit {0}

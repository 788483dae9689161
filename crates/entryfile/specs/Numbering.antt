-- The kinds of entry by their numbers.
use Rattle.std.specs.Prelude.{ℕ}
use Rattle.entryfile.specs.declared.entry.EntryKind.{EntryKind}
use Rattle.entryfile.specs.declared.entry.EntryKind.TheVariants as kinds
use Rattle.entryfile.specs.declared.entry.Entry.{Entry}
use Rattle.entryfile.specs.declared.entry.Entry.TheVariants.{Award, Lodge, Approve, Reject, BuyOut, Reduction, Start, Sheet, Standby, DayEnd, Test, Marking, Closing}

abbrev pub entry_number : EntryKind → ℕ
entry_number kinds.Award = 1
entry_number kinds.Lodge = 2
entry_number kinds.Approve = 3
entry_number kinds.Reject = 4
entry_number kinds.BuyOut = 5
entry_number kinds.Reduction = 6
entry_number kinds.Start = 7
entry_number kinds.Sheet = 8
entry_number kinds.Standby = 9
entry_number kinds.DayEnd = 10
entry_number kinds.Test = 11
entry_number kinds.Marking = 12
entry_number kinds.Closing = 13

abbrev pub kind_of : Entry → EntryKind
kind_of (Award a) = kinds.Award
kind_of (Lodge t) = kinds.Lodge
kind_of (Approve d) = kinds.Approve
kind_of (Reject d) = kinds.Reject
kind_of (BuyOut o) = kinds.BuyOut
kind_of (Reduction o) = kinds.Reduction
kind_of (Start p) = kinds.Start
kind_of (Sheet f) = kinds.Sheet
kind_of (Standby b) = kinds.Standby
kind_of (DayEnd p) = kinds.DayEnd
kind_of (Test c) = kinds.Test
kind_of (Marking m) = kinds.Marking
kind_of (Closing p) = kinds.Closing

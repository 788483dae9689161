-- The words of a listing.
use Rattle.std.specs.Prelude.{ℕ, ◌/◌, ◌%◌, cond, List, ◌++◌, codes, decimal, ◌==◌}
use Rattle.market.specs.declared.kind.Kind.{Kind}
use Rattle.market.specs.declared.kind.Kind.TheVariants.{VirtualDemandResponse, PhysicalDemandResponse, DispatchableLoad, Generation, Storage, SystemBackedImport, GeneratorBackedImport}
use Rattle.market.specs.declared.mark.Mark.{Mark}
use Rattle.market.specs.declared.mark.Mark.TheVariants.{LateData, FailedImportCall}
use Rattle.market.specs.declared.refusal.Cause.{Cause}
use Rattle.market.specs.declared.refusal.Cause.TheVariants.{Ends, Padded, Large, Unknown, OutOfRange, BadText, NoRoom}
use Rattle.entryfile.specs.declared.entry.Entry.{Entry}
use Rattle.entryfile.specs.declared.entry.Entry.TheVariants.{Award, Lodge, Approve, Reject, BuyOut, Reduction, Start, Sheet, Standby, DayEnd, Test, Marking, Closing}

abbrev pub kind_name : Kind → List ℕ
kind_name VirtualDemandResponse = codes "virtual hourly demand response"
kind_name PhysicalDemandResponse = codes "physical hourly demand response"
kind_name DispatchableLoad = codes "dispatchable load"
kind_name Generation = codes "generation"
kind_name Storage = codes "storage"
kind_name SystemBackedImport = codes "system-backed import"
kind_name GeneratorBackedImport = codes "generator-backed import"

abbrev pub mark_name : Mark → List ℕ
mark_name LateData = codes "late data"
mark_name FailedImportCall = codes "failed import call"

-- what a cause means, as a clerk would say it
abbrev pub cause_meaning : Cause → List ℕ
cause_meaning Ends = codes "the file ends where a number or a reference wants a byte"
cause_meaning Padded = codes "a number has more bytes than it needs"
cause_meaning Large = codes "a number is above 4294967295"
cause_meaning Unknown = codes "the version or the entry number is unknown"
cause_meaning OutOfRange = codes "a field is outside its range"
cause_meaning BadText = codes "a reference has a byte outside 32 to 126"
cause_meaning NoRoom = codes "the buffer is too short"

abbrev pub entry_name : Entry → List ℕ
entry_name (Award a) = codes "Award"
entry_name (Lodge t) = codes "Lodge"
entry_name (Approve d) = codes "Approve"
entry_name (Reject d) = codes "Reject"
entry_name (BuyOut o) = codes "Buy-out"
entry_name (Reduction o) = codes "Reduction"
entry_name (Start p) = codes "Start"
entry_name (Sheet f) = codes "Sheet"
entry_name (Standby b) = codes "Standby"
entry_name (DayEnd p) = codes "Day end"
entry_name (Test c) = codes "Test"
entry_name (Marking m) = codes "Mark"
entry_name (Closing p) = codes "Closing"

-- sender 0 is the operator, any other is a holder
abbrev pub sender_name : ℕ → List ℕ
sender_name s = cond (s == 0) (codes "the operator") (codes "holder " ++ decimal s)

-- tenths of a unit, as a decimal fraction
abbrev pub tenths : ℕ → List ℕ
tenths n = decimal (n / 10) ++ (codes "." ++ decimal (n % 10))

-- tenths of a megawatt
abbrev pub megawatts : ℕ → List ℕ
megawatts n = decimal (n / 10) ++ (codes "." ++ (decimal (n % 10) ++ codes " MW"))

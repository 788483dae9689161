-- What a call that moves a cursor answers.
use Rattle.std.specs.Prelude.{◌≡◌, ℕ, Ok, Err, Result}
use Rattle.number.specs.declared.NumberCause.TheVariants.{Ends}
use Rattle.number.specs.declared.NumberFault.{NumberFault}
use Rattle.entryfile.specs.declared.cursor.Cursor.{Cursor}
use Rattle.entryfile.specs.declared.fault.EntryFault.{EntryFault}
use Rattle.entryfile.specs.Forms.{Got}

-- the value and the place behind it, or the fault
abbrev pub moved : {X : Type 0} → Result X EntryFault → Cursor → Got X
moved (Ok x) c = Ok (x, c.place)
moved (Err e) c = Err e

-- only the place has moved
abbrev pub SameFile : Cursor → Cursor → Type 0
SameFile was is = is.file ≡ was.file

-- the fault of a place where no byte stands
abbrev pub ends_at : ℕ → NumberFault
ends_at at = record { cause = Ends; place = at }

-- What the reader answers, and where it stands then.
use Rattle.std.specs.Prelude.{◌≡◌, ℕ, ◌+◌, ◌-◌, ◌<◌, cond, List, length, Some, None, Ok, Err, Option, Result, nat_le}
use Rattle.std.specs.List.{between}
use Rattle.market.specs.Refusals.{number_cause, fault_at}
use Rattle.market.specs.declared.family.Family.{Family}
use Rattle.market.specs.declared.refusal.Cause.{Cause}
use Rattle.market.specs.declared.refusal.Cause.TheVariants as causes
use Rattle.market.specs.declared.refusal.Fault.{Fault}
use Rattle.entryfile.specs.declared.fault.EntryFault.{EntryFault}
use Rattle.entryfile.specs.declared.fault.EntryFault.TheVariants.{Number, Unknown, OutOfRange, BadText}
use Rattle.entryfile.specs.declared.entry.Turn.{Turn}
use Rattle.entryfile.specs.Forms.{Got}
use Rattle.entryfile.specs.Items.{Item, entry_at, item_bytes}
use Rattle.entryfile.specs.Laws.{Good, Stands}
use Rattle.entryfile.specs.Views.{item_of, reference_of, FiguresStand}

-- the cause of a fault of either layer
abbrev pub cause_of : EntryFault → Cause
cause_of (Number f) = number_cause f.cause
cause_of (Unknown p) = causes.Unknown
cause_of (OutOfRange p) = causes.OutOfRange
cause_of (BadText p) = causes.BadText

-- the byte where the faulty part begins
abbrev pub place_of : EntryFault → ℕ
place_of (Number f) = f.place
place_of (Unknown p) = p
place_of (OutOfRange p) = p
place_of (BadText p) = p

-- a fault of the entry with a number; the opening is entry 0
abbrev pub fault_of : ℕ → EntryFault → Fault
fault_of n e = fault_at (cause_of e) n (place_of e)

-- where a reader stands in its file, and how many entries it has read whole
pub record Position : Type 0 where
  pub place : ℕ
  pub entries : ℕ

abbrev pub position : ℕ → ℕ → Position
position p n = record { place = p; entries = n }

-- the next entry, or none at the end of the file, or a fault
abbrev pub Answer : Type 0
Answer = Result (Option Item) Fault

-- an entry moves the reader on; a fault leaves it where it was, and is told of the entry that was to come
abbrev pub step_by : ℕ → ℕ → Got Item → Answer × Position
step_by place entries (Ok p) = (Ok (Some p.0), position p.1 (entries + 1))
step_by place entries (Err e) = (Err (fault_of (entries + 1) e), position place entries)

abbrev pub step : ℕ → List Family → List ℕ → ℕ → ℕ → Answer × Position
step zones families file place entries = cond (nat_le (length file) place) (Ok None, position place entries) (step_by place entries (entry_at zones families file place))

abbrev pub answer_of : Result (Option Turn) Fault → Answer
answer_of (Ok (Some t)) = Ok (Some (item_of t))
answer_of (Ok None) = Ok None
answer_of (Err f) = Err f

-- an entry that was read from a place to a place: it can be written, and its bytes are those that were read; its
-- reference and the figures of a sheet are parts of the file
pub record FromFile (zones : ℕ) (families : List Family) (file : List ℕ) (at end : ℕ) (t : Turn) : Type 0 where
  pub good : Good zones families (item_of t)
  pub bytes : Stands file at (item_bytes (item_of t)) end
  pub onward : at < end
  pub reference : reference_of t.entry ≡ between (end - length (reference_of t.entry)) end file
  pub figures : FiguresStand file end t.entry

abbrev pub Handed : ℕ → List Family → List ℕ → ℕ → ℕ → Result (Option Turn) Fault → Type 0
Handed zones families file at end (Ok (Some t)) = FromFile zones families file at end t
Handed zones families file at end (Ok None) = end ≡ at
Handed zones families file at end (Err f) = end ≡ at

-- The refusal table: each cause with its number and its layer.
use Rattle.std.specs.Prelude.{ℕ}
use Rattle.number.specs.declared.NumberCause.{NumberCause}
use Rattle.number.specs.declared.NumberCause.TheVariants as numbers
use Rattle.market.specs.declared.refusal.Cause.{Cause}
use Rattle.market.specs.declared.refusal.Cause.TheVariants.{Ends, Padded, Large, Unknown, OutOfRange, BadText, NoRoom}
use Rattle.market.specs.declared.refusal.Layer.{Layer}
use Rattle.market.specs.declared.refusal.Layer.TheVariants.{Numbers, Entries}
use Rattle.market.specs.declared.refusal.Fault.{Fault}

-- the cause's number, and the layer that refuses
abbrev pub refusal : Cause → ℕ × Layer
refusal Ends = (1, Numbers)
refusal Padded = (2, Numbers)
refusal Large = (3, Numbers)
refusal Unknown = (4, Entries)
refusal OutOfRange = (5, Entries)
refusal BadText = (6, Entries)
refusal NoRoom = (7, Entries)

-- the cause of a fault of the number layer
abbrev pub number_cause : NumberCause → Cause
number_cause numbers.Ends = Ends
number_cause numbers.Padded = Padded
number_cause numbers.Large = Large

abbrev pub layer_number : Layer → ℕ
layer_number Numbers = 1
layer_number Entries = 2

-- a fault in a file, at the place where it begins; entry 0 is the opening
abbrev pub fault_at : Cause → ℕ → ℕ → Fault
fault_at c n p = record { cause = c; entry = n; place = p }

-- a call that has no file is refused with entry 0 and place 0
abbrev pub refused_call : Cause → Fault
refused_call c = fault_at c 0 0

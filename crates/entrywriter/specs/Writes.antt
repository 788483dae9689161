-- What a writer answers, and what it leaves in the buffer.
use Rattle.std.specs.Prelude.{◌≡◌, ℕ, ◌+◌, Bool, true, cond, ◌&&◌, List, ◌++◌, length, drop, Some, None, Ok, Err, Option, Result, nat_le}
use Rattle.std.specs.List.{list_all}
use Rattle.market.specs.Ranges.{within}
use Rattle.market.specs.Refusals.{refused_call}
use Rattle.market.specs.declared.family.Family.{Family}
use Rattle.market.specs.declared.refusal.Cause.{Cause}
use Rattle.market.specs.declared.refusal.Cause.TheVariants.{OutOfRange, BadText, NoRoom}
use Rattle.market.specs.declared.refusal.Fault.{Fault}
use Rattle.market.specs.Openings.{Terms}
use Rattle.entryfile.specs.Forms.{accepts, form_at}
use Rattle.entryfile.specs.Layout.{entry_form}
use Rattle.entryfile.specs.Files.{head_form, head_numbers, head_bytes}
use Rattle.entryfile.specs.Items.{Item, item_bytes, printable, entry_at}

-- the first cause that holds: 5 a field out of its range, 6 a reference byte that is not printable, 7 no room
abbrev pub refusal_of : Bool → Bool → Bool → Option Cause
refusal_of in_range text room = cond in_range (cond text (cond room None (Some NoRoom)) (Some BadText)) (Some OutOfRange)

-- the answer, and the buffer after: the bytes at its front and the rest as it was, or a refusal that leaves it alone
abbrev pub writing : List ℕ → List ℕ → Option Cause → Result ℕ Fault × List ℕ
writing was bytes None = (Ok (length bytes), bytes ++ drop (length bytes) was)
writing was bytes (Some cause) = (Err (refused_call cause), was)

-- every field in its range, and a reference of at most 32 bytes
abbrev pub item_in_range : ℕ → List Family → Item → Bool
item_in_range zones families i = accepts (entry_form zones families) i.numbers && within 0 32 (length i.reference)

-- writing an entry under an opening with so many zones
abbrev pub entry_writing : ℕ → List Family → Item → List ℕ → Result ℕ Fault × List ℕ
entry_writing zones families i was = writing was (item_bytes i) (refusal_of (item_in_range zones families i) (list_all printable i.reference) (nat_le (length (item_bytes i)) (length was)))

-- writing bytes that are always in range
abbrev pub plain_writing : List ℕ → List ℕ → Result ℕ Fault × List ℕ
plain_writing bytes was = writing was bytes (refusal_of true true (nat_le (length bytes) (length was)))

-- what was written is read back wherever it stands in a file, whatever follows it, and ends where the writer ended
abbrev pub ReadsBack : ℕ → List Family → Item → Result ℕ Fault → Type 0
ReadsBack zones families i (Ok n) = (file : List ℕ) (at : ℕ) (post : List ℕ) → drop at file ≡ item_bytes i ++ post → entry_at zones families file at ≡ Ok (i, at + n)
ReadsBack zones families i (Err f) = Unit {0}

-- a written opening is read back from the front of a file, whatever follows it, and ends where the writer ended
abbrev pub HeadReadsBack : Terms → Result ℕ Fault → Type 0
HeadReadsBack t (Ok n) = (file post : List ℕ) → file ≡ head_bytes t ++ post → form_at head_form file 0 ≡ Ok (head_numbers t, n)
HeadReadsBack t (Err f) = Unit {0}

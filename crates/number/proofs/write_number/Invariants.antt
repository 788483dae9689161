use Rattle.number.specs.Numbers.{encode}
use Rattle.number.proofs.Writes.{Writing}
use Rattle.number.proofs.write_number.Given as goal

abbrev pub invariant-loop-byte : goal.invariant-loop-byte
invariant-loop-byte l = Writing (encode l.n) l.byte-items l.byte-index l.rest

use Rattle.std.proofs.Common.{arith}
use Rattle.filereader.proofs.reader.Reader.new.Goals as goal

pub invariant_of-result : goal.invariant_of-result
invariant_of-result c = record { within = omega arith; few = omega arith }

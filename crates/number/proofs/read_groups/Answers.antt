use Rattle.std.proofs.Common.{arith}
use Rattle.number.proofs.Turns.{reading_more}
use Rattle.number.proofs.read_groups.Goals as goal

pub loop-group-preserved : goal.loop-group-preserved
loop-group-preserved c = reading_more _ _ _ _ c.loop-group.invariant c.from.ensures (omega arith) (omega arith) (λ e. omega arith)

use Rattle.number.proofs.Turns.{Reading}
use Rattle.number.proofs.read_groups.Given as goal

abbrev pub invariant-loop-group : goal.invariant-loop-group
invariant-loop-group l = Reading l.bytes l.group l.value

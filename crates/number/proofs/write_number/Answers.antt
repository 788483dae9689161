use Rattle.std.proofs.Common.{inl, inr, arith}
use Rattle.number.proofs.Writes.{writing_more, written}
use Rattle.number.proofs.write_number.Goals as goal
use Rattle.number.proofs.write_number.Goals.{then-rest-lt128, else-rest-lt128}

pub loop-byte-preserved : goal.loop-byte-preserved
loop-byte-preserved c =
    writing_more _ _ _ _ _ c.loop-byte.invariant (omega arith) (omega arith)
    (elim c.if-rest-lt128.branch [ then-rest-lt128 w ↦ inl (w.if-rest-lt128.true, w.byte-is) | else-rest-lt128 w ↦ inr (w.if-rest-lt128.false, w.byte-is) ])

pub returns-clause-wrote : goal.returns-clause-wrote
returns-clause-wrote c = written _ _ _ _ _ _ _ _ _ c.loop-byte.invariant (omega arith) (omega arith) (omega arith) (omega arith) (omega arith) (omega arith)

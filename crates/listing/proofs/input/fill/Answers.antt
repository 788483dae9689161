use Rattle.std.proofs.Common.{rules, subst, length, ◌-◌}
use Rattle.std.proofs.KnownBytes.{Consumes-trans}
use Rattle.std.specs.Io.KnownBytes.{Consumes}
use Rattle.listing.proofs.Reading.{filled_more}
use Rattle.listing.proofs.input.fill.Goals as goal

pub loop-filled-preserved : goal.loop-filled-preserved
loop-filled-preserved g c =
    let from = c.loop-filled.filled in
    let buffer = c.loop-filled.buffer in
    let joined = filled_more from (length buffer - from) c.in_ok-got.got buffer c.read.new.buf c.loop-filled.invariant.0 c.in_ok-got.ensures.bound.0 in
    (search rules, subst (Consumes _ _) joined (Consumes-trans _ _ _ _ _ c.loop-filled.invariant.1 c.in_ok-got.ensures.bytes.0))

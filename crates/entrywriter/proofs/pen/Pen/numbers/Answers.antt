use Rattle.std.proofs.Common.{ap, arith}
use Rattle.std.proofs.lemmas.List.{take_all}
use Rattle.entryfile.specs.Items.{numbers_bytes}
use Rattle.entrywriter.proofs.Joining.{bytes_more, room_more}
use Rattle.entrywriter.proofs.Puts.{then, long, same}
use Rattle.entrywriter.proofs.pen.Pen.numbers.Goals as goal

pub number-requires : goal.number-requires
number-requires c =
    let w = c.loop-number.invariant.wrote in
    omega (arith, c.requires, w.ends, long w, room_more c.args.numbers.now c.loop-number.number-index c.loop-number-test.true)

pub loop-number-preserved : goal.loop-number-preserved
loop-number-preserved c = same (bytes_more c.args.numbers.now c.loop-number.number-index c.loop-number-test.true) (then c.loop-number.invariant c.number.ensures)

pub returns : goal.returns
returns c = same (ap numbers_bytes (take_all c.loop-number.number-index c.args.numbers.now c.loop-number-test.false)) c.loop-number.invariant

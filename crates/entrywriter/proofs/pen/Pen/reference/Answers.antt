use Rattle.std.proofs.Common.{length, ap, arith, length-append}
use Rattle.number.specs.Numbers.{encode}
use Rattle.entryfile.specs.Items.{reference_bytes}
use Rattle.entrywriter.proofs.Puts.{then, long, same}
use Rattle.entrywriter.proofs.pen.Pen.reference.Goals as goal

pub bytes-requires : goal.bytes-requires
bytes-requires c =
    let w = c.number.ensures.wrote in
    let t = c.reference-reference.result.now in
    omega (arith, c.requires, ap (λ bs. length (reference_bytes bs)) c.reference-reference.ensures, w.ends, long w, length-append (encode (length t)) t)

pub returns : goal.returns
returns c = same (ap reference_bytes c.reference-reference.ensures) (then c.number.ensures c.bytes.ensures)

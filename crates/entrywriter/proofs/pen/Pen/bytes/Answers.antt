use Rattle.std.proofs.Common.{◌+◌, ◌-◌, length, refl, arith}
use Rattle.entrywriter.proofs.Puts.{part}
use Rattle.entrywriter.proofs.pen.Pen.bytes.Goals as goal

pub returns : goal.returns
returns c =
    let n = length c.args.bytes.now in
    let at = c.args.self.now.place in
    record {
      wrote = part c.args.self.now.buf.now c.args.bytes.now _ at (at + n - at) c.copy_from_slice.ensures.after (omega arith) c.requires;
      buffer = refl;
    }

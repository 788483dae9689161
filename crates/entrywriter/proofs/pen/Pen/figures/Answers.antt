use Rattle.std.proofs.Common.{ap, ◌∙◌, sym}
use Rattle.std.proofs.Math.Logic.{∥∥₁_elim}
use Rattle.std.proofs.Props.{props}
use Rattle.entryfile.specs.Items.{numbers_bytes}
use Rattle.entrywriter.proofs.Puts.{same}
use Rattle.entrywriter.proofs.pen.Pen.figures.Goals as goal

pub returns-in-Encoded : goal.returns-in-Encoded
returns-in-Encoded c = same (∥∥₁_elim c.args.entry.now.spells (Prim.hlevel props) (λ s. sym (c.in-Encoded.ensures.spells s) ∙ ap numbers_bytes c.in-Encoded.ensures.is)) c.bytes.ensures

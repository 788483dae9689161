use Rattle.std.proofs.Common.{sym, ◌∙◌, arith}
use Rattle.number.proofs.Codec.{under_bytes}
use Rattle.entrywriter.proofs.Fitting.{encoded_end, encoded_spells}
use Rattle.entrywriter.proofs.ranges.encoded_fit.Goals as goal

pub returns : goal.returns
returns c =
    let under = under_bytes c.args.bytes.now (λ i. omega (arith, c.type_inv.bytes i)) in
    let is = c.eq.ensures ∙ encoded_end c.args.count c.args.bytes.now under _ c.figures_end.result c.figures_end.ensures.is in
    record { is = is; spells = λ t. encoded_spells c.args.count c.args.bytes.now under (sym is ∙ t) }

use Rattle.std.proofs.Common.{◌≡◌, ◌+◌, ◌-◌, ap, ◌∙◌, arith}
use Rattle.std.proofs.lemmas.Result.{IfOk-from_err}
use Rattle.number.proofs.Codec.{under_bytes}
use Rattle.entryfile.specs.Forms.{form_at, end_of}
use Rattle.entryfile.specs.Layout.{figures_form}
use Rattle.entryfile.proofs.Checks.{exit}
use Rattle.entryfile.proofs.Counting.{figure_more, figure_stop, figures_none}
use Rattle.entryfile.proofs.Spelled.{figures_part}
use Rattle.entryfile.proofs.numbers.figures_end.Goals as goal

pub returns-in_err-after : goal.returns-in_err-after
returns-in_err-after c =
    record {
      is = exit _ c.from_residual.ensures.1 ∙ figure_stop c.args.file.now c.loop-figure.next (c.args.count - c.loop-figure._figure) (omega arith) c.in_err-after.ensures.is ∙ c.loop-figure.invariant.0;
      ahead = λ _. IfOk-from_err _ _ c.from_residual.ensures.0;
      spelled = λ _. IfOk-from_err _ _ c.from_residual.ensures.0;
    }

pub loop-figure-preserved : goal.loop-figure-preserved
loop-figure-preserved c =
    let told = c.in_ok-after.ensures in
    let k : c.args.count - (c.loop-figure._figure + 1) ≡ c.args.count - c.loop-figure._figure - 1 = omega arith in (
      ap (λ j. end_of (form_at (figures_form j) c.args.file.now c.in_ok-after.after)) k ∙ figure_more c.args.file.now c.loop-figure.next (c.args.count - c.loop-figure._figure) _ _ (omega arith) told.is ∙ c.loop-figure.invariant.0,
      λ h. (omega (arith, told.ahead.0, (c.loop-figure.invariant.1 h).0), told.ahead.1),
    )

pub returns : goal.returns
returns c =
    let is = figures_none c.args.file.now c.loop-figure.next (c.args.count - c.loop-figure._figure) (omega arith) ∙ c.loop-figure.invariant.0 in
    record {
      is = is;
      ahead = c.loop-figure.invariant.1;
      spelled = λ within. figures_part c.args.count c.args.file.now c.args.at c.loop-figure.next (under_bytes _ (λ i. omega (arith, c.type_inv.file i))) within is;
    }

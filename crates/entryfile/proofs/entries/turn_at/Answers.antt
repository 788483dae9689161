use Rattle.std.proofs.Common.{Ok, Err, ap, ◌∙◌, arith}
use Rattle.number.proofs.Codec.{under_bytes}
use Rattle.entryfile.specs.Items.{entry_at}
use Rattle.entryfile.specs.Views.{turn_view}
use Rattle.entryfile.proofs.Checks.{exit, entry_ends}
use Rattle.entryfile.proofs.Handed.{handed}
use Rattle.entryfile.proofs.entries.turn_at.Goals as goal

pub returns-in_err-cursor-clause-is : goal.returns-in_err-cursor-clause-is
returns-in_err-cursor-clause-is c =
    let behind = c.in_err-cursor.ensures in
    ap turn_view (exit _ c.from_residual.ensures.1 ∙ ap Err behind.1) ∙ entry_ends c.args.setting.zones c.args.setting.families.now c.args.file.now c.args.at (omega (arith, behind.0))

pub returns-clause-handed : goal.returns-clause-handed
returns-clause-handed c within =
    let stands = c.in_ok-cursor.ensures in
    let file = ap (λ f. f.now) stands.0 in
    let told = c.in_ok-turn.ensures in
    let is = told.is ∙ ap (λ f. entry_at c.args.setting.zones c.args.setting.families.now f c.in_ok-cursor.cursor.place) file ∙ ap (entry_at c.args.setting.zones c.args.setting.families.now c.args.file.now) stands.1 in
    handed c.args.setting.zones c.args.setting.families.now c.args.file.now c.args.at (under_bytes _ (λ i. omega (arith, c.type_inv.file i))) within (Ok (c.in_ok-turn.turn, c.turn.new.cursor.place)) is (rw file at told.figures)

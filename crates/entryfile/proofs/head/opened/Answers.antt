use Rattle.std.proofs.Common.{sym, ◌∙◌}
use Rattle.std.proofs.lemmas.Bool.{true≢false}
use Rattle.market.specs.Openings.{said}
use Rattle.entryfile.proofs.Ranged.{opening_accepts}
use Rattle.entryfile.proofs.head.opened.Goals as goal

pub unreachable-requires : goal.unreachable-requires
unreachable-requires c = true≢false (sym c.requires ∙ opening_accepts (said c.args.terms) ∙ c.in-Err.ensures.0)

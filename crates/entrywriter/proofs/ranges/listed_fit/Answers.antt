use Rattle.std.proofs.Common.{rules, ◌∙◌}
use Rattle.std.proofs.lemmas.Bool.{ne_eqb}
use Rattle.std.proofs.lemmas.Iterator.{YieldsList-from_slice}
use Rattle.std.proofs.lemmas.Iterator.Search.{all_from_yields_List}
use borrow.Author.Tests.{tests}
use Rattle.entrywriter.proofs.Fitting.{listed_other, listed_every}
use Rattle.entrywriter.proofs.ranges.listed_fit.Goals as goal

pub returns-then-numbers-count : goal.returns-then-numbers-count
returns-then-numbers-count c =
    let ns = c.args.numbers.now in
    all_from_yields_List _ _ _ _ c.all.ensures.ran (YieldsList-from_slice ns cc) (λ x b q k. search (rules, tests)) ∙ listed_every c.args.count ns c.if-numbers-count.true

pub returns-else-numbers-count : goal.returns-else-numbers-count
returns-else-numbers-count c = ne_eqb _ _ c.if-numbers-count.false ∙ listed_other c.args.count c.args.numbers.now c.if-numbers-count.false

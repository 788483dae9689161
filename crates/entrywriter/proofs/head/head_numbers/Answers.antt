use Rattle.std.proofs.Common.{ℕ, length, ap, arith, length-append}
use Rattle.entrywriter.proofs.Heads.{few_listed}
use Rattle.entrywriter.proofs.head.head_numbers.Goals as goal

pub append-requires-in-loop-month : goal.append-requires-in-loop-month
append-requires-in-loop-month c = omega (arith, few_listed c.args.opening.now.terms.months, ap length c.months-month-items.ensures, c.loop-month.invariant.1)

pub append-requires-2 : goal.append-requires-2
append-requires-2 c = omega (arith, few_listed c.args.opening.now.terms.months, ap length c.months-month-items.ensures, c.loop-month.invariant.1, c.loop-month.auto.month-index-end)

pub append-requires-3 : goal.append-requires-3
append-requires-3 c = omega (arith, few_listed c.args.opening.now.terms.months, ap length c.months-month-items.ensures, c.loop-month.invariant.1, c.loop-month.auto.month-index-end, ap length c.append-2.ensures, length-append {A = ℕ}, few_listed c.args.opening.now.terms.prices, ap length c.prices.ensures)

pub append-requires-4 : goal.append-requires-4
append-requires-4 c = omega (arith, few_listed c.args.opening.now.terms.months, ap length c.months-month-items.ensures, c.loop-month.invariant.1, c.loop-month.auto.month-index-end, ap length c.append-2.ensures, ap length c.append-3.ensures, length-append {A = ℕ}, few_listed c.args.opening.now.terms.prices, ap length c.prices.ensures)

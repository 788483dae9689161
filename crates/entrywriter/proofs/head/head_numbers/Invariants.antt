use Rattle.std.proofs.Common.{◌≡◌, ◌+◌, ◌*◌, ◌∷◌, ◌++◌, length, drop}
use Rattle.upto.specs.Listed.{listed}
use Rattle.market.specs.Opened.{terms_of}
use Rattle.entryfile.specs.Files.{month_numbers}
use Rattle.entrywriter.proofs.head.head_numbers.Given as goal

-- what is left of the months gives the numbers up to them
abbrev pub invariant-loop-month : goal.invariant-loop-month
invariant-loop-month l = (listed l.numbers ++ month_numbers (drop l.month-index (terms_of l.opening).months) ≡ 1 ∷ length (terms_of l.opening).months ∷ month_numbers (terms_of l.opening).months) × (length (listed l.numbers) ≡ 2 + 2 * l.month-index)

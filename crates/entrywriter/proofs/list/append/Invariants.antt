use Rattle.std.proofs.Common.{◌≡◌, ◌++◌, take}
use Rattle.upto.specs.Listed.{listed}
use Rattle.entrywriter.proofs.list.append.Given as goal

abbrev pub invariant-loop-number : goal.invariant-loop-number
invariant-loop-number g l = listed l.list ≡ listed l.initial.list ++ take l.number-index l.numbers

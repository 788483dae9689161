use Rattle.std.proofs.Common.{take}
use Rattle.entryfile.specs.Items.{numbers_bytes}
use Rattle.entrywriter.specs.Pens.{Penned}
use Rattle.entrywriter.proofs.pen.Pen.numbers.Given as goal

abbrev pub invariant-loop-number : goal.invariant-loop-number
invariant-loop-number l = Penned l.initial.self (numbers_bytes (take l.number-index l.numbers)) l.self

use Rattle.std.proofs.Common.{◌≡◌, ℕ, ◌-◌, ◌≤◌, length}
use Rattle.filereader.specs.Surveys.{left_of}
use Rattle.filereader.proofs.Through.{left_in}
use Rattle.filereader.proofs.survey.read_on.Given as goal

-- what is left to tell is the same from turn to turn, and a turn for each byte is enough
abbrev pub invariant-loop-turn : goal.invariant-loop-turn
invariant-loop-turn l = (turns : ℕ) × (left_in turns l.reader ≡ left_of l.initial.reader) × (length l.reader.file.now - l.reader.place ≤ turns)

-- each entry takes the reader on by at least a byte
abbrev pub decreases-loop-turn : goal.decreases-loop-turn
decreases-loop-turn l = length l.reader.file.now - l.reader.place

use Rattle.std.proofs.Common.{◌-◌, length}
use Rattle.listing.proofs.report.print_entries.Given as goal

-- each entry takes the reader on by at least a byte
abbrev pub decreases-loop-turn : goal.decreases-loop-turn
decreases-loop-turn l = length l.reader.file.now - l.reader.place

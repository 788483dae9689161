use Rattle.std.proofs.Common.{arith}
use Rattle.number.proofs.Codec.{under_bytes}
use Rattle.filereader.proofs.Through.{whole_writes, whole_reads}
use Rattle.filereader.proofs.survey.read_through.Goals as goal

pub returns-clause-writes : goal.returns-clause-writes
returns-clause-writes c = whole_writes c.args.families.now c.args.file.now c.args.head (under_bytes _ (λ i. omega (arith, c.type_inv.file i)))

pub returns-clause-reads : goal.returns-clause-reads
returns-clause-reads c = whole_reads c.args.families.now c.args.head

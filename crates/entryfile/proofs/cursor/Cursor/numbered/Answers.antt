use Rattle.std.proofs.Common.{◌∙◌}
use Rattle.entryfile.proofs.Checks.{fault_here}
use Rattle.entryfile.proofs.cursor.Cursor.numbered.Goals as goal

pub returns-clause-is : goal.returns-clause-is
returns-clause-is g c = c.known.ensures.is ∙ fault_here _ _ _ _

use Rattle.std.proofs.Common.{◌∙◌}
use Rattle.entryfile.proofs.Checks.{fault_here}
use Rattle.entryfile.proofs.cursor.Cursor.entry_kind.Goals as goal

pub returns-clause-is : goal.returns-clause-is
returns-clause-is c = c.known.ensures.is ∙ fault_here _ _ _ _

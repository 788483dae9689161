use Rattle.std.proofs.Common.{arith}
use Rattle.listing.proofs.input.whole_input.Goals as goal

-- by the length that was tested, so that another limit is refused by its number
pub returns : goal.returns
returns c = omega (arith, c.truncate.ensures.len)

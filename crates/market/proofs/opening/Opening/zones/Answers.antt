use Rattle.market.proofs.opening.Opening.zones.Goals as goal

pub returns : goal.returns
returns c = cc

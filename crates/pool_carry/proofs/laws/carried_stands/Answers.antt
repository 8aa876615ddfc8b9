use Rattle.pool_carry.proofs.CarriedStanding.{carried-stands}
use Rattle.pool_carry.proofs.laws.carried_stands.Goals as goal

pub returns : goal.returns
returns c = carried-stands

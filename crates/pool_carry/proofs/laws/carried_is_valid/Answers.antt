use Rattle.pool_carry.proofs.CarriedStanding.{carried-valid}
use Rattle.pool_carry.proofs.laws.carried_is_valid.Goals as goal

pub returns : goal.returns
returns c = carried-valid

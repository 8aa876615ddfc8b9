use Rattle.pool_carry.proofs.Kept.{carried-alone}
use Rattle.pool_carry.proofs.laws.carried_is_one.Goals as goal

pub returns : goal.returns
returns c = carried-alone

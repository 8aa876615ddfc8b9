use Rattle.pool_carry.proofs.NewPool.{pools-carried}
use Rattle.pool_carry.proofs.laws.pools_are_carried.Goals as goal

pub returns : goal.returns
returns c = pools-carried

use Rattle.pool_carry.proofs.Kept.{carried-kept}
use Rattle.pool_carry.proofs.laws.carried_is_kept.Goals as goal

pub returns : goal.returns
returns c = carried-kept

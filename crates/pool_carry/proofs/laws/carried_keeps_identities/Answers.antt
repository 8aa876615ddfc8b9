use Rattle.pool_carry.proofs.Identities.{carried-keeps}
use Rattle.pool_carry.proofs.laws.carried_keeps_identities.Goals as goal

pub returns : goal.returns
returns c = carried-keeps

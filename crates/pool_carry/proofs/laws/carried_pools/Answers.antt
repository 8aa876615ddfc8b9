use Rattle.pool_carry.proofs.Worked.{carried-pools, carried-pass, old-pass}
use Rattle.pool_carry.proofs.laws.carried_pools.Goals as goal

pub returns : goal.returns
returns c = record { carried = carried-pools; pass = carried-pass; passed = old-pass }

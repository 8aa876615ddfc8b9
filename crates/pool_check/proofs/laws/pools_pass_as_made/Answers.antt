use Rattle.pool_check.proofs.PoolPasses.{passes-as-made}
use Rattle.pool_check.proofs.laws.pools_pass_as_made.Goals as goal

pub returns : goal.returns
returns c n G roots settings rooted = passes-as-made n G roots rooted settings

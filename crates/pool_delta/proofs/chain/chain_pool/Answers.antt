use Rattle.std.proofs.Common.{ap, ◌∙◌}
use Rattle.pool_text.specs.Pool.{pool}
use Rattle.pool_text.specs.declared.pool.Pool.{Pool}
use Rattle.pool_delta.proofs.chain.chain_pool.Goals as goal

pub returns-clause-version : goal.returns-clause-version
unfolding pool
returns-clause-version c = ap (λ (P : Pool). P.version) c.into_pool.ensures.same ∙ ap (λ (P : Pool). P.version) c.in_ok-chain_checked.ensures.value

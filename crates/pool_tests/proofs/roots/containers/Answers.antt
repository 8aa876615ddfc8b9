use Rattle.std.proofs.Common.{◌≡◌, ap, ◌∙◌}
use Rattle.std.proofs.lemmas.Result.{IfOk-weaker}
use Rattle.elem_core.specs.declared.codes.TheConstants.{CODE_BITS}
use Rattle.pool_text.specs.declared.pool.Pool.{Pool}
use Rattle.pool_tests.proofs.roots.containers.Goals as goal

pub returns-clause-bits : goal.returns-clause-bits
returns-clause-bits g c =
    IfOk-weaker c.check_roots.result (λ (P : Pool). P ≡ c.in_ok-pool.pool) (λ P. P.bits ≡ CODE_BITS) (λ P same. ap (λ (Q : Pool). Q.bits) same ∙ c.in_ok-pool.ensures.bits) c.check_roots.ensures.same

use Rattle.std.proofs.Common.{◌≡◌, ◌≢◌, Option, Some, None, ap, sym, subst, ◌∙◌}
use Rattle.std.specs.Result.{IfOk, IfErr}
use Rattle.serde_json.specs.View.{view}
use Rattle.pool_text.specs.Document.{present_bytes_damage}
use Rattle.pool_text.specs.declared.damage.Damage.{Damage}
use Rattle.pool_text.specs.declared.damage.Damage.TheVariants.{Memory}
use Rattle.pool_text.specs.declared.pool.Pool.{Pool}
use Rattle.pool_text.proofs.Refusals.{handed-on}
use Rattle.pool_text.proofs.PoolRead.{present-json-damage, present-damage-by-value, pool-by-value}
use Rattle.pool_text.proofs.from_json.present_pool_from_bytes.Goals as goal

pub returns-in_err-value-clause-damage : goal.returns-in_err-value-clause-damage
returns-in_err-value-clause-damage c =
    handed-on c.from_residual.result c.in_err-value.field-0.0 (present_bytes_damage c.args.bits c.args.bytes.now) c.from_residual.ensures.1
    (λ not_memory. let refused = c.in_err-value.ensures not_memory in present-json-damage c.args.bits c.args.bytes.now refused.1 ∙ ap (λ (d : Damage). Some d) (sym refused.0))

pub returns-clause-pool : goal.returns-clause-pool
returns-clause-pool c =
    subst (λ (o : Option Pool). IfOk c.present_pool_from_json.result (λ p. o ≡ Some p)) (sym (pool-by-value c.args.bytes.now (view c.in_ok-value.value) c.in_ok-value.ensures)) c.present_pool_from_json.ensures.pool

pub returns-clause-whole : goal.returns-clause-whole
returns-clause-whole c =
    subst (λ (o : Option Damage). IfOk c.present_pool_from_json.result (λ p. o ≡ None)) (sym (present-damage-by-value c.args.bits c.args.bytes.now (view c.in_ok-value.value) c.in_ok-value.ensures)) c.present_pool_from_json.ensures.whole

pub returns-clause-damage : goal.returns-clause-damage
returns-clause-damage c =
    subst (λ (o : Option Damage). IfErr c.present_pool_from_json.result (λ d. d ≢ Memory → o ≡ Some d)) (sym (present-damage-by-value c.args.bits c.args.bytes.now (view c.in_ok-value.value) c.in_ok-value.ensures)) c.present_pool_from_json.ensures.damage

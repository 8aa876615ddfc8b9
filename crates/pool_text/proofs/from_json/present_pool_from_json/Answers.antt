use Rattle.std.proofs.Common.{◌≡◌, ◌≢◌, Option, Some, None, ap, sym, subst, ◌∙◌}
use Rattle.std.specs.Result.{IfOk, IfErr}
use Rattle.serde_json.specs.View.{view}
use Rattle.pool_text.specs.Rules.{Rules, rules_of, rules_named}
use Rattle.pool_text.specs.Document.{parts_damage_by, present_value_damage}
use Rattle.pool_text.specs.Parsing.{parts_seen}
use Rattle.pool_text.specs.declared.damage.Damage.{Damage}
use Rattle.pool_text.specs.declared.damage.Damage.TheVariants.{Memory}
use Rattle.pool_text.specs.declared.pool.Pool.{Pool}
use Rattle.pool_text.proofs.Refusals.{handed-on}
use Rattle.pool_text.proofs.PoolRead.{pool-by-rules, present-form-damage, other-version, present-by-parts}
use Rattle.pool_text.proofs.from_json.present_pool_from_json.Goals as goal

pub returns-in_err-parts-clause-damage : goal.returns-in_err-parts-clause-damage
returns-in_err-parts-clause-damage c =
    handed-on c.from_residual.result c.in_err-parts.field-0.0 (present_value_damage c.args.bits (view c.args.value.now)) c.from_residual.ensures.1
    (λ not_memory. let refused = c.in_err-parts.ensures.value not_memory in present-form-damage c.args.bits (view c.args.value.now) refused.1 ∙ ap (λ (d : Damage). Some d) (sym refused.0))

pub returns-then-parts-clause-damage : goal.returns-then-parts-clause-damage
returns-then-parts-clause-damage c not_memory = other-version c.args.bits (view c.args.value.now) (parts_seen c.in_ok-parts.parts) c.in_ok-parts.ensures.value c.if-parts.true

pub pool_by-requires-clause-version : goal.pool_by-requires-clause-version
pool_by-requires-clause-version c = ap rules_of c.if-parts.false ∙ ap (λ (r : Rules). Some r) (sym c.present.ensures)

pub returns-clause-pool : goal.returns-clause-pool
returns-clause-pool c =
    let found : rules_of c.in_ok-parts.parts.version ≡ Some (rules_named c.present.result) = ap rules_of c.if-parts.false ∙ ap (λ (r : Rules). Some r) (sym c.present.ensures) in
    subst (λ (o : Option Pool). IfOk c.pool_by.result (λ p. o ≡ Some p)) (sym (pool-by-rules c.args.bits (view c.args.value.now) (parts_seen c.in_ok-parts.parts) c.in_ok-parts.ensures.value (rules_named c.present.result) found)) c.pool_by.ensures.pool

pub returns-clause-whole : goal.returns-clause-whole
returns-clause-whole c =
    let same : present_value_damage c.args.bits (view c.args.value.now) ≡ parts_damage_by c.args.bits (parts_seen c.in_ok-parts.parts) (rules_named c.present.result) =
    present-by-parts c.args.bits (view c.args.value.now) (parts_seen c.in_ok-parts.parts) c.in_ok-parts.ensures.value c.if-parts.false ∙ ap (parts_damage_by c.args.bits (parts_seen c.in_ok-parts.parts)) (sym c.present.ensures) in
    subst (λ (o : Option Damage). IfOk c.pool_by.result (λ p. o ≡ None)) (sym same) c.pool_by.ensures.whole

pub returns-clause-damage : goal.returns-clause-damage
returns-clause-damage c =
    let same : present_value_damage c.args.bits (view c.args.value.now) ≡ parts_damage_by c.args.bits (parts_seen c.in_ok-parts.parts) (rules_named c.present.result) =
    present-by-parts c.args.bits (view c.args.value.now) (parts_seen c.in_ok-parts.parts) c.in_ok-parts.ensures.value c.if-parts.false ∙ ap (parts_damage_by c.args.bits (parts_seen c.in_ok-parts.parts)) (sym c.present.ensures) in
    subst (λ (o : Option Damage). IfErr c.pool_by.result (λ d. d ≢ Memory → o ≡ Some d)) (sym same) c.pool_by.ensures.damage

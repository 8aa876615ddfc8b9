use Rattle.std.proofs.Common.{◌≡◌, ◌≢◌, Option, Some, None, Result, Ok, Err, ap, sym, subst, ◌∙◌}
use Rattle.std.specs.Prelude.{option_map}
use Rattle.std.specs.Result.{IfOk, IfErr}
use Rattle.serde_json.specs.Data.{Data}
use Rattle.serde_json.specs.View.{view}
use Rattle.pool_text.specs.Rules.{Rules, rules_of, rules_named}
use Rattle.pool_text.specs.Document.{pool_in, value_damage, HistoryFitsVersion}
use Rattle.pool_text.specs.Parsing.{parts_seen}
use Rattle.pool_text.specs.declared.damage.Damage.{Damage}
use Rattle.pool_text.specs.declared.damage.Damage.TheVariants.{Memory}
use Rattle.pool_text.specs.declared.pool.Pool.{Pool}
use Rattle.pool_text.specs.declared.rules.Rules.{Rules as RulesByName}
use Rattle.pool_text.proofs.HistoryRead.{pool-history}
use Rattle.pool_text.proofs.Refusals.{handed-on}
use Rattle.pool_text.proofs.PoolRead.{form-damage, version-damage, damage-by-rules, pool-by-rules}
use Rattle.pool_text.proofs.from_json.pool_from_json.Goals as goal

-- the rules of a version, by the answer of the code
abbrev named : Option RulesByName → Option Rules
named o = option_map rules_named o

-- the pool of a value has a history
has-history : (d : Data) (r : Result Pool Damage) → IfOk r (λ p. pool_in d ≡ Some p) → IfOk r HistoryFitsVersion
has-history d (Ok p) is = pool-history d p is
has-history d (Err e) is = tt

pub returns-in_err-parts-clause-damage : goal.returns-in_err-parts-clause-damage
returns-in_err-parts-clause-damage c =
    handed-on c.from_residual.result c.in_err-parts.field-0.0 (value_damage c.args.bits (view c.args.value.now)) c.from_residual.ensures.1
    (λ not_memory. let refused = c.in_err-parts.ensures.value not_memory in form-damage c.args.bits (view c.args.value.now) refused.1 ∙ ap (λ (d : Damage). Some d) (sym refused.0))

pub returns-in-None-clause-damage : goal.returns-in-None-clause-damage
returns-in-None-clause-damage c not_memory =
    version-damage c.args.bits (view c.args.value.now) (parts_seen c.in_ok-parts.parts) c.in_ok-parts.ensures.value (sym c.of_version.ensures ∙ ap named c.in-None.is)

pub returns-in-Some-clause-pool : goal.returns-in-Some-clause-pool
returns-in-Some-clause-pool c =
    let rules : Rules = rules_named c.in-Some.rules in
    let found : rules_of c.in_ok-parts.parts.version ≡ Some rules = sym c.of_version.ensures ∙ ap named c.in-Some.is in
    subst (λ (o : Option Pool). IfOk c.pool_by.result (λ p. o ≡ Some p)) (sym (pool-by-rules c.args.bits (view c.args.value.now) (parts_seen c.in_ok-parts.parts) c.in_ok-parts.ensures.value rules found)) c.pool_by.ensures.pool

pub pool_by-requires-clause-version : goal.pool_by-requires-clause-version
pool_by-requires-clause-version c = sym c.of_version.ensures ∙ ap named c.in-Some.is

pub returns-in-Some-clause-whole : goal.returns-in-Some-clause-whole
returns-in-Some-clause-whole c =
    let rules : Rules = rules_named c.in-Some.rules in
    let found : rules_of c.in_ok-parts.parts.version ≡ Some rules = sym c.of_version.ensures ∙ ap named c.in-Some.is in
    subst (λ (o : Option Damage). IfOk c.pool_by.result (λ p. o ≡ None)) (sym (damage-by-rules c.args.bits (view c.args.value.now) (parts_seen c.in_ok-parts.parts) c.in_ok-parts.ensures.value rules found)) c.pool_by.ensures.whole

pub returns-in-Some-clause-damage : goal.returns-in-Some-clause-damage
returns-in-Some-clause-damage c =
    let rules : Rules = rules_named c.in-Some.rules in
    let found : rules_of c.in_ok-parts.parts.version ≡ Some rules = sym c.of_version.ensures ∙ ap named c.in-Some.is in
    subst (λ (o : Option Damage). IfErr c.pool_by.result (λ d. d ≢ Memory → o ≡ Some d)) (sym (damage-by-rules c.args.bits (view c.args.value.now) (parts_seen c.in_ok-parts.parts) c.in_ok-parts.ensures.value rules found)) c.pool_by.ensures.damage

pub returns-in-Some-clause-history : goal.returns-in-Some-clause-history
returns-in-Some-clause-history c = has-history (view c.args.value.now) c.pool_by.result (returns-in-Some-clause-pool c)

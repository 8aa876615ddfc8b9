use Rattle.std.proofs.Common.{◌≡◌, ◌≢◌, Option, Some, None, ap, sym, subst, ◌∙◌}
use Rattle.std.specs.Result.{IfOk, IfErr}
use Rattle.serde_json.specs.View.{view}
use Rattle.pool_text.specs.declared.damage.Damage.{Damage}
use Rattle.pool_text.specs.declared.damage.Damage.TheVariants.{Memory}
use Rattle.pool_text.proofs.Refusals.{handed-on}
use Rattle.pool_delta.specs.Parts.{Part, part_bytes_damage}
use Rattle.pool_delta.specs.Read.{part_seen}
use Rattle.pool_delta.proofs.PartRead.{json-damage, damage-by-value, part-by-value}
use Rattle.pool_delta.proofs.part.part_from_bytes.Goals as goal

pub returns-in_err-value-clause-damage : goal.returns-in_err-value-clause-damage
returns-in_err-value-clause-damage c =
    handed-on c.from_residual.result c.in_err-value.field-0.0 (part_bytes_damage c.args.bits c.args.bytes.now) c.from_residual.ensures.1
    (λ not_memory. let refused = c.in_err-value.ensures not_memory in json-damage c.args.bits c.args.bytes.now refused.1 ∙ ap (λ (d : Damage). Some d) (sym refused.0))

pub returns-clause-part : goal.returns-clause-part
returns-clause-part c =
    subst (λ (o : Option Part). IfOk c.part_from_json.result (λ p. o ≡ Some (part_seen c.args.bits p))) (sym (part-by-value c.args.bytes.now (view c.in_ok-value.value) c.in_ok-value.ensures)) c.part_from_json.ensures.part

pub returns-clause-whole : goal.returns-clause-whole
returns-clause-whole c =
    subst (λ (o : Option Damage). IfOk c.part_from_json.result (λ p. o ≡ None)) (sym (damage-by-value c.args.bits c.args.bytes.now (view c.in_ok-value.value) c.in_ok-value.ensures)) c.part_from_json.ensures.whole

pub returns-clause-damage : goal.returns-clause-damage
returns-clause-damage c =
    subst (λ (o : Option Damage). IfErr c.part_from_json.result (λ d. d ≢ Memory → o ≡ Some d)) (sym (damage-by-value c.args.bits c.args.bytes.now (view c.in_ok-value.value) c.in_ok-value.ensures)) c.part_from_json.ensures.damage

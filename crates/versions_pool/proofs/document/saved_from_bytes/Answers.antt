use Rattle.std.proofs.Common.{◌≡◌, ◌≢◌, Option, Some, None, ap, sym, subst, ◌∙◌}
use Rattle.std.specs.Result.{IfOk, IfErr}
use Rattle.serde_json.specs.View.{view}
use Rattle.pool_text.specs.declared.damage.Damage.{Damage}
use Rattle.pool_text.specs.declared.damage.Damage.TheVariants.{Memory}
use Rattle.pool_text.proofs.Refusals.{handed-on}
use Rattle.versions_pool.specs.Saved.{Saved, bytes_damage}
use Rattle.versions_pool.specs.Seen.{saved_seen}
use Rattle.versions_pool.proofs.SavedRead.{json-damage, damage-by-value, saved-by-value}
use Rattle.versions_pool.proofs.document.saved_from_bytes.Goals as goal

pub returns-in_err-value-clause-damage : goal.returns-in_err-value-clause-damage
returns-in_err-value-clause-damage c =
    handed-on c.from_residual.result c.in_err-value.field-0.0 (bytes_damage c.args.format.now c.args.bytes.now) c.from_residual.ensures.1
    (λ not_memory. let refused = c.in_err-value.ensures not_memory in json-damage c.args.format.now c.args.bytes.now refused.1 ∙ ap (λ (d : Damage). Some d) (sym refused.0))

pub returns-clause-saved : goal.returns-clause-saved
returns-clause-saved c =
    subst (λ (o : Option Saved). IfOk c.saved_from_json.result (λ s. o ≡ Some (saved_seen s))) (sym (saved-by-value c.args.format.now c.args.bytes.now (view c.in_ok-value.value) c.in_ok-value.ensures)) c.saved_from_json.ensures.saved

pub returns-clause-whole : goal.returns-clause-whole
returns-clause-whole c =
    subst (λ (o : Option Damage). IfOk c.saved_from_json.result (λ s. o ≡ None)) (sym (damage-by-value c.args.format.now c.args.bytes.now (view c.in_ok-value.value) c.in_ok-value.ensures)) c.saved_from_json.ensures.whole

pub returns-clause-damage : goal.returns-clause-damage
returns-clause-damage c =
    subst (λ (o : Option Damage). IfErr c.saved_from_json.result (λ d. d ≢ Memory → o ≡ Some d)) (sym (damage-by-value c.args.format.now c.args.bytes.now (view c.in_ok-value.value) c.in_ok-value.ensures)) c.saved_from_json.ensures.damage

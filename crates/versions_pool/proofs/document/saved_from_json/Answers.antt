use Rattle.std.proofs.Common.{Some, ap, sym, ◌∙◌}
use Rattle.serde_json.specs.View.{view}
use Rattle.elem_core.specs.declared.codes.TheConstants.{DEEPEST}
use Rattle.pool_text.specs.declared.damage.Damage.{Damage}
use Rattle.pool_text.proofs.Refusals.{handed-on}
use Rattle.pool_text.proofs.PoolRead.{rows-in-range}
use Rattle.versions_pool.specs.Saved.{value_damage}
use Rattle.versions_pool.specs.Seen.{values_seen}
use Rattle.versions_pool.proofs.SavedRead.{form-damage, version-damage, row-damage, no-damage, saved-read}
use Rattle.versions_pool.proofs.document.saved_from_json.Goals as goal

pub returns-in_err-said-clause-damage : goal.returns-in_err-said-clause-damage
returns-in_err-said-clause-damage c =
    handed-on c.from_residual.result c.in_err-said.field-0.0 (value_damage c.args.format.now (view c.args.value.now)) c.from_residual.ensures.1
    (λ not_memory. let refused = c.in_err-said.ensures.value not_memory in form-damage c.args.format.now (view c.args.value.now) refused.1 ∙ ap (λ (d : Damage). Some d) (sym refused.0))

pub returns-then-said-clause-damage : goal.returns-then-said-clause-damage
returns-then-said-clause-damage c not_memory = version-damage c.args.format.now (view c.args.value.now) (values_seen c.in_ok-said.said) c.in_ok-said.ensures.value c.if-said.true

pub returns-in_err-rows-clause-damage : goal.returns-in_err-rows-clause-damage
returns-in_err-rows-clause-damage c =
    handed-on c.from_residual-in_err-rows.result c.in_err-rows.field-0.0 (value_damage c.args.format.now (view c.args.value.now)) c.from_residual-in_err-rows.ensures.1
    (λ not_memory. let refused = c.in_err-rows.ensures not_memory in
    row-damage c.args.format.now (view c.args.value.now) (values_seen c.in_ok-said.said) c.in_ok-said.ensures.value c.if-said.false refused.1 ∙ ap (λ (d : Damage). Some d) (sym refused.0))

pub returns-clause-saved : goal.returns-clause-saved
returns-clause-saved c = saved-read c.args.format.now (view c.args.value.now) (values_seen c.in_ok-said.said) c.in_ok-said.ensures.value c.in_ok-rows.rows c.in_ok-rows.ensures

pub returns-clause-rows : goal.returns-clause-rows
returns-clause-rows c = rows-in-range DEEPEST (values_seen c.in_ok-said.said).rows c.in_ok-rows.rows c.in_ok-rows.ensures

pub returns-clause-whole : goal.returns-clause-whole
returns-clause-whole c = no-damage c.args.format.now (view c.args.value.now) (values_seen c.in_ok-said.said) c.in_ok-said.ensures.value c.if-said.false c.in_ok-rows.rows c.in_ok-rows.ensures

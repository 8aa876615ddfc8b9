use Rattle.std.proofs.Common.{Some, ap, sym, ◌∙◌}
use Rattle.serde_json.specs.View.{view}
use Rattle.elem_core.specs.declared.codes.TheConstants.{DEEPEST}
use Rattle.pool_text.specs.declared.damage.Damage.{Damage}
use Rattle.pool_text.proofs.Refusals.{handed-on}
use Rattle.pool_text.proofs.PoolRead.{rows-in-range}
use Rattle.pool_delta.specs.Parts.{part_value_damage}
use Rattle.pool_delta.specs.Read.{values_seen}
use Rattle.pool_delta.proofs.PartRead.{form-damage, version-damage, bits-damage, row-damage, no-damage, part-read}
use Rattle.pool_delta.proofs.part.part_from_json.Goals as goal

pub returns-in_err-said-clause-damage : goal.returns-in_err-said-clause-damage
returns-in_err-said-clause-damage c =
    handed-on c.from_residual.result c.in_err-said.field-0.0 (part_value_damage c.args.bits (view c.args.value.now)) c.from_residual.ensures.1
    (λ not_memory. let refused = c.in_err-said.ensures.value not_memory in form-damage c.args.bits (view c.args.value.now) refused.1 ∙ ap (λ (d : Damage). Some d) (sym refused.0))

pub returns-then-said-clause-damage : goal.returns-then-said-clause-damage
returns-then-said-clause-damage c not_memory = version-damage c.args.bits (view c.args.value.now) (values_seen c.in_ok-said.said) c.in_ok-said.ensures.value c.if-said.true

pub returns-then-said-bits-clause-damage : goal.returns-then-said-bits-clause-damage
returns-then-said-bits-clause-damage c not_memory = bits-damage c.args.bits (view c.args.value.now) (values_seen c.in_ok-said.said) c.in_ok-said.ensures.value c.if-said.false c.if-said-bits.true

pub returns-in_err-rows-clause-damage : goal.returns-in_err-rows-clause-damage
returns-in_err-rows-clause-damage c =
    handed-on c.from_residual-in_err-rows.result c.in_err-rows.field-0.0 (part_value_damage c.args.bits (view c.args.value.now)) c.from_residual-in_err-rows.ensures.1
    (λ not_memory. let refused = c.in_err-rows.ensures not_memory in
    row-damage c.args.bits (view c.args.value.now) (values_seen c.in_ok-said.said) c.in_ok-said.ensures.value c.if-said.false c.if-said-bits.false refused.1 ∙ ap (λ (d : Damage). Some d) (sym refused.0))

pub returns-clause-part : goal.returns-clause-part
returns-clause-part c = part-read c.args.bits (view c.args.value.now) (values_seen c.in_ok-said.said) c.in_ok-said.ensures.value c.if-said-bits.false c.in_ok-rows.rows c.in_ok-rows.ensures

pub returns-clause-rows : goal.returns-clause-rows
returns-clause-rows c = rows-in-range DEEPEST (values_seen c.in_ok-said.said).rows c.in_ok-rows.rows c.in_ok-rows.ensures

pub returns-clause-whole : goal.returns-clause-whole
returns-clause-whole c = no-damage c.args.bits (view c.args.value.now) (values_seen c.in_ok-said.said) c.in_ok-said.ensures.value c.if-said.false c.if-said-bits.false c.in_ok-rows.rows c.in_ok-rows.ensures

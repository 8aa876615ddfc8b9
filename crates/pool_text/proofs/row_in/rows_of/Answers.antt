use Rattle.std.proofs.Common.{◌∙◌, ◌∷◌, [], List, map, Some, ap, sym, arith}
use Rattle.std.proofs.lemmas.List.{map-append}
use Rattle.node_heap.specs.Forms.{Form}
use Rattle.serde_json.specs.View.{view}
use Rattle.serde_json.specs.declared.value.Value.{Value}
use Rattle.pool_text.specs.Rows.{Bytes, row_form}
use Rattle.pool_text.specs.Document.{row_in, all_of}
use Rattle.pool_text.specs.declared.damage.Damage.TheVariants.{Row as RowDamage}
use Rattle.pool_text.proofs.EachRead.{all_of-fails, all_of-more}
use Rattle.pool_text.proofs.Gathered.{take_all}
use Rattle.pool_text.proofs.Refusals.{reads-refused}
use Rattle.pool_text.proofs.row_in.rows_of.Goals as goal

pub returns-in_err-row_of : goal.returns-in_err-row_of
returns-in_err-row_of c =
    reads-refused (λ (rows : List (Form Bytes)). rows) RowDamage (all_of (row_in c.args.deepest) (map view c.args.values.now)) c.from_residual-in_err-row_of.result c.in_err-row_of.field-0.0 c.from_residual-in_err-row_of.ensures.1
    (λ not_memory. let refused = c.in_err-row_of.ensures not_memory in
    (refused.0, all_of-fails (row_in c.args.deepest) view c.args.values.now c.loop-value.value-index c.value-item.result (omega arith) c.value-item.is refused.1))

pub loop-value-preserved : goal.loop-value-preserved
loop-value-preserved c =
    all_of-more (row_in c.args.deepest) view c.args.values.now c.loop-value.value-index c.value-item.result (map row_form c.loop-value.rows.items) (row_form c.in_ok-row_of.field-0) (omega arith) c.value-item.is c.loop-value.invariant c.in_ok-row_of.ensures
    ∙ ap (λ (rs : List (Form Bytes)). Some rs) (sym (ap (map row_form) c.in_ok-push.ensures.items ∙ map-append row_form c.loop-value.rows.items (c.in_ok-row_of.field-0 ∷ [])))

pub returns : goal.returns
returns c =
    ap (λ (vs : List Value). all_of (row_in c.args.deepest) (map view vs)) (sym (take_all c.args.values.now c.loop-value.value-index (omega arith)))
    ∙ c.loop-value.invariant ∙ ap (λ (rs : List (Form Bytes)). Some rs) (sym c.from_vec.ensures)

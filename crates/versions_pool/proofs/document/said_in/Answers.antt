use Rattle.std.proofs.Common.{length, map, refl, ap, sym, ◌∙◌}
use Rattle.serde_json.specs.View.{view}
use Rattle.pool_text.specs.declared.damage.Damage.TheVariants.{Form}
use Rattle.pool_text.proofs.Refusals.{reads-refused}
use Rattle.versions_pool.specs.Saved.{rise, values_in}
use Rattle.versions_pool.specs.Seen.{values_seen}
use Rattle.versions_pool.proofs.SavedRead.{no-names, no-roots, all-values, not-rising, few-names}
use Rattle.versions_pool.proofs.document.said_in.Goals as goal

pub returns-in_err-names-clause-value : goal.returns-in_err-names-clause-value
returns-in_err-names-clause-value c =
    let values = c.in-Some.values in
    reads-refused values_seen Form (values_in c.args.format.now (view c.args.value.now)) c.from_residual.result c.in_err-names.field-0.0 c.from_residual.ensures.1
    (λ not_memory. let refused = c.in_err-names.ensures not_memory in
    (refused.0, c.in-Some.ensures ∙ no-names (view values.names.now) (view values.roots.now) (view values.rows.now) (view values.version.now) refused.1))

pub returns-in_err-roots-clause-value : goal.returns-in_err-roots-clause-value
returns-in_err-roots-clause-value c =
    let values = c.in-Some.values in
    reads-refused values_seen Form (values_in c.args.format.now (view c.args.value.now)) c.from_residual-in_err-roots.result c.in_err-roots.field-0.0 c.from_residual-in_err-roots.ensures.1
    (λ not_memory. let refused = c.in_err-roots.ensures not_memory in
    (refused.0, c.in-Some.ensures ∙ no-roots (view values.names.now) (view values.roots.now) (view values.rows.now) (view values.version.now) refused.1))

pub returns-then-not-is_rising-clause-value : goal.returns-then-not-is_rising-clause-value
returns-then-not-is_rising-clause-value c =
    let values = c.in-Some.values in
    let found = c.in-Some-Some in
    λ not_memory. (
      refl,
      c.in-Some.ensures
          ∙ not-rising (view values.names.now) (view values.roots.now) (view values.rows.now) (view values.version.now) found.version c.in_ok-names.names c.in_ok-roots.roots (map view found.rows.now)
          c.in_ok-names.ensures c.in_ok-roots.ensures (sym found.ensures) (sym found.ensures') (ap rise (sym c.as_slice.ensures) ∙ sym c.if-not-is_rising.ensures),
    )

pub returns-clause-value : goal.returns-clause-value
returns-clause-value c =
    let values = c.in-Some.values in
    let found = c.in-Some-Some in
    c.in-Some.ensures
    ∙ all-values (view values.names.now) (view values.roots.now) (view values.rows.now) (view values.version.now) found.version c.in_ok-names.names c.in_ok-roots.roots (map view found.rows.now)
    c.in_ok-names.ensures c.in_ok-roots.ensures (sym found.ensures) (sym found.ensures') (ap rise (sym c.as_slice.ensures) ∙ sym c.if-not-is_rising.ensures) (ap length (sym c.as_slice-2.ensures) ∙ c.if-as_slice.false ∙ ap length c.as_slice-3.ensures)

pub returns-clause-few : goal.returns-clause-few
returns-clause-few c = few-names (view c.in-Some.values.names.now) c.in_ok-names.names c.in_ok-names.ensures

use Rattle.std.proofs.Common.{map, sym, ◌∙◌}
use Rattle.serde_json.specs.View.{view}
use Rattle.pool_text.specs.declared.damage.Damage.TheVariants.{Form}
use Rattle.pool_text.proofs.NumbersRead.{four-of}
use Rattle.pool_text.proofs.Refusals.{reads-refused}
use Rattle.pool_delta.specs.Parts.{values_in}
use Rattle.pool_delta.specs.Read.{values_seen}
use Rattle.pool_delta.proofs.PartRead.{no-roots, all-values}
use Rattle.pool_delta.proofs.part.said_in.Goals as goal

pub returns-in_err-numbers_of-clause-value : goal.returns-in_err-numbers_of-clause-value
returns-in_err-numbers_of-clause-value c =
    let values = c.in-Some.values in
    reads-refused values_seen Form (values_in (view c.args.value.now)) c.from_residual.result c.in_err-numbers_of.field-0.0 c.from_residual.ensures.1
    (λ not_memory. let refused = c.in_err-numbers_of.ensures not_memory in
    (refused.0, c.in-Some.ensures ∙ no-roots (view values.after.now) (view values.bits.now) (view values.history.now) (view values.roots.now) (view values.rows.now) (view values.version.now) refused.1))

pub returns-clause-value : goal.returns-clause-value
returns-clause-value c =
    let values = c.in-Some.values in
    let found = c.in-Some-Some-Some-Some-Some in
    c.in-Some.ensures
    ∙ all-values (view values.after.now) (view values.bits.now) (view values.history.now) (view values.roots.now) (view values.rows.now) (view values.version.now) found.after found.bits found.history found.version c.in_ok-numbers_of.field-0 (map view found.rows.now)
    (sym found.ensures) (sym found.ensures') (sym found.ensures''.value) c.in_ok-numbers_of.ensures (sym found.ensures''') (sym found.ensures'''')

pub returns-clause-roots : goal.returns-clause-roots
returns-clause-roots c = four-of (view c.in-Some.values.roots.now) c.in_ok-numbers_of.field-0 c.in_ok-numbers_of.ensures

use Rattle.std.proofs.Common.{◌<◌, ℕ, List, length, ap, subst, ◌∙◌}
use Rattle.std.specs.Prelude.{slice_get}
use Rattle.node_heap.specs.Links.{count}
use Rattle.pool_text.specs.Rules.{rules_named, present_rules, first_rules}
use Rattle.pool_text.specs.Pool.{settings_by, pool}
use Rattle.pool_text.specs.declared.rules.TheConstants.{MOST_HISTORY}
use Rattle.pool_carry.proofs.Standing.{if-then}
use Rattle.pool_carry.proofs.Rooted.{linked-below, carried-present, carried-bits, carried-history, carried-roots, carried-as}
use Rattle.pool_carry.proofs.carrying.carry.Goals as goal

pub carried_rows-requires-clause-valid : goal.carried_rows-requires-clause-valid
carried_rows-requires-clause-valid c = (first_rules, c.into_pool-pool.ensures.valid)

pub pool_of_rows-requires-clause-linked : goal.pool_of_rows-requires-clause-linked
pool_of_rows-requires-clause-linked c = linked-below c.in_ok-rows.rows c.in_ok-rows.ensures.linked

pub pool_of_rows-requires-clause-roots : goal.pool_of_rows-requires-clause-roots
pool_of_rows-requires-clause-roots c = λ r has. c.in_ok-rows.ensures.low r (subst (λ (ks : List ℕ). 0 < count r ks) c.as_slice.ensures has)

pub returns-clause-carried : goal.returns-clause-carried
returns-clause-carried c =
    if-then c.pool_of_rows.result c.pool_of_rows.ensures.value (λ Q made.
    carried-as (rules_named c.present.result) present_rules c.args.bits c.into_pool-pool.result c.args.old Q c.in_ok-rows.rows c.in_ok-rows.roots c.as_slice.result.now c.in_ok-rows.ensures c.present.ensures c.into_pool-pool.ensures.same c.as_slice.ensures made)

pub returns-clause-version : goal.returns-clause-version
returns-clause-version c =
    if-then c.pool_of_rows.result c.pool_of_rows.ensures.value (λ Q made.
    carried-present (rules_named c.present.result) c.args.bits c.into_pool-pool.result Q c.in_ok-rows.rows c.in_ok-rows.roots c.in_ok-rows.ensures
    (made ∙ ap (λ (rs : List ℕ). pool (length c.in_ok-rows.rows) (slice_get c.in_ok-rows.rows) rs (settings_by c.args.bits MOST_HISTORY)) c.as_slice.ensures))

pub returns-clause-bits : goal.returns-clause-bits
returns-clause-bits c =
    if-then c.pool_of_rows.result c.pool_of_rows.ensures.value (λ Q made.
    carried-bits (rules_named c.present.result) c.args.bits c.into_pool-pool.result Q c.in_ok-rows.rows c.in_ok-rows.roots c.in_ok-rows.ensures
    (made ∙ ap (λ (rs : List ℕ). pool (length c.in_ok-rows.rows) (slice_get c.in_ok-rows.rows) rs (settings_by c.args.bits MOST_HISTORY)) c.as_slice.ensures))

pub returns-clause-history : goal.returns-clause-history
returns-clause-history c =
    if-then c.pool_of_rows.result c.pool_of_rows.ensures.value (λ Q made.
    carried-history (rules_named c.present.result) c.args.bits c.into_pool-pool.result Q c.in_ok-rows.rows c.in_ok-rows.roots c.in_ok-rows.ensures
    (made ∙ ap (λ (rs : List ℕ). pool (length c.in_ok-rows.rows) (slice_get c.in_ok-rows.rows) rs (settings_by c.args.bits MOST_HISTORY)) c.as_slice.ensures))

pub returns-clause-roots : goal.returns-clause-roots
returns-clause-roots c =
    if-then c.pool_of_rows.result c.pool_of_rows.ensures.value (λ Q made.
    carried-roots (rules_named c.present.result) c.args.bits c.into_pool-pool.result Q c.in_ok-rows.rows c.in_ok-rows.roots c.in_ok-rows.ensures
    (made ∙ ap (λ (rs : List ℕ). pool (length c.in_ok-rows.rows) (slice_get c.in_ok-rows.rows) rs (settings_by c.args.bits MOST_HISTORY)) c.as_slice.ensures)
    ∙ c.into_pool-pool.ensures.roots)

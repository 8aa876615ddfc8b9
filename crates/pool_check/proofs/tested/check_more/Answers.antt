use Rattle.std.proofs.Common.{◌≡◌, ◌≢◌, ◌≤◌, ◌++◌, length, Some, None, ap, sym, subst, ◌∙◌}
use Rattle.std.specs.List.{list_all}
use Rattle.std.specs.Result.{IfOk, IfErr}
use Rattle.elem_core.specs.declared.codes.TheConstants.{CODE_BITS}
use Rattle.pool_text.specs.Rows.{is_in_range}
use Rattle.pool_text.specs.Rules.{present_rules}
use Rattle.pool_text.specs.declared.pool.Pool.{Pool}
use Rattle.pool_text.specs.declared.damage.Damage.TheVariants.{Memory}
use Rattle.pool_check.specs.Damages.{open_damage}
use Rattle.pool_check.proofs.TestedRows.{tested-follows, both-in-range}
use Rattle.pool_check.proofs.tested.check_more.Goals as goal

pub make_tested-requires-clause-follows : goal.make_tested-requires-clause-follows
make_tested-requires-clause-follows c =
    tested-follows c.tested.inside.pool c.in_ok-longer.longer c.tested.inside.found c.args.rows c.tested.invariant (ap (λ (P : Pool). P.rows) c.in_ok-longer.ensures) (ap (λ (P : Pool). P.bits) c.in_ok-longer.ensures)

pub make_tested-requires-clause-bits : goal.make_tested-requires-clause-bits
make_tested-requires-clause-bits c = subst (λ (P : Pool). P.bits ≤ CODE_BITS) (sym c.in_ok-longer.ensures) c.tested.invariant.bits

pub make_tested-requires-clause-roots : goal.make_tested-requires-clause-roots
make_tested-requires-clause-roots c = ap (λ (P : Pool). length P.roots) c.in_ok-longer.ensures ∙ c.requires.roots

pub make_tested-requires-clause-rows : goal.make_tested-requires-clause-rows
make_tested-requires-clause-rows c = ap (λ (P : Pool). list_all is_in_range P.rows) c.in_ok-longer.ensures ∙ both-in-range c.tested.inside.pool.rows c.args.rows c.tested.invariant.in_range c.requires.rows

pub returns-clause-same : goal.returns-clause-same
returns-clause-same c =
    let here : c.tested.inside.pool ≡ c.args.tested = cc in
    let is : c.in_ok-longer.longer ≡ record c.args.tested { history = c.args.history; rows = c.args.tested.rows ++ c.args.rows; roots = c.args.roots } = c.in_ok-longer.ensures ∙ ap (λ (P : Pool). record P { history = c.args.history; rows = P.rows ++ c.args.rows; roots = c.args.roots }) here in
    subst (λ (Q : Pool). IfOk c.make_tested.result (λ tested. tested ≡ Q)) is c.make_tested.ensures.same

pub returns-clause-passed : goal.returns-clause-passed
returns-clause-passed c =
    let here : c.tested.inside.pool ≡ c.args.tested = cc in
    let is : c.in_ok-longer.longer ≡ record c.args.tested { history = c.args.history; rows = c.args.tested.rows ++ c.args.rows; roots = c.args.roots } = c.in_ok-longer.ensures ∙ ap (λ (P : Pool). record P { history = c.args.history; rows = P.rows ++ c.args.rows; roots = c.args.roots }) here in
    subst (λ (Q : Pool). IfOk c.make_tested.result (λ _. open_damage present_rules Q ≡ None)) is c.make_tested.ensures.passed

pub returns-clause-damage : goal.returns-clause-damage
returns-clause-damage c =
    let here : c.tested.inside.pool ≡ c.args.tested = cc in
    let is : c.in_ok-longer.longer ≡ record c.args.tested { history = c.args.history; rows = c.args.tested.rows ++ c.args.rows; roots = c.args.roots } = c.in_ok-longer.ensures ∙ ap (λ (P : Pool). record P { history = c.args.history; rows = P.rows ++ c.args.rows; roots = c.args.roots }) here in
    subst (λ (Q : Pool). IfErr c.make_tested.result (λ d. d ≢ Memory → open_damage present_rules Q ≡ Some d)) is c.make_tested.ensures.damage

use Rattle.std.proofs.Common.{◌≡◌, ◌+◌, ◌*◌, ◌≤◌, drop, subst, sym, arith}
use Rattle.rrb_core.specs.Vector.{elements, height_at, IsGoodVector}
use Rattle.state_rows.specs.declared.histories.TheConstants.{CUT_NODES}
use Rattle.state_rows.proofs.Edited.{emptied-keeps, emptied-history, cut-history, cut-trades}
use Rattle.state_rows.proofs.Room.{room-spared, room-freed, room-then}
use Rattle.state_rows.proofs.histories.shortened.Goals as goal

pub drop_front-requires-clause-good : goal.drop_front-requires-clause-good
drop_front-requires-clause-good c = subst (λ l. IsGoodVector c.args.heap.now l) (sym c.view.ensures) c.requires.history.2.vector

pub unreachable-requires : goal.unreachable-requires
unreachable-requires c = let ample = c.in_default.ensures.ample c.requires.spares in cc

pub returns-clause-keeps : goal.returns-clause-keeps
returns-clause-keeps c = emptied-keeps c.args.history c.in-Ok.ensures.answered c.release.ensures.keeps c.rows_form_a_graph.ensures c.release.ensures.releases.holds

pub returns-clause-trades : goal.returns-clause-trades
returns-clause-trades c =
    let done = c.in-Ok.ensures in
    cut-trades c.args.history CUT_NODES done.answered done.made c.release.ensures.releases c.release.ensures.graph (omega (arith, done.good.shape.low))

pub returns-clause-made : goal.returns-clause-made
returns-clause-made c =
    let done = c.in-Ok.ensures in
    let height = height_at c.args.heap.now c.args.history in
    let low = subst (λ l. height_at c.drop_front.new.heap c.in-Ok.rest ≤ height_at c.args.heap.now l) c.view.ensures done.low in
    omega (arith, (cut-trades c.args.history (2 * height + 1) done.answered done.made c.release.ensures.releases c.release.ensures.graph (omega (arith, low))).made)

pub returns-clause-spares : goal.returns-clause-spares
returns-clause-spares c = room-then (room-spared c.requires.spares c.in-Ok.ensures.spares) (room-freed c.release.ensures.releases)

pub returns-clause-history : goal.returns-clause-history
returns-clause-history c = λ bits ss is.
    let done = c.in-Ok.ensures in
    emptied-history c.args.history done.answered c.release.ensures.keeps bits (drop c.args.states ss) c.requires.held
    (cut-history c.args.states done.answered.extends done.good (subst (λ l. elements c.drop_front.new.heap c.in-Ok.rest ≡ drop c.args.states (elements c.args.heap.now l)) c.view.ensures done.items) is)

use Rattle.std.proofs.Common.{ℕ, ◌≡◌, ◌<◌, length, rules, sym, subst, ◌∙◌, arith}
use Rattle.pool_order.specs.Order.{places, with_new, with_all_new}
use Rattle.pool_order.specs.Laws.{IsReady}
use Rattle.pool_order.proofs.Pending.{steps_left}
use Rattle.pool_order.proofs.Firsts.{count-from_any}
use Rattle.pool_order.proofs.Places.{ready-places}
use Rattle.pool_order.proofs.Walked.{walk-start, walk-done, walk-list, steps-list, turn-skip, turn-enter, turn-skip-steps, turn-enter-steps}
use Rattle.pool_text.specs.Pool.{links_from}
use Rattle.pool_text.proofs.FormRows.{count-same}
use Rattle.pool_text.specs.Listed.{HasPlaces}
use Rattle.pool_text.specs.declared.from_rows.Listed.{Listed}
use Rattle.pool_text.proofs.ListWalk.{turn-of, none-left, ground, visit-low, child-low}
use Rattle.pool_text.proofs.from_rows.walk.Goals as goal

-- there are as many places as rows
own : (n : ℕ) (listed : Listed) → HasPlaces n listed → HasPlaces (length listed.places.items) listed
own n listed has = subst (λ m. HasPlaces m listed) (sym has.many) has

pub loop-visit-init : goal.loop-visit-init
loop-visit-init c = (rw (c.in_ok-push.ensures.items, c.new-stack.ensures.items) (walk-start _ _ _ (ground c.args.rows.now c.requires.linked) _ _ c.requires.root), c.requires.places)

pub offset_bounds-items-visit : goal.offset_bounds-items-visit
offset_bounds-items-visit c =
    let low : c.in-Some.visit.link < length c.args.rows.now = visit-low c.args.rows.now c.requires.linked _ _ _ _ c.in-Some.visit c.in-Some.ensures.items c.loop-visit.invariant.0 in
    let inside : c.in-Some.visit.link < length c.as_slice-items.result.now = omega (arith, low, count-same c.args.rows.now c.as_slice-items.result.now c.as_slice-items.ensures) in
    search rules

pub bounds-items-visit : goal.bounds-items-visit
bounds-items-visit c =
    let low : c.in-Some.visit.link < length c.args.rows.now = visit-low c.args.rows.now c.requires.linked _ _ _ _ c.in-Some.visit c.in-Some.ensures.items c.loop-visit.invariant.0 in
    omega (arith, low, count-same c.args.rows.now c.as_slice-items.result.now c.as_slice-items.ensures)

pub has-requires-clause-places : goal.has-requires-clause-places
has-requires-clause-places c = own (length c.args.rows.now) c.loop-visit.listed c.loop-visit.invariant.1

pub has-requires-clause-low : goal.has-requires-clause-low
has-requires-clause-low c =
    let low : c.in-Some.visit.link < length c.args.rows.now = visit-low c.args.rows.now c.requires.linked _ _ _ _ c.in-Some.visit c.in-Some.ensures.items c.loop-visit.invariant.0 in
    omega (
      arith,
      c.loop-visit.invariant.1.many,
      child-low c.args.rows.now c.requires.linked c.as_slice-items.result.now c.as_slice-items.ensures c.in-Some.visit c.index-items-visit.result low c.index-items-visit.is c.in-Some-link_at.child c.in-Some-link_at.ensures.link,
    )

pub list-requires-clause-places : goal.list-requires-clause-places
list-requires-clause-places c = own (length c.args.rows.now) c.loop-visit.listed c.loop-visit.invariant.1

pub list-requires-clause-low : goal.list-requires-clause-low
list-requires-clause-low c = omega (arith, c.loop-visit.invariant.1.many, visit-low c.args.rows.now c.requires.linked _ _ _ _ c.in-Some.visit c.in-Some.ensures.items c.loop-visit.invariant.0)

pub loop-visit-smaller-in-Continue-branch-3 : goal.loop-visit-smaller-in-Continue-branch-3
loop-visit-smaller-in-Continue-branch-3 c =
    turn-enter-steps _ _ _ (ground c.args.rows.now c.requires.linked) _ _ _ _ c.in-Some.visit _ c.in-Some-link_at.child
    (turn-of c.args.rows.now c.as_slice-items.result.now c.as_slice-items.ensures c.in-Some.visit c.index-items-visit.result
    (visit-low c.args.rows.now c.requires.linked _ _ _ _ c.in-Some.visit c.in-Some.ensures.items c.loop-visit.invariant.0) c.index-items-visit.is _ _ _ c.in-Some-link_at.child c.in-Some.ensures.items c.in_ok-push-in-Some-link_at.ensures.items
    c.in-Some-link_at.ensures.link)
    c.in_ok-push-in-Some-link_at-2.ensures.items

pub loop-visit-preserved-in-Continue-branch-3 : goal.loop-visit-preserved-in-Continue-branch-3
loop-visit-preserved-in-Continue-branch-3 c = (
  turn-enter _ _ _ (ground c.args.rows.now c.requires.linked) _ _ _ _ _ _ c.in-Some.visit _ c.in-Some-link_at.child
      (turn-of c.args.rows.now c.as_slice-items.result.now c.as_slice-items.ensures c.in-Some.visit c.index-items-visit.result
      (visit-low c.args.rows.now c.requires.linked _ _ _ _ c.in-Some.visit c.in-Some.ensures.items c.loop-visit.invariant.0) c.index-items-visit.is _ _ _ c.in-Some-link_at.child c.in-Some.ensures.items c.in_ok-push-in-Some-link_at.ensures.items
      c.in-Some-link_at.ensures.link)
      c.in_ok-push-in-Some-link_at-2.ensures.items c.loop-visit.invariant.0,
  c.loop-visit.invariant.1,
)

pub loop-visit-smaller-else-not-has : goal.loop-visit-smaller-else-not-has
loop-visit-smaller-else-not-has c =
    turn-skip-steps _ _ _ (ground c.args.rows.now c.requires.linked) _ _ _ c.in-Some.visit _ c.in-Some-link_at.child
    (turn-of c.args.rows.now c.as_slice-items.result.now c.as_slice-items.ensures c.in-Some.visit c.index-items-visit.result
    (visit-low c.args.rows.now c.requires.linked _ _ _ _ c.in-Some.visit c.in-Some.ensures.items c.loop-visit.invariant.0) c.index-items-visit.is _ _ _ c.in-Some-link_at.child c.in-Some.ensures.items c.in_ok-push-in-Some-link_at.ensures.items
    c.in-Some-link_at.ensures.link)

pub loop-visit-preserved-else-not-has : goal.loop-visit-preserved-else-not-has
loop-visit-preserved-else-not-has c =
    let grounded = ground c.args.rows.now c.requires.linked in
    let ready : IsReady (links_from c.args.rows.now) (with_all_new c.args.listed.now.rows.items (places (length c.args.rows.now) (links_from c.args.rows.now) c.args.root)) =
    ready-places grounded.rank _ grounded.falls _ c.args.root (grounded.low c.args.root c.requires.root) _ c.requires.ready in (
      turn-skip _ _ _ grounded _ _ ready _ _ _ c.in-Some.visit _ c.in-Some-link_at.child
          (turn-of c.args.rows.now c.as_slice-items.result.now c.as_slice-items.ensures c.in-Some.visit c.index-items-visit.result
          (visit-low c.args.rows.now c.requires.linked _ _ _ _ c.in-Some.visit c.in-Some.ensures.items c.loop-visit.invariant.0) c.index-items-visit.is _ _ _ c.in-Some-link_at.child c.in-Some.ensures.items c.in_ok-push-in-Some-link_at.ensures.items
          c.in-Some-link_at.ensures.link)
          c.loop-visit.invariant.0 (count-from_any c.in-Some-link_at.child c.loop-visit.listed.rows.items c.if-not-has.ensures),
      c.loop-visit.invariant.1,
    )

pub loop-visit-smaller : goal.loop-visit-smaller
loop-visit-smaller c =
    let h : steps_left (length c.args.rows.now) (links_from c.args.rows.now) c.pop.new.self.items < steps_left (length c.args.rows.now) (links_from c.args.rows.now) c.loop-visit.stack.items =
    rw c.in-Some.ensures.items (steps-list _ _ _ (ground c.args.rows.now c.requires.linked) c.pop.new.self.items c.in-Some.visit) in
    h

pub loop-visit-preserved : goal.loop-visit-preserved
loop-visit-preserved c =
    let low : c.in-Some.visit.link < length c.args.rows.now = visit-low c.args.rows.now c.requires.linked _ _ _ _ c.in-Some.visit c.in-Some.ensures.items c.loop-visit.invariant.0 in
    let rows : c.list.new.self.rows.items ≡ with_new c.loop-visit.listed.rows.items c.in-Some.visit.link = c.in_ok-list-in-None.ensures.rows in (
      rw rows
          (walk-list _ _ _ (ground c.args.rows.now c.requires.linked) c.loop-visit.listed.rows.items _ c.pop.new.self.items c.in-Some.visit (rw c.in-Some.ensures.items at c.loop-visit.invariant.0)
          (none-left c.args.rows.now c.as_slice-items.result.now c.as_slice-items.ensures c.in-Some.visit c.index-items-visit.result low c.index-items-visit.is c.in-None.ensures.link)),
      subst (λ n. HasPlaces n c.list.new.self) c.loop-visit.invariant.1.many c.in_ok-list-in-None.ensures.places,
    )

pub returns-clause-rows : goal.returns-clause-rows
returns-clause-rows c =
    walk-done _ _ _ (ground c.args.rows.now c.requires.linked) c.loop-visit.listed.rows.items _ c.loop-visit.stack.items c.loop-visit.invariant.0 (sym c.loop-visit.stack.ok.0 ∙ c.in_default.ensures.cases.0)

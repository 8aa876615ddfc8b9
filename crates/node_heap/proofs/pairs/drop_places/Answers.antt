use Rattle.std.proofs.Common.{◌≤◌, ◌*◌, ℕ, ◌-◌, sym, ap, ◌∙◌, arith, subst}
use Rattle.node_heap.specs.Heap.{places_in}
use Rattle.node_heap.specs.Layout.{IsDying, places_at}
use Rattle.node_heap.specs.Pairs.{more}
use Rattle.node_heap.proofs.Slots.{KeepsRoom-trans}
use Rattle.node_heap.proofs.Written.{reowned}
use Rattle.node_heap.proofs.Dying.{IsLow-sets, at_link}
use Rattle.node_heap.proofs.Dropping.{dropped-live, dropped-stored, dropped-last, dropped-more}
use Rattle.node_heap.proofs.pairs.drop_places.Goals as goal
use Rattle.node_heap.proofs.pairs.drop_places.Goals.{then-owners-eq1, else-owners-eq1}

pub owners_mut-owners-requires : goal.owners_mut-owners-requires
owners_mut-owners-requires g c =
    let links = at_link c.args.links.now c.loop-link.link-index c.link-item.result c.link.inside.place c.loop-link-test.true c.link.view_is c.link-item.is in
    let given = c.requires.dying in
    let few : 2 * given.1 c.link.inside.place ≤ places_at c.loop-link.table.slots c.link.inside.place = omega (arith, given.2 c.link.inside.place, ap (λ xs. places_in xs c.link.inside.place) c.loop-link.invariant.rows) in
    dropped-live given.0 given.1 c.loop-link.table.slots c.loop-link.next c.link.inside.place _ few (subst (IsDying given.0 (more given.1 0 c.loop-link.table.slots) c.loop-link.next) links (c.loop-link.invariant.dying given.0 given.1 given.2 given.3))

pub overflow_sub-owners : goal.overflow_sub-owners
overflow_sub-owners g c =
    let links = at_link c.args.links.now c.loop-link.link-index c.link-item.result c.link.inside.place c.loop-link-test.true c.link.view_is c.link-item.is in
    let given = c.requires.dying in
    let few : 2 * given.1 c.link.inside.place ≤ places_at c.loop-link.table.slots c.link.inside.place = omega (arith, given.2 c.link.inside.place, ap (λ xs. places_in xs c.link.inside.place) c.loop-link.invariant.rows) in
    let stored = dropped-stored given.0 given.1 c.loop-link.table.slots c.loop-link.next c.link.inside.place _ few (subst (IsDying given.0 (more given.1 0 c.loop-link.table.slots) c.loop-link.next) links (c.loop-link.invariant.dying given.0 given.1 given.2 given.3)) in
    omega (arith, stored, sym c.owners_mut-owners.ensures.value)

pub loop-link-preserved : goal.loop-link-preserved
loop-link-preserved g c =
    let table = c.loop-link.table in
    let place = c.link.inside.place in
    let links = at_link c.args.links.now c.loop-link.link-index c.link-item.result place c.loop-link-test.true c.link.view_is c.link-item.is in
    let given = c.requires.dying in
    let few : (C : ℕ → ℕ) → ((k : ℕ) → 2 * C k ≤ places_at c.args.table.now.slots k) → 2 * C place ≤ places_at table.slots place = λ C is. omega (arith, is place, ap (λ xs. places_in xs place) c.loop-link.invariant.rows) in
    let dying = λ (H C : ℕ → ℕ) (is : (k : ℕ) → 2 * C k ≤ places_at c.args.table.now.slots k) (d : IsDying H (more C 0 c.args.table.now.slots) c.args.first c.args.links.now).
    subst (IsDying H (more C 0 table.slots) c.loop-link.next) links (c.loop-link.invariant.dying H C is d) in
    let read = sym c.owners_mut-owners.ensures.value in
    let live = dropped-live given.0 given.1 table.slots c.loop-link.next place _ (few given.1 given.2) (dying given.0 given.1 given.2 given.3) in
    let stored = dropped-stored given.0 given.1 table.slots c.loop-link.next place _ (few given.1 given.2) (dying given.0 given.1 given.2 given.3) in
    elim c.if-owners-eq1.branch [
      | then-owners-eq1 w ↦
          let done = reowned table place c.loop-link.next live in
          rw (w.table-is, w.next-is) record {
            dying = λ H C is d. dropped-last H C table.slots c.loop-link.next place _ (few C is) (dying H C is d) _ done.rows (read ∙ w.if-owners-eq1.true) done.sets (c.loop-link.invariant.low place live);
            low = IsLow-sets table.slots _ place _ done.sets live c.loop-link.invariant.low;
            rows = done.rows ∙ c.loop-link.invariant.rows;
            room = KeepsRoom-trans c.loop-link.invariant.room done.room;
          }
      | else-owners-eq1 w ↦
          let fewer = c.owners_mut-owners.result.now - 1 in
          let done = reowned table place fewer live in
          rw (w.table-is, w.next-is) record {
            dying = λ H C is d. dropped-more H C table.slots c.loop-link.next place _ (few C is) (dying H C is d) _ done.rows fewer (omega (arith, read, stored)) (omega (arith, read, stored, w.if-owners-eq1.false)) done.sets;
            low = IsLow-sets table.slots _ place _ done.sets live c.loop-link.invariant.low;
            rows = done.rows ∙ c.loop-link.invariant.rows;
            room = KeepsRoom-trans c.loop-link.invariant.room done.room;
          }
    ]

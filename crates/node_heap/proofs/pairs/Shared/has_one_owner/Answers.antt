use Rattle.std.proofs.Common.{List, subst, sym, ap, ◌∙◌, arith}
use Rattle.node_heap.specs.Pairs.{common_at, more, IsSharing}
use Rattle.node_heap.specs.Layout.{slot_at, owners_in}
use Rattle.node_heap.specs.declared.pairs.Pair.{Pair}
use Rattle.node_heap.proofs.MoreOwners.{live-more, owners-more, places-more}
use Rattle.node_heap.proofs.PairLemmas.{same-test, test-false, twice}
use Rattle.node_heap.proofs.pairs.Shared.has_one_owner.Goals as goal

pub owners-requires : goal.owners-requires
owners-requires g c =
    let live = rw (← c.self.view_is) at c.requires.live in
    live-more (common_at c.self.inside.table.slots c.self.inside.pairs.items) c.self.inside.table.slots c.args.place live

pub left_out-requires-clause-sharing : goal.left_out-requires-clause-sharing
left_out-requires-clause-sharing g c = subst (λ (ps : List Pair). IsSharing c.self.inside.table.slots ps) (sym c.as_slice.ensures.value) c.self.invariant

pub left_out-requires-clause-fits : goal.left_out-requires-clause-fits
left_out-requires-clause-fits g c =
    let live = rw (← c.self.view_is) at c.requires.live in
    let room = rw (← c.self.view_is) at c.requires.room in
    let C = common_at c.self.inside.table.slots c.self.inside.pairs.items in
    omega (
      arith,
      room,
      owners-more C c.self.inside.table.slots c.args.place (live-more C c.self.inside.table.slots c.args.place live),
      ap (λ (ps : List Pair). common_at c.self.inside.table.slots ps c.args.place) c.as_slice.ensures.value,
    )

-- where it isn't the one owner that is stored, it isn't the one of all
pub returns-then-owners-ne1 : goal.returns-then-owners-ne1
returns-then-owners-ne1 g c =
    let slots = c.self.inside.table.slots in
    let place = c.args.place in
    let C = common_at slots c.self.inside.pairs.items in
    let live = rw (← c.self.view_is) at c.requires.live in
    let counted = rw (← c.self.view_is) at c.requires.counted in
    let exact = owners-more C slots place (live-more C slots place live) in
    let few = twice slots c.self.inside.pairs.items c.self.invariant place in
    rw (← c.self.view_is) (sym (test-false (owners_in (slot_at (more C 0 slots) place)) 1 (λ one. c.if-owners-ne1.true (omega (arith, one, counted, exact, few, c.owners.ensures, places-more C slots place)))))

-- one is stored, and those that are left out are counted
pub returns : goal.returns
returns g c =
    let slots = c.self.inside.table.slots in
    let place = c.args.place in
    let C = common_at slots c.self.inside.pairs.items in
    let live = rw (← c.self.view_is) at c.requires.live in
    let exact = owners-more C slots place (live-more C slots place live) in
    let left = c.left_out.ensures ∙ ap (λ (ps : List Pair). common_at slots ps place) c.as_slice.ensures.value in
    rw (← c.self.view_is)
    (same-test c.left_out.result 0 (owners_in (slot_at (more C 0 slots) place)) 1 (λ none. omega (arith, none, left, exact, c.owners.ensures, c.if-owners-ne1.false))
    (λ one. omega (arith, one, left, exact, c.owners.ensures, c.if-owners-ne1.false)))

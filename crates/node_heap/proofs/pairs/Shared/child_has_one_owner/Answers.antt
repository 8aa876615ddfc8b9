use Rattle.std.proofs.Common.{◌≡◌, List, subst, sym, ap, ◌∙◌, arith}
use Rattle.node_heap.specs.Links.{count}
use Rattle.node_heap.specs.Forms.{links_of}
use Rattle.node_heap.specs.Pairs.{common_at, paired, more, IsSharing}
use Rattle.node_heap.specs.Layout.{slot_at, owners_in}
use Rattle.node_heap.specs.declared.pairs.Pair.{Pair}
use Rattle.node_heap.proofs.MoreOwners.{live-more, owners-more, places-more, graph-more}
use Rattle.node_heap.proofs.PairLemmas.{same-test, test-true, test-false, twice, twice-beside}
use Rattle.node_heap.proofs.pairs.Shared.child_has_one_owner.Goals as goal

pub owners-requires : goal.owners-requires
owners-requires g c =
    let live = rw (← c.self.view_is) at c.requires.live in
    live-more (common_at c.self.inside.table.slots c.self.inside.pairs.items) c.self.inside.table.slots c.args.child live

pub left_out-requires-clause-sharing : goal.left_out-requires-clause-sharing
left_out-requires-clause-sharing g c = subst (λ (ps : List Pair). IsSharing c.self.inside.table.slots ps) (sym c.as_slice-in-Some.ensures.value) c.self.invariant

pub left_out-requires-clause-fits : goal.left_out-requires-clause-fits
left_out-requires-clause-fits g c =
    let live = rw (← c.self.view_is) at c.requires.live in
    let room = rw (← c.self.view_is) at c.requires.room in
    let C = common_at c.self.inside.table.slots c.self.inside.pairs.items in
    omega (
      arith,
      room,
      owners-more C c.self.inside.table.slots c.args.child (live-more C c.self.inside.table.slots c.args.child live),
      ap (λ (ps : List Pair). common_at c.self.inside.table.slots ps c.args.child) c.as_slice-in-Some.ensures.value,
    )

-- where it isn't the one owner that is stored, it isn't the one of all
pub returns-then-owners-ne1 : goal.returns-then-owners-ne1
returns-then-owners-ne1 g c =
    let slots = c.self.inside.table.slots in
    let child = c.args.child in
    let C = common_at slots c.self.inside.pairs.items in
    let live = rw (← c.self.view_is) at c.requires.live in
    let counted = rw (← c.self.view_is) at c.requires.counted in
    let exact = owners-more C slots child (live-more C slots child live) in
    let few = twice slots c.self.inside.pairs.items c.self.invariant child in
    rw (← c.self.view_is) (sym (test-false (owners_in (slot_at (more C 0 slots) child)) 1 (λ one. c.if-owners-ne1.true (omega (arith, one, counted, exact, few, c.owners.ensures, places-more C slots child)))))

-- the row is in no pair, so the place in it is beside those that pairs share
pub returns-in-None : goal.returns-in-None
returns-in-None g c =
    let slots = c.self.inside.table.slots in
    let child = c.args.child in
    let ps = c.self.inside.pairs.items in
    let C = common_at slots ps in
    let live = rw (← c.self.view_is) at c.requires.live in
    let linked = rw (← c.self.view_is) at c.requires.linked in
    let counted = rw (← c.self.view_is) at c.requires.counted in
    let exact = owners-more C slots child (live-more C slots child live) in
    let off = subst (λ (qs : List Pair). count c.args.parent (paired qs) ≡ 0) c.as_slice.ensures.value c.in-None.ensures.none in
    let few = twice-beside slots ps c.self.invariant c.args.parent off child in
    rw (← c.self.view_is)
    (sym (test-true (owners_in (slot_at (more C 0 slots) child)) 1 (omega (arith, linked, counted, exact, few, c.owners.ensures, c.if-owners-ne1.false, places-more C slots child, ap (λ r. count child (links_of r)) (graph-more C slots c.args.parent)))))

-- one is stored, and those that are left out are counted
pub returns-in-Some : goal.returns-in-Some
returns-in-Some g c =
    let slots = c.self.inside.table.slots in
    let child = c.args.child in
    let C = common_at slots c.self.inside.pairs.items in
    let live = rw (← c.self.view_is) at c.requires.live in
    let exact = owners-more C slots child (live-more C slots child live) in
    let left = c.left_out.ensures ∙ ap (λ (ps : List Pair). common_at slots ps child) c.as_slice-in-Some.ensures.value in
    rw (← c.self.view_is)
    (same-test c.left_out.result 0 (owners_in (slot_at (more C 0 slots) child)) 1 (λ none. omega (arith, none, left, exact, c.owners.ensures, c.if-owners-ne1.false))
    (λ one. omega (arith, one, left, exact, c.owners.ensures, c.if-owners-ne1.false)))

use Rattle.std.proofs.Common.{arith}
use Rattle.node_heap.specs.Pairs.{common_at, more}
use Rattle.node_heap.specs.Layout.{slot_at, owners_in}
use Rattle.node_heap.proofs.MoreOwners.{live-more, owners-more, places-more}
use Rattle.node_heap.proofs.PairLemmas.{same-test, twice}
use Rattle.node_heap.proofs.pairs.Shared.held_has_one_owner.Goals as goal

pub owners-requires : goal.owners-requires
owners-requires g c =
    let live = rw (← c.self.view_is) at c.requires.live in
    live-more (common_at c.self.inside.table.slots c.self.inside.pairs.items) c.self.inside.table.slots c.args.place live

-- no pair has the row among its common links, where it has one owner or one is stored
pub returns : goal.returns
returns g c =
    let slots = c.self.inside.table.slots in
    let place = c.args.place in
    let C = common_at slots c.self.inside.pairs.items in
    let live = rw (← c.self.view_is) at c.requires.live in
    let held = rw (← c.self.view_is) at c.requires.held in
    let exact = owners-more C slots place (live-more C slots place live) in
    let few = twice slots c.self.inside.pairs.items c.self.invariant place in
    rw (← c.self.view_is)
    (same-test c.owners.result 1 (owners_in (slot_at (more C 0 slots) place)) 1 (λ one. omega (arith, one, held, exact, few, c.owners.ensures, places-more C slots place))
    (λ one. omega (arith, one, held, exact, few, c.owners.ensures, places-more C slots place)))

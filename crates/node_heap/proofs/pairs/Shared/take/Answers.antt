use Rattle.std.proofs.Common.{◌≡◌, sym, ◌∙◌, arith}
use Rattle.node_heap.specs.Layout.{places_at}
use Rattle.node_heap.specs.Pairs.{common_at}
use Rattle.node_heap.proofs.MoreOwners.{live-more, owners-more, places-more}
use Rattle.node_heap.proofs.PairLemmas.{twice}
use Rattle.node_heap.proofs.Leaving.{gives, own-inside}
use Rattle.node_heap.proofs.pairs.Shared.take.Given.{Over}
use Rattle.node_heap.proofs.pairs.Shared.take.Goals as goal

pub leave_pair-requires-clause-live : goal.leave_pair-requires-clause-live
leave_pair-requires-clause-live g c =
    let live = rw (← c.self.view_is) at c.requires.live in
    live-more (common_at c.self.inside.table.slots c.self.inside.pairs.items) c.self.inside.table.slots c.args.place live

pub leave_pair-requires-clause-inside : goal.leave_pair-requires-clause-inside
leave_pair-requires-clause-inside g c i d lt one_of = own-inside c.self.inside.table.slots c.args.place _ (c.self.invariant.each i d lt) one_of

pub take-requires : goal.take-requires
take-requires g c =
    let live = rw (← c.self.view_is) at c.requires.live in
    live-more (common_at c.self.inside.table.slots c.self.inside.pairs.items) c.self.inside.table.slots c.args.place live

-- no row leads to the row
free : (g : Over) (c : goal.After-take g) → places_at c.self.inside.table.slots c.args.place ≡ 0
free g c =
    let unplaced = rw (← c.self.view_is) at c.requires.unplaced in
    sym (places-more (common_at c.self.inside.table.slots c.self.inside.pairs.items) c.self.inside.table.slots c.args.place) ∙ unplaced

pub invariant_of-self : goal.invariant_of-self
invariant_of-self g c = (gives c.take.ensures.takes (free g c) c.self.invariant c.leave_pair.ensures).0

pub returns-clause-owners : goal.returns-clause-owners
returns-clause-owners g c =
    let live = rw (← c.self.view_is) at c.requires.live in
    let C = common_at c.self.inside.table.slots c.self.inside.pairs.items in
    let there = live-more C c.self.inside.table.slots c.args.place live in
    rw (← c.self.view_is)
    (omega (arith, c.take.ensures.owners, owners-more C c.self.inside.table.slots c.args.place there, twice c.self.inside.table.slots c.self.inside.pairs.items c.self.invariant c.args.place, free g c))

pub returns-clause-gives : goal.returns-clause-gives
returns-clause-gives g c = rw (← c.self.view_is) (gives c.take.ensures.takes (free g c) c.self.invariant c.leave_pair.ensures).1

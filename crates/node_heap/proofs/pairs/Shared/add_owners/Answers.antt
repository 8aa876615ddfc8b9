use Rattle.std.proofs.Common.{sym, ◌∙◌, arith, eqb}
use Rattle.std.proofs.lemmas.List.Sums.{count_by-le-length}
use Rattle.node_heap.specs.Pairs.{common_at}
use Rattle.node_heap.proofs.MoreOwners.{live-more, owners-all, rows-more}
use Rattle.node_heap.proofs.PairLemmas.{common-rows, sharing-rows}
use Rattle.node_heap.proofs.SharedTable.{room-shared}
use Rattle.node_heap.proofs.pairs.Shared.add_owners.Goals as goal

pub add_owners-requires-clause-live : goal.add_owners-requires-clause-live
add_owners-requires-clause-live g c l has =
    let live = rw (← c.self.view_is) at c.requires.live in
    live-more (common_at c.self.inside.table.slots c.self.inside.pairs.items) c.self.inside.table.slots l (live l has)

pub add_owners-requires-clause-room : goal.add_owners-requires-clause-room
add_owners-requires-clause-room g c l =
    let room = rw (← c.self.view_is) at c.requires.room in
    omega (arith, room l, owners-all (common_at c.self.inside.table.slots c.self.inside.pairs.items) c.self.inside.table.slots c.self.invariant.linked l, count_by-le-length (λ k. eqb k l) c.args.links.now)

pub invariant_of-self : goal.invariant_of-self
invariant_of-self g c = sharing-rows c.self.inside.table.slots c.add_owners.new.table.slots c.self.inside.pairs.items c.add_owners.ensures.rows c.self.invariant

pub returns-clause-owners : goal.returns-clause-owners
returns-clause-owners g c l =
    let new = c.add_owners.new.table.slots in
    rw (← c.self.view_is)
    (omega (arith, owners-all (common_at c.self.inside.table.slots c.self.inside.pairs.items) c.self.inside.table.slots c.self.invariant.linked l, owners-all (common_at new c.self.inside.pairs.items) new (invariant_of-self g c).linked l, common-rows c.self.inside.table.slots new c.self.inside.pairs.items c.add_owners.ensures.rows l, c.add_owners.ensures.owners l))

pub returns-clause-rows : goal.returns-clause-rows
returns-clause-rows g c =
    let new = c.add_owners.new.table.slots in
    rw (← c.self.view_is) (rows-more (common_at new c.self.inside.pairs.items) new ∙ c.add_owners.ensures.rows ∙ sym (rows-more (common_at c.self.inside.table.slots c.self.inside.pairs.items) c.self.inside.table.slots))

pub returns-clause-room : goal.returns-clause-room
returns-clause-room g c = rw (← c.self.view_is) (room-shared c.self.inside.pairs.items c.self.inside.pairs.items c.add_owners.ensures.room)

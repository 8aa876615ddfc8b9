use Rattle.std.proofs.Common.{sym, ◌∙◌}
use Rattle.node_heap.specs.Pairs.{common_at}
use Rattle.node_heap.proofs.MoreOwners.{live-more, more-live, more-same, rows-more}
use Rattle.node_heap.proofs.PairLemmas.{common-rows, sharing-rows, twice}
use Rattle.node_heap.proofs.SharedTable.{room-shared}
use Rattle.node_heap.proofs.pairs.Shared.drop_places.Goals as goal

pub drop_places-requires-clause-dying : goal.drop_places-requires-clause-dying
drop_places-requires-clause-dying g c =
    let dying = rw (← c.self.view_is) at c.requires.dying in
    (dying.0, (common_at c.self.inside.table.slots c.self.inside.pairs.items), twice c.self.inside.table.slots c.self.inside.pairs.items c.self.invariant, dying.1)

pub drop_places-requires-clause-low : goal.drop_places-requires-clause-low
drop_places-requires-clause-low g c l live =
    let low = rw (← c.self.view_is) at c.requires.low in
    low l (more-live (common_at c.self.inside.table.slots c.self.inside.pairs.items) c.self.inside.table.slots l live)

pub invariant_of-self : goal.invariant_of-self
invariant_of-self g c = sharing-rows c.self.inside.table.slots c.drop_places.new.table.slots c.self.inside.pairs.items c.drop_places.ensures.rows c.self.invariant

pub returns-clause-dropped : goal.returns-clause-dropped
returns-clause-dropped g c H d =
    let new = c.drop_places.new.table.slots in
    let was = rw (← c.self.view_is) at d in
    rw (more-same (common_at new c.self.inside.pairs.items) (common_at c.self.inside.table.slots c.self.inside.pairs.items) new (common-rows c.self.inside.table.slots new c.self.inside.pairs.items c.drop_places.ensures.rows))
    (c.drop_places.ensures.dropped H (common_at c.self.inside.table.slots c.self.inside.pairs.items) (twice c.self.inside.table.slots c.self.inside.pairs.items c.self.invariant) was)

pub returns-clause-rows : goal.returns-clause-rows
returns-clause-rows g c =
    let new = c.drop_places.new.table.slots in
    rw (← c.self.view_is) (rows-more (common_at new c.self.inside.pairs.items) new ∙ c.drop_places.ensures.rows ∙ sym (rows-more (common_at c.self.inside.table.slots c.self.inside.pairs.items) c.self.inside.table.slots))

pub returns-clause-low : goal.returns-clause-low
returns-clause-low g c l live =
    let new = c.drop_places.new.table.slots in
    c.drop_places.ensures.low l (live-more (common_at new c.self.inside.pairs.items) new l live)

pub returns-clause-room : goal.returns-clause-room
returns-clause-room g c = rw (← c.self.view_is) (room-shared c.self.inside.pairs.items c.self.inside.pairs.items c.drop_places.ensures.room)

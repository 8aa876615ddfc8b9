use Rattle.std.proofs.Common.{length, ap, sym, ◌∙◌, arith}
use Rattle.node_heap.specs.Forms.{links_of}
use Rattle.node_heap.specs.Layout.{slot_at}
use Rattle.node_heap.specs.Pairs.{common_at}
use Rattle.node_heap.proofs.Slots.{KeepsRoom-trans}
use Rattle.node_heap.proofs.MoreOwners.{graph-more, owners-all}
use Rattle.node_heap.proofs.PairLemmas.{graph-rows}
use Rattle.node_heap.proofs.SharedTable.{sharing-wrote, wrote-shared, slot-alike, rewrites-alike, live-long, room-shared}
use Rattle.node_heap.proofs.pairs.Shared.remove_link.Goals as goal

pub part_row-requires-clause-sharing : goal.part_row-requires-clause-sharing
part_row-requires-clause-sharing g c = c.self.invariant

pub part_row-requires-clause-room : goal.part_row-requires-clause-room
part_row-requires-clause-room g c l =
    let room = rw (← c.self.view_is) at c.requires.room in
    omega (arith, room l, owners-all (common_at c.self.inside.table.slots c.self.inside.pairs.items) c.self.inside.table.slots c.self.invariant.linked l)

pub remove_link-requires : goal.remove_link-requires
remove_link-requires g c =
    let inside = rw (← c.self.view_is) at c.requires.index in
    omega (arith, inside, ap (λ r. length (links_of r)) (graph-more (common_at c.self.inside.table.slots c.self.inside.pairs.items) c.self.inside.table.slots c.args.place), ap (λ r. length (links_of r)) (graph-rows c.self.inside.table.slots c.part_row.new.table.slots c.part_row.ensures.alike.rows c.args.place))

pub invariant_of-self : goal.invariant_of-self
invariant_of-self g c =
    let inside = rw (← c.self.view_is) at c.requires.index in
    let same = graph-rows c.self.inside.table.slots c.part_row.new.table.slots c.part_row.ensures.alike.rows c.args.place ∙ sym (graph-more (common_at c.self.inside.table.slots c.self.inside.pairs.items) c.self.inside.table.slots c.args.place) in
    let there = live-long (slot_at c.part_row.new.table.slots c.args.place) c.args.index (omega (arith, inside, ap (λ r. length (links_of r)) same)) in
    sharing-wrote c.remove_link.ensures.rewrites there c.part_row.ensures.sharing c.part_row.ensures.apart

pub returns-clause-old : goal.returns-clause-old
returns-clause-old g c =
    let same = graph-rows c.self.inside.table.slots c.part_row.new.table.slots c.part_row.ensures.alike.rows c.args.place ∙ sym (graph-more (common_at c.self.inside.table.slots c.self.inside.pairs.items) c.self.inside.table.slots c.args.place) in
    rw (← c.self.view_is) (rw (sym same) c.remove_link.ensures.old)

pub returns-clause-rewrites : goal.returns-clause-rewrites
returns-clause-rewrites g c =
    let inside = rw (← c.self.view_is) at c.requires.index in
    let same = graph-rows c.self.inside.table.slots c.part_row.new.table.slots c.part_row.ensures.alike.rows c.args.place ∙ sym (graph-more (common_at c.self.inside.table.slots c.self.inside.pairs.items) c.self.inside.table.slots c.args.place) in
    let there = live-long (slot_at c.part_row.new.table.slots c.args.place) c.args.index (omega (arith, inside, ap (λ r. length (links_of r)) same)) in
    rw (← c.self.view_is) (rw (sym same) (rewrites-alike (slot-alike c.part_row.ensures.alike c.self.invariant c.part_row.ensures.sharing) (wrote-shared c.remove_link.ensures.rewrites there c.part_row.ensures.sharing c.part_row.ensures.apart)))

pub returns-clause-room : goal.returns-clause-room
returns-clause-room g c = rw (← c.self.view_is) (room-shared c.self.inside.pairs.items c.part_row.new.pairs.items (KeepsRoom-trans c.part_row.ensures.alike.room c.remove_link.ensures.room))

use Rattle.std.proofs.Common.{length, ap, sym, ◌∙◌, arith}
use Rattle.node_heap.specs.Forms.{links_of, is_node}
use Rattle.node_heap.specs.Layout.{slot_at}
use Rattle.node_heap.specs.Pairs.{common_at}
use Rattle.node_heap.proofs.Slots.{KeepsRoom-trans}
use Rattle.node_heap.proofs.MoreOwners.{graph-more, owners-all}
use Rattle.node_heap.proofs.PairLemmas.{graph-rows}
use Rattle.node_heap.proofs.SharedTable.{sharing-wrote, wrote-shared, slot-alike, rewrites-alike, live-node, room-shared}
use Rattle.node_heap.proofs.pairs.Shared.insert_link.Goals as goal

pub part_row-requires-clause-sharing : goal.part_row-requires-clause-sharing
part_row-requires-clause-sharing g c = c.self.invariant

pub part_row-requires-clause-room : goal.part_row-requires-clause-room
part_row-requires-clause-room g c l =
    let room = rw (← c.self.view_is) at c.requires.room in
    omega (arith, room l, owners-all (common_at c.self.inside.table.slots c.self.inside.pairs.items) c.self.inside.table.slots c.self.invariant.linked l)

pub insert_link-requires-clause-node : goal.insert_link-requires-clause-node
insert_link-requires-clause-node g c =
    let there_is = rw (← c.self.view_is) at c.requires.node in
    ap is_node (graph-rows c.self.inside.table.slots c.part_row.new.table.slots c.part_row.ensures.alike.rows c.args.place ∙ sym (graph-more (common_at c.self.inside.table.slots c.self.inside.pairs.items) c.self.inside.table.slots c.args.place)) ∙ there_is

pub insert_link-requires-clause-index : goal.insert_link-requires-clause-index
insert_link-requires-clause-index g c =
    let inside = rw (← c.self.view_is) at c.requires.index in
    omega (arith, inside, ap (λ r. length (links_of r)) (graph-more (common_at c.self.inside.table.slots c.self.inside.pairs.items) c.self.inside.table.slots c.args.place), ap (λ r. length (links_of r)) (graph-rows c.self.inside.table.slots c.part_row.new.table.slots c.part_row.ensures.alike.rows c.args.place))

pub insert_link-requires-clause-room : goal.insert_link-requires-clause-room
insert_link-requires-clause-room g c =
    let short = rw (← c.self.view_is) at c.requires.short in
    omega (arith, short, ap (λ r. length (links_of r)) (graph-more (common_at c.self.inside.table.slots c.self.inside.pairs.items) c.self.inside.table.slots c.args.place), ap (λ r. length (links_of r)) (graph-rows c.self.inside.table.slots c.part_row.new.table.slots c.part_row.ensures.alike.rows c.args.place))

pub invariant_of-self : goal.invariant_of-self
invariant_of-self g c =
    let there_is = rw (← c.self.view_is) at c.requires.node in
    let there = live-node (slot_at c.part_row.new.table.slots c.args.place) (ap is_node (graph-rows c.self.inside.table.slots c.part_row.new.table.slots c.part_row.ensures.alike.rows c.args.place ∙ sym (graph-more (common_at c.self.inside.table.slots c.self.inside.pairs.items) c.self.inside.table.slots c.args.place)) ∙ there_is) in
    sharing-wrote c.insert_link.ensures.rewrites there c.part_row.ensures.sharing c.part_row.ensures.apart

pub returns-clause-rewrites : goal.returns-clause-rewrites
returns-clause-rewrites g c =
    let there_is = rw (← c.self.view_is) at c.requires.node in
    let same = graph-rows c.self.inside.table.slots c.part_row.new.table.slots c.part_row.ensures.alike.rows c.args.place ∙ sym (graph-more (common_at c.self.inside.table.slots c.self.inside.pairs.items) c.self.inside.table.slots c.args.place) in
    let there = live-node (slot_at c.part_row.new.table.slots c.args.place) (ap is_node same ∙ there_is) in
    rw (← c.self.view_is) (rw (sym same) (rewrites-alike (slot-alike c.part_row.ensures.alike c.self.invariant c.part_row.ensures.sharing) (wrote-shared c.insert_link.ensures.rewrites there c.part_row.ensures.sharing c.part_row.ensures.apart)))

pub returns-clause-room : goal.returns-clause-room
returns-clause-room g c = rw (← c.self.view_is) (room-shared c.self.inside.pairs.items c.part_row.new.pairs.items (KeepsRoom-trans c.part_row.ensures.alike.room c.insert_link.ensures.room))

use Rattle.std.proofs.Common.{ap, sym, ◌∙◌}
use Rattle.node_heap.specs.Forms.{is_node}
use Rattle.node_heap.specs.Layout.{slot_at}
use Rattle.node_heap.specs.Pairs.{common_at}
use Rattle.node_heap.proofs.MoreOwners.{graph-more}
use Rattle.node_heap.proofs.SharedTable.{sharing-headed, headed-shared, live-node, room-shared}
use Rattle.node_heap.proofs.pairs.Shared.set_head.Goals as goal

pub set_head-requires : goal.set_head-requires
set_head-requires g c =
    let there_is = rw (← c.self.view_is) at c.requires in
    ap is_node (sym (graph-more (common_at c.self.inside.table.slots c.self.inside.pairs.items) c.self.inside.table.slots c.args.place)) ∙ there_is

pub invariant_of-self : goal.invariant_of-self
invariant_of-self g c =
    let there_is = rw (← c.self.view_is) at c.requires in
    sharing-headed c.set_head.ensures.rewrites (live-node (slot_at c.self.inside.table.slots c.args.place) (ap is_node (sym (graph-more (common_at c.self.inside.table.slots c.self.inside.pairs.items) c.self.inside.table.slots c.args.place)) ∙ there_is)) c.self.invariant

pub returns-clause-rewrites : goal.returns-clause-rewrites
returns-clause-rewrites g c =
    let there_is = rw (← c.self.view_is) at c.requires in
    rw (← c.self.view_is)
    (rw (graph-more (common_at c.self.inside.table.slots c.self.inside.pairs.items) c.self.inside.table.slots c.args.place)
    (headed-shared c.set_head.ensures.rewrites (live-node (slot_at c.self.inside.table.slots c.args.place) (ap is_node (sym (graph-more (common_at c.self.inside.table.slots c.self.inside.pairs.items) c.self.inside.table.slots c.args.place)) ∙ there_is)) c.self.invariant))

pub returns-clause-room : goal.returns-clause-room
returns-clause-room g c = rw (← c.self.view_is) (room-shared c.self.inside.pairs.items c.self.inside.pairs.items c.set_head.ensures.room)

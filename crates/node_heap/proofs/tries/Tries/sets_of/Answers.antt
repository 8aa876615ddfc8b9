use Rattle.std.proofs.Common.{lit<}
use Rattle.node_heap.specs.Tries.{head_beside}
use Rattle.node_heap.proofs.Telling.{live-told, sets-told}
use Rattle.node_heap.proofs.tries.Tries.sets_of.Goals as goal

pub head-requires : goal.head-requires
head-requires c = (lit< tt, (lit< tt, live-told (head_beside c.self.inside.twig_heads.items c.self.inside.fork_heads.items) c.self.inside.rooms.slots c.args.index (rw (← c.self.view_is) at c.requires)))

pub returns : goal.returns
returns c = rw (← c.self.view_is) (sets-told c.self.invariant c.args.index c.head.result c.head.ensures)

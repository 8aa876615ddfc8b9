use Rattle.std.proofs.Common.{sym, ◌∙◌, lit<}
use Rattle.node_heap.specs.Tries.{head_beside}
use Rattle.node_heap.proofs.Telling.{live-told, owners-told}
use Rattle.node_heap.proofs.tries.Tries.owners.Goals as goal

pub owners-requires : goal.owners-requires
owners-requires c = (lit< tt, (lit< tt, live-told (head_beside c.self.inside.twig_heads.items c.self.inside.fork_heads.items) c.self.inside.rooms.slots c.args.index (rw (← c.self.view_is) at c.requires)))

pub returns : goal.returns
returns c = rw (← c.self.view_is) (c.owners.ensures ∙ sym (owners-told (head_beside c.self.inside.twig_heads.items c.self.inside.fork_heads.items) c.self.inside.rooms.slots c.args.index))

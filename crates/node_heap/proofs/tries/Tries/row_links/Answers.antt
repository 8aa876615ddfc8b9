use Rattle.std.proofs.Common.{sym, ◌∙◌, arith, lit<}
use Rattle.node_heap.specs.Tries.{head_beside}
use Rattle.node_heap.proofs.Telling.{live-told, links-told}
use Rattle.node_heap.proofs.tries.Tries.row_links.Goals as goal

pub row_links-requires : goal.row_links-requires
row_links-requires c = (lit< tt, (lit< tt, (omega arith, live-told (head_beside c.self.inside.twig_heads.items c.self.inside.fork_heads.items) c.self.inside.rooms.slots c.args.index (rw (← c.self.view_is) at c.requires))))

pub returns : goal.returns
returns c = rw (← c.self.view_is) (c.row_links.ensures ∙ sym (links-told (head_beside c.self.inside.twig_heads.items c.self.inside.fork_heads.items) c.self.inside.rooms.slots c.args.index))

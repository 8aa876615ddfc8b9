use Rattle.std.proofs.Common.{ap, ◌∙◌, lit<, Some}
use Rattle.std.specs.Prelude.{option_map}
use Rattle.node_heap.specs.Forms.{sums_of}
use Rattle.node_heap.specs.Tries.{head_beside}
use Rattle.node_heap.proofs.Telling.{live-told, trie-told}
use Rattle.node_heap.proofs.tries.Tries.sums.Goals as goal

pub head-requires : goal.head-requires
head-requires c = (lit< tt, (lit< tt, live-told (head_beside c.self.inside.twig_heads.items c.self.inside.fork_heads.items) c.self.inside.rooms.slots c.args.index (rw (← c.self.view_is) at c.requires)))

pub returns-in-Trie : goal.returns-in-Trie
returns-in-Trie c = rw (← c.self.view_is) (ap (option_map sums_of) (trie-told c.self.invariant c.args.index c.in-Trie.depth c.in-Trie.entries c.in-Trie.nodes (c.head.ensures ∙ ap Some c.in-Trie.is)))

use Rattle.std.proofs.Common.{sym, ap, ◌∙◌}
use Rattle.node_heap.specs.Forms.{head_of, links_of}
use Rattle.node_heap.specs.Pairs.{common_at}
use Rattle.node_heap.proofs.MoreOwners.{graph-more}
use Rattle.node_heap.proofs.pairs.Shared.trie.Goals as goal

pub trie-requires : goal.trie-requires
trie-requires g c =
    let is = rw (← c.self.view_is) at c.requires in
    (is.0, is.1, is.2, ap head_of (sym (graph-more (common_at c.self.inside.table.slots c.self.inside.pairs.items) c.self.inside.table.slots c.args.place)) ∙ is.3)

pub returns-clause-sets : goal.returns-clause-sets
returns-clause-sets g c = rw (← c.self.view_is) (c.trie.ensures.sets.0, ap head_of (graph-more (common_at c.self.inside.table.slots c.self.inside.pairs.items) c.self.inside.table.slots c.args.place) ∙ c.trie.ensures.sets.1)

pub returns-clause-links : goal.returns-clause-links
returns-clause-links g c = rw (← c.self.view_is) (c.trie.ensures.links ∙ ap links_of (sym (graph-more (common_at c.self.inside.table.slots c.self.inside.pairs.items) c.self.inside.table.slots c.args.place)))

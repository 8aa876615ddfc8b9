use Rattle.std.proofs.Common.{sym, ◌∙◌}
use Rattle.node_heap.proofs.Placed.{headed-odd, node-head, node-links}
use Rattle.node_heap.proofs.table.Table.trie.Goals as goal

pub trie-requires : goal.trie-requires
trie-requires g c =
    let r = c.requires in
    (r.0, r.1, r.2, sym (node-head _ _ c.self.view_is c.args.place (headed-odd _ _ c.self.view_is c.args.place _ r.3)) ∙ r.3)

pub returns-clause-sets : goal.returns-clause-sets
returns-clause-sets g c =
    let done = c.trie.ensures.sets in
    (done.0, node-head _ _ c.self.view_is c.args.place (headed-odd _ _ c.self.view_is c.args.place _ c.requires.3) ∙ done.1)

pub returns-clause-links : goal.returns-clause-links
returns-clause-links g c = c.trie.ensures.links ∙ sym (node-links _ _ c.self.view_is c.args.place (headed-odd _ _ c.self.view_is c.args.place _ c.requires.3))

use Rattle.std.proofs.Common.{◌≡◌, ◌+◌, ◌∙◌, sym, ap, subst, arith}
use Rattle.std.specs.List.{insert}
use Rattle.champ_trie.specs.Bits.{rank}
use Rattle.champ_trie.specs.Trie.{AreSets, place_of}
use Rattle.champ_trie.proofs.BitLemmas.{rank-mono}
use Rattle.champ_trie.proofs.PlaceLemmas.{place-free, put-node}
use Rattle.pool_carry.proofs.sets_and_links.SetsAndLinks.put_node.Goals as goal

pub insert-requires : goal.insert-requires
insert-requires c =
    omega (arith, c.node_index-index.ensures, c.requires.sets.count, rank-mono c.args.self.now.nodes c.args.position 32 (omega (arith, c.requires.position)), c.args.self.now.links.ok.0)

pub returns-clause-sets : goal.returns-clause-sets
returns-clause-sets c =
    let free = place-free c.args.self.now.entries c.args.self.now.nodes c.args.self.now.links.items c.args.position c.requires.free in
    let changed = put-node c.args.self.now.entries c.args.self.now.nodes c.args.self.now.links.items c.args.position c.requires.position c.requires.sets c.with_position-self.result c.args.node c.with_position-self.type_inv free.0 free.1 c.with_position-self.ensures in
    let items : c.insert.new.self.items ≡ insert c.args.self.now.links.items (rank c.args.self.now.entries 32 + rank c.args.self.now.nodes c.args.position) c.args.node = c.in_ok-insert.ensures.items ∙ ap (λ i. insert c.args.self.now.links.items i c.args.node) c.node_index-index.ensures in
    subst (AreSets c.args.self.now.entries c.with_position-self.result) (sym items) changed.sets

pub returns-clause-here : goal.returns-clause-here
returns-clause-here c =
    let free = place-free c.args.self.now.entries c.args.self.now.nodes c.args.self.now.links.items c.args.position c.requires.free in
    let changed = put-node c.args.self.now.entries c.args.self.now.nodes c.args.self.now.links.items c.args.position c.requires.position c.requires.sets c.with_position-self.result c.args.node c.with_position-self.type_inv free.0 free.1 c.with_position-self.ensures in
    let items : c.insert.new.self.items ≡ insert c.args.self.now.links.items (rank c.args.self.now.entries 32 + rank c.args.self.now.nodes c.args.position) c.args.node = c.in_ok-insert.ensures.items ∙ ap (λ i. insert c.args.self.now.links.items i c.args.node) c.node_index-index.ensures in
    ap (λ xs. place_of c.args.self.now.entries c.with_position-self.result xs c.args.position) items ∙ changed.here

pub returns-clause-others : goal.returns-clause-others
returns-clause-others c =
    let free = place-free c.args.self.now.entries c.args.self.now.nodes c.args.self.now.links.items c.args.position c.requires.free in
    let changed = put-node c.args.self.now.entries c.args.self.now.nodes c.args.self.now.links.items c.args.position c.requires.position c.requires.sets c.with_position-self.result c.args.node c.with_position-self.type_inv free.0 free.1 c.with_position-self.ensures in
    let items : c.insert.new.self.items ≡ insert c.args.self.now.links.items (rank c.args.self.now.entries 32 + rank c.args.self.now.nodes c.args.position) c.args.node = c.in_ok-insert.ensures.items ∙ ap (λ i. insert c.args.self.now.links.items i c.args.node) c.node_index-index.ensures in
    λ p low other. ap (λ xs. place_of c.args.self.now.entries c.with_position-self.result xs p) items ∙ changed.others p low other

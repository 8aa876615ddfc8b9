use Rattle.std.proofs.Common.{◌≡◌, ◌∙◌, sym, subst, Some}
use Rattle.node_heap.specs.Forms.{node, trie}
use Rattle.node_heap.specs.Heap.{form_at}
use Rattle.champ_trie.specs.Trie.{code_by}
use Rattle.set_merge.specs.declared.side.Side.TheVariants.{Row}
use Rattle.set_merge.specs.Side.{HasRow, IsSide}
use Rattle.set_merge.proofs.side.Side.of.Goals as goal

pub trie-sets-requires : goal.trie-sets-requires
trie-sets-requires g c =
    let row = subst (HasRow (form_at c.args.heap.now) c.args.depth) c.in-Node.is c.requires.row in
    (row.0, row.1, row.2, (c.args.depth, row.3.row))

pub returns-in-Node : goal.returns-in-Node
returns-in-Node g c =
    let row = subst (HasRow (form_at c.args.heap.now) c.args.depth) c.in-Node.is c.requires.row in
    let read = c.trie-sets.ensures in
    let same : Some (node (trie c.args.depth row.0 row.1) row.2) ≡ Some (node (trie read.0 c.trie-sets.result.entries c.trie-sets.result.nodes) c.trie-sets.result.links.now) = sym row.3.row ∙ read.1 in
    let is : Row c.in-Node.row c.trie-sets.result.entries c.trie-sets.result.nodes ≡ Row c.in-Node.row row.0 row.1 = cc in
    subst (λ p. IsSide (code_by g.T.Element.code_of c.args.bits) (form_at c.args.heap.now) c.args.depth p (Row c.in-Node.row c.trie-sets.result.entries c.trie-sets.result.nodes)) (sym c.in-Node.is) (row.0, row.1, row.2, row.3, is)

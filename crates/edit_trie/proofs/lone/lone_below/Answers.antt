use Rattle.std.proofs.Common.{rules, arith, ◌+◌, ◌*◌, ◌<◌, ◌≤◌, ◌^◌, ◌∙◌, sym, ap, subst, length}
use Rattle.node_heap.specs.Heap.{form_at, links_at}
use Rattle.champ_trie.specs.Trie.{code_by}
use Rattle.champ_trie.specs.Edit.{IsBelow}
use Rattle.edit_trie.proofs.LoneLemmas.{link-at}
use Rattle.edit_trie.proofs.lone.lone_below.Goals as goal

pub offset_bounds-links-index : goal.offset_bounds-links-index
offset_bounds-links-index g c =
    let short : length (links_at c.args.heap.now c.args.row) ≤ 32 = c.links-links.ensures.graph.short c.args.row in
    let small : c.args.index * 8 < 2 ^ 64 = omega (arith, c.requires.index, short) in
    search rules

pub bounds-links-index : goal.bounds-links-index
bounds-links-index g c = omega (arith, c.requires.index, ap length c.links-links.ensures.links)

pub lone_beside-requires-clause-node : goal.lone_beside-requires-clause-node
lone_beside-requires-clause-node g c =
    let at = link-at c.links-links.result.now (links_at c.args.heap.now c.args.row) c.args.index c.index-links-index.result c.index-links-index.is c.links-links.ensures.links c.requires.index in
    rw at c.requires.node

pub returns-then-links-eq1 : goal.returns-then-links-eq1
returns-then-links-eq1 g c = record { lone = λ E left below there two few. few c.if-depth-gt0.true (sym (ap length c.links-links.ensures.links) ∙ c.if-links-eq1.true) }

pub returns : goal.returns
returns g c =
    let at = link-at c.links-links.result.now (links_at c.args.heap.now c.args.row) c.args.index c.index-links-index.result c.index-links-index.is c.links-links.ensures.links c.requires.index in
    record { lone = λ E left below there two few. c.lone_beside.ensures.lone E left (subst (λ l. IsBelow g.T.Ord.cmp (code_by g.T.Element.code_of c.args.bits) (form_at c.args.heap.now) (c.args.depth + 1) l E left c.args.code) (sym at) below) there two }

use Rattle.std.proofs.Common.{◌<◌, List, ℕ, length, arith, subst}
use Rattle.node_heap.specs.Links.{count}
use Rattle.champ_trie.proofs.HoldLemmas.{count-at}
use Rattle.vector_tests.proofs.editing.Placed.first.Goals as goal

pub number_in-requires : goal.number_in-requires
number_in-requires c =
    let item = c.in_ok-first.ensures.item in
    let first = c.in_ok-first.first.now in
    let inside : 0 < length c.links.result.now = omega (arith, item.3.0) in
    c.links.ensures.graph.closed c.self.inside.pair first
    (subst (λ (ls : List ℕ). 0 < count first ls) c.links.ensures.links (count-at c.links.result.now 0 first inside item.1))

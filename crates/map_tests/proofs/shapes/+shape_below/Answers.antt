use Rattle.std.proofs.Common.{◌<◌, ◌-◌, List, ℕ, length, arith, subst}
use Rattle.node_heap.specs.Links.{count}
use Rattle.champ_trie.proofs.HoldLemmas.{count-at}
use Rattle.map_tests.proofs.shapes.+shape_below.Goals as goal

pub shape_below-requires : goal.shape_below-requires
shape_below-requires g t c κs within =
    let item = c.in_ok-last.ensures.item in
    let last = c.in_ok-last.last.now in
    let inside : length c.links.result.now - 1 < length c.links.result.now = omega (arith, item.3.0) in (
      omega arith,
      (
        within,
        c.links.ensures.graph.closed c.args.link last
            (subst (λ (ls : List ℕ). 0 < count last ls) c.links.ensures.links (count-at c.links.result.now (length c.links.result.now - 1) last inside item.1)),
      ),
    )

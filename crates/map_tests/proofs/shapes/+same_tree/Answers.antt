use Rattle.std.proofs.Common.{◌<◌, List, ℕ, arith, subst}
use Rattle.node_heap.specs.Links.{count}
use Rattle.champ_trie.proofs.HoldLemmas.{count-at}
use Rattle.map_tests.proofs.shapes.+same_tree.Goals as goal

pub same_tree-requires : goal.same_tree-requires
same_tree-requires g t c κs within = (
  omega arith,
  (
    within,
    (
      c.links-ours.ensures.graph.closed c.args.left c.index-ours-place.result
          (subst (λ (ls : List ℕ). 0 < count c.index-ours-place.result ls) c.links-ours.ensures.links (count-at c.links-ours.result.now c.loop-place.place c.index-ours-place.result c.loop-place-test.true c.index-ours-place.is)),
      c.links-theirs.ensures.graph.closed c.args.right c.index-theirs-place.result
          (subst (λ (ls : List ℕ). 0 < count c.index-theirs-place.result ls) c.links-theirs.ensures.links (count-at c.links-theirs.result.now c.loop-place.place c.index-theirs-place.result (omega arith) c.index-theirs-place.is)),
    ),
  ),
)

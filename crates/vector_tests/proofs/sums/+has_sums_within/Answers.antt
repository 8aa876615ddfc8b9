use Rattle.std.proofs.Common.{◌<◌, List, ℕ, arith, subst}
use Rattle.node_heap.specs.Links.{count}
use Rattle.champ_trie.proofs.HoldLemmas.{count-at}
use Rattle.vector_tests.proofs.sums.+has_sums_within.Goals as goal

pub has_sums_within-requires : goal.has_sums_within-requires
has_sums_within-requires t c = (
  omega (arith, c.decreases, c.if-levels-eq0.false),
  c.links-below.ensures.graph.closed c.args.link c.index-below-place.result
      (subst (λ (ls : List ℕ). 0 < count c.index-below-place.result ls) c.links-below.ensures.links (count-at c.links-below.result.now c.loop-place.place c.index-below-place.result c.loop-place-test.true c.index-below-place.is)),
)

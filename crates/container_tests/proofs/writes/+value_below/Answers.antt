use Rattle.std.proofs.Common.{◌<◌, List, ℕ, length, arith, subst, sym}
use Rattle.std.proofs.lemmas.List.{get_or_read}
use Rattle.node_heap.specs.Links.{count}
use Rattle.node_heap.proofs.CallerLemmas.{count-at}
use Rattle.container_tests.proofs.writes.+value_below.Goals as goal

pub value_below-requires : goal.value_below-requires
value_below-requires g t c κs within =
    let item = c.in_ok-first.ensures.item in
    let first = c.in_ok-first.first.now in
    let inside : 0 < length c.links.result.now = omega (arith, item.3.0) in (
      omega arith,
      (
        within,
        c.links.ensures.graph.closed c.args.link first
            (subst (λ (ls : List ℕ). 0 < count first ls) c.links.ensures.links (count-at c.links.result.now 0 first inside (sym (get_or_read c.links.result.now 0 first inside item.1 0)))),
      ),
    )

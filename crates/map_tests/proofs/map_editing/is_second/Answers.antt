use Rattle.std.proofs.Common.{◌<◌, ℕ, List, length, arith, subst, sym}
use Rattle.node_heap.specs.Links.{count}
use Rattle.node_heap.proofs.Edited.{count-at}
use Rattle.map_tests.proofs.map_editing.is_second.Goals as goal

pub value-requires : goal.value-requires
value-requires g c =
    let item = c.in-Some.ensures.lookup in
    let second = c.in-Some.link.now in
    let inside : 1 < length c.links.result.now = omega (arith, item.3.0) in
    c.links.ensures.graph.closed c.args.row second (subst (λ (ls : List ℕ). 0 < count second ls) c.links.ensures.links (count-at c.links.result.now 1 second inside (sym (item.4 (omega arith) 0))))

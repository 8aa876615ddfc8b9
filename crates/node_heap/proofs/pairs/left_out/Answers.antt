use Rattle.std.proofs.Common.{◌≡◌, ◌<◌, length, subst, ap, sym, ◌∙◌, arith, IsSome}
use Rattle.std.specs.Prelude.{IfSome}
use Rattle.std.proofs.lemmas.List.Sums.{sum_by-drop_more}
use Rattle.node_heap.specs.Links.{count}
use Rattle.node_heap.specs.Forms.{links_of}
use Rattle.node_heap.specs.Layout.{slot_at, graph_of}
use Rattle.node_heap.specs.Pairs.{common, IsPair}
use Rattle.node_heap.specs.declared.pairs.Pair.{Pair}
use Rattle.node_heap.proofs.PairLemmas.{if-some}
use Rattle.node_heap.proofs.pairs.left_out.Goals as goal

pub links-requires : goal.links-requires
links-requires g c =
    let slots = c.args.table.now.slots in
    let is = subst (IsPair slots) (sym c.pair-item.is) (c.requires.sharing.each c.loop-pair.pair-index c.pair-item.result c.loop-pair-test.true) in
    subst (λ (q : Pair). IsSome (slot_at slots q.before)) (sym c.pair.view_is) is.before_live

pub places_but-sum-requires : goal.places_but-sum-requires
places_but-sum-requires g c =
    let slots = c.args.table.now.slots in
    let is = subst (IsPair slots) (sym c.pair-item.is) (c.requires.sharing.each c.loop-pair.pair-index c.pair-item.result c.loop-pair-test.true) in
    rw c.links.ensures (subst (λ (q : Pair). IfSome q.out (λ i. i < length (links_of (graph_of slots q.before)))) (sym c.pair.view_is) (if-some c.pair-item.result.out is.out_inside))

-- a pair adds what is common to both of its rows
pub overflow_add-sum : goal.overflow_add-sum
overflow_add-sum g c =
    let at = λ (q : Pair). count c.args.place (common c.args.table.now.slots q) in
    let read = rw c.links.ensures at c.places_but-sum.ensures in
    let adds : c.places_but-sum.result ≡ at c.pair-item.result = read ∙ ap at c.pair.view_is in
    omega (arith, adds, c.loop-pair.invariant, ap at c.pair-item.is, c.requires.fits, sum_by-drop_more at c.args.pairs.now c.loop-pair.pair-index c.pair-item.result c.loop-pair-test.true)

pub loop-pair-preserved : goal.loop-pair-preserved
loop-pair-preserved g c =
    let at = λ (q : Pair). count c.args.place (common c.args.table.now.slots q) in
    let read = rw c.links.ensures at c.places_but-sum.ensures in
    let adds : c.places_but-sum.result ≡ at c.pair-item.result = read ∙ ap at c.pair.view_is in
    omega (arith, adds, c.loop-pair.invariant, ap at c.pair-item.is, sum_by-drop_more at c.args.pairs.now c.loop-pair.pair-index c.pair-item.result c.loop-pair-test.true)

use Rattle.std.proofs.Common.{length, ap, ◌∙◌, arith}
use Rattle.std.proofs.lemmas.List.Edits.{length-remove}
use Rattle.node_heap.specs.Links.{count}
use Rattle.node_heap.specs.Pairs.{paired}
use Rattle.node_heap.proofs.PairLemmas.{full-some, fewer-paired}
use Rattle.node_heap.proofs.pairs.make_room.Goals as goal

pub part-requires-clause-index : goal.part-requires-clause-index
part-requires-clause-index g c = full-some c.is_full.result _ c.is_full.ensures.value c.if-is_full.true

pub returns-then-is_full-clause-fits : goal.returns-then-is_full-clause-fits
returns-then-is_full-clause-fits g c =
    let some = full-some c.is_full.result _ c.is_full.ensures.value c.if-is_full.true in
    omega (arith, ap length c.part.ensures.pairs, length-remove c.args.pairs.now.items 0 some, c.is_full.ensures.fits)

pub returns-then-is_full-clause-off : goal.returns-then-is_full-clause-off
returns-then-is_full-clause-off g c k none =
    let some = full-some c.is_full.result _ c.is_full.ensures.value c.if-is_full.true in
    ap (λ ps. count k (paired ps)) c.part.ensures.pairs ∙ fewer-paired c.args.pairs.now.items 0 k some none

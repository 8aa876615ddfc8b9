use Rattle.std.proofs.Common.{arith, refl, ◌∙◌}
use Rattle.node_heap.proofs.BuildLemmas.{Builds-more, Builds-Answered}
use Rattle.node_heap.proofs.RoomLemmas.{Builds-KeepsToNeed}
use Rattle.rrb_core.proofs.BuildLemmas.{unchanged-good, answered-same}
use Rattle.rrb_join.proofs.AnswerLemmas.{unchanged-height, unchanged-links, rises-more}
use Rattle.rrb_join.proofs.JoinLemmas.{puts-after}
use Rattle.rrb_join.proofs.inserting.insert.Goals as goal

pub inserted_root-requires-clause-good : goal.inserted_root-requires-clause-good
inserted_root-requires-clause-good g c = rw c.root.ensures (unchanged-good c.args.vector c.in_ok-reserve.ensures.rest c.requires.good).0

pub inserted_root-requires-clause-inside : goal.inserted_root-requires-clause-inside
inserted_root-requires-clause-inside g c = rw (c.root.ensures, (unchanged-good c.args.vector c.in_ok-reserve.ensures.rest c.requires.good).1) (omega (arith, c.len-len.ensures.value))

pub inserted_root-requires-clause-short : goal.inserted_root-requires-clause-short
inserted_root-requires-clause-short g c = rw (c.root.ensures, (unchanged-good c.args.vector c.in_ok-reserve.ensures.rest c.requires.good).1) (omega (arith, c.len-len.ensures.value, c.requires.good.shape.short))

pub returns-clause-items : goal.returns-clause-items
returns-clause-items g c = rw c.from_root.ensures (c.inserted_root.ensures.items ∙ rw (c.root.ensures, (unchanged-good c.args.vector c.in_ok-reserve.ensures.rest c.requires.good).1) refl)

pub returns-clause-answered : goal.returns-clause-answered
returns-clause-answered g c =
    let same = unchanged-height c.in_ok-reserve.ensures.rest c.args.vector in
    let built = rw c.root.ensures at c.inserted_root.ensures.builds in
    rw c.from_root.ensures (Builds-Answered c.in_ok-reserve.ensures.rest (Builds-more 0 _ built (omega arith) (omega (arith, same))))

pub returns-clause-vectors : goal.returns-clause-vectors
returns-clause-vectors g c = answered-same (Builds-Answered c.in_ok-reserve.ensures.rest c.inserted_root.ensures.builds)

pub returns-in_err-reserve-clause-vectors : goal.returns-in_err-reserve-clause-vectors
returns-in_err-reserve-clause-vectors g c = λ l. unchanged-good l c.in_err-reserve.ensures.rest

pub returns-clause-flat : goal.returns-clause-flat
returns-clause-flat g c = λ few.
    let low = c.inserted_root.ensures.flat (rw (c.root.ensures, unchanged-links c.in_ok-reserve.ensures.rest c.args.vector) few) in
    rw c.from_root.ensures (low ∙ rw c.root.ensures (unchanged-height c.in_ok-reserve.ensures.rest c.args.vector))

pub returns-clause-low : goal.returns-clause-low
returns-clause-low g c = rw c.from_root.ensures (rises-more c.inserted_root.ensures.low (rw c.root.ensures (omega (arith, unchanged-height c.in_ok-reserve.ensures.rest c.args.vector))))

pub returns-clause-seam : goal.returns-clause-seam
returns-clause-seam g c = rw c.from_root.ensures (puts-after c.args.heap.now c.reserve.new.self c.inserted_root.new.heap c.args.vector c.inserted_root.result c.in_ok-reserve.ensures.rest (rw c.root.ensures at c.inserted_root.ensures.seam))

pub returns-clause-spares : goal.returns-clause-spares
returns-clause-spares g c = Builds-KeepsToNeed c.in_ok-reserve.ensures.greater c.in_ok-reserve.ensures.rest c.inserted_root.ensures.builds

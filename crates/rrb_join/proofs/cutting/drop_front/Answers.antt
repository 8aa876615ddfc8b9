use Rattle.std.proofs.Common.{arith, refl, ◌∙◌}
use Rattle.node_heap.proofs.BuildLemmas.{Builds-Answered}
use Rattle.node_heap.proofs.RoomLemmas.{KeepsToNeed-Builds, Builds-KeepsToNeed}
use Rattle.rrb_core.proofs.BuildLemmas.{unchanged-good, answered-same}
use Rattle.rrb_join.proofs.AnswerLemmas.{unchanged-height}
use Rattle.rrb_core.proofs.LevelLemmas.{rows-of-same}
use Rattle.rrb_join.proofs.RestRows.{left-drops, drops-itself}
use Rattle.rrb_join.proofs.FewerRows.{fewer-rest, fewer-whole}
use Rattle.rrb_join.proofs.cutting.drop_front.Goals as goal

pub returns-in_err-reserve-clause-vectors : goal.returns-in_err-reserve-clause-vectors
returns-in_err-reserve-clause-vectors g c = λ l. unchanged-good l c.in_err-reserve.ensures.rest

pub rest_root-requires-clause-good : goal.rest_root-requires-clause-good
rest_root-requires-clause-good g c = rw c.root.ensures (unchanged-good c.args.vector c.in_ok-reserve.ensures.rest c.requires.good).0

pub returns-clause-items : goal.returns-clause-items
returns-clause-items g c = rw c.from_root.ensures (c.rest_root.ensures.items ∙ rw (c.root.ensures, (unchanged-good c.args.vector c.in_ok-reserve.ensures.rest c.requires.good).1) refl)

pub returns-clause-answered : goal.returns-clause-answered
returns-clause-answered g c =
    rw c.from_root.ensures (Builds-Answered c.in_ok-reserve.ensures.rest c.rest_root.ensures.builds)

pub returns-clause-vectors : goal.returns-clause-vectors
returns-clause-vectors g c = answered-same (Builds-Answered c.in_ok-reserve.ensures.rest c.rest_root.ensures.builds)

pub returns-clause-low : goal.returns-clause-low
returns-clause-low g c =
    let low = rw c.root.ensures at c.rest_root.ensures.low in
    rw c.from_root.ensures (omega (arith, unchanged-height c.in_ok-reserve.ensures.rest c.args.vector, low))

pub returns-then-count-eq0-clause-seam : goal.returns-then-count-eq0-clause-seam
returns-then-count-eq0-clause-seam g c = rw c.share.ensures.same (drops-itself c.args.heap.now c.share.new.heap c.args.vector (λ m. rows-of-same c.args.heap.now c.share.new.heap c.share.ensures.shares.rows m c.args.vector))

pub returns-clause-seam : goal.returns-clause-seam
returns-clause-seam g c = rw c.from_root.ensures (left-drops c.args.heap.now c.reserve.new.self c.rest_root.new.heap c.args.vector c.rest_root.result c.in_ok-reserve.ensures.rest (rw c.root.ensures at c.rest_root.ensures.rows))

pub returns-then-count-eq0-clause-within : goal.returns-then-count-eq0-clause-within
returns-then-count-eq0-clause-within g c = rw (c.share.ensures.same, c.if-count-eq0.true) (fewer-whole c.args.heap.now c.share.new.heap c.args.vector c.share.ensures.shares.rows c.share.ensures.shares.builds.graph c.requires.good)

pub returns-clause-within : goal.returns-clause-within
returns-clause-within g c =
    rw c.from_root.ensures
    (fewer-rest c.args.heap.now c.reserve.new.self c.args.vector c.in_ok-reserve.ensures.rest.rows c.in_ok-reserve.ensures.rest.graph c.requires.good c.rest_root.new.heap c.rest_root.result c.args.count (rw c.root.ensures at c.rest_root.ensures.within) (rw c.root.ensures at c.rest_root.ensures.low))

pub returns-then-count-eq0-clause-spares : goal.returns-then-count-eq0-clause-spares
returns-then-count-eq0-clause-spares g c = KeepsToNeed-Builds 0 17 c.share.ensures.shares.builds

pub returns-clause-spares : goal.returns-clause-spares
returns-clause-spares g c = Builds-KeepsToNeed c.in_ok-reserve.ensures.greater c.in_ok-reserve.ensures.rest c.rest_root.ensures.builds

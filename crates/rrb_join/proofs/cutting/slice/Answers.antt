use Rattle.std.proofs.Common.{arith, ◌≡◌, ◌+◌, ◌*◌, ◌≤◌, length, length-take, refl, ◌∙◌, [], ◌∷◌}
use Rattle.node_heap.specs.Calls.{Answered}
use Rattle.rrb_core.specs.Vector.{height_at, elements, IsVectorOf}
use Rattle.node_heap.proofs.RoomLemmas.{KeepsToNeed-Builds, KeepsToNeed-Releases, KeepsToNeed-then, KeepsToNeed-reserved}
use Rattle.rrb_core.proofs.BuildLemmas.{unchanged-good, answered-same}
use Rattle.rrb_join.proofs.AnswerLemmas.{unchanged-height, height-held}
use Rattle.rrb_join.proofs.CutLemmas.{Gives, gives-answered, gives-built, gives-all, gives-first, without-second, good-held}
use Rattle.rrb_core.specs.Levels.{TakesFirstRows}
use Rattle.rrb_core.proofs.LevelLemmas.{rows-of-same, takes-after}
use Rattle.rrb_join.proofs.CutRows.{slices, slices-held, slices-itself}
use Rattle.rrb_join.proofs.FewerRows.{fewer-slice, fewer-held, fewer-whole}
use Rattle.rrb_join.proofs.cutting.slice.Given as given
use Rattle.rrb_join.proofs.cutting.slice.Goals as goal
use Rattle.rrb_join.proofs.cutting.slice.Goals.{else-from-eq0-via-then-from-eq0+else-to-len, else-from-eq0-via-else-from-eq0}

pub returns-in_err-reserve-clause-vectors : goal.returns-in_err-reserve-clause-vectors
returns-in_err-reserve-clause-vectors g c = λ l. unchanged-good l c.in_err-reserve.ensures.rest

pub take-requires-clause-good : goal.take-requires-clause-good
take-requires-clause-good g c = (unchanged-good c.args.vector c.in_ok-reserve.ensures.rest c.requires.good).0

made : (g : given.Over) (c : goal.After-from_root g) → Gives c.reserve.new.self c.rest_root-root.new.heap (c.rest_root-root.result ∷ c.in_ok-front.front ∷ []) (height_at c.take.new.heap c.in_ok-front.front + 1 + (2 * height_at c.rest_root-root.new.heap c.rest_root-root.result + 1))
made g c = gives-built (gives-answered c.in_ok-front.ensures.answered c.in_ok-front.ensures.made) c.rest_root-root.ensures.builds

kept : (g : given.Over) (c : goal.After-from_root g) → IsVectorOf c.release.new.heap c.rest_root-root.result (elements c.rest_root-root.new.heap c.rest_root-root.result)
kept g c = good-held c.release.ensures.keeps c.rest_root-root.result (gives-first c.rest_root-root.result c.in_ok-front.front (made g c)) c.rest_root-root.ensures.good

-- the slice alone is left
left : (g : given.Over) (c : goal.After-from_root g) → Answered c.args.heap.now c.release.new.heap [] c.rest_root-root.result 0 (3 * height_at c.args.heap.now c.args.vector + 2) × (c.release.new.heap.made ≤ c.args.heap.now.made + (3 * height_at c.args.heap.now c.args.vector + 2))
left g c =
    let same = unchanged-height c.in_ok-reserve.ensures.rest c.args.vector in
    let low : height_at c.take.new.heap c.root.result ≤ height_at c.reserve.new.self c.args.vector = rw (c.root.ensures, c.view.ensures) c.in_ok-front.ensures.low in
    gives-all c.in_ok-reserve.ensures.rest (without-second c.in_ok-reserve.ensures.rest.graph (made g c) c.release.ensures.releases c.release.ensures.graph c.release.ensures.keeps) (omega (arith, same, low, c.in_ok-front.ensures.low, c.rest_root-root.ensures.low))

pub returns-clause-items : goal.returns-clause-items
returns-clause-items g c =
    rw c.from_root.ensures ((kept g c).1 ∙ c.rest_root-root.ensures.items ∙ rw (c.root.ensures, c.view.ensures, c.in_ok-front.ensures.items, (unchanged-good c.args.vector c.in_ok-reserve.ensures.rest c.requires.good).1) refl)

pub returns-clause-good : goal.returns-clause-good
returns-clause-good g c = rw c.from_root.ensures (kept g c).0

pub returns-clause-answered : goal.returns-clause-answered
returns-clause-answered g c = rw c.from_root.ensures (left g c).0

pub returns-clause-made : goal.returns-clause-made
returns-clause-made g c = (left g c).1

pub returns-clause-vectors : goal.returns-clause-vectors
returns-clause-vectors g c = answered-same (left g c).0

pub returns-clause-low : goal.returns-clause-low
returns-clause-low g c =
    let same = unchanged-height c.in_ok-reserve.ensures.rest c.args.vector in
    let front : height_at c.take.new.heap c.root.result ≤ height_at c.reserve.new.self c.args.vector = rw (c.root.ensures, c.view.ensures) c.in_ok-front.ensures.low in
    let kept = height-held c.release.ensures.keeps c.rest_root-root.result (gives-first c.rest_root-root.result c.in_ok-front.front (made g c)) in
    rw c.from_root.ensures (omega (arith, same, front, kept, c.rest_root-root.ensures.low))

pub returns-clause-seam : goal.returns-clause-seam
returns-clause-seam g c =
    let taken : TakesFirstRows c.args.heap.now c.take.new.heap c.args.vector c.args.to c.in_ok-front.front = takes-after c.args.heap.now c.reserve.new.self c.in_ok-reserve.ensures.rest.rows c.take.new.heap c.args.vector c.args.to c.in_ok-front.front c.in_ok-front.ensures.rows in
    let sliced = slices c.args.heap.now c.take.new.heap c.rest_root-root.new.heap c.args.vector c.args.to c.in_ok-front.front c.rest_root-root.result taken (rw (c.root.ensures, c.view.ensures) at c.rest_root-root.ensures.rows) in
    rw c.from_root.ensures (slices-held c.release.ensures.keeps c.rest_root-root.result (gives-first c.rest_root-root.result c.in_ok-front.front (made g c)) c.args.heap.now c.args.vector sliced)

pub returns-then-to-len-clause-seam : goal.returns-then-to-len-clause-seam
returns-then-to-len-clause-seam g c = rw c.share.ensures.same (slices-itself c.args.heap.now c.share.new.heap c.args.vector (λ m. rows-of-same c.args.heap.now c.share.new.heap c.share.ensures.shares.rows m c.args.vector))

pub returns-clause-within : goal.returns-clause-within
returns-clause-within g c =
    let rest = c.in_ok-reserve.ensures.rest in
    let front = c.in_ok-front.ensures in
    let short : length (elements c.take.new.heap c.in_ok-front.front) ≤ c.args.to = rw front.items (omega (arith, length-take c.args.to (elements c.reserve.new.self c.args.vector))) in
    let part = fewer-slice c.args.heap.now c.reserve.new.self c.args.vector rest.rows rest.graph c.requires.good c.take.new.heap c.rest_root-root.new.heap c.in_ok-front.front c.rest_root-root.result c.args.from c.args.to front.answered.extends front.good short front.rows (rw (c.root.ensures, c.view.ensures) at c.rest_root-root.ensures.within) (rw (c.root.ensures, c.view.ensures) at c.rest_root-root.ensures.low) in
    rw c.from_root.ensures (fewer-held c.release.ensures.keeps c.rest_root-root.result (gives-first c.rest_root-root.result c.in_ok-front.front (made g c)) c.args.heap.now c.args.vector c.args.from c.args.to part)

pub returns-then-to-len-clause-within : goal.returns-then-to-len-clause-within
returns-then-to-len-clause-within g c =
    let all : c.args.to ≡ length (elements c.args.heap.now c.args.vector) = c.if-to-len.true ∙ c.len.ensures.value in
    rw (c.share.ensures.same, c.if-from-eq0.true, all) (fewer-whole c.args.heap.now c.share.new.heap c.args.vector c.share.ensures.shares.rows c.share.ensures.shares.builds.graph c.requires.good)

pub returns-clause-all : goal.returns-clause-all
returns-clause-all g c = λ front back. absurd (elim c.else-from-eq0.branch as (λ _. ⊥) [
  | else-from-eq0-via-then-from-eq0+else-to-len w ↦ omega (arith, back, w.len.ensures.value, w.if-to-len.false)
  | else-from-eq0-via-else-from-eq0 w ↦ omega (arith, front, w.if-from-eq0.false)
])

pub returns-then-to-len-clause-spares : goal.returns-then-to-len-clause-spares
returns-then-to-len-clause-spares g c = KeepsToNeed-Builds 0 25 c.share.ensures.shares.builds

pub returns-clause-spares : goal.returns-clause-spares
returns-clause-spares g c = KeepsToNeed-reserved c.in_ok-reserve.ensures.greater c.in_ok-reserve.ensures.rest (omega arith) (omega arith) (KeepsToNeed-then (KeepsToNeed-then c.in_ok-front.ensures.spares (KeepsToNeed-Builds 0 0 c.rest_root-root.ensures.builds)) (KeepsToNeed-Releases 0 0 c.release.ensures.releases))

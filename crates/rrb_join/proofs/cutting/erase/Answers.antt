use Rattle.std.proofs.Common.{rules, arith, ◌≡◌, ℕ, ◌+◌, ◌*◌, ◌≤◌, max, refl, ◌∙◌, [], ◌∷◌, length-drop}
use Rattle.std.proofs.lemmas.List.{length-take-le}
use Rattle.node_heap.specs.Calls.{Answered}
use Rattle.rrb_core.specs.Vector.{height_at, elements, IsVectorOf}
use Rattle.rrb_core.proofs.Stays.{well-live, live-stays, extended-same}
use Rattle.node_heap.proofs.RoomLemmas.{KeepsToNeed-Builds, KeepsToNeed-Releases, KeepsToNeed-then, KeepsToNeed-reserved}
use Rattle.node_heap.specs.declared.row.TheConstants.{MOST_HEIGHT}
use Rattle.rrb_core.proofs.BuildLemmas.{unchanged-good, answered-same}
use Rattle.rrb_join.proofs.AnswerLemmas.{unchanged-height, extended-height, rises-more, rises-held}
use Rattle.rrb_join.proofs.CutLemmas.{Gives, gives-answered, gives-built, gives-more, gives-all, gives-first, gives-second, without-second, gives-first-of, gives-third, without-third, good-held}
use Rattle.rrb_core.specs.Levels.{rows_of, TakesFirstRows}
use Rattle.rrb_core.proofs.LevelLemmas.{rows-of-same, takes-after}
use Rattle.rrb_join.specs.Seam.{ErasesRows}
use Rattle.rrb_join.proofs.JoinLemmas.{rows-of-kept}
use Rattle.rrb_join.proofs.CutRows.{erases, erases-held, erases-itself}
use Rattle.rrb_join.proofs.cutting.erase.Given as given
use Rattle.rrb_join.proofs.cutting.erase.Goals as goal

pub returns-in_err-reserve-clause-vectors : goal.returns-in_err-reserve-clause-vectors
returns-in_err-reserve-clause-vectors g c = λ l. unchanged-good l c.in_err-reserve.ensures.rest

pub take-requires-clause-good : goal.take-requires-clause-good
take-requires-clause-good g c = (unchanged-good c.args.vector c.in_ok-reserve.ensures.rest c.requires.good).0

pub rest_root-back-requires-clause-good : goal.rest_root-back-requires-clause-good
rest_root-back-requires-clause-good g c =
    let first = (unchanged-good c.args.vector c.in_ok-reserve.ensures.rest c.requires.good).0 in
    rw c.root.ensures (c.in_ok-front.ensures.vectors c.args.vector first).0

pub joined_root-root-requires-clause-left_good : goal.joined_root-root-requires-clause-left_good
joined_root-root-requires-clause-left_good g c =
    rw (c.root-2.ensures, c.view.ensures) (extended-same c.rest_root-back.ensures.builds.extends c.in_ok-front.front c.in_ok-front.ensures.good).0

pub joined_root-root-requires-clause-short : goal.joined_root-root-requires-clause-short
joined_root-root-requires-clause-short g c =
    let first = unchanged-good c.args.vector c.in_ok-reserve.ensures.rest c.requires.good in
    let second = c.in_ok-front.ensures.vectors c.args.vector first.0 in
    let front = extended-same c.rest_root-back.ensures.builds.extends c.in_ok-front.front c.in_ok-front.ensures.good in
    let part = c.if-not-is_part.ensures.test.0 (search rules) in
    rw (c.root-2.ensures, c.view.ensures, front.1, c.in_ok-front.ensures.items, c.rest_root-back.ensures.items, c.root.ensures, second.1, first.1)
    (omega (arith, length-take-le c.args.from (elements c.args.heap.now c.args.vector) (omega (arith, part)), length-drop c.args.to (elements c.args.heap.now c.args.vector), part, c.requires.good.shape.short))

pub joined_root-root-requires-clause-spare : goal.joined_root-root-requires-clause-spare
joined_root-root-requires-clause-spare g c =
    let first = unchanged-good c.args.vector c.in_ok-reserve.ensures.rest c.requires.good in
    let second = c.in_ok-front.ensures.vectors c.args.vector first.0 in
    let low : height_at c.take.new.heap c.root.result ≤ MOST_HEIGHT = rw c.root.ensures second.0.shape.low in
    let taken = c.in_ok-front.ensures.answered in
    omega (arith, c.in_ok-reserve.ensures.spares, first.0.shape.low, low, c.in_ok-front.ensures.low, taken.nodes, taken.balance.spare_nodes, c.rest_root-back.ensures.builds.makes.spare_nodes, c.rest_root-back.ensures.builds.few_nodes, c.rest_root-back.ensures.low)

pub release-requires : goal.release-requires
release-requires g c =
    gives-third c.joined_root-root.result c.rest_root-back.result c.in_ok-front.front (gives-built (gives-built (gives-answered c.in_ok-front.ensures.answered c.in_ok-front.ensures.made) c.rest_root-back.ensures.builds) c.joined_root-root.ensures.builds)

pub release-requires-2 : goal.release-requires-2
release-requires-2 g c =
    gives-second c.joined_root-root.result c.rest_root-back.result (without-third c.in_ok-reserve.ensures.rest.graph (gives-built (gives-built (gives-answered c.in_ok-front.ensures.answered c.in_ok-front.ensures.made) c.rest_root-back.ensures.builds) c.joined_root-root.ensures.builds) c.release.ensures.releases c.release.ensures.graph c.release.ensures.keeps)

-- the vector is as high where its front was taken
later : (g : given.Over) (c : goal.After-from_root g) → height_at c.take.new.heap c.root.result ≡ height_at c.args.heap.now c.args.vector
later g c =
    let first = unchanged-good c.args.vector c.in_ok-reserve.ensures.rest c.requires.good in
    rw c.root.ensures (extended-height c.in_ok-front.ensures.answered.extends c.args.vector first.0 ∙ unchanged-height c.in_ok-reserve.ensures.rest c.args.vector)

-- the front and the rest are no higher than the vector
heights : (g : given.Over) (c : goal.After-from_root g) → max (height_at c.rest_root-back.new.heap c.root-2.result) (height_at c.rest_root-back.new.heap c.rest_root-back.result) ≤ height_at c.args.heap.now c.args.vector
heights g c =
    let front : height_at c.rest_root-back.new.heap c.root-2.result ≡ height_at c.take.new.heap c.in_ok-front.front = rw (c.root-2.ensures, c.view.ensures) (extended-height c.rest_root-back.ensures.builds.extends c.in_ok-front.front c.in_ok-front.ensures.good) in
    omega (arith, unchanged-height c.in_ok-reserve.ensures.rest c.args.vector, later g c, front, c.in_ok-front.ensures.low, c.rest_root-back.ensures.low)

whole : (g : given.Over) (c : goal.After-from_root g) → Gives c.reserve.new.self c.joined_root-root.new.heap (c.joined_root-root.result ∷ c.rest_root-back.result ∷ c.in_ok-front.front ∷ []) (5 * height_at c.args.heap.now c.args.vector + 5)
whole g c =
    gives-more (gives-built (gives-built (gives-answered c.in_ok-front.ensures.answered c.in_ok-front.ensures.made) c.rest_root-back.ensures.builds) c.joined_root-root.ensures.builds)
    (omega (arith, unchanged-height c.in_ok-reserve.ensures.rest c.args.vector, later g c, heights g c, c.in_ok-front.ensures.low, c.rest_root-back.ensures.low))

both : (g : given.Over) (c : goal.After-from_root g) → Gives c.reserve.new.self c.release.new.heap (c.joined_root-root.result ∷ c.rest_root-back.result ∷ []) (5 * height_at c.args.heap.now c.args.vector + 5)
both g c = without-third c.in_ok-reserve.ensures.rest.graph (whole g c) c.release.ensures.releases c.release.ensures.graph c.release.ensures.keeps

kept : (g : given.Over) (c : goal.After-from_root g) → IsVectorOf c.release-2.new.self c.joined_root-root.result (elements c.joined_root-root.new.heap c.joined_root-root.result)
kept g c =
    let first = good-held c.release.ensures.keeps c.joined_root-root.result (gives-first-of c.joined_root-root.result c.rest_root-back.result c.in_ok-front.front (whole g c)) c.joined_root-root.ensures.good in
    let second = good-held c.release-2.ensures.keeps c.joined_root-root.result (gives-first c.joined_root-root.result c.rest_root-back.result (both g c)) first.0 in
    (second.0, second.1 ∙ first.1)

-- what is left is the join alone
left : (g : given.Over) (c : goal.After-from_root g) → Answered c.args.heap.now c.release-2.new.self [] c.joined_root-root.result 0 (5 * height_at c.args.heap.now c.args.vector + 5) × (c.release-2.new.self.made ≤ c.args.heap.now.made + (5 * height_at c.args.heap.now c.args.vector + 5))
left g c = gives-all c.in_ok-reserve.ensures.rest (without-second c.in_ok-reserve.ensures.rest.graph (both g c) c.release-2.ensures.releases c.release-2.ensures.graph c.release-2.ensures.keeps) (omega arith)

pub returns-clause-items : goal.returns-clause-items
returns-clause-items g c =
    let first = unchanged-good c.args.vector c.in_ok-reserve.ensures.rest c.requires.good in
    let second = c.in_ok-front.ensures.vectors c.args.vector first.0 in
    let front = extended-same c.rest_root-back.ensures.builds.extends c.in_ok-front.front c.in_ok-front.ensures.good in
    rw c.from_root.ensures ((kept g c).1 ∙ c.joined_root-root.ensures.items ∙ rw (c.root-2.ensures, c.view.ensures, front.1, c.in_ok-front.ensures.items, c.rest_root-back.ensures.items, c.root.ensures, second.1, first.1) refl)

pub returns-clause-good : goal.returns-clause-good
returns-clause-good g c = rw c.from_root.ensures (kept g c).0

pub returns-clause-answered : goal.returns-clause-answered
returns-clause-answered g c = rw c.from_root.ensures (left g c).0

pub returns-clause-made : goal.returns-clause-made
returns-clause-made g c = (left g c).1

pub returns-clause-vectors : goal.returns-clause-vectors
returns-clause-vectors g c = answered-same (left g c).0

pub returns-clause-range : goal.returns-clause-range
returns-clause-range g c = (λ is. absurd cc, λ no. absurd (no (c.if-not-is_part.ensures.test.0 (search rules))))

pub returns-clause-low : goal.returns-clause-low
returns-clause-low g c =
    let once = rises-held c.release.ensures.keeps c.joined_root-root.result (gives-first-of c.joined_root-root.result c.rest_root-back.result c.in_ok-front.front (whole g c)) c.joined_root-root.ensures.low in
    let kept = rises-held c.release-2.ensures.keeps c.joined_root-root.result (gives-first c.joined_root-root.result c.rest_root-back.result (both g c)) once in
    rw c.from_root.ensures (rises-more kept (heights g c))

-- the join of what is before the part and what is behind it
joined : (g : given.Over) (c : goal.After-from_root g) → ErasesRows c.args.heap.now c.joined_root-root.new.heap c.args.vector c.joined_root-root.result
joined g c =
    let first = (unchanged-good c.args.vector c.in_ok-reserve.ensures.rest c.requires.good).0 in
    let taken : TakesFirstRows c.args.heap.now c.take.new.heap c.args.vector c.args.from c.in_ok-front.front = takes-after c.args.heap.now c.reserve.new.self c.in_ok-reserve.ensures.rest.rows c.take.new.heap c.args.vector c.args.from c.in_ok-front.front c.in_ok-front.ensures.rows in
    let same : (m : ℕ) → rows_of c.take.new.heap m c.args.vector ≡ rows_of c.args.heap.now m c.args.vector = λ m.
    rows-of-kept (live-stays c.in_ok-reserve.ensures.rest.graph c.in_ok-front.ensures.answered.extends) m c.args.vector (well-live c.reserve.new.self (height_at c.reserve.new.self c.args.vector) c.args.vector first.shape.well) ∙ rows-of-same c.args.heap.now c.reserve.new.self c.in_ok-reserve.ensures.rest.rows m c.args.vector in
    erases c.args.heap.now c.take.new.heap c.rest_root-back.new.heap c.joined_root-root.new.heap c.args.vector c.args.from c.in_ok-front.front c.rest_root-back.result c.joined_root-root.result
    (live-stays c.in_ok-front.ensures.answered.graph c.rest_root-back.ensures.builds.extends) (live-stays c.rest_root-back.ensures.builds.graph c.joined_root-root.ensures.builds.extends)
    (well-live c.take.new.heap (height_at c.take.new.heap c.in_ok-front.front) c.in_ok-front.front c.in_ok-front.ensures.good.shape.well)
    (well-live c.rest_root-back.new.heap (height_at c.rest_root-back.new.heap c.rest_root-back.result) c.rest_root-back.result c.rest_root-back.ensures.good.shape.well) c.joined_root-root.ensures.good
    same taken (rw c.root.ensures at c.rest_root-back.ensures.rows) (rw (c.root-2.ensures, c.view.ensures) at c.joined_root-root.ensures.seam)

pub returns-clause-seam : goal.returns-clause-seam
returns-clause-seam g c =
    let once = erases-held c.release.ensures.keeps c.joined_root-root.result (gives-first-of c.joined_root-root.result c.rest_root-back.result c.in_ok-front.front (whole g c)) c.args.heap.now c.args.vector (joined g c) in
    rw c.from_root.ensures (erases-held c.release-2.ensures.keeps c.joined_root-root.result (gives-first c.joined_root-root.result c.rest_root-back.result (both g c)) c.args.heap.now c.args.vector once)

pub returns-then-from-to-clause-seam : goal.returns-then-from-to-clause-seam
returns-then-from-to-clause-seam g c = rw c.share.ensures.same (erases-itself c.args.heap.now c.share.new.heap c.args.vector (λ m. rows-of-same c.args.heap.now c.share.new.heap c.share.ensures.shares.rows m c.args.vector))

pub returns-then-from-to-clause-spares : goal.returns-then-from-to-clause-spares
returns-then-from-to-clause-spares g c = KeepsToNeed-Builds 0 42 c.share.ensures.shares.builds

pub returns-clause-spares : goal.returns-clause-spares
returns-clause-spares g c =
    let made = KeepsToNeed-then (KeepsToNeed-then c.in_ok-front.ensures.spares (KeepsToNeed-Builds 0 0 c.rest_root-back.ensures.builds)) (KeepsToNeed-Builds 0 0 c.joined_root-root.ensures.builds) in
    let kept = KeepsToNeed-then (KeepsToNeed-then made (KeepsToNeed-Releases 0 0 c.release.ensures.releases)) (KeepsToNeed-Releases 0 0 c.release-2.ensures.releases) in
    KeepsToNeed-reserved c.in_ok-reserve.ensures.greater c.in_ok-reserve.ensures.rest (omega arith) (omega arith) kept

use Rattle.std.proofs.Common.{◌≡◌, ◌+◌, ◌<◌, [], ℕ, refl, sym, arith}
use Rattle.node_heap.specs.Heap.{Heap, holds_at, one_at}
use Rattle.node_heap.specs.Calls.{Answered}
use Rattle.rrb_core.specs.Build.{Shares}
use Rattle.rrb_core.specs.Vector.{IsGoodVector, IsSameVector}
use Rattle.rrb_core.proofs.LinkCounts.{one-same}
use Rattle.node_heap.proofs.BuildLemmas.{count-one}
use Rattle.vector_tests.proofs.vectors.shared_and_released.Goals as goal

-- a vector that a call gave is shared, and one of its two holds is given up
still-good : {T : Type 0} {a b c d : Heap T} {front more n m : ℕ} → Answered a b [] front n m → more ≡ front → Shares b c more → IsGoodVector c more → ((l : ℕ) → one_at front l < holds_at c l → IsSameVector c d l) → IsGoodVector d more
still-good {T} {a} {b} {c} {d} {front} {more} answered same shared good released =
    let taken : holds_at b front + 0 ≡ holds_at a front + one_at front front = answered.holds front in
    let twice : one_at front front < holds_at c front = omega (arith, taken, shared.builds.holds front, count-one front more, one-same front front refl, one-same front more (sym same)) in
    rw same ((released front twice (rw (← same) good)).0)

pub release-requires : goal.release-requires
release-requires c =
    let front = c.in_ok-front.front in
    omega (arith, c.in_ok-front.ensures.answered.holds front, c.share-more.ensures.shares.builds.holds front, one-same front front refl)

pub returns : goal.returns
returns c = record {
  good = rw c.into_root.ensures (still-good c.in_ok-front.ensures.answered c.share-more.ensures.same c.share-more.ensures.shares c.share-more.ensures.good c.release.ensures.vectors);
}

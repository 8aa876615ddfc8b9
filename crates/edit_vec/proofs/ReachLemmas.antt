-- What a row of a vector reaches: rows of its height or below, and what its elements reach.
use Rattle.std.proofs.Common.{ℕ, zero, suc, ◌<◌, ◌≤◌, List, [], ◌∷◌, length, get_or, ap, sym, subst, arith}
use Rattle.std.specs.List.{flat_map}
use Rattle.node_heap.specs.Links.{count, Reaches, here, below}
use Rattle.node_heap.specs.Heap.{Heap, form_at, links_at}
use Rattle.node_heap.specs.Forms.{links_in}
use Rattle.node_heap.proofs.OwnerLemmas.{found-at}
use Rattle.node_heap.proofs.BuildLemmas.{count-append}
use Rattle.rrb_core.specs.Seq.{height_in, seq_at, IsWell}
use Rattle.rrb_core.proofs.FillRule.{height-is}
use Rattle.rrb_core.proofs.Stays.{links-form}

-- what a member gives is among what all give
count-some : (f : ℕ → List ℕ) (ks : List ℕ) (j x : ℕ) → j < length ks → 0 < count x (f (get_or ks j 0)) → 0 < count x (flat_map f ks)
count-some f [] j x lt some = absurd (omega (arith, lt))
count-some f (k ∷ ks) zero x lt some = omega (arith, some, count-append x (f k) (flat_map f ks))
count-some f (k ∷ ks) (suc j) x lt some = omega (arith, count-some f ks j x (omega (arith, lt)) some, count-append x (f k) (flat_map f ks))

-- what a row of height n reaches, and none of its elements does, has that height or less
pub reach-low : {T : Type 0} (h : Heap T) (n k m : ℕ) → IsWell (form_at h) n k → Reaches (links_at h) k m → ((x : ℕ) → 0 < count x (seq_at (form_at h) n k) → ¬ Reaches (links_at h) x m) → height_in (form_at h) m ≤ n
unfolding seq_at IsWell
reach-low h n k m well (here l) off = omega (arith, height-is (form_at h) n l well)
reach-low h zero k m well (below l j z has rest) off = absurd (off j (omega (arith, ap (count j) (links-form h l), has)) rest)
reach-low h (suc n) k m well (below l j z has rest) off =
    let ks : List ℕ = links_in (form_at h) l in
    let at = found-at ks j (omega (arith, ap (count j) (links-form h l), has)) in
    let child : IsWell (form_at h) n j = subst (IsWell (form_at h) n) at.2 (well.children at.0 0 at.1) in
    let lower = reach-low h n j z child rest (λ x some. off x (count-some (seq_at (form_at h) n) ks at.0 x at.1 (subst (λ y. 0 < count x (seq_at (form_at h) n y)) (sym at.2) some))) in
    omega (arith, lower)

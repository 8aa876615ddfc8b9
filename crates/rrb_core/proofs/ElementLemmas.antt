-- What the root of a vector reaches: its elements, and all below them.
use Rattle.std.proofs.Common.{◌≡◌, ℕ, suc, zero, List, [], ◌∷◌, map, get_or, ap, sym, ◌∙◌, subst, refl, arith}
use Rattle.std.specs.List.{All, flat_map}
use Rattle.std.proofs.lemmas.List.Elements.{All-weaker, All-nil, All-append}
use Rattle.node_heap.specs.Links.{Reaches, here, below as step}
use Rattle.node_heap.specs.Heap.{Heap, form_at, links_at}
use Rattle.node_heap.specs.Calls.{KeepsBelow}
use Rattle.node_heap.proofs.Reach.{Reaches-trans}
use Rattle.rrb_core.specs.Seq.{seq_at}
use Rattle.rrb_core.specs.Vector.{elements, height_at, IsGoodVector, IsVectorOf, ElementsStay, VectorsOfVectorsStay, SameVectorsFollow}
use Rattle.rrb_core.proofs.LinkCounts.{all-counted}
use Rattle.rrb_core.proofs.Stays.{links-form, vector-stays}

-- what holds of all links of each list holds of those of all lists
all-together : (P : ℕ → Type 0) (f : ℕ → List ℕ) (ks : List ℕ) → All (λ k. All P (f k)) ks → All P (flat_map f ks)
all-together P f [] each = All-nil P
all-together P f (k ∷ ks) each = All-append P (f k) (flat_map f ks) (each 0 k (omega arith)) (all-together P f ks (λ i d b. each (suc i) d (omega (arith, b))))

map-same : {X : Type 0} (f g : ℕ → X) (ks : List ℕ) → All (λ k. f k ≡ g k) ks → map f ks ≡ map g ks
map-same f g [] same = refl
map-same f g (k ∷ ks) same = λ i. same 0 k (omega arith) i ∷ map-same f g ks (λ j d b. same (suc j) d (omega (arith, b))) i

-- each element below a row is reached from it
pub seq-reached : {T : Type 0} (h : Heap T) (n l : ℕ) → All (Reaches (links_at h) l) (seq_at (form_at h) n l)
unfolding seq_at
seq-reached h zero l = rw (links-form h l) (all-counted (Reaches (links_at h) l) (links_at h l) (λ k some. step l k k some (here k)))
seq-reached h (suc n) l =
    let child : (k : ℕ) → All (Reaches (links_at h) k) (seq_at (form_at h) n k) = seq-reached h n in
    rw (links-form h l) (all-together (Reaches (links_at h) l) (seq_at (form_at h) n) (links_at h l)
    (all-counted (λ k. All (Reaches (links_at h) l) (seq_at (form_at h) n k)) (links_at h l) (λ k some. All-weaker (Reaches (links_at h) k) (Reaches (links_at h) l) (λ m down. step l k m some down) (seq_at (form_at h) n k) (child k))))

-- each element of a vector is reached from its root
pub elements-reached : {T : Type 0} (h : Heap T) (l : ℕ) → All (Reaches (links_at h) l) (elements h l)
elements-reached h l = seq-reached h (height_at h l) l

-- all that an element reaches is the same where all that the root reaches is
pub elements-stay : (T : Type 0) → ElementsStay T
elements-stay T old new l kept =
    All-weaker (Reaches (links_at old) l) (KeepsBelow old new) (λ k down m deeper. kept m (Reaches-trans (links_at old) l k m down deeper)) (elements old l) (elements-reached old l)

-- a vector of vectors stays
pub vectors-of-vectors-stay : (T : Type 0) → VectorsOfVectorsStay T
vectors-of-vectors-stay T old new l lists kept v =
    let deeper = elements-stay T old new l kept in
    let root : IsVectorOf new l (elements old l) = vector-stays T old new l kept v.good in
    let each : All (λ k. IsVectorOf new k (elements old k)) (elements old l) = λ i d b. vector-stays T old new (get_or (elements old l) i d) (deeper i d b) (v.each i d b) in
    record {
      good = root.0;
      each = subst (All (IsGoodVector new)) (sym root.1) (λ i d b. (each i d b).0);
      items = ap (map (elements new)) root.1 ∙ map-same (elements new) (elements old) (elements old l) (λ i d b. (each i d b).1) ∙ v.items;
    }

-- a vector that stays in one step and then in the next stays in both
pub same-vectors-follow : (T : Type 0) → SameVectorsFollow T
same-vectors-follow T a b c l first second good =
    let there = first good in
    let then = second there.0 in
    (then.0, then.1 ∙ there.1)

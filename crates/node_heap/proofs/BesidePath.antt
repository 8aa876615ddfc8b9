-- What stays where each row that was there is itself but for the rows of a path that are alone.
use Rattle.std.proofs.Common.{◌≡◌, ◌≢◌, ℕ, ◌<◌, List, [], ◌∷◌, take, refl, ap, sym, subst, ◌∙◌, arith, IsSome, inl, inr}
use Rattle.std.proofs.lemmas.Bool.{cases_eq, cases_lt}
use Rattle.node_heap.specs.Links.{Links, count, HasLink, Reaches, here, below}
use Rattle.node_heap.specs.Forms.{links_of}
use Rattle.node_heap.specs.Heap.{Heap, row_at, links_at, holds_at, owners_at, IsGraph}
use Rattle.node_heap.specs.Calls.{KeepsBelow}
use Rattle.node_heap.specs.Owner.{Owner, by_hold, owned, holds_beside, links_beside, with_root, KeepsBeside, written, WritesOnly, WritesOnlyLeft, IsOwner}
use Rattle.node_heap.proofs.Counts.{test_same, test_other}
use Rattle.node_heap.proofs.BuildLemmas.{count-cons}
use Rattle.node_heap.proofs.Reach.{Reaches-trans, Reaches-within}
use Rattle.node_heap.proofs.Ways.{Reaches-last}
use Rattle.node_heap.proofs.GraphLemmas.{IsGraph-acyclic}
use Rattle.node_heap.proofs.Edited.{IsOwners-heap}
use Rattle.node_heap.proofs.AloneLemmas.{alone-no, written-cons}
use Rattle.node_heap.proofs.BesideOwner.{live-down, beside-in, off-root, held-is, same-below}

-- each of these rows is a link of the one before, from the row l on, and each that is followed by another is of this kind
unfoldable pub IsDown : {T : Type 0} → (ℕ → Type 0) → Heap T → ℕ → List ℕ → Type 0
IsDown Q h l [] = Unit {0}
IsDown Q h l (k ∷ ks) = HasLink (links_at h) l k × Q l × IsDown Q h k ks

module _ {T : Type 0} (Q : ℕ → Type 0) (h : Heap T) where
  pub down-end : (l : ℕ) → IsDown Q h l []
  unfolding IsDown
  down-end l = tt

  pub down-then : (l k : ℕ) (ks : List ℕ) → HasLink (links_at h) l k → Q l → IsDown Q h k ks → IsDown Q h l (k ∷ ks)
  unfolding IsDown
  down-then l k ks has is rest = (has, is, rest)

  -- what is written of a path has one owner, and is its first row or is written of the rest
  abbrev first-written : (w l : ℕ) (tail : List ℕ) → 0 < count w (written h (l ∷ tail)) → (owners_at h l ≡ 1) × (0 < count w (l ∷ written h tail))
  first-written w l tail some = elim (cases_eq (owners_at h l) 1) as (λ _. (owners_at h l ≡ 1) × (0 < count w (l ∷ written h tail))) [
    | inl one ↦ (one, subst (λ xs. 0 < count w xs) (written-cons h l tail one) some)
    | inr other ↦
        let none : written h (l ∷ tail) ≡ [] = ap (λ (k : ℕ). take k (l ∷ tail)) (alone-no h l tail other) in
        absurd (omega (arith, some, ap (count w) none))
  ]

  -- what leads neither to the first row, where that is alone, nor is written of the rest leads to no written row
  pub off-written : (M : Links) → ((a b : ℕ) → HasLink M a b → HasLink (links_at h) a b) → (x l : ℕ) (tail : List ℕ) → IsDown Q h l tail → (owners_at h l ≡ 1 → ¬ Reaches M x l)
      → ((k : ℕ) → 0 < count k (written h tail) → x ≢ k) → (w : ℕ) → 0 < count w (written h (l ∷ tail)) → ¬ Reaches M x w
  unfolding IsDown
  off-written M in_h x l [] d top apart w some way =
      let f = first-written w l [] some in
      elim (cases_eq w l) as (λ _. ⊥) [
        | inl same ↦ top f.0 (subst (Reaches M x) same way)
        | inr other ↦ absurd (omega (arith, f.1, count-cons w l [], test_other w l other))
      ]
  off-written M in_h x l (k ∷ ks) d top apart w some way =
      let f = first-written w l (k ∷ ks) some in
      elim (cases_eq w l) as (λ _. ⊥) [
        | inl same ↦ top f.0 (subst (Reaches M x) same way)
        | inr other ↦
            let lower : 0 < count w (written h (k ∷ ks)) = omega (arith, f.1, count-cons w l (written h (k ∷ ks)), test_other w l other) in
            let here_is : owners_at h k ≡ 1 → 0 < count k (written h (k ∷ ks)) = λ one. subst (λ xs. 0 < count k xs) (sym (written-cons h k ks one)) (omega (arith, count-cons k k (written h ks), test_same k k refl)) in
            off-written M in_h x k ks d.2
            (λ one up. elim (Reaches-last M x k up) as (λ _. ⊥) [
              | inl same ↦ apart k (here_is one) same
              | inr last ↦ top f.0 (subst (Reaches M x) ((IsOwners-heap h).only l last.0 k d.0 (in_h last.0 k last.2) one) last.1)
            ])
            (λ j more. apart j (omega (arith, subst (λ xs. count j xs ≡ count j (k ∷ written h ks)) (sym (written-cons h k ks (first-written w k ks lower).0)) refl, count-cons j k (written h ks), more)))
            w lower way
      ]

  -- each row that is written below the first has its one owner in a row of the kind
  pub written-above : (l : ℕ) (tail : List ℕ) → IsDown Q h l tail → (k : ℕ) → 0 < count k (written h tail) → (p : ℕ) × Q p × HasLink (links_at h) p k × (owners_at h k ≡ 1)
  unfolding IsDown
  written-above l [] d k some = absurd (omega (arith, some))
  written-above l (j ∷ js) d k some =
      let f = first-written k j js some in
      elim (cases_eq k j) as (λ _. (p : ℕ) × Q p × HasLink (links_at h) p k × (owners_at h k ≡ 1)) [
        | inl same ↦ (l, d.1, subst (HasLink (links_at h) l) (sym same) d.0, ap (owners_at h) same ∙ f.0)
        | inr other ↦ written-above j js d.2 k (omega (arith, f.1, count-cons k j (written h js), test_other k j other))
      ]

-- a link of a row below the root that is not of the kind leads to no written row of a path of such rows
module _ {T : Type 0} (Q : ℕ → Type 0) (h : Heap T) (l : ℕ) (tail : List ℕ) (graph : IsGraph h) (down : IsDown Q h l tail) (row x : ℕ) (under : Reaches (links_at h) l row) (has : HasLink (links_at h) row x) where
  pub off-first : ¬ Reaches (links_at h) x l
  off-first up = let acyclic = IsGraph-acyclic h graph in acyclic row x has (Reaches-trans (links_at h) x l row up under)

  pub off-path : (Q row → ⊥) → (w : ℕ) → 0 < count w (written h (l ∷ tail)) → ¬ Reaches (links_at h) x w
  off-path other w some way = off-written Q h (links_at h) (λ a b k. k) x l tail down (λ one. off-first) apart w some way
    where
      apart : (k : ℕ) → 0 < count k (written h tail) → x ≢ k
      apart k some same =
          let up = written-above Q h l tail down k some in
          other (subst Q (sym ((IsOwners-heap h).only up.0 row k up.2 (subst (HasLink (links_at h) row) same has) up.3)) up.1)

-- an edit that leaves all but the rows of a path that are alone
module _ {T : Type 0} (Q : ℕ → Type 0) (owner : Owner) (old new : Heap T) (root : ℕ) (tail : List ℕ) (graph : IsGraph old) (is : IsOwner old owner) (down : IsDown Q old (owned old owner) tail) where
  -- what is held is not written below the root
  held-apart : (l : ℕ) → 0 < holds_beside old owner l → (k : ℕ) → 0 < count k (written old tail) → l ≢ k
  held-apart l some k has same =
      let up = written-above Q old (owned old owner) tail down k has in
      absurd (omega (arith, held-is owner old is l some, ap (holds_at old) same, (IsOwners-heap old).unheld up.0 k up.2 up.3))

  module _ (others : WritesOnly owner old new root (owned old owner ∷ tail)) where
    off-row : (m : ℕ) → (0 < count m (written old (owned old owner ∷ tail)) → ⊥) → IsSome (row_at old m) → row_at new m ≡ with_root owner root m (row_at old m)
    off-row m off live = elim (cases_lt 0 (count m (written old (owned old owner ∷ tail)))) as (λ _. row_at new m ≡ with_root owner root m (row_at old m)) [
      | inl some ↦ absurd (off some)
      | inr none ↦ others m live (omega (arith, none))
    ]

    -- all that is held beside the owner stays, what was handed in too
    pub others-beside : KeepsBeside owner root (λ _. 0) old new
    others-beside l m some way =
        off-row m (λ has. off-written Q old (links_beside old owner) (beside-in owner old is) l (owned old owner) tail down (off-root owner old is l some) (held-apart l some) m has way)
        (live-down old graph l m (Reaches-within (links_beside old owner) (links_at old) (beside-in owner old is) l m way) (graph.held l (held-is owner old is l some)))

    -- all below a link of a row below the root that is not of the path's kind
    pub others-below : (row x : ℕ) → Reaches (links_at old) (owned old owner) row → HasLink (links_at old) row x → (Q row → ⊥) → KeepsBelow old new x
    others-below row x under has other m way =
        off-row m (λ some. off-path Q old (owned old owner) tail graph down row x under has other m some way) (live-down old graph x m way (graph.closed row x has))
        ∙ same-below owner old is root x (off-first Q old (owned old owner) tail graph down row x under has) m way

  -- where rows may be freed: what is there and leads to no written row stays, with all below it
  module _ (graph' : IsGraph new) (others : WritesOnlyLeft owner old new root (owned old owner ∷ tail)) where
    kept-here : (k : ℕ) → IsSome (row_at old k) → IsSome (row_at new k) → (0 < count k (written old (owned old owner ∷ tail)) → ⊥) → with_root owner root k (row_at old k) ≡ row_at old k → row_at new k ≡ row_at old k
    kept-here k live there off same = elim (cases_lt 0 (count k (written old (owned old owner ∷ tail)))) as (λ _. row_at new k ≡ row_at old k) [
      | inl some ↦ absurd (off some)
      | inr none ↦ others k live there (omega (arith, none)) ∙ same
    ]

    left-down : (k m : ℕ) → Reaches (links_at old) k m → IsSome (row_at old k) → IsSome (row_at new k) → ((w : ℕ) → Reaches (links_at old) k w → 0 < count w (written old (owned old owner ∷ tail)) → ⊥)
        → ((w : ℕ) → Reaches (links_at old) k w → with_root owner root w (row_at old w) ≡ row_at old w) → row_at new m ≡ row_at old m
    left-down k m (here l) live there off same = kept-here l live there (off l (here l)) (same l (here l))
    left-down k m (below l j z has rest) live there off same =
        let kept : row_at new l ≡ row_at old l = kept-here l live there (off l (here l)) (same l (here l)) in
        left-down j z rest (graph.closed l j has) (graph'.closed l j (subst (λ r. 0 < count j (links_of r)) (sym kept) has)) (λ w on. off w (below l j w has on)) (λ w on. same w (below l j w has on))

    pub left-below : (row x : ℕ) → Reaches (links_at old) (owned old owner) row → HasLink (links_at old) row x → (Q row → ⊥) → IsSome (row_at new x) → KeepsBelow old new x
    left-below row x under has other there m way =
        left-down x m way (graph.closed row x has) there (λ w on some. off-path Q old (owned old owner) tail graph down row x under has other w some on)
        (same-below owner old is root x (off-first Q old (owned old owner) tail graph down row x under has))

-- and by a hold, what else is held
pub left-held : {T : Type 0} (Q : ℕ → Type 0) (old new : Heap T) (r root : ℕ) (tail : List ℕ) → IsGraph old → IsGraph new → 0 < holds_at old r → IsDown Q old r tail
    → WritesOnlyLeft (by_hold r) old new root (r ∷ tail) → (l : ℕ) → 0 < holds_beside old (by_hold r) l → IsSome (row_at new l) → KeepsBelow old new l
left-held Q old new r root tail graph graph' is down others l some there m way =
    left-down Q (by_hold r) old new root tail graph is down graph' others l m way (graph.held l (held-is (by_hold r) old is l some)) there
    (λ w on has. off-written Q old (links_at old) (λ a b k. k) l r tail down (off-root (by_hold r) old is l some) (held-apart Q (by_hold r) old new root tail graph is down l some) w has on) (λ w on. refl)

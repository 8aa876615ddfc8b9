-- The paths of vectors go down by inner rows, and elements stand in leaves: so what leaves all but the alone rows of a path leaves
-- all below each element.
use Rattle.std.proofs.Common.{◌≡◌, ℕ, zero, suc, ◌-◌, ◌<◌, ◌≤◌, List, [], ◌∷◌, length, take, get_or, refl, ap, subst, ◌∙◌, arith, IsSome, inl, inr}
use Rattle.std.specs.List.{All, flat_map}
use Rattle.std.proofs.lemmas.Bool.{cases_lt}
use Rattle.node_heap.specs.Links.{count, HasLink, Reaches, here, below}
use Rattle.node_heap.specs.Forms.{links_in}
use Rattle.node_heap.specs.Heap.{Heap, row_at, form_at, links_at, IsGraph}
use Rattle.node_heap.specs.Calls.{KeepsBelow}
use Rattle.node_heap.specs.declared.owner.Owner.{Owner}
use Rattle.node_heap.specs.Owner.{owned, WritesOnly, WritesOnlyLeft, IsOwner}
use Rattle.node_heap.proofs.Counts.{test_same}
use Rattle.node_heap.proofs.BuildLemmas.{count-cons, count-append}
use Rattle.node_heap.proofs.Edited.{count-at}
use Rattle.node_heap.proofs.BesidePath.{IsDown, down-end, down-then, others-below, left-below}
use Rattle.rrb_core.specs.Seq.{height_in, seq_at, IsWell}
use Rattle.rrb_core.proofs.FillRule.{height-is}
use Rattle.rrb_core.proofs.Stays.{links-form}
use Rattle.edit_vec.specs.Path.{rows_over}
use Rattle.edit_vec.proofs.PathLemmas.{is-in, over-at, rows_below, rows-below, spine_below, spine-below}

-- an inner row
abbrev pub IsTall : {T : Type 0} → Heap T → ℕ → Type 0
IsTall h l = 1 ≤ height_in (form_at h) l

module _ {T : Type 0} (h : Heap T) where
  pub down-take : (l m : ℕ) (ks : List ℕ) → IsDown (IsTall h) h l ks → IsDown (IsTall h) h l (take m ks)
  unfolding IsDown
  down-take l zero ks d = tt
  down-take l (suc m) [] d = tt
  down-take l (suc m) (k ∷ ks) d = (d.0, d.1, down-take k m ks d.2)

  pub down-rows : (n l index : ℕ) → IsWell (form_at h) n l → index < length (seq_at (form_at h) n l) → IsDown (IsTall h) h l (rows_below (form_at h) n l index)
  unfolding seq_at IsWell
  down-rows zero l index w lt = down-end (IsTall h) h l
  down-rows (suc n) l index w lt =
      let ks : List ℕ = links_in (form_at h) l in
      let spot = is-in (seq_at (form_at h) n) ks index lt in
      let k : ℕ = get_or ks spot.place 0 in
      let is : rows_below (form_at h) (suc n) l index ≡ k ∷ rows_below (form_at h) n k spot.within =
      ap (λ p. rows_over (form_at h) n p.0 p.1) (over-at (form_at h) n ks spot.place spot.within index spot.inside spot.low spot.before) ∙ rows-below (form_at h) n k spot.within in
      let has : HasLink (links_at h) l k = subst (λ xs. 0 < count k xs) (links-form h l) (count-at ks spot.place k spot.inside refl) in
      let tall : IsTall h l = omega (arith, height-is (form_at h) (suc n) l w) in
      rw is (down-then (IsTall h) h l k (rows_below (form_at h) n k spot.within) has tall (down-rows n k spot.within (w.children spot.place 0 spot.inside) spot.low))

  pub down-spine : (n l : ℕ) → IsWell (form_at h) n l → IsDown (IsTall h) h l (spine_below (form_at h) n l)
  unfolding IsWell
  down-spine zero l w = down-end (IsTall h) h l
  down-spine (suc n) l w =
      let ks : List ℕ = links_in (form_at h) l in
      let k : ℕ = get_or ks (length ks - 1) 0 in
      let inside : length ks - 1 < length ks = omega (arith, w.some) in
      let has : HasLink (links_at h) l k = subst (λ xs. 0 < count k xs) (links-form h l) (count-at ks (length ks - 1) k inside refl) in
      let tall : IsTall h l = omega (arith, height-is (form_at h) (suc n) l w) in
      rw (spine-below (form_at h) n k) (down-then (IsTall h) h l k (spine_below (form_at h) n k) has tall (down-spine n k (w.children (length ks - 1) 0 inside)))

  -- an element stands in a leaf
  pub leaf-of : (n l x : ℕ) → IsWell (form_at h) n l → 0 < count x (seq_at (form_at h) n l) → (q : ℕ) × Reaches (links_at h) l q × HasLink (links_at h) q x × (height_in (form_at h) q ≡ 0)
  unfolding IsWell seq_at
  leaf-of zero l x w some = (l, here l, subst (λ xs. 0 < count x xs) (links-form h l) some, height-is (form_at h) zero l w)
  leaf-of (suc n) l x w some = down (λ k wk more. leaf-of n k x wk more) (links_in (form_at h) l) (λ k has. subst (λ xs. 0 < count k xs) (links-form h l) has) w.children some
    where
      down : ((k : ℕ) → IsWell (form_at h) n k → 0 < count x (seq_at (form_at h) n k) → (q : ℕ) × Reaches (links_at h) k q × HasLink (links_at h) q x × (height_in (form_at h) q ≡ 0)) → (ks : List ℕ) → ((k : ℕ) → 0 < count k ks → HasLink (links_at h) l k) → All (IsWell (form_at h) n) ks → 0 < count x (flat_map (seq_at (form_at h) n) ks) → (q : ℕ) × Reaches (links_at h) l q × HasLink (links_at h) q x × (height_in (form_at h) q ≡ 0)
      down step [] has wells more = absurd (omega (arith, more))
      down step (k ∷ ks) has wells more = elim (cases_lt 0 (count x (seq_at (form_at h) n k))) as (λ _. (q : ℕ) × Reaches (links_at h) l q × HasLink (links_at h) q x × (height_in (form_at h) q ≡ 0)) [
        | inl front ↦ let r = step k (wells 0 0 (omega arith)) front in (r.0, below l k r.0 (has k (omega (arith, count-cons k k ks, test_same k k refl))) r.1, r.2, r.3)
        | inr none ↦ down step ks (λ j some'. has j (omega (arith, some', count-cons j k ks))) (λ i d b. wells (suc i) d (omega (arith, b))) (omega (arith, more, none, count-append x (seq_at (form_at h) n k) (flat_map (seq_at (form_at h) n) ks)))
      ]

module _ {T : Type 0} (owner : Owner) (old new : Heap T) (root n : ℕ) (tail : List ℕ) (graph : IsGraph old) (is : IsOwner old owner) (well : IsWell (form_at old) n (owned old owner)) (down : IsDown (IsTall old) old (owned old owner) tail) where
  -- all below each element stays
  pub others-elements : WritesOnly owner old new root (owned old owner ∷ tail) → (x : ℕ) → 0 < count x (seq_at (form_at old) n (owned old owner)) → KeepsBelow old new x
  others-elements others x some =
      let leaf = leaf-of old n (owned old owner) x well some in
      others-below (IsTall old) owner old new root tail graph is down others leaf.0 x leaf.1 leaf.2 (λ tall. omega (arith, tall, leaf.3))

  -- and where rows may be freed, below each that is there still
  pub left-elements : IsGraph new → WritesOnlyLeft owner old new root (owned old owner ∷ tail) → (x : ℕ) → 0 < count x (seq_at (form_at old) n (owned old owner)) → IsSome (row_at new x) → KeepsBelow old new x
  left-elements graph' others x some there =
      let leaf = leaf-of old n (owned old owner) x well some in
      left-below (IsTall old) owner old new root tail graph is down graph' others leaf.0 x leaf.1 leaf.2 (λ tall. omega (arith, tall, leaf.3)) there

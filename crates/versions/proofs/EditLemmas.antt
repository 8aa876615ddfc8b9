-- Lists that are edited in place.
use Rattle.std.proofs.Common.{◌≡◌, ℕ, suc, ◌+◌, ◌-◌, ◌<◌, ◌≤◌, List, [], ◌∷◌, ◌++◌, length, map, take, Some, refl, ap, sym, ◌∙◌, subst, arith, inl, inr}
use Rattle.std.specs.Prelude.{◌^◌, IsSome, slice_set, min}
use Rattle.std.proofs.Math.Nat.{min-le_left}
use Rattle.std.specs.List.{All}
use Rattle.std.proofs.lemmas.Bool.{cases_eq}
use Rattle.node_heap.specs.Links.{count, here}
use Rattle.node_heap.specs.Forms.{cell, value_of}
use Rattle.node_heap.specs.Heap.{Heap, row_at, holds_at, hold_count, one_at, IsGraph}
use Rattle.node_heap.specs.Calls.{Adds, Extends, Releases, KeepsHeld}
use Rattle.node_heap.specs.declared.owner.Owner.TheVariants.{Hold as by_hold}
use Rattle.node_heap.specs.Owner.{EditsBy}
use Rattle.node_heap.proofs.CallerLemmas.{count-link, count-one, test_same, test_other, Extends-trans, Extends-row, KeepsHeld-EditsBy}
use Rattle.rrb_core.specs.Vector.{elements, height_at, IsVectorOf}
use Rattle.rrb_core.proofs.CallerLemmas.{all-counted, count-part, seq-live}
use Rattle.edit_vec.specs.Edit.{PushesElement, SetsElement, PopsElement}
use Rattle.edit_vec.proofs.CallerLemmas.{pushes-keep, sets-keep, pops-keep}
use Rattle.versions.specs.Roots.{Edits}
use Rattle.versions.specs.Rooted.{value_at, IsListOf}
use Rattle.versions.proofs.ListLemmas.{list-stays, lists-stay, list-length, map-same}
use Rattle.versions.proofs.MakingLemmas.{cells-pushed, cells-set, cells-taken, cells-kept, cell-value}

-- what holds of each member counted holds of a member
counted-of : (P : ℕ → Type 0) (xs : List ℕ) → All P xs → (k : ℕ) → 0 < count k xs → P k
counted-of P [] all k some = absurd (omega (arith, some))
counted-of P (x ∷ xs) all k some = elim (cases_eq k x) as (λ _. P k) [
  | inl same ↦ subst P (sym same) (all 0 x (omega arith))
  | inr other ↦ counted-of P xs (λ j d b. all (suc j) d (omega (arith, b))) k (omega (arith, some, count-link k x xs, test_other k x other))
]

module _ {T : Type 0} where
  -- a hold is among those that there are
  pub one-held : (h : Heap T) (l k : ℕ) → 0 < holds_at h l → one_at l k ≤ holds_at h k
  one-held h l k held = elim (cases_eq k l) as (λ _. one_at l k ≤ holds_at h k) [
    | inl same ↦ omega (arith, held, test_same k l same, ap (holds_at h) same)
    | inr other ↦ omega (arith, test_other k l other)
  ]

  -- an element put after the last
  module _ (a m : Heap T) (l k : ℕ) (x : T) (adds : Adds a m k (cell x)) (more : Extends a m) (one : hold_count m ≡ hold_count a + 1) (held : 0 < holds_at a l) where
    cell-holds : (q : ℕ) → holds_at m q ≡ holds_at a q + one_at k q
    cell-holds q = let first : holds_at m q + 0 ≡ holds_at a q + one_at k q = adds.holds q in omega (arith, first)

    pub push-both : (q : ℕ) → count q (l ∷ k ∷ []) ≤ holds_at m q
    push-both q = omega (arith, cell-holds q, one-held a l q held, count-link q l (k ∷ []), count-one q k)

    cell-beside : 0 < holds_at m k - one_at l k
    cell-beside = omega (arith, cell-holds k, test_same k k refl, one-held a l k held)

    still-beside : (q : ℕ) → one_at l q < holds_at a q → 0 < holds_at m q - one_at l q
    still-beside q beside = omega (arith, cell-holds q, beside)

    root-held : 0 < holds_at m l
    root-held = omega (arith, cell-holds l, held)

    pub pushed-here : (c : Heap T) (w : ℕ) (xs : List T) → IsGraph m → PushesElement (by_hold l) m c w k → IsListOf a l xs → Edits IsListOf a c l w (xs ++ x ∷ [])
    pushed-here c w xs graph did is =
        let before = lists-stay a m more l xs is in
        let law = pushes-keep T (by_hold l) m c w graph root-held before.good did.others in
        let same : All (λ z. value_at c z ≡ value_at m z) (elements m l) = all-counted (λ z. value_at c z ≡ value_at m z) (elements m l) (λ z some. ap value_of (law.below z some z (here z))) in
        let cells : map (value_at c) (elements m l) ≡ map Some xs = map-same (value_at c) (value_at m) (elements m l) same ∙ before.cells in
        let new : value_at c k ≡ Some x = ap value_of (law.beside k k cell-beside (here k)) ∙ cell-value a m k x adds in
        record {
          is = record { good = did.vector.0; cells = ap (map (value_at c)) did.vector.1 ∙ cells-pushed (value_at c) (elements m l) xs k x cells new };
          keeps = λ q ys beside listed. list-stays m c q ys (λ n down. law.beside q n (still-beside q beside) down) (lists-stay a m more q ys listed);
          holds = λ q. omega (arith, cell-holds q, did.edits.trades.holds q, count-link q l (k ∷ []), count-one q k, count-one q w);
          count = omega (arith, one, did.edits.trades.total);
        }

  module _ (a m b : Heap T) (l k v : ℕ) (x : T) (adds : Adds a m k (cell x)) (more : Extends a m) (one : hold_count m ≡ hold_count a + 1) (held : 0 < holds_at a l)
      (opens : Extends m b) (vector : IsVectorOf b v (elements m l)) (opened : EditsBy (by_hold l) m b v [] [] 0 1) where
    here-holds : (q : ℕ) → holds_at b q + one_at l q ≡ holds_at a q + one_at k q + one_at v q
    here-holds q =
        let first : holds_at m q + 0 ≡ holds_at a q + one_at k q = adds.holds q in
        omega (arith, first, opened.trades.holds q, count-one q l, count-one q v)

    here-owner : 0 < holds_at b v
    here-owner = omega (arith, here-holds v, test_same v v refl, one-held a l v held)

    here-apart : (q : ℕ) → one_at l q < holds_at a q → 0 < holds_at b q - one_at v q
    here-apart q beside = omega (arith, here-holds q, beside)

    here-cell : 0 < holds_at b k - one_at v k
    here-cell = omega (arith, here-holds k, test_same k k refl, one-held a l k held)

    pub here-both : (q : ℕ) → count q (v ∷ k ∷ []) ≤ holds_at b q
    here-both q = omega (arith, here-holds q, one-held a l q held, count-link q v (k ∷ []), count-one q k)

    here-list : (xs : List T) → IsListOf a l xs → IsListOf b v xs
    here-list xs is =
        let at = lists-stay a m more l xs is in
        record { good = vector.0; cells = ap (map (value_at b)) vector.1 ∙ cells-kept m b opens (elements m l) xs at.cells }

    here-value : value_at b k ≡ Some x
    here-value = ap value_of (Extends-row opens k (subst IsSome (sym adds.here) refl)) ∙ cell-value a m k x adds

    pub set-given : (c : Heap T) (w index given : ℕ) → SetsElement (by_hold v) b c w index k given → 0 < holds_at c given
    set-given c w index given did = omega (arith, here-both given, did.edits.trades.holds given, count-link given w (given ∷ []), count-one given given, test_same given given refl)

    -- an element put in place of another, which is given up
    module _ (c d : Heap T) (w index given : ℕ) (did : SetsElement (by_hold v) b c w index k given) (gone : Releases c d given) (left : KeepsHeld (one_at given) c d) where
      set-holds : (q : ℕ) → holds_at c q + one_at l q ≡ holds_at a q + one_at w q + one_at given q
      set-holds q = omega (arith, here-holds q, did.edits.trades.holds q, count-link q v (k ∷ []), count-one q k, count-link q w (given ∷ []), count-one q given)

      pub set-here : (xs : List T) → index < length xs → IsListOf a l xs → Edits IsListOf a d l w (slice_set xs index x)
      set-here xs inside is =
          let before = here-list xs is in
          let law = sets-keep T (by_hold v) b c w index opened.trades.graph here-owner before.good (omega (arith, inside, list-length b v xs before)) did.others in
          let same : All (λ z. value_at c z ≡ value_at b z) (elements b v) = all-counted (λ z. value_at c z ≡ value_at b z) (elements b v) (λ z some. ap value_of (law.below z some z (here z))) in
          let cells : map (value_at c) (elements b v) ≡ map Some xs = map-same (value_at c) (value_at b) (elements b v) same ∙ before.cells in
          let new : value_at c k ≡ Some x = ap value_of (law.beside k k here-cell (here k)) ∙ here-value in
          let there : IsListOf c w (slice_set xs index x) = record { good = did.vector.0; cells = ap (map (value_at c)) did.vector.1 ∙ cells-set (value_at c) (elements b v) xs index k x cells new } in
          record {
            is = list-stays c d w (slice_set xs index x) (left.kept w (omega (arith, set-holds w, test_same w w refl, one-held a l w held))) there;
            keeps = λ q ys beside listed. list-stays c d q ys (left.kept q (omega (arith, set-holds q, beside))) (list-stays b c q ys (λ n down. law.beside q n (here-apart q beside) down) (lists-stay a b (Extends-trans more opens) q ys listed));
            holds = λ q. omega (arith, set-holds q, gone.holds q);
            count = omega (arith, one, opened.trades.total, did.edits.trades.total, gone.count);
          }

  -- the last element taken off and given up
  module _ (a c : Heap T) (l w given : ℕ) (held : 0 < holds_at a l) (did : PopsElement (by_hold l) a c w given) where
    pop-holds : (q : ℕ) → holds_at c q + one_at l q ≡ holds_at a q + one_at w q + one_at given q
    pop-holds q = omega (arith, did.edits.trades.holds q, count-one q l, count-link q w (given ∷ []), count-one q given)

    pub pop-given : 0 < holds_at c given
    pop-given = omega (arith, pop-holds given, one-held a l given held, test_same given given refl)

    pub popped-here : (d : Heap T) (xs : List T) → IsGraph a → Releases c d given → KeepsHeld (one_at given) c d → IsListOf a l xs → Edits IsListOf a d l w (take (length xs - 1) xs)
    popped-here d xs graph gone left is =
        let es = elements a l in
        let n = length xs - 1 in
        let size : length es - 1 ≡ n = ap (λ j. j - 1) (list-length a l xs is) in
        let is-front : elements c w ≡ take n es = did.vector.1 ∙ ap (λ j. take j es) size in
        let live : All (λ z. IsSome (row_at c z)) (take n es) = subst (All (λ z. IsSome (row_at c z))) is-front (seq-live c did.edits.trades.graph (height_at c w) w) in
        let same : All (λ z. value_at c z ≡ value_at a z) (take n es) = all-counted (λ z. value_at c z ≡ value_at a z) (take n es) (λ z some.
        ap value_of (pops-keep T (by_hold l) a c w graph did.edits.trades.graph held is.good did.others z (omega (arith, some, count-part z 0 n es)) (counted-of (λ j. IsSome (row_at c j)) (take n es) live z some) z (here z))) in
        let there : IsListOf c w (take n xs) = record { good = did.vector.0; cells = ap (map (value_at c)) is-front ∙ map-same (value_at c) (value_at a) (take n es) same ∙ cells-taken (value_at a) es xs n is.cells } in
        let held-on = KeepsHeld-EditsBy did.edits in
        record {
          is = list-stays c d w (take n xs) (left.kept w (omega (arith, pop-holds w, test_same w w refl, one-held a l w held))) there;
          keeps = λ q ys beside listed. list-stays c d q ys (left.kept q (omega (arith, pop-holds q, beside))) (list-stays a c q ys (held-on.kept q (omega (arith, count-one q l, beside))) listed);
          holds = λ q. omega (arith, pop-holds q, gone.holds q);
          count = omega (arith, did.edits.trades.total, gone.count);
        }

-- a row made of a spare
pub made-one : (old new n : ℕ) → new ≡ min (old + n) (2 ^ 64 - 1) → new ≤ old + n
made-one old new n is = subst (λ k. k ≤ old + n) (sym is) (min-le_left (old + n) (2 ^ 64 - 1))

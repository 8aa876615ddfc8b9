-- A list of vectors with one more.
use Rattle.std.proofs.Common.{◌≡◌, ℕ, ◌+◌, ◌<◌, List, [], ◌∷◌, ◌++◌, Ok, Err, Option, None, Some, subst, sym, arith, length-append, inl, inr}
use Rattle.std.specs.Prelude.{IfOk, IfSome, IsOk, IsSome}
use Rattle.std.specs.declared.result.Result.{Result}
use Rattle.std.specs.List.{All, slice_get}
use Rattle.std.proofs.lemmas.Bool.{cases_eq}
use Rattle.std.proofs.lemmas.List.Elements.{All-weaker, All-push, All-get_or, All-head, All-tail}
use Rattle.std.proofs.lemmas.Option.{slice_get_within, get_or_from_slice_get}
use Rattle.node_heap.specs.Links.{count}
use Rattle.node_heap.specs.Heap.{Heap, row_at, form_at, hold_count}
use Rattle.node_heap.proofs.BuildLemmas.{count-cons}
use Rattle.rrb_core.specs.Vector.{elements, height_at}
use Rattle.rrb_core.proofs.Stays.{well-live}
use Rattle.champ_chain.proofs.CopyLemmas.{one_at-other}
use Rattle.same_value.specs.Cells.{IsCellLink, IsLines}
use Rattle.vector_tests.specs.Stands.{KeepsLines, HasVectors}

module _ {T : Type 0} where
  -- each of the vectors is one
  pub vector-at : (h : Heap T) (roots : List ℕ) (turn l : ℕ) → slice_get roots turn ≡ Some l → HasVectors h roots → IsLines h l
  vector-at h roots turn l at has = subst (IsLines h) (get_or_from_slice_get roots turn l l at) (All-get_or (IsLines h) roots turn l (slice_get_within roots turn l at) has.lines)

  pub vector-live : (h : Heap T) (roots : List ℕ) (turn l : ℕ) → slice_get roots turn ≡ Some l → HasVectors h roots → IsSome (row_at h l)
  vector-live h roots turn l at has = well-live h (height_at h l) l (vector-at h roots turn l at has).good.shape.well

  -- each of its elements is a cell
  pub element-cell : (h : Heap T) (v index : ℕ) (element : Option ℕ) → element ≡ slice_get (elements h v) index → IsLines h v → IfSome element (IsCellLink (form_at h))
  element-cell h v index None is lines = tt
  element-cell h v index (Some l) is lines =
      let at : slice_get (elements h v) index ≡ Some l = sym is in
      subst (IsCellLink (form_at h)) (get_or_from_slice_get (elements h v) index l l at) (All-get_or (IsCellLink (form_at h)) (elements h v) index l (slice_get_within (elements h v) index l at) lines.cells)

  -- what a call made stands behind the vectors that were there
  pub vectors-more : {E : Type 0} (old new : Heap T) (roots after : List ℕ) (made : Result ℕ E) → IsOk made → IfOk made (λ l. IsLines new l) → IfOk made (λ _. KeepsLines old new) → IfOk made (λ _. hold_count new ≡ hold_count old + 1) → IfOk made (λ l. after ≡ roots ++ l ∷ []) → HasVectors old roots → HasVectors new after
  vectors-more old new roots after (Ok l) ok is keeps count list has = subst (HasVectors new) (sym list) record { lines = All-push (IsLines new) roots l (All-weaker (IsLines old) (IsLines new) keeps roots has.lines) is; few = omega (arith, count, has.few, length-append roots (l ∷ [])) }
  vectors-more old new roots after (Err e) ok is keeps count list has = absurd (let h = ok in cc)

-- what holds of each element holds of each that is counted
pub counted-all : (P : ℕ → Type 0) (xs : List ℕ) → All P xs → (k : ℕ) → 0 < count k xs → P k
counted-all P [] all k some = absurd (omega arith)
counted-all P (x ∷ xs) all k some = elim (cases_eq x k) as (λ _. P k) [
  | inl same ↦ subst P same (All-head P x xs all)
  | inr other ↦ counted-all P xs (All-tail P x xs all) k (omega (arith, some, count-cons k x xs, one_at-other x k other))
]

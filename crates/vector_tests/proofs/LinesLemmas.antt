-- Vectors of cells stay wherever every row stays.
use Rattle.std.proofs.Common.{◌≡◌, ℕ, List, [], ◌∷◌, ◌++◌, ap, sym, subst, Some}
use Rattle.std.specs.Prelude.{option_map}
use Rattle.std.specs.List.{All}
use Rattle.std.proofs.lemmas.List.Elements.{All-weaker, All-append, All-push}
use Rattle.node_heap.specs.Forms.{cell, form_of}
use Rattle.node_heap.specs.Heap.{Heap, row_at, form_at}
use Rattle.node_heap.specs.Calls.{Extends}
use Rattle.champ_chain.proofs.FrameLemmas.{forms-kept}
use Rattle.rrb_core.specs.Vector.{elements, IsGoodVector}
use Rattle.rrb_core.proofs.Stays.{extended-same}
use Rattle.same_value.specs.Cells.{IsCellLink, IsLines}
use Rattle.vector_tests.specs.Stands.{KeepsLines}

module _ {T : Type 0} {old new : Heap T} (extends : Extends old new) where
  pub cell-stays : (l : ℕ) → IsCellLink (form_at old) l → IsCellLink (form_at new) l
  cell-stays l is = (is.0, (forms-kept old new extends).kept l (cell is.0) is.1)

  pub lines-stay : KeepsLines old new
  lines-stay l is =
      let same = extended-same extends l is.good in
      record { good = same.0; cells = subst (All (IsCellLink (form_at new))) (sym same.1) (All-weaker (IsCellLink (form_at old)) (IsCellLink (form_at new)) cell-stays (elements old l) is.cells) }

module _ {T : Type 0} (h : Heap T) where
  -- a vector of cells with one more, and two such vectors as one
  pub lines-more : (l m : ℕ) (xs : List ℕ) → IsGoodVector h l → elements h l ≡ xs ++ m ∷ [] → All (IsCellLink (form_at h)) xs → IsCellLink (form_at h) m → IsLines h l
  lines-more l m xs good is all one = record { good = good; cells = subst (All (IsCellLink (form_at h))) (sym is) (All-push (IsCellLink (form_at h)) xs m all one) }

  pub lines-both : (l : ℕ) (xs ys : List ℕ) → IsGoodVector h l → elements h l ≡ xs ++ ys → All (IsCellLink (form_at h)) xs → All (IsCellLink (form_at h)) ys → IsLines h l
  lines-both l xs ys good is first second = record { good = good; cells = subst (All (IsCellLink (form_at h))) (sym is) (All-append (IsCellLink (form_at h)) xs ys first second) }

  pub row-cell : (l : ℕ) (x : T) → row_at h l ≡ Some (cell x) → IsCellLink (form_at h) l
  row-cell l x is = (x, ap (λ r. option_map form_of r) is)

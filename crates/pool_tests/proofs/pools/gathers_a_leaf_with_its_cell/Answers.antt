use Rattle.std.proofs.Common.{◌≡◌, ◌⊎◌, ℕ, ◌<◌, true, List, [], ◌∷◌, Option, Some, option_map, ap, sym, subst, ◌∙◌, arith, inl, inr}
use Rattle.std.proofs.lemmas.Bool.{cases_eq}
use Rattle.node_heap.specs.Links.{count, HasLink, Reaches, here, below}
use Rattle.node_heap.specs.Forms.{Row, cell, node, links_of, form_of}
use Rattle.node_heap.specs.Heap.{Heap, row_at, form_at, links_at}
use Rattle.node_heap.specs.declared.row.Head.TheVariants.{Leaf}
use Rattle.node_heap.proofs.Counts.{count-cons, test_other}
use Rattle.pool_text.specs.Pool.{fits_pool}
use Rattle.pool_tests.proofs.pools.gathers_a_leaf_with_its_cell.Goals as goal

-- a leaf over one cell
module _ {T : Type 0} (h : Heap T) (top low : ℕ) (x : T) (over : row_at h top ≡ Some (node Leaf (low ∷ []))) (under : row_at h low ≡ Some (cell x)) where
  linked : (l k : ℕ) → HasLink (links_at h) l k → (l ≡ top) ⊎ (l ≡ low) → (k ≡ top) ⊎ (k ≡ low)
  linked l k first (inl same) =
      let has : 0 < count k (low ∷ []) = subst (λ (ls : List ℕ). 0 < count k ls) (ap (links_at h) same ∙ ap links_of over) first in
      elim (cases_eq k low) as (λ _. (k ≡ top) ⊎ (k ≡ low)) [
        | inl at ↦ inr at
        | inr other ↦ absurd (omega (arith, has, count-cons k low [], test_other low k (λ e. other (sym e))))
      ]
  linked l k first (inr same) =
      let has : 0 < count k [] = subst (λ (ls : List ℕ). 0 < count k ls) (ap (links_at h) same ∙ ap links_of under) first in
      absurd (omega (arith, has))

  fits : (r l : ℕ) → Reaches (links_at h) r l → (r ≡ top) ⊎ (r ≡ low) → fits_pool (form_at h l) ≡ true
  fits r l (here k) (inl same) = ap (λ (n : ℕ). fits_pool (form_at h n)) same ∙ ap (λ (row : Option (Row T)). fits_pool (option_map form_of row)) over
  fits r l (here k) (inr same) = ap (λ (n : ℕ). fits_pool (form_at h n)) same ∙ ap (λ (row : Option (Row T)). fits_pool (option_map form_of row)) under
  fits r l (below a k m first rest) at = fits k m rest (linked a k first at)

  rooted : (r : ℕ) → 0 < count r (top ∷ top ∷ []) → (r ≡ top) ⊎ (r ≡ low)
  rooted r some =
      elim (cases_eq r top) as (λ _. (r ≡ top) ⊎ (r ≡ low)) [
        | inl same ↦ inl same
        | inr other ↦ absurd (omega (arith, some, count-cons r top (top ∷ []), count-cons r top [], test_other top r (λ e. other (sym e))))
      ]

pub node-leaf-requires-clause-held : goal.node-leaf-requires-clause-held
node-leaf-requires-clause-held g c = λ l. omega (arith, c.cell-cell.ensures.adds.holds l)

pub pool_of-requires-clause-fits : goal.pool_of-requires-clause-fits
pool_of-requires-clause-fits g c =
    let old = c.cell-cell.new.self in
    let new = c.node-leaf.new.self in
    let low : ℕ = c.cell-cell.result in
    let top : ℕ = c.node-leaf.result in
    let apart : low ≡ top → ⊥ = λ e. let gone = c.node-leaf.ensures.adds.fresh in let there = c.cell-cell.ensures.adds.here in let same = ap (row_at old) e in cc in
    let under = c.node-leaf.ensures.adds.others low apart ∙ c.cell-cell.ensures.adds.here in
    λ r l some down. fits new top low _ c.node-leaf.ensures.adds.here under r l down (rooted new top low _ c.node-leaf.ensures.adds.here under r some)

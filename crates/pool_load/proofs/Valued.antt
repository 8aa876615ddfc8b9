-- Cells that were made have the values of their places.
use Rattle.std.proofs.Common.{◌≡◌, ℕ, ◌<◌, Some, IsSome, List, [], ◌∷◌, ◌++◌, length, get_or, ap, refl, sym, subst, ◌∙◌, arith, inl, inr, length-append}
use Rattle.std.proofs.lemmas.Bool.{cases_lt}
use Rattle.std.proofs.lemmas.List.{get_or_append_left, get_or_at}
use Rattle.node_heap.specs.Links.{count}
use Rattle.node_heap.specs.Forms.{cell, node}
use Rattle.node_heap.specs.declared.row.Head.{Head}
use Rattle.node_heap.specs.Heap.{Heap, row_at}
use Rattle.node_heap.specs.Calls.{SameRows, Extends}
use Rattle.node_heap.proofs.Frames.{Extends-row}
use Rattle.rrb_core.proofs.LinkCounts.{count-at}
use Rattle.pool_text.specs.Rows.{Bytes}
use Rattle.pool_load.specs.Making.{ComesBeside, IsValued, AreValued}

module _ {T : Type 0} (text : T → Bytes) (value : ℕ → Bytes → T) where
  -- one link more
  pub one-more-valued : (mid new : Heap T) (links : List ℕ) (link : ℕ) → ((k : ℕ) → 0 < count k links → IsSome (row_at mid k)) → Extends mid new → AreValued text value mid links → IsValued text (value (length links)) new link
      → AreValued text value new (links ++ link ∷ [])
  one-more-valued mid new links link live more valued one p low = elim (cases_lt p (length links)) as (λ _. IsValued text (value p) new (get_or (links ++ link ∷ []) p 0)) [
    | inl less ↦
        let same : get_or (links ++ link ∷ []) p 0 ≡ get_or links p 0 = get_or_append_left links (link ∷ []) 0 p less in
        let kept : row_at new (get_or links p 0) ≡ row_at mid (get_or links p 0) = Extends-row more (get_or links p 0) (live (get_or links p 0) (count-at links p 0 less)) in
        λ x is. valued p less x (sym kept ∙ sym (ap (row_at new) same) ∙ is)
    | inr past ↦
        let at : length links ≡ p = omega (arith, low, past, length-append links (link ∷ [])) in
        subst (λ q. IsValued text (value q) new (get_or (links ++ link ∷ []) q 0)) at (subst (IsValued text (value (length links)) new) (sym (get_or_at links link [] 0 (length links) refl)) one)
  ]

  pub none-valued : (h : Heap T) → AreValued text value h []
  none-valued h p low = absurd (omega (arith, low))

  -- rows that stay keep their values
  pub same-valued : (old new : Heap T) (links : List ℕ) → SameRows old new → AreValued text value old links → AreValued text value new links
  same-valued old new links same valued p low x is = valued p low x (sym (same (get_or links p 0)) ∙ is)

module _ {T : Type 0} (text : T → Bytes) (value : Bytes → T) where
  -- a cell with the value of its text
  pub cell-valued : (h : Heap T) (l : ℕ) (v : T) → row_at h l ≡ Some (cell v) → v ≡ value (text v) → IsValued text value h l
  cell-valued h l v here made x is =
      let both : Some (cell v) ≡ Some (cell x) = sym here ∙ is in
      let same : v ≡ x = cc in
      subst (λ y. y ≡ value (text y)) same made

  -- a node has none
  pub node-valued : {old new : Heap T} {link : ℕ} {head : Head} {links : List ℕ} → ComesBeside old new link (node head links) → IsValued text value new link
  node-valued {head = head} {links = links} comes x is = absurd (let both : Some (node head links) ≡ Some (cell x) = sym comes.here ∙ is in cc)

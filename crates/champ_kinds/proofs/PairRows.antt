-- The rows of pairs.
use Rattle.std.proofs.Common.{◌≡◌, ℕ, List, [], ◌∷◌, ap, sym, ◌∙◌}
use Rattle.std.specs.Prelude.{IsSome}
use Rattle.node_heap.specs.Forms.{links_of}
use Rattle.node_heap.specs.Heap.{Heap, row_at, form_at}
use Rattle.champ_chain.specs.Entry.{Entry}
use Rattle.champ_chain.proofs.FrameLemmas.{form-live, links-form}
use Rattle.champ_kinds.specs.Binding.{Binding}
use Rattle.champ_kinds.specs.Kinds.{IsPair}

module _ {T : Type 0} where
  -- the links that are read from an entry's row
  pub links-read : (h : Heap T) {e : Entry T} {b : Binding T} → (p : IsPair (form_at h) e b) → (links : List ℕ) → links ≡ links_of (row_at h e.link) → links ≡ p.key_cell ∷ b.value ∷ []
  links-read h {e = e} p links is = is ∙ (sym (links-form h e.link) ∙ ap links_of p.row)

  pub pair-live : (h : Heap T) {e : Entry T} {b : Binding T} → IsPair (form_at h) e b → IsSome (row_at h e.link)
  pair-live h {e = e} p = form-live h e.link _ p.row

-- Links that were read from a row.
use Rattle.std.proofs.Common.{◌≡◌, ℕ, ◌<◌, List, length, get_or, ap, sym, ◌∙◌, Some}
use Rattle.std.proofs.lemmas.Grind.{get_or_default_zero}
use Rattle.node_heap.specs.Forms.{Kind, node, links_of}
use Rattle.node_heap.specs.Heap.{Heap, row_at, form_at}
use Rattle.champ_chain.proofs.FrameLemmas.{links-form}

module _ {T : Type 0} (h : Heap T) where
  -- the links of a row whose form is known
  pub read-row : (l : ℕ) (kind : Kind) (ls links : List ℕ) → links ≡ links_of (row_at h l) → form_at h l ≡ Some (node kind ls) → links ≡ ls
  read-row l kind ls links is row = is ∙ sym (links-form h l) ∙ ap links_of row

-- the link that was read
pub read-at : (xs : List ℕ) (i x : ℕ) → i < length xs → x ≡ get_or xs i x → x ≡ get_or xs i 0
read-at xs i x low is = is ∙ get_or_default_zero xs i x low

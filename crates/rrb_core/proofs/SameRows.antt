-- Two links that name the same row.
use Rattle.std.proofs.Common.{◌≡◌, ℕ, suc, zero, List, ap, ◌∙◌}
use Rattle.std.specs.Prelude.{option_map}
use Rattle.std.specs.List.{flat_map}
use Rattle.node_heap.specs.Forms.{Forms, form_of, links_of}
use Rattle.node_heap.specs.Heap.{Heap, row_at, form_at}
use Rattle.rrb_core.specs.Seq.{seq_at, IsThick, IsWell}
use Rattle.rrb_core.specs.Vector.{HasSums}
use Rattle.rrb_core.specs.Build.{IsRowOf}

module _ {K : Type 0} (F : Forms K) (l k : ℕ) (e : F k ≡ F l) where
  pub seq-same : (n : ℕ) → seq_at F n k ≡ seq_at F n l
  unfolding seq_at
  seq-same zero = ap links_of e
  seq-same (suc n) = ap (λ r. flat_map (seq_at F n) (links_of r)) e

  pub thick-same : (n : ℕ) → IsThick F n l → IsThick F n k
  unfolding IsThick
  thick-same zero t = rw e t
  thick-same (suc n) t = rw e t

  pub well-same : (n : ℕ) → IsWell F n l → IsWell F n k
  unfolding IsWell
  well-same zero w = record { kind = rw e w.kind; most = rw e w.most }
  well-same (suc n) w = record { kind = rw e w.kind; some = rw e w.some; most = rw e w.most; children = rw e w.children; thick = rw e w.thick; not_empty = rw e w.not_empty }

module _ {T : Type 0} (h : Heap T) (l k : ℕ) (e : row_at h k ≡ row_at h l) where
  pub form-same : form_at h k ≡ form_at h l
  form-same = ap (option_map form_of) e

  pub sums-same : (n : ℕ) → HasSums h n l → HasSums h n k
  unfolding HasSums
  sums-same zero s = tt
  sums-same (suc n) s = (rw e s.0, rw e s.1)

  pub row-same : {n : ℕ} {xs : List ℕ} → IsRowOf h n l xs → IsRowOf h n k xs
  row-same {n} r = record { well = well-same (form_at h) l k form-same n r.well; sums = sums-same n r.sums; items = seq-same (form_at h) l k form-same n ∙ r.items }

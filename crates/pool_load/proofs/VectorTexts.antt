-- A vector depends on the nodes alone, whatever stands in the cells.
use Rattle.std.proofs.Common.{◌≡◌, ℕ, zero, suc, ◌-◌, ◌≤◌, List, Some, length, take, ap, sym, subst, ◌∙◌, arith}
use Rattle.std.specs.List.{All, flat_map}
use Rattle.std.proofs.lemmas.List.Elements.{All-weaker}
use Rattle.node_heap.specs.Forms.{Forms, Kind, node, leaf, inner, links_in}
use Rattle.rrb_core.specs.Seq.{height_in, seq_at, seq, IsThick, IsWell, IsWellShaped}
use Rattle.pool_order.proofs.Places.{flat_map-same}

module _ {J K : Type 0} (F : Forms J) (G : Forms K) (links : (l : ℕ) → links_in G l ≡ links_in F l) where
  many : (l : ℕ) → length (links_in G l) ≡ length (links_in F l)
  many l = ap length (links l)

  seq-over : (n l : ℕ) → seq_at G n l ≡ seq_at F n l
  unfolding seq_at
  seq-over zero l = links l
  seq-over (suc n) l = ap (flat_map (seq_at G n)) (links l) ∙ flat_map-same (seq_at G n) (seq_at F n) (links_in F l) (λ k has. seq-over n k)

  thick-over : (n l : ℕ) → IsThick F n l → IsThick G n l
  unfolding IsThick
  thick-over zero l t = omega (arith, t, many l)
  thick-over (suc n) l t = (omega (arith, t.0, many l), subst (All (IsThick G n)) (sym (links l)) (All-weaker (IsThick F n) (IsThick G n) (λ k u. thick-over n k u) (links_in F l) t.1))

  -- the elements of a vector are the same
  pub elements-over : (l : ℕ) → height_in G l ≡ height_in F l → seq G l ≡ seq F l
  elements-over l height = ap (λ n. seq_at G n l) height ∙ seq-over (height_in F l) l

  module _ (nodes : (l : ℕ) (kind : Kind) (ks : List ℕ) → F l ≡ Some (node kind ks) → G l ≡ Some (node kind ks)) where
    well-over : (n l : ℕ) → IsWell F n l → IsWell G n l
    unfolding IsWell
    well-over zero l w = record {
      kind = nodes l leaf (links_in F l) w.kind ∙ ap (λ ks. Some (node leaf ks)) (sym (links l));
      most = omega (arith, w.most, many l);
    }
    well-over (suc n) l w = record {
      kind = nodes l (inner (suc n)) (links_in F l) w.kind ∙ ap (λ ks. Some (node (inner (suc n)) ks)) (sym (links l));
      some = omega (arith, w.some, many l);
      most = omega (arith, w.most, many l);
      children = subst (All (IsWell G n)) (sym (links l)) (All-weaker (IsWell F n) (IsWell G n) (λ k u. well-over n k u) (links_in F l) w.children);
      thick =
          subst (λ (ks : List ℕ). All (IsThick G n) (take (length ks - 1) ks)) (sym (links l))
          (All-weaker (IsThick F n) (IsThick G n) (λ k u. thick-over n k u) (take (length (links_in F l) - 1) (links_in F l)) w.thick);
      not_empty =
          subst (All (λ k. 1 ≤ length (links_in G k))) (sym (links l))
          (All-weaker (λ k. 1 ≤ length (links_in F k)) (λ k. 1 ≤ length (links_in G k)) (λ k some. omega (arith, some, many k)) (links_in F l) w.not_empty);
    }

    -- a vector keeps the fill rule
    pub shaped-over : (l : ℕ) → height_in G l ≡ height_in F l → IsWellShaped F l → IsWellShaped G l
    shaped-over l height w = record {
      well = subst (λ n. IsWell G n l) (sym height) (well-over (height_in F l) l w.well);
      two = λ h. let old : 2 ≤ length (links_in F l) = w.two (omega (arith, h, height)) in omega (arith, old, many l);
      short = omega (arith, w.short, ap length (elements-over l height));
      low = omega (arith, w.low, height);
    }

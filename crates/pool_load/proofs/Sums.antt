-- The sums of an inner row, by the lengths of the rows below it, and what vector rows hold under other links.
use Rattle.std.proofs.Common.{◌≡◌, ℕ, zero, suc, ◌+◌, ◌-◌, ◌*◌, ◌^◌, ◌<◌, ◌≤◌, ◌⊎◌, inl, inr, List, [], ◌∷◌, map, length, take, get_or, refl, ap, sym, ◌∙◌, arith, length-append}
use Rattle.std.specs.List.{All, flat_map}
use Rattle.std.proofs.lemmas.List.{length-map}
use Rattle.std.proofs.lemmas.List.Elements.{All-map}
use Rattle.std.proofs.lemmas.List.Folds.{flat_map-map}
use Rattle.std.proofs.lemmas.List.Sums.{sum_by-cons}
use Rattle.node_heap.specs.Links.{count}
use Rattle.node_heap.specs.Forms.{Forms, links_in}
use Rattle.node_heap.proofs.Counts.{test_same, count-cons}
use Rattle.rrb_core.specs.Seq.{seq_at}
use Rattle.rrb_core.specs.Vector.{IsRegular, KeepsSums}
use Rattle.rrb_core.proofs.LinkCounts.{all-counted}
use Rattle.rrb_core.proofs.Lists.{regular-of, regular-before}
use Rattle.pool_order.proofs.Places.{flat_map-same}
use Rattle.pool_text.proofs.Ordered.{map-flat}
use Rattle.pool_load.specs.Rows.{sum_over, AreFull, AreSumsOver}

-- what the first rows have together is the length of their elements
pub size-over : (g : ℕ → List ℕ) (f : ℕ → ℕ) (lengths ks : List ℕ) → ((k : ℕ) → 0 < count k ks → length (g (f k)) ≡ get_or lengths k 0) → (i : ℕ) → length (flat_map g (take i (map f ks))) ≡ sum_over lengths (take i ks)
size-over g f lengths [] same zero = refl
size-over g f lengths [] same (suc i) = refl
size-over g f lengths (k ∷ ks) same zero = refl
size-over g f lengths (k ∷ ks) same (suc i) =
    let first : length (g (f k)) ≡ get_or lengths k 0 = same k (omega (arith, count-cons k k ks, test_same k k refl)) in
    let rest = size-over g f lengths ks (λ j some. same j (omega (arith, count-cons j k ks, some))) i in
    omega (arith, length-append (g (f k)) (flat_map g (take i (map f ks))), sum_by-cons (λ p. get_or lengths p 0) k (take i ks), first, rest)

-- the row over the new links of these rows keeps these sums
pub keeps-over : {K : Type 0} (G : Forms K) (n : ℕ) (f : ℕ → ℕ) (lengths ks ss : List ℕ) → 1 ≤ length ks → AreSumsOver lengths n ks ss
    → ((k : ℕ) → 0 < count k ks → (length (seq_at G n (f k)) ≡ get_or lengths k 0) × (length (seq_at G n (f k)) ≤ 32 ^ suc n)) → KeepsSums G n (map f ks) ss
keeps-over G n f lengths ks ss some sums each =
    let g : ℕ → List ℕ = seq_at G n in
    let js : List ℕ = map f ks in
    let m : ℕ = 32 ^ suc n in
    let many : length js ≡ length ks = length-map ks f in
    let size : (i : ℕ) → length (flat_map g (take i js)) ≡ sum_over lengths (take i ks) = size-over g f lengths ks (λ k has. (each k has).0) in
    let most : All (λ j. length (g j) ≤ m) js = All-map (λ j. length (g j) ≤ m) f ks (all-counted (λ k. length (g (f k)) ≤ m) ks (λ k has. (each k has).1)) in
    let front : length (flat_map g (take (length js - 1) js)) ≡ sum_over lengths (take (length ks - 1) ks) = ap (λ (c : ℕ). length (flat_map g (take (c - 1) js))) many ∙ size (length ks - 1) in
    let times : (length js - 1) * m ≡ (length ks - 1) * m = ap (λ (c : ℕ). (c - 1) * m) many in
    let to : AreFull lengths n ks → IsRegular G n js = λ full. regular-of g m js most (front ∙ full ∙ sym times) in
    let from : IsRegular G n js → AreFull lengths n ks = λ regular. sym front ∙ regular-before g m js (length js - 1) (omega (arith, some, many)) regular ∙ times in
    record {
      none = (λ e. by_case e to (cases (sum_over lengths (take (length ks - 1) ks)) ((length ks - 1) * m)), λ regular. sums.none (from regular));
      kept = λ other. record {
        count = sums.count (λ full. other (to full)) ∙ sym many;
        each = λ i low. sums.each (λ full. other (to full)) i (omega (arith, low, many)) ∙ sym (size (i + 1));
      };
    }
  where
    cases : (a b : ℕ) → (a ≡ b) ⊎ (a ≡ b → ⊥)
    cases a b = grind arith

    by_case : ss ≡ [] → (AreFull lengths n ks → IsRegular G n (map f ks)) → AreFull lengths n ks ⊎ (¬ AreFull lengths n ks) → IsRegular G n (map f ks)
    by_case e to (inl full) = to full
    by_case e to (inr other) = absurd (omega (arith, some, sums.count other, ap length e))

-- the first places have the same links in both, under their new names
module _ {K K' : Type 0} (F : Forms K) (G : Forms K') (f : ℕ → ℕ) (bound : ℕ) (links_are : (p : ℕ) → p < bound → links_in G (f p) ≡ map f (links_in F p)) (low : (p k : ℕ) → 0 < count k (links_in F p) → k < p) where
  pub seq-renamed : (n p : ℕ) → p < bound → seq_at G n (f p) ≡ map f (seq_at F n p)
  unfolding seq_at
  seq-renamed zero p inside = links_are p inside
  seq-renamed (suc n) p inside =
      ap (flat_map (seq_at G n)) (links_are p inside) ∙ flat_map-map (seq_at G n) f (links_in F p)
      ∙ flat_map-same (λ k. seq_at G n (f k)) (λ k. map f (seq_at F n k)) (links_in F p) (λ k has. seq-renamed n k (omega (arith, inside, low p k has)))
      ∙ sym (map-flat f (seq_at F n) (links_in F p))

  pub length-renamed : (n p : ℕ) → p < bound → length (seq_at G n (f p)) ≡ length (seq_at F n p)
  length-renamed n p inside = ap length (seq-renamed n p inside) ∙ length-map (seq_at F n p) f

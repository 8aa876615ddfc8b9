-- Vectors under other links.
use Rattle.std.proofs.Common.{◌≡◌, ℕ, zero, suc, ◌-◌, ◌<◌, ◌≤◌, List, [], ◌∷◌, Option, Some, None, option_map, map, length, take, refl, ap, sym, subst, ◌∙◌, arith, inl, inr}
use Rattle.std.specs.List.{All, flat_map}
use Rattle.std.proofs.lemmas.Bool.{cases_eq}
use Rattle.std.proofs.lemmas.List.{length-map, take-map}
use Rattle.std.proofs.lemmas.List.Elements.{All-head, All-tail, All-nil, All-cons}
use Rattle.std.proofs.lemmas.List.Folds.{flat_map-map}
use Rattle.node_heap.specs.Links.{count, Reaches, here, below}
use Rattle.node_heap.specs.Forms.{Form, Forms, cell, node, leaf, inner, links_in}
use Rattle.node_heap.proofs.Counts.{test_same, test_other, count-cons}
use Rattle.node_heap.proofs.Trees.{map-same}
use Rattle.rrb_core.specs.Seq.{form_height, height_in, seq_at, seq, IsThick, IsWell, IsWellShaped}
use Rattle.rrb_core.proofs.LinkCounts.{all-counted}
use Rattle.pool_order.proofs.Places.{flat_map-same, flat_map-found}
use Rattle.pool_text.specs.Pool.{relink}
use Rattle.pool_text.specs.Renaming.{IsRenamed}
use Rattle.pool_text.proofs.Renamed.{renamed-links, renamed-link}
use Rattle.pool_text.proofs.Ordered.{map-flat}
use Rattle.pool_check.specs.Readings.{VectorReadsTheSame}

pub map-twice : {X : Type 0} (g : ℕ → X) (f : ℕ → ℕ) (ks : List ℕ) → map g (map f ks) ≡ map (λ k. g (f k)) ks
map-twice g f [] = refl
map-twice g f (k ∷ ks) = ap (λ ys. g (f k) ∷ ys) (map-twice g f ks)

-- what holds of all holds of each that is counted
pub all-at : (P : ℕ → Type 0) (ks : List ℕ) → All P ks → (k : ℕ) → 0 < count k ks → P k
all-at P [] all k some = absurd (omega arith)
all-at P (x ∷ xs) all k some = elim (cases_eq x k) as (λ _. P k) [
  | inl same ↦ subst P same (All-head P x xs all)
  | inr other ↦ all-at P xs (All-tail P x xs all) k (omega (arith, some, count-cons k x xs, test_other x k other))
]

all-image : (P Q : ℕ → Type 0) (f : ℕ → ℕ) (ks : List ℕ) → ((k : ℕ) → 0 < count k ks → P k → Q (f k)) → All P ks → All Q (map f ks)
all-image P Q f [] each all = All-nil Q
all-image P Q f (x ∷ xs) each all =
    All-cons Q (f x) (map f xs) (each x (omega (arith, count-cons x x xs, test_same x x refl)) (All-head P x xs all))
    (all-image P Q f xs (λ k some. each k (omega (arith, count-cons k x xs, some))) (All-tail P x xs all))

count-take : (k i : ℕ) (ks : List ℕ) → count k (take i ks) ≤ count k ks
count-take k zero ks = omega arith
count-take k (suc i) [] = omega arith
count-take k (suc i) (x ∷ ks) = omega (arith, count-take k i ks, count-cons k x ks, count-cons k x (take i ks))

front-map : (f : ℕ → ℕ) (ks : List ℕ) → take (length (map f ks) - 1) (map f ks) ≡ map f (take (length ks - 1) ks)
front-map f ks = ap (λ n. take (n - 1) (map f ks)) (length-map ks f) ∙ take-map f (length ks - 1) ks

height-relink : {K : Type 0} (f : ℕ → ℕ) (r : Option (Form K)) → form_height (option_map (relink f) r) ≡ form_height r
height-relink f None = refl
height-relink f (Some (cell x)) = refl
height-relink f (Some (node kind links)) = refl

module _ {K : Type 0} (f : ℕ → ℕ) (G H : Forms K) where
  height-renamed : (l : ℕ) → IsRenamed f G H l → height_in H (f l) ≡ height_in G l
  height-renamed l image = ap form_height (image l (here l)) ∙ height-relink f (G l)

  seq-renamed : (n l : ℕ) → IsRenamed f G H l → seq_at H n (f l) ≡ map f (seq_at G n l)
  unfolding seq_at
  seq-renamed zero l image = renamed-links f G H l image
  seq-renamed (suc n) l image =
      ap (flat_map (seq_at H n)) (renamed-links f G H l image) ∙ flat_map-map (seq_at H n) f (links_in G l)
      ∙ flat_map-same (λ k. seq_at H n (f k)) (λ k. map f (seq_at G n k)) (links_in G l) (λ k has. seq-renamed n k (renamed-link f G H l k image has))
      ∙ sym (map-flat f (seq_at G n) (links_in G l))

  -- a vector's root reaches its elements
  seq-reached : (n l k : ℕ) → 0 < count k (seq_at G n l) → Reaches (links_in G) l k
  unfolding seq_at
  seq-reached zero l k some = below l k k some (here k)
  seq-reached (suc n) l k some = let found = flat_map-found (seq_at G n) (links_in G l) k some in below l found.0 k found.1 (seq-reached n found.0 k found.2)

  same-length : (l : ℕ) → IsRenamed f G H l → length (links_in H (f l)) ≡ length (links_in G l)
  same-length l image = ap length (renamed-links f G H l image) ∙ length-map (links_in G l) f

  thick-renamed : (n l : ℕ) → IsRenamed f G H l → IsThick G n l → IsThick H n (f l)
  unfolding IsThick
  thick-renamed zero l image t = omega (arith, t, same-length l image)
  thick-renamed (suc n) l image t = (
    omega (arith, t.0, same-length l image),
    subst (All (IsThick H n)) (sym (renamed-links f G H l image)) (all-image (IsThick G n) (IsThick H n) f (links_in G l) (λ k has u. thick-renamed n k (renamed-link f G H l k image has) u) t.1),
  )

  well-renamed : (n l : ℕ) → IsRenamed f G H l → IsWell G n l → IsWell H n (f l)
  unfolding IsWell
  well-renamed zero l image w = record {
    kind = image l (here l) ∙ ap (option_map (relink f)) w.kind ∙ ap (λ ks. Some (node leaf ks)) (sym (renamed-links f G H l image));
    most = omega (arith, w.most, same-length l image);
  }
  well-renamed (suc n) l image w =
      let links : links_in H (f l) ≡ map f (links_in G l) = renamed-links f G H l image in
      record {
        kind = image l (here l) ∙ ap (option_map (relink f)) w.kind ∙ ap (λ ks. Some (node (inner (suc n)) ks)) (sym links);
        some = omega (arith, w.some, same-length l image);
        most = omega (arith, w.most, same-length l image);
        children = subst (All (IsWell H n)) (sym links) (all-image (IsWell G n) (IsWell H n) f (links_in G l) (λ k has u. well-renamed n k (renamed-link f G H l k image has) u) w.children);
        thick =
            subst (λ (ks : List ℕ). All (IsThick H n) (take (length ks - 1) ks)) (sym links)
            (subst (All (IsThick H n)) (sym (front-map f (links_in G l)))
            (all-image (IsThick G n) (IsThick H n) f (take (length (links_in G l) - 1) (links_in G l))
            (λ k has u. thick-renamed n k (renamed-link f G H l k image (omega (arith, has, count-take k (length (links_in G l) - 1) (links_in G l)))) u) w.thick));
        not_empty =
            subst (All (λ k. 1 ≤ length (links_in H k))) (sym links)
            (all-image (λ k. 1 ≤ length (links_in G k)) (λ k. 1 ≤ length (links_in H k)) f (links_in G l) (λ k has some. omega (arith, some, same-length k (renamed-link f G H l k image has))) w.not_empty);
      }

  elements-renamed : (l : ℕ) → IsRenamed f G H l → seq H (f l) ≡ map f (seq G l)
  elements-renamed l image = ap (λ n. seq_at H n (f l)) (height-renamed l image) ∙ seq-renamed (height_in G l) l image

  shaped-renamed : (l : ℕ) → IsRenamed f G H l → IsWellShaped G l → IsWellShaped H (f l)
  shaped-renamed l image w =
      let height : height_in H (f l) ≡ height_in G l = height-renamed l image in
      record {
        well = subst (λ n. IsWell H n (f l)) (sym height) (well-renamed (height_in G l) l image w.well);
        two = λ h. let old : 2 ≤ length (links_in G l) = w.two (omega (arith, h, height)) in omega (arith, old, same-length l image);
        short = omega (arith, w.short, ap length (elements-renamed l image), length-map (seq G l) f);
        low = omega (arith, w.low, height);
      }

  pub vector-reads-the-same : (X : Type 0) (l : ℕ) → IsRenamed f G H l → VectorReadsTheSame X f G H l
  vector-reads-the-same X l image = record {
    height = height-renamed l image;
    elements = elements-renamed l image;
    reached = all-counted (λ k. Reaches (links_in G) l k) (seq G l) (λ k some. seq-reached (height_in G l) l k some);
    readings = λ was now each. ap (map now) (elements-renamed l image) ∙ map-twice now f (seq G l) ∙ map-same (λ k. now (f k)) was (seq G l) (all-at (λ k. now (f k) ≡ was k) (seq G l) each);
    shaped = shaped-renamed l image;
  }

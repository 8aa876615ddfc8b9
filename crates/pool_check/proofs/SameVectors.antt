-- The test of vector rows under other links.
use Rattle.std.proofs.Common.{◌≡◌, ℕ, zero, suc, ◌-◌, ◌^◌, ◌<◌, ◌≤◌, Bool, ◌&&◌, List, [], ◌∷◌, length, map, take, Option, Some, None, option_map, refl, ap, ◌∙◌, arith}
use Rattle.std.specs.Prelude.{nat_lt, nat_le, sum_by}
use Rattle.std.specs.List.{list_all}
use Rattle.std.proofs.lemmas.List.{length-map, take-map}
use Rattle.std.proofs.lemmas.List.Folds.{list_all-map}
use Rattle.std.proofs.lemmas.List.Sums.{sum_by-cons}
use Rattle.node_heap.specs.Links.{count, here}
use Rattle.node_heap.specs.Forms.{Form, Forms, cell, node, leaf, inner, trie, chain, pair, state, links_of, links_in}
use Rattle.node_heap.proofs.Counts.{test_same, count-cons}
use Rattle.pool_text.specs.Rows.{Bytes}
use Rattle.pool_text.specs.Pool.{relink}
use Rattle.pool_text.specs.Renaming.{IsRenamed}
use Rattle.pool_text.proofs.Renamed.{renamed-links, renamed-link}
use Rattle.pool_check.specs.Vectors.{has_height, is_thick, length_at, are_children, keeps_fill_rule}

pub and-same : (a b c d : Bool) → a ≡ c → b ≡ d → (a && b) ≡ (c && d)
and-same a b c d h k = ap (λ x. x && b) h ∙ ap (λ x. c && x) k

-- two tests of each number of a list
pub list-same : (p q : ℕ → Bool) (ks : List ℕ) → ((k : ℕ) → 0 < count k ks → p k ≡ q k) → list_all p ks ≡ list_all q ks
list-same p q [] each = refl
list-same p q (k ∷ ks) each =
    and-same (p k) (list_all p ks) (q k) (list_all q ks) (each k (omega (arith, count-cons k k ks, test_same k k refl)))
    (list-same p q ks (λ j some. each j (omega (arith, count-cons j k ks, some))))

-- a test of new links, and one of the old ones
pub map-passes : (p q : ℕ → Bool) (f : ℕ → ℕ) (ks : List ℕ) → ((k : ℕ) → 0 < count k ks → p (f k) ≡ q k) → list_all p (map f ks) ≡ list_all q ks
map-passes p q f ks each = list_all-map p f ks ∙ list-same (λ k. p (f k)) q ks each

sum-same : (p q : ℕ → ℕ) (f : ℕ → ℕ) (ks : List ℕ) → ((k : ℕ) → 0 < count k ks → p (f k) ≡ q k) → sum_by p (map f ks) ≡ sum_by q ks
sum-same p q f [] each = refl
sum-same p q f (k ∷ ks) each =
    omega (arith, sum_by-cons p (f k) (map f ks), sum_by-cons q k ks, each k (omega (arith, count-cons k k ks, test_same k k refl)), sum-same p q f ks (λ j some. each j (omega (arith, count-cons j k ks, some))))

pub count-take : (k i : ℕ) (ks : List ℕ) → count k (take i ks) ≤ count k ks
count-take k zero ks = omega arith
count-take k (suc i) [] = omega arith
count-take k (suc i) (x ∷ ks) = omega (arith, count-take k i ks, count-cons k x ks, count-cons k x (take i ks))

module _ (f : ℕ → ℕ) where
  height-same : (n : ℕ) (r : Option (Form Bytes)) → has_height n (option_map (relink f) r) ≡ has_height n r
  height-same n None = refl
  height-same n (Some (cell x)) = refl
  height-same n (Some (node leaf ks)) = refl
  height-same n (Some (node (inner h) ks)) = refl
  height-same n (Some (node (trie d e m) ks)) = refl
  height-same n (Some (node chain ks)) = refl
  height-same n (Some (node pair ks)) = refl
  height-same n (Some (node state ks)) = refl

  front-map : (ks : List ℕ) → take (length (map f ks) - 1) (map f ks) ≡ map f (take (length ks - 1) ks)
  front-map ks = ap (λ n. take (n - 1) (map f ks)) (length-map ks f) ∙ take-map f (length ks - 1) ks

  module _ (G H : Forms Bytes) where
    pub same-length : (l : ℕ) → IsRenamed f G H l → length (links_in H (f l)) ≡ length (links_in G l)
    same-length l image = ap length (renamed-links f G H l image) ∙ length-map (links_in G l) f

    pub thick-same : (n l : ℕ) → IsRenamed f G H l → is_thick H n (f l) ≡ is_thick G n l
    unfolding is_thick
    thick-same zero l image = ap (nat_le 16) (same-length l image)
    thick-same (suc n) l image =
        and-same (nat_le 16 (length (links_in H (f l)))) (list_all (is_thick H n) (links_in H (f l))) (nat_le 16 (length (links_in G l))) (list_all (is_thick G n) (links_in G l))
        (ap (nat_le 16) (same-length l image))
        (ap (list_all (is_thick H n)) (renamed-links f G H l image) ∙ map-passes (is_thick H n) (is_thick G n) f (links_in G l) (λ k some. thick-same n k (renamed-link f G H l k image some)))

    pub length-same : (n l : ℕ) → IsRenamed f G H l → length_at H n (f l) ≡ length_at G n l
    unfolding length_at
    length-same zero l image = same-length l image
    length-same (suc n) l image =
        ap (sum_by (length_at H n)) (renamed-links f G H l image) ∙ sum-same (length_at H n) (length_at G n) f (links_in G l) (λ k some. length-same n k (renamed-link f G H l k image some))

    children-same : (n : ℕ) (ks : List ℕ) → ((k : ℕ) → 0 < count k ks → IsRenamed f G H k) → are_children H n (map f ks) ≡ are_children G n ks
    unfolding are_children
    children-same n ks images =
        and-same _ (nat_lt (sum_by (length_at H n) (map f ks)) (2 ^ 32)) _ (nat_lt (sum_by (length_at G n) ks) (2 ^ 32))
        (and-same _ (list_all (λ k. nat_le 1 (length (links_in H k))) (map f ks)) _ (list_all (λ k. nat_le 1 (length (links_in G k))) ks)
        (and-same (list_all (λ k. has_height n (H k)) (map f ks)) (list_all (is_thick H n) (take (length (map f ks) - 1) (map f ks)))
        (list_all (λ k. has_height n (G k)) ks) (list_all (is_thick G n) (take (length ks - 1) ks))
        (map-passes (λ k. has_height n (H k)) (λ k. has_height n (G k)) f ks (λ k some. ap (has_height n) (images k some k (here k)) ∙ height-same n (G k)))
        (ap (list_all (is_thick H n)) (front-map ks)
        ∙ map-passes (is_thick H n) (is_thick G n) f (take (length ks - 1) ks) (λ k some. thick-same n k (images k (omega (arith, some, count-take k (length ks - 1) ks))))))
        (map-passes (λ k. nat_le 1 (length (links_in H k))) (λ k. nat_le 1 (length (links_in G k))) f ks (λ k some. ap (nat_le 1) (same-length k (images k some)))))
        (ap (λ n. nat_lt n (2 ^ 32)) (sum-same (length_at H n) (length_at G n) f ks (λ k some. length-same n k (images k some))))

    -- a row under other links keeps the fill rule where the row does
    pub fill-same : (row : Form Bytes) → ((k : ℕ) → 0 < count k (links_of (Some row)) → IsRenamed f G H k) → keeps_fill_rule H (relink f row) ≡ keeps_fill_rule G row
    fill-same (cell x) images = refl
    fill-same (node leaf ks) images = refl
    fill-same (node (inner h) ks) images = children-same (h - 1) ks images
    fill-same (node (trie d e m) ks) images = refl
    fill-same (node chain ks) images = refl
    fill-same (node pair ks) images = refl
    fill-same (node state ks) images = refl

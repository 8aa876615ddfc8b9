-- Rows under other links read the same.
use Rattle.std.proofs.Common.{◌≡◌, ℕ, ◌<◌, Option, Some, None, option_map, List, [], ◌∷◌, map, refl, ap, sym, ◌∙◌, arith, inl, inr}
use Rattle.std.proofs.lemmas.Bool.{cases_eq}
use Rattle.node_heap.specs.Links.{count, HasLink, Reaches, here, below}
use Rattle.node_heap.specs.Forms.{Form, Forms, cell, node, links_of, value_of, head_of, links_in, Tree, Trees, IsTree, AreTrees, is_cell_tree, is_node_tree, are_none, are_then}
use Rattle.node_heap.proofs.Counts.{test_same, test_other, count-cons}
use Rattle.node_heap.proofs.Reach.{Reaches-then, Reaches-trans}
use Rattle.pool_text.specs.Pool.{relink}
use Rattle.pool_text.specs.Renaming.{IsRenamed, ReadsTheSame}

-- what is new in a list is the new name of what is old
pub map-found : (f : ℕ → ℕ) (ks : List ℕ) (j : ℕ) → 0 < count j (map f ks) → (k : ℕ) × (0 < count k ks) × (f k ≡ j)
map-found f [] j some = absurd (omega arith)
map-found f (k ∷ ks) j some = elim (cases_eq (f k) j) as (λ _. (m : ℕ) × (0 < count m (k ∷ ks)) × (f m ≡ j)) [
  | inl same ↦ (k, omega (arith, count-cons k k ks, test_same k k refl), same)
  | inr other ↦
      let later = map-found f ks j (omega (arith, some, count-cons j (f k) (map f ks), test_other (f k) j other)) in
      (later.0, omega (arith, count-cons later.0 k ks, later.1), later.2)
]

pub count-map : (f : ℕ → ℕ) (k : ℕ) (ks : List ℕ) → 0 < count k ks → 0 < count (f k) (map f ks)
count-map f k [] some = absurd (omega arith)
count-map f k (x ∷ xs) some = elim (cases_eq x k) as (λ _. 0 < count (f k) (f x ∷ map f xs)) [
  | inl same ↦ omega (arith, count-cons (f k) (f x) (map f xs), test_same (f x) (f k) (ap f same))
  | inr other ↦ omega (arith, count-cons (f k) (f x) (map f xs), count-map f k xs (omega (arith, some, count-cons k x xs, test_other x k other)))
]

-- links with the same new names have one new list
pub map-same : (f g : ℕ → ℕ) (ks : List ℕ) → ((k : ℕ) → 0 < count k ks → f k ≡ g k) → map f ks ≡ map g ks
map-same f g [] each = refl
map-same f g (k ∷ ks) each =
    ap (λ y. y ∷ map f ks) (each k (omega (arith, count-cons k k ks, test_same k k refl))) ∙ ap (λ ys. g k ∷ ys) (map-same f g ks (λ j some. each j (omega (arith, count-cons j k ks, some))))

-- links that are turned and then turned back
pub map-back : (f g : ℕ → ℕ) (ks : List ℕ) → ((k : ℕ) → 0 < count k ks → g (f k) ≡ k) → map g (map f ks) ≡ ks
map-back f g [] each = refl
map-back f g (k ∷ ks) each =
    ap (λ y. y ∷ map g (map f ks)) (each k (omega (arith, count-cons k k ks, test_same k k refl)))
    ∙ ap (λ ys. k ∷ ys) (map-back f g ks (λ j some. each j (omega (arith, count-cons j k ks, some))))

module _ {K : Type 0} where
  pub links-relink : (f : ℕ → ℕ) (r : Option (Form K)) → links_of (option_map (relink f) r) ≡ map f (links_of r)
  links-relink f None = refl
  links-relink f (Some (cell x)) = refl
  links-relink f (Some (node kind links)) = refl

  pub value-relink : (f : ℕ → ℕ) (r : Option (Form K)) → value_of (option_map (relink f) r) ≡ value_of r
  value-relink f None = refl
  value-relink f (Some (cell x)) = refl
  value-relink f (Some (node kind links)) = refl

  pub head-relink : (f : ℕ → ℕ) (r : Option (Form K)) → head_of (option_map (relink f) r) ≡ head_of r
  head-relink f None = refl
  head-relink f (Some (cell x)) = refl
  head-relink f (Some (node kind links)) = refl

  pub relink-same : (f g : ℕ → ℕ) (r : Form K) → ((k : ℕ) → 0 < count k (links_of (Some r)) → f k ≡ g k) → relink f r ≡ relink g r
  relink-same f g (cell x) each = refl
  relink-same f g (node kind links) each = ap (node kind) (map-same f g links each)

  pub relink-back : (f g : ℕ → ℕ) (r : Option (Form K)) → ((k : ℕ) → 0 < count k (links_of r) → g (f k) ≡ k) → option_map (relink g) (option_map (relink f) r) ≡ r
  relink-back f g None each = refl
  relink-back f g (Some (cell x)) each = refl
  relink-back f g (Some (node kind links)) each = ap (λ ks. Some (node kind ks)) (map-back f g links each)

  -- what a link reaches is renamed too
  pub renamed-below : (f : ℕ → ℕ) (G H : Forms K) (l m : ℕ) → Reaches (links_in G) l m → IsRenamed f G H l → IsRenamed f G H m
  renamed-below f G H l m down image k more = image k (Reaches-trans (links_in G) l m k down more)

  pub renamed-links : (f : ℕ → ℕ) (G H : Forms K) (l : ℕ) → IsRenamed f G H l → links_in H (f l) ≡ map f (links_in G l)
  renamed-links f G H l image = ap links_of (image l (here l)) ∙ links-relink f (G l)

  pub renamed-link : (f : ℕ → ℕ) (G H : Forms K) (l k : ℕ) → IsRenamed f G H l → HasLink (links_in G) l k → IsRenamed f G H k
  renamed-link f G H l k image has m down = image m (below l k m has down)

  mutual
    tree-renamed : (f : ℕ → ℕ) (G H : Forms K) (l : ℕ) (t : Tree K) → IsRenamed f G H l → IsTree G l t → IsTree H (f l) t
    tree-renamed f G H a t image (is_cell_tree l x row) = is_cell_tree (f l) x (image l (here l) ∙ ap (option_map (relink f)) row)
    tree-renamed f G H a t image (is_node_tree l kind links ts row are) =
        is_node_tree (f l) kind (map f links) ts (image l (here l) ∙ ap (option_map (relink f)) row)
        (trees-renamed f G H links ts (λ k some. renamed-link f G H l k image (omega (arith, ap (λ r. count k (links_of r)) row, some))) are)

    trees-renamed : (f : ℕ → ℕ) (G H : Forms K) (links : List ℕ) (ts : Trees K) → ((k : ℕ) → 0 < count k links → IsRenamed f G H k) → AreTrees G links ts → AreTrees H (map f links) ts
    trees-renamed f G H ls us image are_none = are_none
    trees-renamed f G H ls us image (are_then k t ks ts is are) =
        are_then (f k) t (map f ks) ts
        (tree-renamed f G H k t (image k (omega (arith, count-cons k k ks, test_same k k refl))) is)
        (trees-renamed f G H ks ts (λ j some. image j (omega (arith, count-cons j k ks, some))) are)

  pub reads-the-same : (f : ℕ → ℕ) (G H : Forms K) (l : ℕ) → IsRenamed f G H l → ReadsTheSame f G H l
  reads-the-same f G H l image = record {
    kind = ap head_of (image l (here l)) ∙ head-relink f (G l);
    value = ap value_of (image l (here l)) ∙ value-relink f (G l);
    links = renamed-links f G H l image;
    tree = λ t is. tree-renamed f G H l t image is;
  }

  -- what a new link reaches are new names of what the old link reaches
  reached-back : (f : ℕ → ℕ) (G H : Forms K) (l : ℕ) → IsRenamed f G H l → (x p : ℕ) → Reaches (links_in H) x p → (m : ℕ) → Reaches (links_in G) l m → f m ≡ x → (k : ℕ) × Reaches (links_in G) l k × (f k ≡ p)
  reached-back f G H l image x p (here a) m down e = (m, down, e)
  reached-back f G H l image x p (below a b c has rest) m down e =
      let links : links_in H (f m) ≡ map f (links_in G m) = renamed-links f G H m (renamed-below f G H l m down image) in
      let some : 0 < count b (map f (links_in G m)) = omega (arith, has, ap (λ q. count b (links_of (H q))) e, ap (count b) links) in
      let found = map-found f (links_in G m) b some in
      reached-back f G H l image b c rest found.0 (Reaches-then (links_in G) l m found.0 down found.1) found.2

  pub turn-back : (f g : ℕ → ℕ) (G H : Forms K) (l : ℕ) → IsRenamed f G H l → ((m : ℕ) → Reaches (links_in G) l m → g (f m) ≡ m) → IsRenamed g H G (f l)
  turn-back f g G H l image back p down =
      let from = reached-back f G H l image (f l) p down l (here l) refl in
      ap G (sym (ap g from.2) ∙ back from.0 from.1)
      ∙ sym (relink-back f g (G from.0) (λ k some. back k (Reaches-then (links_in G) l from.0 k from.1 some)))
      ∙ sym (ap (option_map (relink g)) (image from.0 from.1)) ∙ ap (λ q. option_map (relink g) (H q)) from.2

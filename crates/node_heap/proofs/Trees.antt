-- What a link unfolds to depends on the rows that it reaches.
use Rattle.std.proofs.Common.{◌≡◌, ℕ, zero, suc, ◌<◌, List, [], ◌∷◌, map, refl, sym, ap, subst, ◌∙◌, arith, Option, Some, None, IsSome}
use Rattle.std.specs.Prelude.{option_map}
use Rattle.node_heap.specs.Links.{count, HasLink, Reaches, here, LeadsDown, SameBelow}
use Rattle.node_heap.specs.Forms.{RowOf, Row, Rows, Form, Forms, cell, node, links_of, links_in, form_of, forms_of, Tree, tree_node, tree_then, trees_of, Trees, cut, tree_cell, IsTree, AreTrees, is_cell_tree, is_node_tree, are_none, are_then}
use Rattle.node_heap.proofs.Counts.{test_same, count-cons}
use Rattle.node_heap.proofs.Reach.{SameBelow-link, Reaches-by}

-- one level of a tree, over the trees of the links
abbrev grow : {K : Type 0} → (ℕ → Tree K) → Option (Form K) → Tree K
grow f None = cut
grow f (Some (cell x)) = tree_cell x
grow f (Some (node kind links)) = tree_node kind (trees_of (map f links))

-- the tree of a link down to a depth
abbrev unfold_at : {K : Type 0} → ℕ → Forms K → ℕ → Tree K
unfold_at zero G l = cut
unfold_at (suc n) G l = grow (unfold_at n G) (G l)

pub map-same : {X : Type 0} (f g : ℕ → X) (links : List ℕ) → ((k : ℕ) → 0 < count k links → f k ≡ g k) → map f links ≡ map g links
map-same f g [] same = refl
map-same f g (x ∷ xs) same =
    let head = same x (omega (arith, count-cons x x xs, test_same x x refl)) in
    let tail = map-same f g xs (λ k some. same k (omega (arith, count-cons k x xs, some))) in
    ap (λ y. y ∷ map f xs) head ∙ ap (λ ys. g x ∷ ys) tail

module _ {K : Type 0} where
  -- where the rows below are the same, so are their links
  pub SameBelow-links : {H : Type 0} (G G' : ℕ → Option (RowOf H K)) (l : ℕ) → SameBelow (links_in G) G G' l → SameBelow (links_in G) (links_in G) (links_in G') l
  SameBelow-links G G' l same m down = ap links_of (same m down)

  pub grow-same : (f g : ℕ → Tree K) (r : Option (Form K)) → ((k : ℕ) → 0 < count k (links_of r) → f k ≡ g k) → grow f r ≡ grow g r
  grow-same f g None same = refl
  grow-same f g (Some (cell x)) same = refl
  grow-same f g (Some (node kind links)) same = ap (λ ts. tree_node kind (trees_of ts)) (map-same f g links same)

  pub unfold_at-same : (n : ℕ) (G G' : Forms K) (l : ℕ) → SameBelow (links_in G) G G' l → unfold_at n G' l ≡ unfold_at n G l
  unfold_at-same zero G G' l same = refl
  unfold_at-same (suc n) G G' l same =
      ap (grow (unfold_at n G')) (same l (here l))
      ∙ grow-same (unfold_at n G') (unfold_at n G) (G l) (λ k has. unfold_at-same n G G' k (SameBelow-link (links_in G) G G' l k has same))

  mutual
    pub IsTree-same : (G G' : Forms K) (l : ℕ) (t : Tree K) → SameBelow (links_in G) G G' l → IsTree G l t → IsTree G' l t
    IsTree-same G G' a t same (is_cell_tree l x row) = is_cell_tree l x (same l (here l) ∙ row)
    IsTree-same G G' a t same (is_node_tree l kind links ts row are) =
        is_node_tree l kind links ts (same l (here l) ∙ row)
        (AreTrees-same G G' links ts (λ k some. SameBelow-link (links_in G) G G' l k (omega (arith, ap (λ r. count k (links_of r)) row, some)) same) are)

    pub AreTrees-same : (G G' : Forms K) (links : List ℕ) (ts : Trees K) → ((k : ℕ) → 0 < count k links → SameBelow (links_in G) G G' k) → AreTrees G links ts → AreTrees G' links ts
    AreTrees-same G G' ls us same are_none = are_none
    AreTrees-same G G' ls us same (are_then k t ks ts is are) =
        are_then k t ks ts
        (IsTree-same G G' k t (same k (omega (arith, count-cons k k ks, test_same k k refl))) is)
        (AreTrees-same G G' ks ts (λ j some. same j (omega (arith, count-cons j k ks, some))) are)

  pub IsTree-live : (G : Forms K) (l : ℕ) (t : Tree K) → IsTree G l t → IsSome (G l)
  IsTree-live G a t (is_cell_tree l x row) = rw row refl
  IsTree-live G a t (is_node_tree l kind links ts row are) = rw row refl

  all_trees : (G : Forms K) (f : ℕ → Tree K) (ks : List ℕ) → ((k : ℕ) → 0 < count k ks → IsTree G k (f k)) → AreTrees G ks (trees_of (map f ks))
  all_trees G f [] each = are_none
  all_trees G f (x ∷ xs) each =
      are_then x (f x) xs (trees_of (map f xs))
      (each x (omega (arith, count-cons x x xs, test_same x x refl)))
      (all_trees G f xs (λ k some. each k (omega (arith, count-cons k x xs, some))))

  -- where links lead down to rows that are there, a link unfolds to a tree
  pub IsTree-unfold : (G : Forms K) (rank : ℕ → ℕ) → LeadsDown rank (links_in G) → ((l k : ℕ) → HasLink (links_in G) l k → IsSome (G k)) → (n l : ℕ) → rank l < n → IsSome (G l) → IsTree G l (unfold_at n G l)
  IsTree-unfold G rank falls closed zero l low live = absurd (omega (arith, low))
  IsTree-unfold G rank falls closed (suc n) l low live =
      by_row (G l) refl live (λ k has. IsTree-unfold G rank falls closed n k (omega (arith, falls l k has, low)) (closed l k has))
    where
      by_row : (r : Option (Form K)) → G l ≡ r → IsSome r → ((k : ℕ) → HasLink (links_in G) l k → IsTree G k (unfold_at n G k)) → IsTree G l (grow (unfold_at n G) r)
      by_row None e some deeper = cc
      by_row (Some (cell x)) e some deeper = is_cell_tree l x e
      by_row (Some (node kind links)) e some deeper =
          is_node_tree l kind links _ e (all_trees G (unfold_at n G) links (λ k has. deeper k (omega (arith, ap (λ r. count k (links_of r)) e, has))))

  mutual
    -- a link unfolds to one tree alone
    pub IsTree-unique : (G : Forms K) (l : ℕ) (t u : Tree K) → IsTree G l t → IsTree G l u → t ≡ u
    IsTree-unique G a t u (is_cell_tree l x row) (is_cell_tree k y other) = cc
    IsTree-unique G a t u (is_cell_tree l x row) (is_node_tree k kind links ts other are) = cc
    IsTree-unique G a t u (is_node_tree k kind links ts row are) (is_cell_tree l x other) = cc
    IsTree-unique G a t u (is_node_tree l kind links ts row are) (is_node_tree k kind' links' us other are') =
        let kinds : kind ≡ kind' = cc in
        let same : links ≡ links' = cc in
        ap (λ h. tree_node h ts) kinds ∙ ap (tree_node kind') (AreTrees-unique G links links' ts us same are are')

    pub AreTrees-unique : (G : Forms K) (ks js : List ℕ) (ts us : Trees K) → ks ≡ js → AreTrees G ks ts → AreTrees G js us → ts ≡ us
    AreTrees-unique G ks js ts us same are_none are_none = refl
    AreTrees-unique G ks js ts us same are_none (are_then k t rest more first others) = cc
    AreTrees-unique G ks js ts us same (are_then k t rest more first others) are_none = cc
    AreTrees-unique G ks js ts us same (are_then k t rest more first others) (are_then k' t' rest' more' first' others') =
        let links : k ≡ k' = cc in
        let below : rest ≡ rest' = cc in
        let head : t ≡ t' = IsTree-unique G k t t' first (subst (λ l. IsTree G l t') (sym links) first') in
        let tail : more ≡ more' = AreTrees-unique G rest rest' more more' below others others' in
        ap (λ x. tree_then x more) head ∙ ap (tree_then t') tail

module _ {T : Type 0} where
  -- a form has its row's links
  pub links_of-form : (r : Option (Row T)) → links_of (option_map form_of r) ≡ links_of r
  links_of-form None = refl
  links_of-form (Some (cell x)) = refl
  links_of-form (Some (node head links)) = refl

  pub links_in-forms : (G : Rows T) (l : ℕ) → links_in (forms_of G) l ≡ links_in G l
  links_in-forms G l = links_of-form (G l)

  -- what forms reach, rows reach
  pub Reaches-forms : (G : Rows T) (l m : ℕ) → Reaches (links_in (forms_of G)) l m → Reaches (links_in G) l m
  Reaches-forms G = Reaches-by (links_in (forms_of G)) (links_in G) (λ l. sym (links_in-forms G l))

  pub SameBelow-forms : (G G' : Rows T) (l : ℕ) → SameBelow (links_in G) G G' l → SameBelow (links_in (forms_of G)) (forms_of G) (forms_of G') l
  SameBelow-forms G G' l same m down = ap (option_map form_of) (same m (Reaches-forms G l m down))

  pub live-form : (r : Option (Row T)) → IsSome (option_map form_of r) → IsSome r
  live-form None some = cc
  live-form (Some x) some = refl

  pub form-live : (r : Option (Row T)) → IsSome r → IsSome (option_map form_of r)
  form-live None some = cc
  form-live (Some x) some = refl

  pub closed-forms : (G : Rows T) → ((l k : ℕ) → HasLink (links_in G) l k → IsSome (G k)) → (l k : ℕ) → HasLink (links_in (forms_of G)) l k → IsSome (forms_of G k)
  closed-forms G closed l k has = form-live (G k) (closed l k (omega (arith, ap (count k) (links_in-forms G l), has)))

  pub LeadsDown-forms : (G : Rows T) (rank : ℕ → ℕ) → LeadsDown rank (links_in G) → LeadsDown rank (links_in (forms_of G))
  LeadsDown-forms G rank falls l k has = falls l k (omega (arith, ap (count k) (links_in-forms G l), has))

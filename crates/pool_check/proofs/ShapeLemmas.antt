-- Shapes of vector rows: of one row, and of the rows below an inner row.
use Rattle.std.proofs.Common.{◌≡◌, ◌≢◌, ℕ, zero, suc, ◌+◌, ◌-◌, ◌<◌, ◌≤◌, ◌^◌, Bool, true, false, ◌&&◌, cond, eqb, ltb, leb, Option, Some, None, List, [], ◌∷◌, ◌++◌, length, map, take, get_or, slice_get, refl, ap, sym, subst, ◌∙◌, arith, add-one, inl, inr}
use Rattle.std.specs.Prelude.{◌==◌, sum_by}
use Rattle.std.specs.List.{list_all}
use Rattle.std.proofs.lemmas.Bool.{and_parts, and_from, and_left, and_right, cases_eq, eqb-true, eqb-false, lt-leb, le-leb, le-ltb, lt-ltb}
use Rattle.std.proofs.lemmas.Bool.Decides.{nat_tests}
use Rattle.std.proofs.lemmas.List.{length-take-le, take-take, take-map}
use Rattle.std.proofs.lemmas.List.Folds.{list_all-map, list_all_more, list_all_kept, list_all_at}
use Rattle.std.proofs.lemmas.List.Sums.{sum_by_more, sum_by_more_le}
use Rattle.node_heap.specs.Forms.{Form, Forms, cell, node, leaf, inner, trie, chain, pair, state, links_in}
use Rattle.pool_text.specs.Rows.{row_form}
use Rattle.pool_text.specs.Pool.{forms_in}
use Rattle.pool_text.specs.declared.pool.Pool.{Pool}
use Rattle.pool_text.specs.declared.row.Row.{Row}
use Rattle.pool_check.specs.Vectors.{has_height, is_thick, length_at, are_children, keeps_fill_rule, vectors_stand}
use Rattle.pool_check.specs.Shapes.{shape_at, shape_of, AreShapes}
use Rattle.pool_check.specs.declared.vectors.Shape.{Shape}
use Rattle.pool_check.proofs.KeptRows.{kept-more}

module _ {K : Type 0} (F : Forms K) where
  -- the row of this height that a link names, if it names one
  abbrev pub child_at : ℕ → ℕ → Option Shape
  child_at n l = cond (has_height n (F l)) (Some (shape_at F n l)) None

  eqb-same : (n : ℕ) → eqb n n ≡ true
  eqb-same n = grind (arith, nat_tests)

  eqb-other : (n m : ℕ) → m ≢ n → eqb n m ≡ false
  eqb-other n m other = grind (arith, nat_tests)

  abbrev by_form : ℕ → ℕ → Option (Form K) → Option Shape
  by_form n l f = cond (has_height n f) (Some (shape_at F n l)) None

  some-child : (f : Option (Form K)) (n l : ℕ) (shape : Shape) → Some shape ≡ shape_of F l f → shape.height ≡ n → Some shape ≡ by_form n l f
  some-child None n l shape is high = absurd (let e : Some shape ≡ None = is in cc)
  some-child (Some (cell x)) n l shape is high = absurd (let e : Some shape ≡ None = is in cc)
  some-child (Some (node leaf links)) n l shape is high =
      let e : Some shape ≡ Some (shape_at F 0 l) = is in
      let same : shape ≡ shape_at F 0 l = cc in
      let here : 0 ≡ n = sym (ap (λ (s : Shape). s.height) same) ∙ high in
      is ∙ ap (λ m. Some (shape_at F m l)) here ∙ ap (λ b. cond b (Some (shape_at F n l)) None) (sym (ap (eqb n) here ∙ eqb-same n))
  some-child (Some (node (inner height) links)) n l shape is high =
      let e : Some shape ≡ Some (shape_at F height l) = is in
      let same : shape ≡ shape_at F height l = cc in
      let here : height ≡ n = sym (ap (λ (s : Shape). s.height) same) ∙ high in
      is ∙ ap (λ m. Some (shape_at F m l)) here ∙ ap (λ b. cond b (Some (shape_at F n l)) None) (sym (ap (eqb n) here ∙ eqb-same n))
  some-child (Some (node (trie d e m) links)) n l shape is high = absurd (let e : Some shape ≡ None = is in cc)
  some-child (Some (node chain links)) n l shape is high = absurd (let e : Some shape ≡ None = is in cc)
  some-child (Some (node pair links)) n l shape is high = absurd (let e : Some shape ≡ None = is in cc)
  some-child (Some (node state links)) n l shape is high = absurd (let e : Some shape ≡ None = is in cc)

  other-child : (f : Option (Form K)) (n l : ℕ) (shape : Shape) → Some shape ≡ shape_of F l f → shape.height ≢ n → None ≡ by_form n l f
  other-child None n l shape is other = refl
  other-child (Some (cell x)) n l shape is other = refl
  other-child (Some (node leaf links)) n l shape is other =
      let e : Some shape ≡ Some (shape_at F 0 l) = is in
      let same : shape ≡ shape_at F 0 l = cc in
      let apart : 0 ≢ n = λ here. other (ap (λ (s : Shape). s.height) same ∙ here) in
      sym (ap (λ b. cond b (Some (shape_at F n l)) None) (eqb-other n 0 apart))
  other-child (Some (node (inner height) links)) n l shape is other =
      let e : Some shape ≡ Some (shape_at F height l) = is in
      let same : shape ≡ shape_at F height l = cc in
      let apart : height ≢ n = λ here. other (ap (λ (s : Shape). s.height) same ∙ here) in
      sym (ap (λ b. cond b (Some (shape_at F n l)) None) (eqb-other n height apart))
  other-child (Some (node (trie d e m) links)) n l shape is other = refl
  other-child (Some (node chain links)) n l shape is other = refl
  other-child (Some (node pair links)) n l shape is other = refl
  other-child (Some (node state links)) n l shape is other = refl

  no-child : (f : Option (Form K)) (n l : ℕ) → None ≡ shape_of F l f → None ≡ by_form n l f
  no-child None n l is = refl
  no-child (Some (cell x)) n l is = refl
  no-child (Some (node leaf links)) n l is = absurd (let e : None ≡ Some (shape_at F 0 l) = is in cc)
  no-child (Some (node (inner height) links)) n l is = absurd (let e : None ≡ Some (shape_at F height l) = is in cc)
  no-child (Some (node (trie d e m) links)) n l is = refl
  no-child (Some (node chain links)) n l is = refl
  no-child (Some (node pair links)) n l is = refl
  no-child (Some (node state links)) n l is = refl

  kept-shape : (shapes : List (Option Shape)) (l : ℕ) → AreShapes F shapes → l < length shapes → get_or shapes l None ≡ shape_of F l (F l)
  kept-shape shapes l are low = read shapes l (shape_of F l (F l)) low (are l low)
    where
      read : (xs : List (Option Shape)) (i : ℕ) (x : Option Shape) → i < length xs → slice_get xs i ≡ Some x → get_or xs i None ≡ x
      read [] i x low is = absurd (omega arith)
      read (y ∷ xs) zero x low is = let e : Some y ≡ Some x = is in let f : y ≡ x = cc in f
      read (y ∷ xs) (suc i) x low is = read xs i x (omega arith) is

  module _ (shapes : List (Option Shape)) (are : AreShapes F shapes) (n l : ℕ) (low : l < length shapes) where
    pub child-none : get_or shapes l None ≡ None → None ≡ child_at n l
    child-none none = no-child (F l) n l (sym none ∙ kept-shape shapes l are low)

    pub child-some : (shape : Shape) → get_or shapes l None ≡ Some shape → shape.height ≡ n → Some shape ≡ child_at n l
    child-some shape some high = some-child (F l) n l shape (sym some ∙ kept-shape shapes l are low) high

    pub child-other : (shape : Shape) → get_or shapes l None ≡ Some shape → shape.height ≢ n → None ≡ child_at n l
    child-other shape some other = other-child (F l) n l shape (sym some ∙ kept-shape shapes l are low) other

  child-is : (b : Bool) (shape child : Shape) → Some child ≡ cond b (Some shape) None → (b ≡ true) × (child ≡ shape)
  child-is true shape child is = (refl, cc)
  child-is false shape child is = absurd (let e : Some child ≡ None = is in cc)

  no-child-is : (b : Bool) (shape : Shape) → None ≡ cond b (Some shape) None → b ≡ false
  no-child-is true shape is = absurd (let e : None ≡ Some shape = is in cc)
  no-child-is false shape is = refl

  -- these children keep the fill rule, their lengths add up to this one, and all are thick or not
  pub record AreGrown (n : ℕ) (links : List ℕ) (sum : ℕ) (thick : Bool) : Type 0 where
    pub children : are_children F n links ≡ true
    pub adds : sum ≡ sum_by (length_at F n) links
    pub all : thick ≡ list_all (is_thick F n) links

  -- the four tests of children
  module _ (n : ℕ) (links : List ℕ) where
    abbrev high : Bool
    high = list_all (λ k. has_height n (F k)) links

    abbrev thick_first : Bool
    thick_first = list_all (is_thick F n) (take (length links - 1) links)

    abbrev none_bare : Bool
    none_bare = list_all (λ k. leb 1 (length (links_in F k))) links

    abbrev short : Bool
    short = ltb (sum_by (length_at F n) links) (2 ^ 32)

    record Passes : Type 0 where
      pub high : high ≡ true
      pub none_bare : none_bare ≡ true

    passes : are_children F n links ≡ true → Passes
    unfolding are_children
    passes h =
        let three = (and_parts (high && thick_first && none_bare) short h).0 in
        let two = and_parts (high && thick_first) none_bare three in
        record { high = (and_parts high thick_first two.0).0; none_bare = two.1 }

    children-from : high ≡ true → thick_first ≡ true → none_bare ≡ true → short ≡ true → are_children F n links ≡ true
    unfolding are_children
    children-from a b c d = and_from (high && thick_first && none_bare) short (and_from (high && thick_first) none_bare (and_from high thick_first a b) c) d

    not-high : high ≡ false → are_children F n links ≡ false
    unfolding are_children
    not-high fails = and_left (high && thick_first && none_bare) short (and_left (high && thick_first) none_bare (and_left high thick_first fails))

    not-thick : thick_first ≡ false → are_children F n links ≡ false
    unfolding are_children
    not-thick fails = and_left (high && thick_first && none_bare) short (and_left (high && thick_first) none_bare (and_right high thick_first fails))

    some-bare : none_bare ≡ false → are_children F n links ≡ false
    unfolding are_children
    some-bare fails = and_left (high && thick_first && none_bare) short (and_right (high && thick_first) none_bare fails)

    not-short : short ≡ false → are_children F n links ≡ false
    unfolding are_children
    not-short fails = and_right (high && thick_first && none_bare) short fails

  -- a test that the first elements fail is failed by more of them
  fails-on : (p : ℕ → Bool) (xs : List ℕ) (i m : ℕ) → i ≤ m → list_all p (take i xs) ≡ false → list_all p (take m xs) ≡ false
  fails-on p xs i zero below fails = let same : i ≡ 0 = omega arith in subst (λ j. list_all p (take j xs) ≡ false) same fails
  fails-on p xs i (suc m) below fails = elim (cases_eq i (suc m)) as (λ _. list_all p (take (suc m) xs) ≡ false) [
    | inl same ↦ subst (λ j. list_all p (take j xs) ≡ false) same fails
    | inr other ↦ rw add-one at (list_all_kept p xs m (fails-on p xs i m (omega (arith, below, other)) fails))
  ]

  module _ (n : ℕ) (links : List ℕ) (i sum : ℕ) (thick : Bool) (low : i < length links) (now : AreGrown n (take i links) sum thick) where
    abbrev link : ℕ
    link = get_or links i 0

    pub no-more-none : None ≡ child_at n link → are_children F n links ≡ false
    no-more-none none = not-high n links (list_all_at (λ k. has_height n (F k)) links i 0 low (no-child-is (has_height n (F link)) (shape_at F n link) none))

    pub no-more-thin : thick ≡ false → are_children F n links ≡ false
    no-more-thin thin = not-thick n links (fails-on (is_thick F n) links i (length links - 1) (omega arith) (sym now.all ∙ thin))

    module _ (child : Shape) (is : Some child ≡ child_at n link) where
      shape : child ≡ shape_at F n link
      shape = (child-is (has_height n (F link)) (shape_at F n link) child is).1

      pub no-more-bare : child.bare ≡ true → are_children F n links ≡ false
      no-more-bare bare =
          let none : length (links_in F link) ≡ 0 = eqb-true (length (links_in F link)) 0 (sym (ap (λ (s : Shape). s.bare) shape) ∙ bare) in
          some-bare n links (list_all_at (λ k. leb 1 (length (links_in F k))) links i 0 low (lt-leb 1 (length (links_in F link)) (omega (arith, none))))

      pub no-more-long : 2 ^ 32 ≤ sum + child.length → are_children F n links ≡ false
      no-more-long long =
          let same : child.length ≡ length_at F n link = ap (λ (s : Shape). s.length) shape in
          let more = sum_by_more_le (length_at F n) links i 0 low in
          not-short n links (le-ltb (sum_by (length_at F n) links) (2 ^ 32) (omega (arith, same, more, now.adds, long)))

      pub one-more : thick ≡ true → child.bare ≡ false → sum + child.length < 2 ^ 32 → AreGrown n (take (i + 1) links) (sum + child.length) child.thick
      one-more all_thick not_bare fits =
          let before = passes n (take i links) now.children in
          let here = (child-is (has_height n (F link)) (shape_at F n link) child is).0 in
          let same : child.length ≡ length_at F n link = ap (λ (s : Shape). s.length) shape in
          let none : length (links_in F link) ≢ 0 = eqb-false (length (links_in F link)) 0 (sym (ap (λ (s : Shape). s.bare) shape) ∙ not_bare) in
          let some : leb 1 (length (links_in F link)) ≡ true = le-leb 1 (length (links_in F link)) (omega (arith, none)) in
          let adds : sum + child.length ≡ sum_by (length_at F n) (take (i + 1) links) = omega (arith, same, now.adds, sum_by_more (length_at F n) links i 0 low) in
          let count : length (take (i + 1) links) - 1 ≡ i = omega (arith, length-take-le (i + 1) links (omega arith)) in
          let first : take (length (take (i + 1) links) - 1) (take (i + 1) links) ≡ take i links = ap (λ m. take m (take (i + 1) links)) count ∙ take-take i (i + 1) links (omega arith) in
          record {
            children = children-from n (take (i + 1) links)
                (list_all_more (λ k. has_height n (F k)) links i 0 low ∙ and_from (list_all (λ k. has_height n (F k)) (take i links)) (has_height n (F link)) before.high here)
                (ap (λ xs. list_all (is_thick F n) xs) first ∙ sym now.all ∙ all_thick)
                (list_all_more (λ k. leb 1 (length (links_in F k))) links i 0 low ∙ and_from (list_all (λ k. leb 1 (length (links_in F k))) (take i links)) (leb 1 (length (links_in F link))) before.none_bare some)
                (lt-ltb (sum_by (length_at F n) (take (i + 1) links)) (2 ^ 32) (omega (arith, sym adds, fits)));
            adds = adds;
            all = ap (λ (s : Shape). s.thick) shape
                ∙ sym (list_all_more (is_thick F n) links i 0 low ∙ ap (λ b. b && is_thick F n link) (sym now.all ∙ all_thick));
          }

  pub none-yet : (n : ℕ) → AreGrown n [] 0 true
  unfolding are_children
  none-yet n = record { children = refl; adds = refl; all = refl }

  -- the shape of a leaf
  pub leaf-is : (l : ℕ) (links : List ℕ) (bare : Bool) → links_in F l ≡ links → bare ≡ (length links == 0) → record { height = 0; length = length links; thick = leb 16 (length links); bare = bare } ≡ shape_at F 0 l
  unfolding length_at is_thick
  leaf-is l links bare same is =
      ap (λ b. record { height = 0; length = length links; thick = leb 16 (length links); bare = b }) is
      ∙ ap (λ ks. record { height = 0; length = length ks; thick = leb 16 (length ks); bare = length ks == 0 }) (sym same)

  -- no shape where the children don't keep the fill rule
  pub not-inner : (n : ℕ) (links : List ℕ) (at : Shape) → are_children F n links ≡ false → None ≡ cond (are_children F n links) (Some at) None
  not-inner n links at fails = ap (λ b. cond b (Some at) None) (sym fails)

  -- the shape of an inner row over children that do
  pub inner-is : (n own l : ℕ) (links : List ℕ) (sum : ℕ) (thick : Bool) (shape : Shape) → own ≡ suc n → links_in F l ≡ links → AreGrown n links sum thick
      → shape ≡ record { height = own; length = sum; thick = leb 16 (length links) && thick; bare = length links == 0 } → Some shape ≡ cond (are_children F n links) (Some (shape_at F own l)) None
  unfolding length_at is_thick
  inner-is n own l links sum thick shape high same grown is =
      let adds : sum ≡ length_at F (suc n) l = grown.adds ∙ ap (λ ks. sum_by (length_at F n) ks) (sym same) in
      let all : (leb 16 (length links) && thick) ≡ is_thick F (suc n) l = ap (λ b. leb 16 (length links) && b) grown.all ∙ ap (λ ks. leb 16 (length ks) && list_all (is_thick F n) ks) (sym same) in
      let bare : (length links == 0) ≡ (length (links_in F l) == 0) = ap (λ ks. length ks == 0) (sym same) in
      let at : shape ≡ shape_at F (suc n) l = is ∙ cc in
      ap Some at ∙ ap (λ m. Some (shape_at F m l)) (sym high) ∙ ap (λ b. cond b (Some (shape_at F own l)) None) (sym grown.children)

  shape-is : (b : Bool) (shape given : Option Shape) → Some given ≡ cond b (Some shape) None → (b ≡ true) × (given ≡ shape)
  shape-is true shape given is = (refl, cc)
  shape-is false shape given is = absurd (let e : Some given ≡ None = is in cc)

  no-shape : (b : Bool) (shape : Option Shape) → None ≡ cond b (Some shape) None → b ≡ false
  no-shape true shape is = absurd (let e : None ≡ Some shape = is in cc)
  no-shape false shape is = refl

  -- the shapes of the first rows, and then of one more that keeps the fill rule
  pub more-shapes : (shapes : List (Option Shape)) (row : Form K) (shape : Option Shape) → AreShapes F shapes → F (length shapes) ≡ Some row → Some shape ≡ cond (keeps_fill_rule F row) (Some (shape_of F (length shapes) (Some row))) None
      → (keeps_fill_rule F row ≡ true) × AreShapes F (shapes ++ shape ∷ [])
  more-shapes shapes row shape are form is =
      let kept = shape-is (keeps_fill_rule F row) (shape_of F (length shapes) (Some row)) shape is in
      (kept.0, kept-more (λ k. shape_of F k (F k)) shapes shape are (kept.1 ∙ ap (shape_of F (length shapes)) (sym form)))

  pub breaks-rule : (l : ℕ) (row : Form K) → None ≡ cond (keeps_fill_rule F row) (Some (shape_of F l (Some row))) None → keeps_fill_rule F row ≡ false
  breaks-rule l row is = no-shape (keeps_fill_rule F row) (shape_of F l (Some row)) is

module _ (P : Pool) (rows : List Row) (are : map row_form rows ≡ P.rows) where
  keep : vectors_stand P ≡ list_all (λ row. keeps_fill_rule (forms_in P) (row_form row)) rows
  unfolding vectors_stand
  keep = ap (list_all (keeps_fill_rule (forms_in P))) (sym are) ∙ list_all-map (keeps_fill_rule (forms_in P)) row_form rows

  pub first-keep : (i : ℕ) → list_all (keeps_fill_rule (forms_in P)) (take i P.rows) ≡ true → list_all (λ row. keeps_fill_rule (forms_in P) (row_form row)) (take i rows) ≡ true
  first-keep i before =
      sym (list_all-map (keeps_fill_rule (forms_in P)) row_form (take i rows)) ∙ ap (list_all (keeps_fill_rule (forms_in P))) (sym (take-map row_form i rows) ∙ ap (take i) are) ∙ before

  pub one-breaks : (i : ℕ) (row : Row) → i < length rows → row ≡ get_or rows i row → keeps_fill_rule (forms_in P) (row_form row) ≡ false → false ≡ vectors_stand P
  one-breaks i row low at fails =
      sym (keep ∙ list_all_at (λ r. keeps_fill_rule (forms_in P) (row_form r)) rows i row low (ap (λ r. keeps_fill_rule (forms_in P) (row_form r)) (sym at) ∙ fails))

  pub all-keep : list_all (λ row. keeps_fill_rule (forms_in P) (row_form row)) rows ≡ true → true ≡ vectors_stand P
  all-keep passes = sym (keep ∙ passes)

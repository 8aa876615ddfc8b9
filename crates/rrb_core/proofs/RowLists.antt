-- Lists of rows of one height under the fill rule, and the rows over them.
use Rattle.std.proofs.Common.{◌≡◌, ℕ, suc, zero, ◌-◌, ◌+◌, ◌*◌, ◌/◌, ◌<◌, ◌≤◌, ◌^◌, List, [], ◌∷◌, ◌++◌, length, take, drop, get_or, refl, ap, sym, ◌∙◌, arith, length-append, length-drop, append-nil, append_assoc, Some, IsSome, ◌⊎◌, inl, inr}
use Rattle.std.specs.Prelude.{option_map}
use Rattle.std.specs.List.{All, flat_map}
use Rattle.std.proofs.lemmas.List.{take_all, drop_all, get_or_at, get_or_append_left, get_or-take, take-take, length-take-le, get_or_default}
use Rattle.std.proofs.lemmas.List.Elements.{All-weaker, All-nil, All-cons, All-append, All-take, All-drop}
use Rattle.std.proofs.lemmas.Nat.{div-add-mod'}
use Rattle.node_heap.specs.Forms.{Forms, node, leaf, inner, form_of, links_of, links_in}
use Rattle.node_heap.specs.declared.row.Head.TheVariants.{Leaf, Inner}
use Rattle.node_heap.specs.Heap.{Heap, row_at, form_at, links_at}
use Rattle.node_heap.specs.declared.row.TheConstants.{MOST_HEIGHT}
use Rattle.rrb_core.specs.Seq.{seq_at, IsThick, IsWell}
use Rattle.rrb_core.specs.Vector.{AreSums, IsRegular, KeepsSums, sums_at, HasSums, height_at, elements, IsGoodVector}
use Rattle.rrb_core.proofs.ClosedRows.{Stays}
use Rattle.rrb_core.specs.Build.{IsRowOf, AreRows}
use Rattle.rrb_core.specs.Edit.{CanPlace, links_with}
use Rattle.rrb_core.proofs.Lists.{take-past, child-short, last-sum, sum-last, regular-of, regular-before, regular-length, regular-place, regular-within, pow-pos, front-join, front-drop, front-last, items-around, placed-first, placed-later, sum-upto, take-short}
use Rattle.rrb_core.proofs.FillRule.{seq-le, links-some, shaped-at, height-is}
use Rattle.rrb_core.proofs.Stays.{links-form, well-live, items-stay, all-thick-stay, keeps-stay, rows-stay}

module _ {T : Type 0} (h : Heap T) where
  -- two lists, one after the other
  pub rows-append : (n : ℕ) (ks js : List ℕ) → AreRows h n ks → AreRows h n js → (1 ≤ length js → All (IsThick (form_at h) n) ks) → AreRows h n (ks ++ js)
  rows-append n ks [] a b full = rw append-nil a
  rows-append n ks (j ∷ js) a b full =
      let size : length (ks ++ j ∷ js) - 1 ≡ length ks + (length (j ∷ js) - 1) = omega (arith, length-append ks (j ∷ js)) in
      let front : take (length (ks ++ j ∷ js) - 1) (ks ++ j ∷ js) ≡ ks ++ take (length (j ∷ js) - 1) (j ∷ js) = rw size (take-past ks (j ∷ js) (length (j ∷ js) - 1)) in
      record {
        well = All-append (IsWell (form_at h) n) ks (j ∷ js) a.well b.well;
        thick = rw front (All-append (IsThick (form_at h) n) ks (take (length (j ∷ js) - 1) (j ∷ js)) (full (omega arith)) b.thick);
        not_empty = All-append (λ k. 1 ≤ length (links_at h k)) ks (j ∷ js) a.not_empty b.not_empty;
        sums = All-append (HasSums h n) ks (j ∷ js) a.sums b.sums;
      }

  pub no-rows : (n : ℕ) → AreRows h n []
  no-rows n =
      record {
        well = All-nil (IsWell (form_at h) n);
        thick = All-nil (IsThick (form_at h) n);
        not_empty = All-nil (λ k. 1 ≤ length (links_at h k));
        sums = All-nil (HasSums h n);
      }

  -- one row that is not empty
  pub one-row : (n l : ℕ) (xs : List ℕ) → IsRowOf h n l xs → 1 ≤ length xs → AreRows h n (l ∷ [])
  one-row n l xs r some =
      let links : 1 ≤ length (links_at h l) = rw (← links-form h l) (links-some (form_at h) n l r.well (rw r.items some)) in
      record {
        well = All-cons (IsWell (form_at h) n) l [] r.well (All-nil (IsWell (form_at h) n));
        thick = All-nil (IsThick (form_at h) n);
        not_empty = All-cons (λ k. 1 ≤ length (links_at h k)) l [] links (All-nil (λ k. 1 ≤ length (links_at h k)));
        sums = All-cons (HasSums h n) l [] r.sums (All-nil (HasSums h n));
      }

  -- a front of fewer than all is thick
  pub take-thick : (n i : ℕ) (ks : List ℕ) → AreRows h n ks → i < length ks → All (IsThick (form_at h) n) (take i ks)
  take-thick n i ks r lt = rw (← take-take i (length ks - 1) ks (omega arith)) (All-take (IsThick (form_at h) n) i (take (length ks - 1) ks) r.thick)

  pub rows-take : (n i : ℕ) (ks : List ℕ) → AreRows h n ks → i ≤ length ks → AreRows h n (take i ks)
  rows-take n i ks r le =
      let count : length (take i ks) ≡ i = length-take-le i ks le in
      let front : take (length (take i ks) - 1) (take i ks) ≡ take (i - 1) ks = rw count (take-take (i - 1) i ks (omega arith)) in
      record {
        well = All-take (IsWell (form_at h) n) i ks r.well;
        thick = rw (front, ← take-take (i - 1) (length ks - 1) ks (omega arith)) (All-take (IsThick (form_at h) n) (i - 1) (take (length ks - 1) ks) r.thick);
        not_empty = All-take (λ k. 1 ≤ length (links_at h k)) i ks r.not_empty;
        sums = All-take (HasSums h n) i ks r.sums;
      }

  pub rows-drop : (n i : ℕ) (ks : List ℕ) → AreRows h n ks → AreRows h n (drop i ks)
  rows-drop n i ks r =
      record {
        well = All-drop (IsWell (form_at h) n) i ks r.well;
        thick = front-drop (IsThick (form_at h) n) i ks r.thick;
        not_empty = All-drop (λ k. 1 ≤ length (links_at h k)) i ks r.not_empty;
        sums = All-drop (HasSums h n) i ks r.sums;
      }

  -- one list of rows between two others
  pub rows-around : (n : ℕ) (front seam back : List ℕ) → AreRows h n front → All (IsThick (form_at h) n) front → AreRows h n seam → AreRows h n back → (1 ≤ length back → All (IsThick (form_at h) n) seam) → AreRows h n ((front ++ seam) ++ back)
  rows-around n front seam back f full s b close =
      rows-append n (front ++ seam) back (rows-append n front seam f s (λ _. full)) b (λ some. All-append (IsThick (form_at h) n) front seam full (close some))

-- the elements of one row
pub one-items : {T : Type 0} (h : Heap T) (n l : ℕ) (xs : List ℕ) → IsRowOf h n l xs → flat_map (seq_at (form_at h) n) (l ∷ []) ≡ xs
one-items h n l xs r = append-nil (seq_at (form_at h) n l) ∙ r.items

-- an inner row by its children
pub record IsOver {T : Type 0} (h : Heap T) (n l : ℕ) : Type 0 where
  pub live : IsSome (row_at h l)
  pub some : 1 ≤ length (links_at h l)
  pub most : length (links_at h l) ≤ 32
  pub rows : AreRows h n (links_at h l)
  pub sums : KeepsSums (form_at h) n (links_at h l) (sums_at h l)
  pub items : seq_at (form_at h) (suc n) l ≡ flat_map (seq_at (form_at h) n) (links_at h l)
  pub thick : IsThick (form_at h) (suc n) l → (16 ≤ length (links_at h l)) × All (IsThick (form_at h) n) (links_at h l)
  pub full : 16 ≤ length (links_at h l) → All (IsThick (form_at h) n) (links_at h l) → IsThick (form_at h) (suc n) l

pub over : {T : Type 0} (h : Heap T) (n l : ℕ) → IsWell (form_at h) (suc n) l → HasSums h (suc n) l → IsOver h n l
unfolding IsWell HasSums seq_at IsThick
over h n l w s =
    let e : links_in (form_at h) l ≡ links_at h l = links-form h l in
    record {
      live = well-live h (suc n) l w;
      some = rw (← e) w.some;
      most = rw (← e) w.most;
      rows = record {
        well = rw (← e) w.children;
        thick = rw (← e) w.thick;
        not_empty = rw (← e) (λ k d b. rw (← links-form h (get_or (links_in (form_at h) l) k d)) (w.not_empty k d b));
        sums = s.1;
      };
      sums = s.0;
      items = ap (flat_map (seq_at (form_at h) n)) e;
      thick = λ t. rw (← e) t;
      full = λ most all. (rw e most, rw e all);
    }

-- an index's place in a row without sums
pub record IsStraight {T : Type 0} (h : Heap T) (n l index : ℕ) : Type 0 where
  pub place : index / 32 ^ suc n < length (links_at h l)
  pub few : index / 32 ^ suc n ≤ 31
  pub before : length (flat_map (seq_at (form_at h) n) (take (index / 32 ^ suc n) (links_at h l))) ≡ index / 32 ^ suc n * 32 ^ suc n
  pub low : index / 32 ^ suc n * 32 ^ suc n ≤ index
  pub within : index - index / 32 ^ suc n * 32 ^ suc n < length (seq_at (form_at h) n (get_or (links_at h l) (index / 32 ^ suc n) 0))

pub keeps-some : {K : Type 0} {F : Forms K} {n : ℕ} {ks ss : List ℕ} → KeepsSums F n ks ss → 1 ≤ length ss → AreSums ss (seq_at F n) ks
keeps-some {ss = ss} s some = s.kept (λ r. no-sums ss some (s.none.1 r))
  where
    no-sums : (ss : List ℕ) → 1 ≤ length ss → ss ≡ [] → ⊥
    no-sums ss some none = omega (arith, ap length none, some)

module _ {T : Type 0} {h : Heap T} {n l : ℕ} (o : IsOver h n l) where
  -- what a row keeps, where it keeps sums
  pub kept-sums : 1 ≤ length (sums_at h l) → AreSums (sums_at h l) (seq_at (form_at h) n) (links_at h l)
  kept-sums some = keeps-some o.sums some

  -- no child has more elements than a full one
  pub most-each : All (λ k. length (seq_at (form_at h) n k) ≤ 32 ^ suc n) (links_at h l)
  most-each = All-weaker (IsWell (form_at h) n) (λ k. length (seq_at (form_at h) n k) ≤ 32 ^ suc n) (λ k w. seq-le (form_at h) n k w) (links_at h l) o.rows.well

  -- in a row without sums an index's child is the one where it is if all are full
  pub straight : (index : ℕ) → sums_at h l ≡ [] → index < length (seq_at (form_at h) (suc n) l) → IsStraight h n l index
  straight index none inside =
      let f : ℕ → List ℕ = seq_at (form_at h) n in
      let full = o.sums.none.0 none in
      let inside' : index < length (flat_map f (links_at h l)) = rw (← o.items) inside in
      let some : 1 ≤ 32 ^ suc n = pow-pos (suc n) in
      let place = regular-place f (32 ^ suc n) (links_at h l) index some most-each inside' in
      record {
        place = place;
        few = omega (arith, place, o.most);
        before = regular-before f (32 ^ suc n) (links_at h l) (index / 32 ^ suc n) place full;
        low = omega (arith, div-add-mod' index (32 ^ suc n));
        within = regular-within f (32 ^ suc n) (links_at h l) index some full inside' place;
      }

-- the length of an inner row: its last sum or, where it keeps none, that of full children and of the last
pub record IsSized {T : Type 0} (h : Heap T) (n l : ℕ) : Type 0 where
  pub some : 1 ≤ length (links_at h l)
  pub most : length (links_at h l) ≤ 32
  pub by_sums : 1 ≤ length (sums_at h l) → get_or (sums_at h l) (length (sums_at h l) - 1) 0 ≡ length (seq_at (form_at h) n l)
  pub by_last : sums_at h l ≡ [] → (length (links_at h l) - 1) * 32 ^ n + length (seq_at (form_at h) (n - 1) (get_or (links_at h l) (length (links_at h l) - 1) 0)) ≡ length (seq_at (form_at h) n l)
  pub well : IsWell (form_at h) (n - 1) (get_or (links_at h l) (length (links_at h l) - 1) 0)
  pub sums : HasSums h (n - 1) (get_or (links_at h l) (length (links_at h l) - 1) 0)

pub sized : {T : Type 0} (h : Heap T) (n l : ℕ) → 0 < n → IsWell (form_at h) n l → HasSums h n l → IsSized h n l
sized h zero l some w s = absurd (omega arith)
sized h (suc n) l some w s =
    let o = over h n l w s in
    let down : suc n - 1 ≡ n = omega arith in
    let f : ℕ → List ℕ = seq_at (form_at h) n in
    let ks : List ℕ = links_at h l in
    record {
      some = o.some;
      most = o.most;
      by_sums = λ kept. let last = last-sum (sums_at h l) ks f (kept-sums o kept) o.some in last.1 ∙ ap length (sym o.items);
      by_last = λ none. rw down (sym (regular-length f (32 ^ suc n) ks o.some (o.sums.none.0 none)) ∙ ap length (sym o.items));
      well = rw down (o.rows.well (length ks - 1) 0 (omega (arith, o.some)));
      sums = rw down (o.rows.sums (length ks - 1) 0 (omega (arith, o.some)));
    }

-- the link at a place of a list, in the words of the code
pub at-place : (ls links : List ℕ) (i child : ℕ) → child ≡ get_or ls i child → ls ≡ links → i < length links → child ≡ get_or links i 0
at-place ls links i child is e lt = is ∙ rw e (get_or_default links i child 0 lt)

-- the last link of a list, in the words of the code
pub last-place : (ls links : List ℕ) (child : ℕ) → child ≡ get_or ls (length ls - 1) child → ls ≡ links → 1 ≤ length links → child ≡ get_or links (length links - 1) 0
last-place ls links child is e some = at-place ls links (length ls - 1) child is e (omega (arith, ap length e)) ∙ ap (λ (i : ℕ). get_or links (i - 1) 0) (ap length e)

-- one child of an inner row
pub record IsChild {T : Type 0} (h : Heap T) (n l child : ℕ) : Type 0 where
  pub live : IsSome (row_at h child)
  pub well : IsWell (form_at h) n child
  pub sums : HasSums h n child
  pub some : 1 ≤ length (links_at h child)
  pub short : length (seq_at (form_at h) n child) ≤ length (seq_at (form_at h) (suc n) l)
  pub thick : IsThick (form_at h) (suc n) l → IsThick (form_at h) n child

pub child-at : {T : Type 0} (h : Heap T) (n l i child : ℕ) → IsOver h n l → i < length (links_at h l) → child ≡ get_or (links_at h l) i 0 → IsChild h n l child
child-at h n l i child o lt e =
    let well : IsWell (form_at h) n child = rw e (o.rows.well i 0 lt) in
    record {
      live = well-live h n child well;
      well = well;
      sums = rw e (o.rows.sums i 0 lt);
      some = rw e (o.rows.not_empty i 0 lt);
      short = rw (o.items, e) (child-short (seq_at (form_at h) n) (links_at h l) i lt);
      thick = λ t. rw e ((o.thick t).1 i 0 lt);
    }

-- all children of a list of rows are live
pub rows-live : {T : Type 0} (h : Heap T) (n : ℕ) (ks : List ℕ) → AreRows h n ks → All (λ k. IsSome (row_at h k)) ks
rows-live h n ks r = λ k d b. well-live h n (get_or ks k d) (r.well k d b)

module _ {T : Type 0} (new : Heap T) where
  -- the new leaf
  pub leaf-made : (l : ℕ) (xs : List ℕ) → row_at new l ≡ Some (node Leaf xs) → length xs ≤ 32 → IsRowOf new 0 l xs
  unfolding IsWell HasSums seq_at
  leaf-made l xs here few =
      let e : form_at new l ≡ Some (node leaf xs) = ap (option_map form_of) here in
      record { well = record { kind = rw e refl; most = rw e few }; sums = tt; items = rw e refl }

  -- the new inner row over children that stay
  pub inner-made : (old : Heap T) (n l height : ℕ) (ss ks : List ℕ) → Stays (λ k. IsSome (row_at old k)) old new → AreRows old n ks → KeepsSums (form_at old) n ks ss
      → 1 ≤ length ks → length ks ≤ 32 → height ≡ suc n → row_at new l ≡ Some (node (Inner height ss) ks) → IsRowOf new (suc n) l (flat_map (seq_at (form_at old) n) ks)
  unfolding IsWell HasSums seq_at
  inner-made old n l height ss ks stays rows sums some few is here =
      let named = rows-live old n ks rows in
      let here' : row_at new l ≡ Some (node (Inner (suc n) ss) ks) = rw is at here in
      let e : form_at new l ≡ Some (node (inner (suc n)) ks) = ap (option_map form_of) here' in
      let links : links_at new l ≡ ks = ap links_of here' in
      let later : AreRows new n ks = rows-stay stays n ks named rows in
      record {
        well = record {
          kind = rw e refl;
          some = rw e some;
          most = rw e few;
          children = rw e later.well;
          thick = rw e later.thick;
          not_empty = rw e (λ k d b. rw (links-form new (get_or ks k d)) (later.not_empty k d b));
        };
        sums = (rw here' (keeps-stay stays n ks ss named sums), rw here' later.sums);
        items = rw e (items-stay stays n ks named);
      }

  -- the new inner row is thick where its children were, and are enough
  pub inner-thick : (old : Heap T) (n l : ℕ) (ks : List ℕ) → Stays (λ k. IsSome (row_at old k)) old new → AreRows old n ks → links_at new l ≡ ks → 16 ≤ length ks → All (IsThick (form_at old) n) ks → IsThick (form_at new) (suc n) l
  unfolding IsThick
  inner-thick old n l ks stays rows links enough full =
      let e : links_in (form_at new) l ≡ ks = links-form new l ∙ links in
      rw e (enough, all-thick-stay stays n ks (rows-live old n ks rows) full)

  pub leaf-thick : (l : ℕ) (xs : List ℕ) → links_at new l ≡ xs → 16 ≤ length xs → IsThick (form_at new) 0 l
  unfolding IsThick
  leaf-thick l xs links enough = rw (links-form new l, links) enough

  -- the root of a vector
  pub good-row : (n l : ℕ) (xs : List ℕ) → IsRowOf new n l xs → n ≤ MOST_HEIGHT → (1 ≤ n → 2 ≤ length (links_at new l)) → length xs < 2 ^ 32 → IsGoodVector new l × (elements new l ≡ xs)
  good-row n l xs r low two short =
      let both = shaped-at (form_at new) n l xs r.well r.items low (λ some. rw (links-form new l) (two some)) short in
      let e : height_at new l ≡ n = height-is (form_at new) n l r.well in
      (record { shape = both.0; sums = rw e r.sums }, both.1)

  -- the row that a vector's root is
  pub root-row : (l : ℕ) → IsGoodVector new l → IsRowOf new (height_at new l) l (elements new l)
  root-row l good = record { well = good.shape.well; sums = good.sums; items = refl }

-- what is kept of running sums, by the sum before the last child
pub keeps : {T : Type 0} (h : Heap T) (n : ℕ) (ks ss got : List ℕ) → AreRows h n ks → 1 ≤ length ks → AreSums ss (seq_at (form_at h) n) ks
    → (get_or (0 ∷ ss) (length ss - 1) 0 ≡ (length ss - 1) * 32 ^ suc n → got ≡ []) → ((get_or (0 ∷ ss) (length ss - 1) 0 ≡ (length ss - 1) * 32 ^ suc n → ⊥) → got ≡ ss) → KeepsSums (form_at h) n ks got
keeps h n ks ss got rows some sums none kept =
    let f : ℕ → List ℕ = seq_at (form_at h) n in
    let most : All (λ k. length (f k) ≤ 32 ^ suc n) ks = All-weaker (IsWell (form_at h) n) (λ k. length (f k) ≤ 32 ^ suc n) (λ k w. seq-le (form_at h) n k w) ks rows.well in
    let before : get_or (0 ∷ ss) (length ss - 1) 0 ≡ length (flat_map f (take (length ks - 1) ks)) = sum-last ss ks f sums some in
    let count : length ss ≡ length ks = sums.count in
    let to : get_or (0 ∷ ss) (length ss - 1) 0 ≡ (length ss - 1) * 32 ^ suc n → IsRegular (form_at h) n ks = λ e. regular-of f (32 ^ suc n) ks most (sym before ∙ e ∙ ap (λ (k : ℕ). (k - 1) * 32 ^ suc n) count) in
    let from : IsRegular (form_at h) n ks → get_or (0 ∷ ss) (length ss - 1) 0 ≡ (length ss - 1) * 32 ^ suc n = λ r. before ∙ regular-before f (32 ^ suc n) ks (length ks - 1) (omega arith) r ∙ ap (λ (k : ℕ). (k - 1) * 32 ^ suc n) (sym count) in
    record {
      none = (λ e. regular (cases (get_or (0 ∷ ss) (length ss - 1) 0) ((length ss - 1) * 32 ^ suc n)) to e, λ r. none (from r));
      kept = λ no. rw (kept (λ e. no (to e))) sums;
    }
  where
    cases : (a b : ℕ) → (a ≡ b) ⊎ (a ≡ b → ⊥)
    cases a b = grind arith

    regular : (get_or (0 ∷ ss) (length ss - 1) 0 ≡ (length ss - 1) * 32 ^ suc n) ⊎ (get_or (0 ∷ ss) (length ss - 1) 0 ≡ (length ss - 1) * 32 ^ suc n → ⊥) → (get_or (0 ∷ ss) (length ss - 1) 0 ≡ (length ss - 1) * 32 ^ suc n → IsRegular (form_at h) n ks) → got ≡ [] → IsRegular (form_at h) n ks
    regular (inl e) to empty = to e
    regular (inr other) to empty = absurd (omega (arith, ap length (sym (kept other) ∙ empty), sums.count, some))

-- the child that a row is made with
pub placed-child : {T : Type 0} {h : Heap T} {n l i skip child : ℕ} → CanPlace h n l i child skip → IsWell (form_at h) n child × HasSums h n child
placed-child {T} {h} {n} {l} {i} {skip} {child} can =
    let ks : List ℕ = links_with (links_at h l) i child skip in
    let at : get_or ks i 0 ≡ child = ap (λ (xs : List ℕ). get_or xs i 0) (append_assoc (take i (links_at h l)) (child ∷ []) (drop skip (links_at h l))) ∙ get_or_at (take i (links_at h l)) child (drop skip (links_at h l)) 0 i (length-take-le i (links_at h l) can.keep_in) in
    let inside : i < length ks = omega (arith, length-append (take i (links_at h l) ++ child ∷ []) (drop skip (links_at h l)), length-append (take i (links_at h l)) (child ∷ []), length-take-le i (links_at h l) can.keep_in) in
    (rw at at (can.rows.well i 0 inside), rw at at (can.rows.sums i 0 inside))

-- the elements of the child are few
pub placed-short : {T : Type 0} {h : Heap T} {n l i skip child : ℕ} → CanPlace h n l i child skip → length (seq_at (form_at h) n child) < 2 ^ 32
placed-short {T} {h} {n} {l} {i} {skip} {child} can =
    let f : ℕ → List ℕ = seq_at (form_at h) n in
    let all = can.short in
    let parts = ap length (items-around f (take i (links_at h l)) (drop skip (links_at h l)) child) in
    omega (arith, all, parts, length-append (flat_map f (take i (links_at h l))) (f child ++ flat_map f (drop skip (links_at h l))), length-append (f child) (flat_map f (drop skip (links_at h l))))

-- a child that a row is made with before that one
pub placed-before : {T : Type 0} {h : Heap T} {n l i skip child : ℕ} → CanPlace h n l i child skip → (k : ℕ) → k < i
    → IsWell (form_at h) n (get_or (links_at h l) k 0) × HasSums h n (get_or (links_at h l) k 0) × (length (seq_at (form_at h) n (get_or (links_at h l) k 0)) < 2 ^ 32)
placed-before {T} {h} {n} {l} {i} {skip} {child} can k lt =
    let ks : List ℕ = links_with (links_at h l) i child skip in
    let front : length (take i (links_at h l)) ≡ i = length-take-le i (links_at h l) can.keep_in in
    let within : k < length (take i (links_at h l) ++ child ∷ []) = omega (arith, lt, front, length-append (take i (links_at h l)) (child ∷ [])) in
    let inside : k < length ks = omega (arith, within, length-append (take i (links_at h l) ++ child ∷ []) (drop skip (links_at h l))) in
    let at : get_or ks k 0 ≡ get_or (links_at h l) k 0 =
    get_or_append_left (take i (links_at h l) ++ child ∷ []) (drop skip (links_at h l)) 0 k within ∙ get_or_append_left (take i (links_at h l)) (child ∷ []) 0 k (omega (arith, lt, front)) ∙ get_or-take i (links_at h l) k 0 lt in
    let short : length (seq_at (form_at h) n (get_or ks k 0)) < 2 ^ 32 = omega (arith, child-short (seq_at (form_at h) n) ks k inside, can.short) in
    (rw at at (can.rows.well k 0 inside), rw at at (can.rows.sums k 0 inside), rw at at short)

-- children with one in the place of some stay full but the last
module _ {T : Type 0} {h : Heap T} {n l i skip child : ℕ} (can : CanPlace h n l i child skip) (none : sums_at h l ≡ []) (more : i < length (links_at h l)) where
  abbrev IsFullChild : ℕ → Type 0
  IsFullChild k = length (seq_at (form_at h) n k) ≡ 32 ^ suc n

  front-full : All IsFullChild (take i (links_at h l))
  front-full = rw (← take-take i (length (links_at h l) - 1) (links_at h l) (omega (arith, more))) (All-take IsFullChild i (take (length (links_at h l) - 1) (links_at h l)) (can.sums.none.0 none))

  -- the child is the last
  pub regular-end : length (links_at h l) ≤ skip → IsRegular (form_at h) n (links_with (links_at h l) i child skip)
  regular-end past =
      let whole : links_with (links_at h l) i child skip ≡ take i (links_at h l) ++ child ∷ [] = rw (drop_all skip (links_at h l) past, append-nil) refl in
      rw whole (front-join IsFullChild (take i (links_at h l)) (child ∷ []) (omega arith) front-full (All-nil IsFullChild))

  -- the child is full
  pub regular-amid : skip < length (links_at h l) → IsFullChild child → IsRegular (form_at h) n (links_with (links_at h l) i child skip)
  regular-amid lt full =
      let both : All IsFullChild (take i (links_at h l) ++ child ∷ []) = All-append IsFullChild (take i (links_at h l)) (child ∷ []) front-full (All-cons IsFullChild child [] full (All-nil IsFullChild)) in
      let back : All IsFullChild (take (length (drop skip (links_at h l)) - 1) (drop skip (links_at h l))) = front-drop IsFullChild skip (links_at h l) (can.sums.none.0 none) in
      front-join IsFullChild (take i (links_at h l) ++ child ∷ []) (drop skip (links_at h l)) (omega (arith, lt, length-drop skip (links_at h l))) both back

-- a child behind all the others, of which the last is full too
pub regular-behind : {T : Type 0} {h : Heap T} {n l i skip child : ℕ} → CanPlace h n l i child skip → sums_at h l ≡ [] → 0 < length (links_at h l) → length (links_at h l) ≤ i → length (links_at h l) ≤ skip
    → length (seq_at (form_at h) n (get_or (links_at h l) (length (links_at h l) - 1) 0)) ≡ 32 ^ suc n → IsRegular (form_at h) n (links_with (links_at h l) i child skip)
regular-behind {T} {h} {n} {l} {i} {skip} {child} can none some past past' full =
    let whole : links_with (links_at h l) i child skip ≡ links_at h l ++ child ∷ [] = rw (take_all i (links_at h l) past, drop_all skip (links_at h l) past', append-nil) refl in
    let all : All (λ k. length (seq_at (form_at h) n k) ≡ 32 ^ suc n) (links_at h l) = front-last (λ k. length (seq_at (form_at h) n k) ≡ 32 ^ suc n) (links_at h l) some (can.sums.none.0 none) full in
    rw whole (front-join (λ k. length (seq_at (form_at h) n k) ≡ 32 ^ suc n) (links_at h l) (child ∷ []) (omega arith) all (All-nil (λ k. length (seq_at (form_at h) n k) ≡ 32 ^ suc n)))

-- the sums of a row with one child in the place of some, by those that the row keeps
module _ {T : Type 0} {h : Heap T} {n l i skip child : ℕ} (can : CanPlace h n l i child skip) (some : 1 ≤ length (sums_at h l)) {ss : List ℕ} (is : ss ≡ sums_at h l) where
  sums-are : AreSums ss (seq_at (form_at h) n) (links_at h l)
  sums-are = rw is (keeps-some can.sums some)

  -- the length of the first k of its children
  abbrev pub part : ℕ → ℕ
  part k = length (flat_map (seq_at (form_at h) n) (take k (links_with (links_at h l) i child skip)))

  pub sums-count : length ss ≡ length (links_at h l)
  sums-count = sums-are.count

  pub sums-first : (k : ℕ) → k < i → get_or (take i ss) k 0 ≡ part (k + 1)
  sums-first k lt = placed-first (seq_at (form_at h) n) (links_at h l) ss sums-are i child skip can.keep_in k lt

  pub part-short : (k : ℕ) → part k < 2 ^ 32
  part-short k = omega (arith, take-short (seq_at (form_at h) n) (links_with (links_at h l) i child skip) k, can.short)

  module _ {before gone size : ℕ} (first : i ≡ 0 → before ≡ 0) (later : 0 < i → before ≡ get_or ss (i - 1) 0) (first' : skip ≡ 0 → gone ≡ 0) (later' : 0 < skip → gone ≡ get_or ss (skip - 1) 0) (own : size ≡ length (seq_at (form_at h) n child)) where
    moved : (j : ℕ) → skip + j ≤ length (links_at h l) → part (i + 1 + j) + gone ≡ before + size + length (flat_map (seq_at (form_at h) n) (take (skip + j) (links_at h l)))
    moved j le = rw own (placed-later (seq_at (form_at h) n) (links_at h l) ss sums-are i child skip can.keep_in j before gone (sum-upto ss (links_at h l) (seq_at (form_at h) n) sums-are i before can.keep_in first later) (sum-upto ss (links_at h l) (seq_at (form_at h) n) sums-are skip gone can.skip_in first' later') le)

    gone-is : gone ≡ length (flat_map (seq_at (form_at h) n) (take skip (links_at h l)))
    gone-is = sum-upto ss (links_at h l) (seq_at (form_at h) n) sums-are skip gone can.skip_in first' later'

    pub until-is : before + size ≡ part (i + 1)
    until-is =
        let none : skip + 0 ≡ skip = omega arith in
        let none' : i + 1 + 0 ≡ i + 1 = omega arith in
        let all = rw (none, none') at (moved 0 (omega (arith, can.skip_in))) in
        omega (arith, all, gone-is)

    pub sum-moves : (j sum : ℕ) → skip + j < length (links_at h l) → sum ≡ get_or ss (skip + j) 0 → (gone ≤ sum) × (before + size + (sum - gone) ≡ part (i + 1 + j + 1))
    sum-moves j sum lt e =
        let up : skip + j + 1 ≡ skip + (j + 1) = omega arith in
        let up' : i + 1 + j + 1 ≡ i + 1 + (j + 1) = omega arith in
        let whole : sum ≡ length (flat_map (seq_at (form_at h) n) (take (skip + (j + 1)) (links_at h l))) = e ∙ sums-are.each (skip + j) lt ∙ ap (λ (k : ℕ). length (flat_map (seq_at (form_at h) n) (take k (links_at h l)))) up in
        let inner : take skip (take (skip + (j + 1)) (links_at h l)) ≡ take skip (links_at h l) = take-take skip (skip + (j + 1)) (links_at h l) (omega arith) in
        let least : length (flat_map (seq_at (form_at h) n) (take skip (links_at h l))) ≤ length (flat_map (seq_at (form_at h) n) (take (skip + (j + 1)) (links_at h l))) = rw inner at (take-short (seq_at (form_at h) n) (take (skip + (j + 1)) (links_at h l)) skip) in
        let all = moved (j + 1) (omega (arith, lt)) in
        (omega (arith, whole, least, gone-is), rw up' (omega (arith, all, whole, least, gone-is)))

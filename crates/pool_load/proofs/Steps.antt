-- What tests say of rows that passed them, and one more row that was made.
use Rattle.std.proofs.Common.{◌≡◌, ◌≢◌, ℕ, zero, suc, ◌+◌, ◌-◌, ◌^◌, ◌<◌, ◌≤◌, Bool, true, ◌&&◌, inl, inr, Option, Some, None, IsSome, option_map, slice_get, List, [], ◌∷◌, ◌++◌, map, length, take, get_or, refl, ap, sym, subst, ◌∙◌, arith, length-append}
use Rattle.std.specs.Prelude.{slice_index, nat_lt, nat_le, sum_by}
use Rattle.std.specs.List.{list_all, All}
use Rattle.std.proofs.lemmas.Bool.{cases_eq, cases_lt, eqb-true, leb-true, ltb-true}
use Rattle.std.proofs.lemmas.Option.{slice_get_within}
use Rattle.std.proofs.lemmas.List.{take_more, get_or_append_left, get_or_at}
use Rattle.std.proofs.lemmas.List.Elements.{All-map}
use Rattle.std.proofs.lemmas.List.Sums.{sum_by-append, sum_by-cons, sum_by-take-le}
use Rattle.elem_core.specs.declared.codes.TheConstants.{DEEPEST}
use Rattle.node_heap.specs.Links.{count}
use Rattle.node_heap.specs.Forms.{Row, Form, Forms, cell, node, leaf, inner, trie, chain, pair, state, links_of, links_in, is_cell, is_node}
use Rattle.node_heap.specs.Heap.{Heap, row_at, form_at, links_at, hold_count, HasSpares, IsGraph, most_holds}
use Rattle.node_heap.specs.Calls.{Makes, Extends}
use Rattle.node_heap.proofs.BuildLemmas.{count-one, count-append, Makes-refl}
use Rattle.node_heap.proofs.Counts.{test_same, test_other, count-cons}
use Rattle.node_heap.proofs.Frames.{Extends-row, Extends-refl, Extends-trans, Makes-trans}
use Rattle.node_heap.proofs.Trees.{map-same}
use Rattle.node_heap.specs.declared.row.TheConstants.{MOST_HEIGHT}
use Rattle.rrb_core.specs.Seq.{seq_at, IsWell}
use Rattle.rrb_core.specs.Vector.{KeepsSums, row_sums, sums_at, HasSums}
use Rattle.rrb_core.proofs.ClosedRows.{Stays}
use Rattle.rrb_core.proofs.FillRule.{seq-le}
use Rattle.rrb_core.proofs.LinkCounts.{count-at, all-counted}
use Rattle.rrb_core.proofs.Stays.{links-form, live-stays, sums-stay}
use Rattle.pool_text.specs.Rows.{Bytes, is_between, is_in_range}
use Rattle.pool_text.specs.Pool.{relink, text_form, text_forms}
use Rattle.pool_text.specs.declared.pool.Pool.{Pool}
use Rattle.pool_text.proofs.Gathered.{links-of-text}
use Rattle.pool_text.proofs.Renamed.{links-relink}
use Rattle.pool_check.specs.Rows.{links_lead_back, is_line_or_node}
use Rattle.pool_check.specs.Vectors.{has_height, is_thick, length_at, are_children, keeps_fill_rule}
use Rattle.pool_check.proofs.TestLemmas.{and-first, and-second, all-at, all-counted as all-passed, leads-down, not-both}
use Rattle.pool_check.proofs.VectorLaw.{length_at-is, well}
use Rattle.pool_load.specs.Loads.{cells_of, nodes_of}
use Rattle.pool_load.specs.Rows.{AreSound, HaveLengths, sum_over, length_over, AreSumsOver, KeepsSumsOver}
use Rattle.pool_load.specs.Making.{ArePlacesBelow, CanMake, MakesPoolRow, AreMade}
use Rattle.pool_load.proofs.Places.{below-all}
use Rattle.pool_load.proofs.Sums.{keeps-over, length-renamed}

-- ## Sound rows

-- links lead to earlier places
pub lead-low : (rows : List (Form Bytes)) → AreSound rows → (p k : ℕ) → 0 < count k (links_of (slice_get rows p)) → k < p
unfolding links_lead_back
lead-low rows sound p k has =
    let P : Pool = record { bits = 0; version = 0; history = 0; rows = rows; roots = [] } in
    let passes : links_lead_back P ≡ true = ap (λ b. b && true) sound.lead_back in
    leads-down P passes p k has

-- an inner row, and the rows below it
pub record IsInner (rows : List (Form Bytes)) (n : ℕ) (ks : List ℕ) : Type 0 where
  pub some : 1 ≤ length ks
  pub most : length ks ≤ 32
  pub high : (k : ℕ) → 0 < count k ks → has_height n (slice_get rows k) ≡ true
  pub short : sum_by (length_at (slice_get rows) n) ks < 2 ^ 32

between : (a b n : ℕ) → is_between a b n ≡ true → (a ≤ n) × (n ≤ b)
between a b n e = (leb-true a n (and-first (nat_le a n) (nat_le n b) e), leb-true n b (and-second (nat_le a n) (nat_le n b) e))

pub inner-range : (rows : List (Form Bytes)) → AreSound rows → (p height : ℕ) (ks : List ℕ) → slice_get rows p ≡ Some (node (inner height) ks) → (1 ≤ height) × (height ≤ MOST_HEIGHT) × (1 ≤ length ks) × (length ks ≤ 32)
inner-range rows sound p height ks is =
    let e : is_in_range {K = Bytes} (node (inner height) ks) ≡ true = all-at is_in_range rows sound.in_range p (node (inner height) ks) is in
    let fits = between 1 MOST_HEIGHT height (and-first (is_between 1 MOST_HEIGHT height) (is_between 1 32 (length ks)) e) in
    let few = between 1 32 (length ks) (and-second (is_between 1 MOST_HEIGHT height) (is_between 1 32 (length ks)) e) in
    (fits.0, fits.1, few.0, few.1)

pub inner-at : (rows : List (Form Bytes)) → AreSound rows → (p height n : ℕ) (ks : List ℕ) → height - 1 ≡ n → slice_get rows p ≡ Some (node (inner height) ks) → IsInner rows n ks
unfolding are_children
inner-at rows sound p height n ks below is =
    let F : Forms Bytes = slice_get rows in
    let range = inner-range rows sound p height ks is in
    let fill : are_children F n ks ≡ true = ap (λ m. are_children F m ks) (sym below) ∙ all-at (keeps_fill_rule F) rows sound.filled p (node (inner height) ks) is in
    let a : Bool = list_all (λ k. has_height n (F k)) ks in
    let b : Bool = list_all (is_thick F n) (take (length ks - 1) ks) in
    let c : Bool = list_all (λ k. nat_le 1 (length (links_in F k))) ks in
    let d : Bool = nat_lt (sum_by (length_at F n) ks) (2 ^ 32) in
    record {
      some = range.2;
      most = range.3;
      high = all-passed (λ k. has_height n (F k)) ks (and-first a b (and-first (a && b) c (and-first (a && b && c) d fill)));
      short = ltb-true (sum_by (length_at F n) ks) (2 ^ 32) (and-second (a && b && c) d fill);
    }

pub sum-same : (f g : ℕ → ℕ) (ks : List ℕ) → ((k : ℕ) → 0 < count k ks → f k ≡ g k) → sum_by f ks ≡ sum_by g ks
sum-same f g [] same = refl
sum-same f g (k ∷ ks) same =
    omega (arith, sum_by-cons f k ks, sum_by-cons g k ks, same k (omega (arith, count-cons k k ks, test_same k k refl)), sum-same f g ks (λ j some. same j (omega (arith, count-cons j k ks, some))))

-- the length of an inner row over rows whose lengths are known
module _ (rows : List (Form Bytes)) (sound : AreSound rows) (p : ℕ) (lengths : List ℕ) (form : Form Bytes) (at : slice_get rows p ≡ Some form) (known : p ≤ length lengths) (have : HaveLengths rows lengths) where
  inner-length : (height n : ℕ) (ks : List ℕ) → height - 1 ≡ n → slice_get rows p ≡ Some (node (inner height) ks) → sum_over lengths ks ≡ sum_by (length_at (slice_get rows) n) ks
  inner-length height n ks below is =
      let row = inner-at rows sound p height n ks below is in
      sum-same (slice_index lengths) (length_at (slice_get rows) n) ks
      (λ k has. have k n (omega (arith, known, lead-low rows sound p k (omega (arith, has, ap (λ r. count k (links_of r)) is)))) (row.high k has))

  pub short-row : length_over lengths form < 2 ^ 32
  short-row = by_form form at
    where
      by_form : (x : Form Bytes) → slice_get rows p ≡ Some x → length_over lengths x < 2 ^ 32
      by_form (cell _) is = omega arith
      by_form (node leaf ks) is =
          let e : is_in_range {K = Bytes} (node leaf ks) ≡ true = all-at is_in_range rows sound.in_range p (node leaf ks) is in
          omega (arith, leb-true (length ks) 32 e)
      by_form (node (inner height) ks) is = omega (arith, inner-length height (height - 1) ks refl is, (inner-at rows sound p height (height - 1) ks refl is).short)
      by_form (node (trie _ _ _) _) is = omega arith
      by_form (node chain _) is = omega arith
      by_form (node pair _) is = omega arith
      by_form (node state _) is = omega arith

  pub below-row : ArePlacesBelow (length lengths) (links_of (Some form))
  below-row = below-all (length lengths) (links_of (Some form)) (λ k has. omega (arith, known, lead-low rows sound p k (omega (arith, has, ap (λ r. count k (links_of r)) at))))

  own-length : (n : ℕ) → has_height n (Some form) ≡ true → length_over lengths form ≡ length_at (slice_get rows) n p
  unfolding length_at
  own-length zero high = by_form form at high
    where
      by_form : (x : Form Bytes) → slice_get rows p ≡ Some x → has_height zero (Some x) ≡ true → length_over lengths x ≡ length (links_of (slice_get rows p))
      by_form (cell _) is high = absurd (not-both high)
      by_form (node leaf ks) is high = sym (ap (λ r. length (links_of r)) is)
      by_form (node (inner height) ks) is high = absurd (omega (arith, eqb-true zero height high, (inner-range rows sound p height ks is).0))
      by_form (node (trie _ _ _) _) is high = absurd (not-both high)
      by_form (node chain _) is high = absurd (not-both high)
      by_form (node pair _) is high = absurd (not-both high)
      by_form (node state _) is high = absurd (not-both high)
  own-length (suc n) high = by_form form at high
    where
      by_form : (x : Form Bytes) → slice_get rows p ≡ Some x → has_height (suc n) (Some x) ≡ true → length_over lengths x ≡ sum_by (length_at (slice_get rows) n) (links_of (slice_get rows p))
      by_form (cell _) is high = absurd (not-both high)
      by_form (node leaf ks) is high = absurd (omega (arith, eqb-true (suc n) 0 high))
      by_form (node (inner height) ks) is high =
          inner-length height n ks (omega (arith, eqb-true (suc n) height high)) is ∙ sym (ap (λ r. sum_by (length_at (slice_get rows) n) (links_of r)) is)
      by_form (node (trie _ _ _) _) is high = absurd (not-both high)
      by_form (node chain _) is high = absurd (not-both high)
      by_form (node pair _) is high = absurd (not-both high)
      by_form (node state _) is high = absurd (not-both high)

  -- one length more
  pub lengths-more : length lengths ≡ p → HaveLengths rows (lengths ++ length_over lengths form ∷ [])
  lengths-more many q n low high = elim (cases_lt q p) as (λ _. get_or (lengths ++ length_over lengths form ∷ []) q 0 ≡ length_at (slice_get rows) n q) [
    | inl less ↦ get_or_append_left lengths (length_over lengths form ∷ []) 0 q (omega (arith, less, many)) ∙ have q n (omega (arith, less, many)) high
    | inr past ↦
        let same : p ≡ q = omega (arith, past, low, many, length-append lengths (length_over lengths form ∷ [])) in
        let high' : has_height n (Some form) ≡ true = ap (has_height n) (sym at) ∙ ap (λ i. has_height n (slice_get rows i)) same ∙ high in
        get_or_at lengths (length_over lengths form) [] 0 q (many ∙ same) ∙ own-length n high' ∙ ap (length_at (slice_get rows) n) same
  ]

-- ## Rows under new links

pub relink-same : {K : Type 0} (f g : ℕ → ℕ) (r : Option (Form K)) → ((k : ℕ) → 0 < count k (links_of r) → f k ≡ g k) → option_map (relink f) r ≡ option_map (relink g) r
relink-same f g None same = refl
relink-same f g (Some (cell x)) same = refl
relink-same f g (Some (node kind ks)) same = ap (λ js. Some (node kind js)) (map-same f g ks same)

module _ {T : Type 0} (text : T → Bytes) where
  -- the links of a row that stands for a form
  pub links-made : (f : ℕ → ℕ) (r : Option (Row T)) (form : Option (Form Bytes)) → option_map (text_form text) r ≡ option_map (relink f) form → links_of r ≡ map f (links_of form)
  links-made f r form e = sym (links-of-text text r) ∙ ap links_of e ∙ links-relink f form

  cell-kind : (row : Row T) → is_cell (Some (text_form text row)) ≡ is_cell (Some row)
  cell-kind (cell x) = refl
  cell-kind (node head links) = refl

  node-kind : (row : Row T) → is_node (Some (text_form text row)) ≡ is_node (Some row)
  node-kind (cell x) = refl
  node-kind (node head links) = refl

cell-relink : {K : Type 0} (f : ℕ → ℕ) (form : Form K) → is_cell (Some (relink f form)) ≡ is_cell (Some form)
cell-relink f (cell x) = refl
cell-relink f (node kind links) = refl

node-relink : {K : Type 0} (f : ℕ → ℕ) (form : Form K) → is_node (Some (relink f form)) ≡ is_node (Some form)
node-relink f (cell x) = refl
node-relink f (node kind links) = refl

one-more : {X : Type 0} (g : X → ℕ) (xs : List X) (i n : ℕ) (x : X) → slice_get xs i ≡ Some x → n ≡ i + 1 → sum_by g (take n xs) ≡ sum_by g (take i xs) + g x
one-more {X} g xs i n x is e =
    let more : take (i + 1) xs ≡ take i xs ++ x ∷ [] = take_more xs i x (slice_get_within xs i x is) ∙ ap (λ y. take i xs ++ y ∷ []) (there xs i is) in
    let split = sum_by-append g (take i xs) (x ∷ []) in
    let one = sum_by-cons g x [] in
    omega (arith, ap (λ m. sum_by g (take m xs)) e, ap (sum_by g) more, split, one)
  where
    there : (ys : List X) (j : ℕ) → slice_get ys j ≡ Some x → get_or ys j x ≡ x
    there [] j h = refl
    there (y ∷ ys) zero h = let f : Some y ≡ Some x = h in cc
    there (y ∷ ys) (suc j) h = there ys j h

pub get-map : {X Y : Type 0} (f : X → Y) (xs : List X) (i : ℕ) (x : X) → i < length xs → x ≡ get_or xs i x → slice_get (map f xs) i ≡ Some (f x)
get-map f [] i x low is = absurd (omega (arith, low))
get-map f (y ∷ ys) zero x low is = ap (λ z. Some (f z)) (sym is)
get-map f (y ∷ ys) (suc i) x low is = get-map f ys i x (omega (arith, low)) is

was-none : {T : Type 0} {old mid : Heap T} → Extends old mid → (l : ℕ) → row_at mid l ≡ None → row_at old l ≡ None
was-none {T} {old} {mid} more l gone = by_row (row_at old l) refl
  where
    by_row : (r : Option (Row T)) → row_at old l ≡ r → row_at old l ≡ None
    by_row None is = is
    by_row (Some x) is = absurd (let there : IsSome (row_at mid l) = more.live l (rw is refl) in cc)

-- ## One more row

module _ {T : Type 0} (text : T → Bytes) {old mid new : Heap T} (rows : List (Form Bytes)) (links lengths : List ℕ) (link : ℕ) (form : Form Bytes)
    (made : AreMade text old mid rows links) (at : slice_get rows (length links) ≡ Some form) (makes : MakesPoolRow text mid new links lengths form link)
    (sound : AreSound rows) (have : HaveLengths rows lengths) (known : length lengths ≡ length rows) where
  abbrev longer : List ℕ
  longer = links ++ link ∷ []

  at-old : (p : ℕ) → p < length links → get_or longer p 0 ≡ get_or links p 0
  at-old p low = get_or_append_left links (link ∷ []) 0 p low

  at-new : get_or longer (length links) 0 ≡ link
  at-new = get_or_at links link [] 0 (length links) refl

  size : length longer ≡ length links + 1
  size = omega (arith, length-append links (link ∷ []))

  inside : length links < length rows
  inside = slice_get_within rows (length links) form at

  live-mid : (k : ℕ) → 0 < count k links → IsSome (row_at mid k)
  live-mid k has = made.graph.held k (omega (arith, made.holds k, has))

  kept : (k : ℕ) → 0 < count k links → row_at new k ≡ row_at mid k
  kept k has = Extends-row makes.comes.extends k (live-mid k has)

  item : (p : ℕ) → p < length links → 0 < count (get_or links p 0) links
  item p low = count-at links p 0 low

  stays : Stays (λ l. IsSome (row_at mid l)) mid new
  stays = live-stays made.graph makes.comes.extends

  renamed : (p : ℕ) → p ≤ length links → option_map (relink (slice_index links)) (slice_get rows p) ≡ option_map (relink (slice_index longer)) (slice_get rows p)
  renamed p low = relink-same (slice_index links) (slice_index longer) (slice_get rows p) (λ k has. sym (at-old k (omega (arith, lead-low rows sound p k has, low))))

  form-old : (p : ℕ) → p < length links → text_forms text new (get_or longer p 0) ≡ option_map (relink (slice_index longer)) (slice_get rows p)
  form-old p low =
      ap (text_forms text new) (at-old p low) ∙ ap (option_map (text_form text)) (kept (get_or links p 0) (item p low)) ∙ made.forms p low ∙ renamed p (omega (arith, low))

  form-new : text_forms text new (get_or longer (length links) 0) ≡ option_map (relink (slice_index longer)) (slice_get rows (length links))
  form-new =
      ap (text_forms text new) at-new ∙ ap (option_map (text_form text)) makes.comes.here ∙ ap (λ (x : Form Bytes). Some x) makes.stands
      ∙ sym (ap (option_map (relink (slice_index links))) at) ∙ renamed (length links) (omega arith)

  forms-more : (p : ℕ) → p < length longer → text_forms text new (get_or longer p 0) ≡ option_map (relink (slice_index longer)) (slice_get rows p)
  forms-more p low = elim (cases_lt p (length links)) as (λ _. text_forms text new (get_or longer p 0) ≡ option_map (relink (slice_index longer)) (slice_get rows p)) [
    | inl less ↦ form-old p less
    | inr past ↦
        let same : length links ≡ p = omega (arith, low, past, size) in
        subst (λ q. text_forms text new (get_or longer q 0) ≡ option_map (relink (slice_index longer)) (slice_get rows q)) same form-new
  ]

  -- the rows that are there have their links in the new heap
  links_are : (p : ℕ) → p < length links → links_in (form_at new) (slice_index links p) ≡ map (slice_index links) (links_in (slice_get rows) p)
  links_are p low =
      links-form new (slice_index links p) ∙ ap links_of (kept (slice_index links p) (item p low))
      ∙ links-made text (slice_index links) (row_at mid (slice_index links p)) (slice_get rows p) (made.forms p low)

  links-new : links_at new link ≡ map (slice_index links) (links_of (Some form))
  links-new = ap links_of makes.comes.here ∙ links-made text (slice_index links) (Some makes.row) (Some form) (ap (λ (x : Form Bytes). Some x) makes.stands)

  -- a row below keeps its length
  long-below : (n k : ℕ) → k < length links → has_height n (slice_get rows k) ≡ true → (length (seq_at (form_at new) n (slice_index links k)) ≡ get_or lengths k 0) × (length (seq_at (form_at new) n (slice_index links k)) ≤ 32 ^ suc n)
  long-below n k low high =
      let F : Forms Bytes = slice_get rows in
      let same : length (seq_at (form_at new) n (slice_index links k)) ≡ length (seq_at F n k) = length-renamed F (form_at new) (slice_index links) (length links) links_are (lead-low rows sound) n k low in
      let kept_length : slice_index lengths k ≡ length_at F n k = have k n (omega (arith, low, inside, known)) high in
      let full : IsWell F n k = well F DEEPEST (all-at is_in_range rows sound.in_range) (all-at (keeps_fill_rule F) rows sound.filled) n k high in
      (same ∙ sym (length_at-is F n k) ∙ sym kept_length, omega (arith, same, seq-le F n k full))

  inner-sums : (n : ℕ) (ks : List ℕ) → form ≡ node (inner (suc n)) ks → HasSums new (suc n) link
  unfolding HasSums
  inner-sums n ks is =
      let below : suc n - 1 ≡ n = omega arith in
      let row = inner-at rows sound (length links) (suc n) n ks below (at ∙ ap (λ (x : Form Bytes). Some x) is) in
      let named : (k : ℕ) → 0 < count k ks → k < length links = λ k has. lead-low rows sound (length links) k (omega (arith, has, ap (λ r. count k (links_of r)) at, ap (λ (x : Form Bytes). count k (links_of (Some x))) is)) in
      let over : AreSumsOver lengths (suc n - 1) ks (row_sums (Some makes.row)) = subst (λ (x : Form Bytes). KeepsSumsOver lengths x (row_sums (Some makes.row))) is makes.sums in
      let over' : AreSumsOver lengths n ks (row_sums (Some makes.row)) = subst (λ m. AreSumsOver lengths m ks (row_sums (Some makes.row))) below over in
      let keeps : KeepsSums (form_at new) n (map (slice_index links) ks) (row_sums (Some makes.row)) =
      keeps-over (form_at new) n (slice_index links) lengths ks (row_sums (Some makes.row)) row.some over' (λ k has. long-below n k (named k has) (row.high k has)) in
      let to : links_at new link ≡ map (slice_index links) ks = links-new ∙ ap (λ (x : Form Bytes). map (slice_index links) (links_of (Some x))) is in
      let all : All (HasSums new n) (map (slice_index links) ks) =
      All-map (HasSums new n) (slice_index links) ks
      (all-counted (λ k. HasSums new n (slice_index links k)) ks
      (λ k has. sums-stay stays n (slice_index links k) (live-mid (slice_index links k) (item k (named k has))) (made.sums k n (named k has) (row.high k has)))) in (
        subst (λ js. KeepsSums (form_at new) n js (sums_at new link)) (sym to)
            (subst (KeepsSums (form_at new) n (map (slice_index links) ks)) (sym (ap row_sums makes.comes.here)) keeps),
        subst (All (HasSums new n)) (sym to) all,
      )

  new-sums : (n : ℕ) → has_height n (Some form) ≡ true → HasSums new n link
  unfolding HasSums
  new-sums zero high = tt
  new-sums (suc n) high = by_form form refl high
    where
      by_form : (x : Form Bytes) → form ≡ x → has_height (suc n) (Some x) ≡ true → HasSums new (suc n) link
      by_form (cell _) is high = absurd (not-both high)
      by_form (node leaf ks) is high = absurd (omega (arith, eqb-true (suc n) 0 high))
      by_form (node (inner height) ks) is high = inner-sums n ks (is ∙ ap (λ m. node (inner m) ks) (sym (eqb-true (suc n) height high)))
      by_form (node (trie _ _ _) _) is high = absurd (not-both high)
      by_form (node chain _) is high = absurd (not-both high)
      by_form (node pair _) is high = absurd (not-both high)
      by_form (node state _) is high = absurd (not-both high)

  sums-more : (p n : ℕ) → p < length longer → has_height n (slice_get rows p) ≡ true → HasSums new n (slice_index longer p)
  sums-more p n low high = elim (cases_lt p (length links)) as (λ _. HasSums new n (get_or longer p 0)) [
    | inl less ↦ subst (HasSums new n) (sym (at-old p less)) (sums-stay stays n (get_or links p 0) (live-mid (get_or links p 0) (item p less)) (made.sums p n less high))
    | inr past ↦
        let same : length links ≡ p = omega (arith, low, past, size) in
        let high' : has_height n (Some form) ≡ true = ap (has_height n) (sym at) ∙ ap (λ q. has_height n (slice_get rows q)) same ∙ high in
        subst (λ q. HasSums new n (get_or longer q 0)) same (subst (HasSums new n) (sym at-new) (new-sums n high'))
  ]

  counted : (k : ℕ) → 0 < count k longer → (k ≢ link → 0 < count k links)
  counted k has other = omega (arith, has, count-append k links (link ∷ []), count-one k link, test_other k link other)

  pub one-more-made : AreMade text old new rows longer
  one-more-made = record {
    few = omega (arith, size, inside);
    forms = forms-more;
    once = λ k. elim (cases_eq k link) as (λ _. count k longer ≤ 1) [
      | inl same ↦
          let none : count link links ≡ 0 = elim (cases_lt 0 (count link links)) as (λ _. count link links ≡ 0) [
            | inl some ↦ absurd (let there = live-mid link some in let gone = makes.comes.fresh in cc)
            | inr none ↦ omega (arith, none)
          ] in
          omega (arith, ap (λ j. count j links) same, none, count-append k links (link ∷ []), count-one k link, test_same k link same)
      | inr other ↦ omega (arith, made.once k, count-append k links (link ∷ []), count-one k link, test_other k link other)
    ];
    fresh = λ k has. elim (cases_eq k link) as (λ _. row_at old k ≡ None) [
      | inl same ↦ ap (row_at old) same ∙ was-none made.extends link makes.comes.fresh
      | inr other ↦ made.fresh k (counted k has other)
    ];
    all = λ k live new_there. elim (cases_eq k link) as (λ _. 0 < count k longer) [
      | inl same ↦ omega (arith, count-append k links (link ∷ []), count-one k link, test_same k link same)
      | inr other ↦ omega (arith, count-append k links (link ∷ []), made.all k (subst IsSome (makes.comes.others k other) live) new_there)
    ];
    sums = sums-more;
    holds = λ k. omega (arith, makes.comes.holds k, made.holds k, count-append k links (link ∷ []), count-one k link);
    count = omega (arith, makes.comes.count, made.count, size);
    makes =
        let both = Makes-trans made.makes makes.comes.makes in
        let cells : cells_of (take (length longer) rows) ≡ cells_of (take (length links) rows) + is_cell (Some makes.row) =
        one-more (λ row. is_cell (Some row)) rows (length links) (length longer) form at size
        ∙ ap (λ c. cells_of (take (length links) rows) + c) (sym (cell-relink (slice_index links) form) ∙ sym (ap (λ x. is_cell (Some x)) makes.stands) ∙ cell-kind text makes.row) in
        let nodes : nodes_of (take (length longer) rows) ≡ nodes_of (take (length links) rows) + is_node (Some makes.row) =
        one-more (λ row. is_node (Some row)) rows (length links) (length longer) form at size
        ∙ ap (λ c. nodes_of (take (length links) rows) + c) (sym (node-relink (slice_index links) form) ∙ sym (ap (λ x. is_node (Some x)) makes.stands) ∙ node-kind text makes.row) in
        subst (λ c. Makes old new c (nodes_of (take (length longer) rows))) (sym cells)
        (subst (λ n. Makes old new (cells_of (take (length links) rows) + is_cell (Some makes.row)) n) (sym nodes) both);
    graph = makes.comes.graph;
    extends = Extends-trans made.extends makes.comes.extends;
  }

-- the next row can be made
pub can-make : {T : Type 0} {text : T → Bytes} {old mid : Heap T} (rows : List (Form Bytes)) (links lengths : List ℕ) (form : Form Bytes) → AreMade text old mid rows links → slice_get rows (length links) ≡ Some form → AreSound rows → HaveLengths rows lengths → length lengths ≡ length rows
    → HasSpares old (cells_of rows) (nodes_of rows) → hold_count old + (length rows + 32) < most_holds → CanMake mid links lengths form
can-make rows links lengths form made at sound have known spares few =
    let n : ℕ = length links in
    let inside : n < length rows = slice_get_within rows n form at in
    let cells = one-more (λ row. is_cell (Some row)) rows n (n + 1) form at refl in
    let nodes = one-more (λ row. is_node (Some row)) rows n (n + 1) form at refl in
    record {
      in_range = all-at is_in_range rows sound.in_range n form at;
      line = all-at is_line_or_node rows sound.lines n form at;
      below = below-all n (links_of (Some form)) (λ k has. lead-low rows sound n k (omega (arith, has, ap (λ r. count k (links_of r)) at)));
      known = omega (arith, inside, known);
      live = λ k has. made.graph.held k (omega (arith, made.holds k, has));
      short = short-row rows sound n lengths form at (omega (arith, inside, known)) have;
      spares = (
        omega (arith, spares.0, made.makes.spare_cells, cells, sum_by-take-le (λ row. is_cell (Some row)) rows (n + 1)),
        omega (arith, spares.1, made.makes.spare_nodes, nodes, sum_by-take-le (λ row. is_node (Some row)) rows (n + 1)),
      );
      few = omega (arith, few, made.count, inside);
      graph = made.graph;
    }

-- before the first row
pub none-made : {T : Type 0} (text : T → Bytes) (h : Heap T) (rows : List (Form Bytes)) → IsGraph h → AreMade text h h rows []
none-made text h rows graph = record {
  few = omega arith;
  forms = λ p low. absurd (omega (arith, low));
  once = λ k. omega arith;
  fresh = λ k has. absurd (omega (arith, has));
  all = λ k live none. absurd cc;
  sums = λ p n low high. absurd (omega (arith, low));
  holds = λ k. omega arith;
  count = omega arith;
  makes = Makes-refl h graph;
  graph = graph;
  extends = Extends-refl h;
}

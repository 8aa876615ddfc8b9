-- A row whose last child was pushed to: its sums, its right spine, and the row itself.
use Rattle.std.proofs.Common.{◌≡◌, ℕ, suc, zero, ◌-◌, ◌+◌, ◌<◌, ◌≤◌, ◌^◌, List, [], ◌∷◌, ◌++◌, length, take, get_or, refl, ap, sym, subst, ◌∙◌, arith, length-append, length-set, Option, Some, None, inl, inr}
use Rattle.std.specs.Prelude.{option_map}
use Rattle.std.specs.List.{All, flat_map}
use Rattle.std.proofs.lemmas.Bool.{cases_eq}
use Rattle.std.proofs.lemmas.List.{get_or-take, length-take, length-take-le, take-take, take_all, get_or_default, get_or-set_same, get_or-set_other}
use Rattle.std.proofs.lemmas.List.Elements.{All-take}
use Rattle.node_heap.specs.Links.{count, HasLink, Reaches, here}
use Rattle.node_heap.specs.Forms.{Row, Forms, cell, node, inner, form_of, head_of, links_of, links_in}
use Rattle.node_heap.specs.declared.row.Head.{Head}
use Rattle.node_heap.specs.declared.row.Head.TheVariants.{Inner}
use Rattle.node_heap.specs.Heap.{Heap, row_at, form_at, links_at, IsGraph}
use Rattle.node_heap.specs.InPlace.{Writes}
use Rattle.node_heap.proofs.Reach.{Reaches-then}
use Rattle.node_heap.proofs.GraphLemmas.{IsGraph-acyclic}
use Rattle.rrb_core.specs.Seq.{seq_at, IsWell}
use Rattle.rrb_core.specs.Vector.{AreSums, IsRegular, KeepsSums, HasSums, row_sums}
use Rattle.rrb_core.specs.Build.{IsRowOf, AreRows}
use Rattle.rrb_core.proofs.ClosedRows.{Stays}
use Rattle.rrb_core.proofs.LinkCounts.{all-counted}
use Rattle.rrb_core.proofs.Lists.{empty-list, last-sum, front-last, each-push}
use Rattle.rrb_core.proofs.RowLists.{at-place, keeps-some}
use Rattle.rrb_core.proofs.Stays.{links-form, items-stay, rows-stay}
use Rattle.edit_vec.specs.Steps.{with_last, grown}

-- a node by its head
pub form-headed : {T : Type 0} (r : Option (Row T)) (height : ℕ) (ss : List ℕ) → head_of r ≡ Some (Inner height ss) → option_map form_of r ≡ Some (node (inner height) (links_of r))
form-headed None height ss e = absurd cc
form-headed (Some (cell x)) height ss e = absurd cc
form-headed (Some (node h l)) height ss e = let same : h ≡ Inner height ss = cc in ap (λ k. Some (form_of (node k l))) same

pub sums-headed : {T : Type 0} (r : Option (Row T)) (height : ℕ) (ss : List ℕ) → head_of r ≡ Some (Inner height ss) → row_sums r ≡ ss
sums-headed None height ss e = absurd cc
sums-headed (Some (cell x)) height ss e = absurd cc
sums-headed {T} (Some (node h l)) height ss e = let same : h ≡ Inner height ss = cc in ap (λ (k : Head). row_sums {T = T} (Some (node k l))) same

-- how many elements the first children have, and one more of them
pub items-more : (f : ℕ → List ℕ) (ks : List ℕ) (i : ℕ) → i < length ks → length (flat_map f (take (i + 1) ks)) ≡ length (flat_map f (take i ks)) + length (f (get_or ks i 0))
items-more f [] i lt = absurd (omega (arith, lt))
items-more f (k ∷ ks) zero lt = omega (arith, length-append (f k) [])
items-more f (k ∷ ks) (suc i) lt =
    let up : suc i + 1 ≡ suc (i + 1) = omega arith in
    rw up (omega (arith, length-append (f k) (flat_map f (take (i + 1) ks)), length-append (f k) (flat_map f (take i ks)), items-more f ks i (omega (arith, lt))))

module _ (f g : ℕ → List ℕ) where
  pub sizes-front : (xs ys : List ℕ) (m : ℕ) → length ys ≡ length xs → ((j : ℕ) → j < m → j < length xs → length (g (get_or ys j 0)) ≡ length (f (get_or xs j 0))) → length (flat_map g (take m ys)) ≡ length (flat_map f (take m xs))
  sizes-front [] [] zero count same = refl
  sizes-front [] [] (suc m) count same = refl
  sizes-front [] (y ∷ ys) m count same = absurd (omega (arith, count))
  sizes-front (x ∷ xs) [] m count same = absurd (omega (arith, count))
  sizes-front (x ∷ xs) (y ∷ ys) zero count same = refl
  sizes-front (x ∷ xs) (y ∷ ys) (suc m) count same =
      omega (arith, length-append (g y) (flat_map g (take m ys)), length-append (f x) (flat_map f (take m xs)), same 0 (omega arith) (omega arith), sizes-front xs ys m (omega (arith, count)) (λ j low lt. same (suc j) (omega (arith, low)) (omega (arith, lt))))

  pub full-front : (xs ys : List ℕ) (m i : ℕ) → length ys ≡ length xs → ((j : ℕ) → j < i → j < length xs → length (g (get_or ys j 0)) ≡ length (f (get_or xs j 0))) → All (λ k. length (f k) ≡ m) (take i xs) → All (λ k. length (g k) ≡ m) (take i ys)
  full-front xs ys m i count same all k d lt =
      let low : k < i = omega (arith, lt, length-take i ys) in
      let inside : k < length xs = omega (arith, lt, length-take i ys, count) in
      let was : length (f (get_or xs k 0)) ≡ m = rw (get_or-take i xs k 0 low) at (all k 0 (omega (arith, lt, length-take i ys, length-take i xs, count))) in
      rw (get_or-take i ys k d low, get_or_default ys k d 0 (omega (arith, inside, count))) (same k low inside ∙ was)

  -- all their elements, where the last members differ so
  pub sizes-last : (xs ys : List ℕ) (a b : ℕ) → 1 ≤ length xs → length ys ≡ length xs → ((j : ℕ) → j < length xs - 1 → j < length xs → length (g (get_or ys j 0)) ≡ length (f (get_or xs j 0)))
      → length (g (get_or ys (length xs - 1) 0)) + a ≡ length (f (get_or xs (length xs - 1) 0)) + b → length (flat_map g ys) + a ≡ length (flat_map f xs) + b
  sizes-last xs ys a b some count same last =
      let m : ℕ = length xs - 1 in
      let all : take (m + 1) xs ≡ xs = take_all (m + 1) xs (omega (arith, some)) in
      let all' : take (m + 1) ys ≡ ys = take_all (m + 1) ys (omega (arith, some, count)) in
      omega (
        arith,
        sizes-front xs ys m count same,
        items-more f xs m (omega (arith, some)),
        items-more g ys m (omega (arith, some, count)),
        ap (λ (zs : List ℕ). length (flat_map f zs)) all,
        ap (λ (zs : List ℕ). length (flat_map g zs)) all',
        last,
      )

-- the sums that were kept, with another last, once the last child has more elements or fewer
pub keeps-last : {K : Type 0} {F G : Forms K} (n : ℕ) (ks js ss : List ℕ) (x : ℕ) → 1 ≤ length ks → length js ≡ length ks → ((j : ℕ) → j < length ks - 1 → j < length ks → length (seq_at G n (get_or js j 0)) ≡ length (seq_at F n (get_or ks j 0)))
    → (AreSums ss (seq_at F n) ks → x ≡ length (flat_map (seq_at G n) js)) → KeepsSums F n ks ss → KeepsSums G n js (with_last ss x)
keeps-last {K} {F} {G} n ks js ss x some count same whole s =
    let to : IsRegular F n ks → IsRegular G n js = λ r. rw count (full-front (seq_at F n) (seq_at G n) ks js (32 ^ suc n) (length ks - 1) count same r) in
    let from : IsRegular G n js → IsRegular F n ks = λ r. full-front (seq_at G n) (seq_at F n) js ks (32 ^ suc n) (length ks - 1) (sym count) (λ j low lt. sym (same j low (omega (arith, lt, count)))) (rw count at r) in
    record {
      none = (λ e. to (s.none.0 (empty-list ss (omega (arith, ap length e, size)))), λ r. empty-list (with_last ss x) (omega (arith, size, ap length (s.none.1 (from r)))));
      kept = λ no. let sums = s.kept (λ r. no (to r)) in record { count = size ∙ sums.count ∙ sym count; each = λ i b. each sums i (omega (arith, b, count)) };
    }
  where
    size : length (with_last ss x) ≡ length ss
    size = length-set ss (length ss - 1) x

    each : AreSums ss (seq_at F n) ks → (i : ℕ) → i < length ks → get_or (with_last ss x) i 0 ≡ length (flat_map (seq_at G n) (take (i + 1) js))
    each sums i lt = elim (cases_eq i (length ss - 1)) as (λ _. get_or (with_last ss x) i 0 ≡ length (flat_map (seq_at G n) (take (i + 1) js))) [
      | inl is ↦
          let here : get_or (with_last ss x) i 0 ≡ x = rw is (get_or-set_same ss (length ss - 1) x 0 (omega (arith, sums.count, some))) in
          let all : take (i + 1) js ≡ js = take_all (i + 1) js (omega (arith, is, sums.count, count, some)) in
          here ∙ whole sums ∙ ap (λ (xs : List ℕ). length (flat_map (seq_at G n) xs)) (sym all)
      | inr other ↦
          get_or-set_other ss (length ss - 1) i x 0 other ∙ sums.each i lt
          ∙ sym (sizes-front (seq_at F n) (seq_at G n) ks js (i + 1) count (λ j low inside. same j (omega (arith, low, lt, other, sums.count)) inside))
    ]

-- with one more in the last, once the last child has an element more
pub keeps-grown : {K : Type 0} {F G : Forms K} (n : ℕ) (ks js ss : List ℕ) → 1 ≤ length ks → length js ≡ length ks → ((j : ℕ) → j < length ks - 1 → j < length ks → length (seq_at G n (get_or js j 0)) ≡ length (seq_at F n (get_or ks j 0)))
    → length (seq_at G n (get_or js (length ks - 1) 0)) ≡ length (seq_at F n (get_or ks (length ks - 1) 0)) + 1 → KeepsSums F n ks ss → KeepsSums G n js (grown ss)
keeps-grown {K} {F} {G} n ks js ss some count same last s =
    keeps-last n ks js ss (get_or ss (length ss - 1) 0 + 1) some count same (λ sums. omega (arith, (last-sum ss ks (seq_at F n) sums some).1, sizes-last (seq_at F n) (seq_at G n) ks js 0 1 some count same (omega (arith, last)))) s

-- a row whose head was written
module _ {T : Type 0} {new last : Heap T} {row height : ℕ} {ss : List ℕ} (graph : IsGraph new) (writes : Writes new last row (Some (Inner height ss)) (links_at new row)) where
  abbrev pub IsUnder : ℕ → Type 0
  IsUnder m = (k : ℕ) × HasLink (links_at new) row k × Reaches (links_at new) k m

  pub stays-under : Stays IsUnder new last
  stays-under = record {
    closed = λ l b. all-counted IsUnder (links_at new l) (λ j some. (b.0, b.1, Reaches-then (links_at new) b.0 l j b.2 some));
    kept = λ m b. writes.others m (λ e. IsGraph-acyclic new graph row b.0 b.1 (subst (Reaches (links_at new) b.0) e b.2));
  }

  pub all-under : All IsUnder (links_at new row)
  all-under = all-counted IsUnder (links_at new row) (λ k has. (k, has, here k))

  -- it is a row over its children, where these keep the fill rule and the head has the sums
  pub row-headed : {n : ℕ} {xs : List ℕ} → height ≡ suc n → AreRows new n (links_at new row) → 1 ≤ length (links_at new row) → length (links_at new row) ≤ 32 → KeepsSums (form_at last) n (links_at new row) ss
      → flat_map (seq_at (form_at new) n) (links_at new row) ≡ xs → IsRowOf last (suc n) row xs
  unfolding IsWell HasSums seq_at
  row-headed {n} {xs} tall rows some most sums items =
      let later : AreRows last n (links_at new row) = rows-stay stays-under n (links_at new row) all-under rows in
      let e : links_in (form_at last) row ≡ links_at new row = links-form last row ∙ writes.new_links in
      record {
        well = record {
          kind = rw tall at (form-headed (row_at last row) height ss writes.new_head) ∙ ap (λ (ls : List ℕ). Some (node (inner (suc n)) ls)) (sym (links-form last row));
          some = rw e some;
          most = rw e most;
          children = rw e later.well;
          thick = rw e later.thick;
          not_empty = rw e (λ k d b. rw (links-form last (get_or (links_at new row) k d)) (later.not_empty k d b));
        };
        sums = (rw (writes.new_links, sums-headed (row_at last row) height ss writes.new_head) sums, rw writes.new_links later.sums);
        items = rw e (items-stay stays-under n (links_at new row) all-under ∙ items);
      }

-- of children of which the last is new: all others are regular
module _ {K : Type 0} (F : Forms K) (n : ℕ) (ks : List ℕ) (two : 2 ≤ length ks) where
  abbrev f : ℕ → List ℕ
  f = seq_at F n

  abbrev others : List ℕ
  others = take (length ks - 1) ks

  size-others : length others ≡ length ks - 1
  size-others = length-take-le (length ks - 1) ks (omega arith)

  -- where the last of these is full, all are, and no sums are kept
  pub keeps-full : IsRegular F n others → length (seq_at F n (get_or ks (length ks - 2) 0)) ≡ 32 ^ suc n → KeepsSums F n ks []
  keeps-full regular full =
      let at : get_or others (length others - 1) 0 ≡ get_or ks (length ks - 2) 0 = rw size-others (get_or-take (length ks - 1) ks (length ks - 1 - 1) 0 (omega (arith, two)) ∙ ap (λ (j : ℕ). get_or ks j 0) (omega arith)) in
      let all : IsRegular F n ks = front-last (λ k. length (seq_at F n k) ≡ 32 ^ suc n) others (omega (arith, size-others, two)) regular (rw at full) in
      record { none = (λ _. all, λ _. refl); kept = λ no. absurd (no all) }

  -- where they keep sums, the last child has the next
  module _ (ss : List ℕ) (s : KeepsSums F n others ss) (some : 1 ≤ length ss) (one : length (seq_at F n (get_or ks (length ks - 1) 0)) ≡ 1) where
    sums : AreSums ss f others
    sums = keeps-some s some

    pub size-sums : length ss ≡ length ks - 1
    size-sums = sums.count ∙ size-others

    pub sum-all : get_or ss (length ss - 1) 0 + 1 ≡ length (flat_map f ks)
    sum-all =
        let whole : take (length ks - 1 + 1) ks ≡ ks = take_all (length ks - 1 + 1) ks (omega (arith, two)) in
        let more = items-more f ks (length ks - 1) (omega (arith, two)) in
        omega (arith, (last-sum ss others f sums (omega (arith, size-others, two))).1, more, ap (λ (xs : List ℕ). length (flat_map f xs)) whole, one)

    pub keeps-next : KeepsSums F n ks (ss ++ (get_or ss (length ss - 1) 0 + 1) ∷ [])
    keeps-next =
        let x : ℕ = get_or ss (length ss - 1) 0 + 1 in
        let irregular : ¬ IsRegular F n ks = λ r. absurd (omega (arith, some, ap length (s.none.1 (All-take (λ k. length (seq_at F n k) ≡ 32 ^ suc n) (length others - 1) others r)))) in
        let whole : take (length ss + 1) ks ≡ ks = take_all (length ss + 1) ks (omega (arith, size-sums)) in
        let size : length (ss ++ x ∷ []) ≡ length ss + 1 = omega (arith, length-append ss (x ∷ [])) in
        let each = each-push (λ k. length (flat_map f (take (k + 1) ks))) ss (length ss) x refl first (rw whole sum-all) in
        record {
          none = (λ e. absurd (omega (arith, ap length e, size)), λ r. absurd (irregular r));
          kept = λ _. record { count = omega (arith, size, size-sums, two); each = λ i lt. each i (omega (arith, lt, size-sums)) };
        }
      where
        first : (k : ℕ) → k < length ss → get_or ss k 0 ≡ length (flat_map f (take (k + 1) ks))
        first k lt = sums.each k (omega (arith, lt, sums.count)) ∙ ap (λ (xs : List ℕ). length (flat_map f xs)) (take-take (k + 1) (length ks - 1) ks (omega (arith, lt, size-sums)))

-- the last child but one, in the words of the code
pub last-but-one : (ls ks : List ℕ) (x : ℕ) → x ≡ get_or ls (length ls - 2) x → ls ≡ ks → 2 ≤ length ks → x ≡ get_or ks (length ks - 2) 0
last-but-one ls ks x is e two = at-place ls ks (length ls - 2) x is e (omega (arith, ap length e, two)) ∙ ap (λ (i : ℕ). get_or ks (i - 2) 0) (ap length e)

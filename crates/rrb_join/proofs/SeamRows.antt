-- The rows of each height below links that were joined, or into which an element was put.
use Rattle.std.proofs.Common.{◌≡◌, ℕ, suc, ◌+◌, ◌<◌, ◌≤◌, List, [], ◌∷◌, ◌++◌, length, take, drop, get_or, refl, ap, sym, ◌∙◌, arith, inl, inr, length-append, append-nil, append_assoc, IsSome}
use Rattle.std.specs.List.{All, flat_map}
use Rattle.std.proofs.lemmas.List.{nil_from_length}
use Rattle.std.proofs.lemmas.Bool.{cases_lt}
use Rattle.std.proofs.lemmas.List.Concat.{flat_map-append}
use Rattle.node_heap.specs.Heap.{Heap, row_at, links_at, IsGraph}
use Rattle.rrb_core.proofs.ClosedRows.{Stays}
use Rattle.rrb_core.proofs.Lists.{items-cut, items-front, items-drop}
use Rattle.rrb_core.specs.Build.{AreRows}
use Rattle.rrb_core.proofs.Stays.{live-stays-by}
use Rattle.rrb_core.proofs.RowLists.{rows-take, rows-drop, rows-live, IsOver}
use Rattle.rrb_core.specs.Levels.{rows_at}
use Rattle.rrb_join.specs.Seam.{rows_under, but_last, AllStandBeside, AreAtNeed, HasSeam, JoinsBelow, KeepsBeneath, PutsBelow}
use Rattle.rrb_join.specs.Unmade.{AreLinks, EndsIn, BeginsWith}
use Rattle.rrb_join.proofs.AnswerLemmas.{all-links-stay}
use Rattle.rrb_join.proofs.UnmadeLemmas.{links-live}
use Rattle.rrb_core.proofs.LevelLemmas.{rows-own, rows-inner, all-kept}
use Rattle.rrb_join.proofs.RowsOfHeights.{rows-own-all, below-above, below-rows, none-before, none-after, below-named, below-kept, need-kept, seam-kept, but-last-append, around}
use Rattle.rrb_join.proofs.BesideLemmas.{edges-stand}

-- what the rows that are made over links lead to
module _ {T : Type 0} {y w z : Heap T} {below : ℕ} {unmade made : List ℕ} (sy : Stays (λ x. IsSome (row_at y x)) y z) (sw : Stays (λ x. IsSome (row_at w x)) w z) (named : AreLinks y below unmade) (rows : AreRows w below made) (over-links : flat_map (links_at w) made ≡ unmade) where
  amid-rows : (m : ℕ) → m < below → flat_map (rows_at (links_at z) below m) made ≡ rows_under (links_at y) below m unmade
  amid-rows m lower =
      let live : 0 < below → All (λ x. IsSome (row_at y x)) unmade = links-live y below unmade named in
      let links : flat_map (links_at z) made ≡ unmade = all-links-stay sw made (rows-live w below made rows) ∙ over-links in
      below-rows (links_at z) below m made lower ∙ ap (rows_under (links_at z) below m) links ∙ below-kept sy below m unmade live

  pub amid-lower : (m : ℕ) (front back : List ℕ) → m < below → HasSeam y 2 front back (rows_under (links_at y) below m unmade) → HasSeam z 2 front back (flat_map (rows_at (links_at z) below m) made)
  amid-lower m front back lower sub =
      let has = seam-kept sy (below-named sy below m unmade (links-live y below unmade named)) sub in
      record { seam = has.seam; few = has.few; rows = amid-rows m lower ∙ has.rows }

  pub amid-own : AreAtNeed w 2 made → (m : ℕ) (front back : List ℕ) → m ≡ below → front ≡ [] → back ≡ [] → HasSeam z 2 front back (flat_map (rows_at (links_at z) below m) made)
  amid-own few m front back top none none' =
      record {
        seam = made;
        few = need-kept sw 2 made (rows-live w below made rows) few;
        rows = rw (none, none', append-nil, top) (rows-own-all (links_at z) below made);
      }

-- a heap is as it is
stays-itself : {T : Type 0} {z : Heap T} → IsGraph z → Stays (λ x. IsSome (row_at z x)) z z
stays-itself {T} {z} graph = live-stays-by z z (λ l. refl) graph

-- the rows that are made over links that join two rows
module _ {T : Type 0} (h : Heap T) (n l k r : ℕ) {y z : Heap T} {height : ℕ} {unmade made : List ℕ} (sy : Stays (λ x. IsSome (row_at y x)) y z) (graph : IsGraph z) (named : AreLinks y height unmade) (rows : AreRows z height made) (over-links : flat_map (links_at z) made ≡ unmade) where
  pub joins-over : n ≤ height → k ≤ height → AreAtNeed z 2 made → JoinsBelow h y n l k r height unmade → JoinsBelow h z n l k r (suc height) made
  joins-over low low' few sub m lower = rw (below-above (links_at z) height m made) (elim (cases_lt m height) as (λ _. HasSeam z 2 (but_last (rows_at (links_at h) n m l)) (drop 1 (rows_at (links_at h) k m r)) (flat_map (rows_at (links_at z) height m) made)) [
    | inl inner ↦ amid-lower sy (stays-itself graph) named rows over-links m _ _ inner (sub m inner)
    | inr high ↦ amid-own sy (stays-itself graph) named rows over-links few m _ _ (omega arith) (none-before (links_at h) n m l (omega arith)) (none-after (links_at h) k m r (omega arith))
  ])

  pub keeps-over : (AllStandBeside h n l k r height → ⊥) → KeepsBeneath h y n l k r height unmade → KeepsBeneath h z n l k r (suc height) made
  keeps-over apart sub m lower stand = elim (cases_lt m height) as (λ _. rows_under (links_at z) (suc height) m made ≡ rows_at (links_at h) n m l ++ rows_at (links_at h) k m r) [
    | inl inner ↦ below-above (links_at z) height m made ∙ amid-rows sy (stays-itself graph) named rows over-links m inner ∙ sub m inner stand
    | inr high ↦ let same : m ≡ height = omega arith in absurd (apart (rw same at stand))
  ]

-- those rows between two lists of rows that stay
pub amid : {T : Type 0} (h z : Heap T) (height below m : ℕ) (ks made js all mid : List ℕ) → height ≡ suc below → Stays (λ l. IsSome (row_at h l)) h z → AreRows h below ks → AreRows h below js → all ≡ (ks ++ made) ++ js → flat_map (rows_at (links_at z) below m) made ≡ mid
    → rows_under (links_at z) height m all ≡ (flat_map (rows_at (links_at h) below m) ks ++ mid) ++ flat_map (rows_at (links_at h) below m) js
amid h z height below m ks made js all mid e s left right is mid-is =
    let f : ℕ → List ℕ = rows_at (links_at z) below m in
    let g : ℕ → List ℕ = rows_at (links_at h) below m in
    let split : flat_map f ((ks ++ made) ++ js) ≡ (flat_map f ks ++ flat_map f made) ++ flat_map f js = flat_map-append f (ks ++ made) js ∙ ap (λ (xs : List ℕ). xs ++ flat_map f js) (flat_map-append f ks made) in
    let kept : flat_map f ks ≡ flat_map g ks = all-kept s below m ks (rows-live h below ks left) in
    let kept' : flat_map f js ≡ flat_map g js = all-kept s below m js (rows-live h below js right) in
    ap (λ (n : ℕ). rows_under (links_at z) n m all) e ∙ below-above (links_at z) below m all ∙ ap (flat_map f) is ∙ split ∙ rw (kept, kept', mid-is) refl

pub beside : {T : Type 0} (h z : Heap T) (height below m : ℕ) (ks made js all front back edge edge' : List ℕ) → height ≡ suc below → Stays (λ l. IsSome (row_at h l)) h z → AreRows h below ks → AreRows h below js → all ≡ (ks ++ made) ++ js
    → front ≡ flat_map (rows_at (links_at h) below m) ks ++ edge → back ≡ edge' ++ flat_map (rows_at (links_at h) below m) js → HasSeam z 2 edge edge' (flat_map (rows_at (links_at z) below m) made) → HasSeam z 2 front back (rows_under (links_at z) height m all)
beside h z height below m ks made js all front back edge edge' e s left right is before after mid =
    let g : ℕ → List ℕ = rows_at (links_at h) below m in
    let whole = amid h z height below m ks made js all ((edge ++ mid.seam) ++ edge') e s left right is mid.rows in
    record { seam = mid.seam; few = mid.few; rows = around front back (flat_map g ks) (flat_map g js) edge mid.seam edge' (rows_under (links_at z) height m all) before after whole }

-- rows without the last, and without the first, by those at the edge
behind-front : (all xs ys : List ℕ) → all ≡ xs ++ ys → (1 ≤ length all → 1 ≤ length ys) → but_last all ≡ xs ++ but_last ys
behind-front all xs [] e some =
    let none : xs ≡ [] = nil_from_length xs (elim (cases_lt 0 (length xs)) as (λ _. length xs ≡ 0) [
      | inl more ↦ absurd (omega (arith, some (rw (e, append-nil) more)))
      | inr none ↦ omega arith
    ]) in
    rw (e, none) refl
behind-front all xs (y ∷ ys) e some = ap (λ (zs : List ℕ). but_last zs) e ∙ but-last-append xs (y ∷ ys) (omega arith)

before-back : (all xs ys : List ℕ) → all ≡ xs ++ ys → (1 ≤ length all → 1 ≤ length xs) → drop 1 all ≡ drop 1 xs ++ ys
before-back all [] [] e some = rw e refl
before-back all [] (y ∷ ys) e some = absurd (omega (arith, some (rw e (omega arith))))
before-back all (x ∷ xs) ys e some = rw e refl

-- the links over a seam
module _ {T : Type 0} {h w z : Heap T} {height below n l place n' last k r from k' first : ℕ} {made all : List ℕ} (e : height ≡ suc below) (s : Stays (λ x. IsSome (row_at h x)) h z) (sw : Stays (λ x. IsSome (row_at w x)) w z) (ends : EndsIn h below n l place n' last) (begins : BeginsWith h below k r from k' first)
    (rows : AreRows w below made) (gathered : all ≡ (take place (links_at w l) ++ made) ++ drop from (links_at w r)) (left : links_at w l ≡ links_at h l) (right : links_at w r ≡ links_at h r) where
  all-is : all ≡ (take place (links_at h l) ++ made) ++ drop from (links_at h r)
  all-is = rw (left, right) at gathered

  made-kept : (m : ℕ) → flat_map (rows_at (links_at z) below m) made ≡ rows_under (links_at w) (suc below) m made
  made-kept m = all-kept sw below m made (rows-live w below made rows) ∙ sym (below-above (links_at w) below m made)

  pub joins-up : JoinsBelow h w n' last k' first (suc below) made → JoinsBelow h z n l k r height all
  joins-up sub m lower =
      let low : m ≤ below = omega arith in
      let f : ℕ → List ℕ = rows_at (links_at h) below m in
      let has = seam-kept sw (below-named sw (suc below) m made (λ _. rows-live w below made rows)) (sub m (omega arith)) in
      let mid : HasSeam z 2 (but_last (rows_at (links_at h) n' m last)) (drop 1 (rows_at (links_at h) k' m first)) (flat_map (rows_at (links_at z) below m) made) = record { seam = has.seam; few = has.few; rows = made-kept m ∙ has.rows } in
      beside h z height below m (take place (links_at h l)) made (drop from (links_at h r)) all (but_last (rows_at (links_at h) n m l)) (drop 1 (rows_at (links_at h) k m r)) (but_last (rows_at (links_at h) n' m last)) (drop 1 (rows_at (links_at h) k' m first)) e s ends.rows begins.rows all-is
      (behind-front (rows_at (links_at h) n m l) (flat_map f (take place (links_at h l))) (rows_at (links_at h) n' m last) (ends.levels m low) (ends.some m low))
      (before-back (rows_at (links_at h) k m r) (rows_at (links_at h) k' m first) (flat_map f (drop from (links_at h r))) (begins.levels m low) (begins.some m low)) mid

  -- all rows are kept where those at the edges are
  pub keeps-up : KeepsBeneath h w n' last k' first (suc below) made → KeepsBeneath h z n l k r height all
  keeps-up sub m lower stand =
      let low : m ≤ below = omega arith in
      let f : ℕ → List ℕ = rows_at (links_at h) below m in
      let mid = made-kept m ∙ sub m (omega arith) (λ m' few. edges-stand ends begins m' (omega (arith, few)) (stand m' few)) in
      amid h z height below m (take place (links_at h l)) made (drop from (links_at h r)) all (rows_at (links_at h) n' m last ++ rows_at (links_at h) k' m first) e s ends.rows begins.rows all-is mid ∙ rw (ends.levels m low, begins.levels m low) (simp append_assoc)

-- the links over a child into which an element was put
pub puts-up : {T : Type 0} {h y w z : Heap T} {height below l i child : ℕ} {unmade made all : List ℕ} → height ≡ suc below → Stays (λ x. IsSome (row_at h x)) h z → Stays (λ x. IsSome (row_at y x)) y z → Stays (λ x. IsSome (row_at w x)) w z
    → IsOver h below l → i < length (links_at h l) → child ≡ get_or (links_at h l) i 0 → AreLinks y below unmade → AreRows w below made → flat_map (links_at w) made ≡ unmade → AreAtNeed w 2 made
    → PutsBelow h y child below unmade → all ≡ (take i (links_at w l) ++ made) ++ drop (i + 1) (links_at w l) → links_at w l ≡ links_at h l → PutsBelow h z l height all
puts-up {T} {h} {y} {w} {z} {height} {below} {l} {i} {child} {unmade} {made} {all} e s sy sw o lt child-is named rows over-links few sub gathered same m lower =
    let low : m ≤ below = omega arith in
    let is : all ≡ (take i (links_at h l) ++ made) ++ drop (i + 1) (links_at h l) = rw same at gathered in
    let g : ℕ → List ℕ = rows_at (links_at h) below m in
    let own : rows_at (links_at h) height m l ≡ flat_map g (links_at h l) = ap (λ (n : ℕ). rows_at (links_at h) n m l) e ∙ rows-inner (links_at h) below m l low in
    let mid : (j : ℕ) × (j < length (g child)) × HasSeam z 2 (take j (g child)) (drop (j + 1) (g child)) (flat_map (rows_at (links_at z) below m) made) =
    elim (cases_lt m below) as (λ _. (j : ℕ) × (j < length (rows_at (links_at h) below m child)) × HasSeam z 2 (take j (rows_at (links_at h) below m child)) (drop (j + 1) (rows_at (links_at h) below m child)) (flat_map (rows_at (links_at z) below m) made)) [
      | inl inner ↦ let has = sub m inner in (has.0, has.1, amid-lower sy sw named rows over-links m _ _ inner has.2)
      | inr high ↦
          let top : m ≡ below = omega arith in
          let alone : rows_at (links_at h) below m child ≡ child ∷ [] = rw top (rows-own (links_at h) below child) in
          (0, rw alone (omega arith), amid-own sy sw named rows over-links few m _ _ top refl (rw alone refl))
    ] in
    let inside : mid.0 < length (g (get_or (links_at h l) i 0)) = rw (← child-is) mid.1 in
    let count : ℕ = length (flat_map g (take i (links_at h l))) + mid.0 in
    let front : take count (rows_at (links_at h) height m l) ≡ flat_map g (take i (links_at h l)) ++ take mid.0 (g child) = rw (own, child-is) (items-front g (links_at h l) i mid.0 count lt refl (omega (arith, inside))) in
    let back : drop (count + 1) (rows_at (links_at h) height m l) ≡ drop (mid.0 + 1) (g child) ++ flat_map g (drop (i + 1) (links_at h l)) = rw (own, child-is) (items-drop g (links_at h l) i (mid.0 + 1) (count + 1) lt (omega arith) (omega (arith, inside))) in
    let cut = ap length (items-cut g (links_at h l) i lt) in
    let long : count < length (rows_at (links_at h) height m l) =
    rw own (omega (arith, cut, inside, length-append (flat_map g (take i (links_at h l))) (g (get_or (links_at h l) i 0) ++ flat_map g (drop (i + 1) (links_at h l))), length-append (g (get_or (links_at h l) i 0)) (flat_map g (drop (i + 1) (links_at h l))))) in (
      count,
      long,
      beside h z height below m (take i (links_at h l)) made (drop (i + 1) (links_at h l)) all (take count (rows_at (links_at h) height m l)) (drop (count + 1) (rows_at (links_at h) height m l)) (take mid.0 (g child)) (drop (mid.0 + 1) (g child)) e s
          (rows-take h below i (links_at h l) o.rows (omega arith)) (rows-drop h below (i + 1) (links_at h l) o.rows) is front back mid.2,
    )

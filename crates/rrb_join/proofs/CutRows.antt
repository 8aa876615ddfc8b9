-- The rows of each height of a part of a vector, and of a vector without one.
use Rattle.std.proofs.Common.{◌≡◌, ℕ, suc, zero, ◌-◌, ◌+◌, ◌<◌, ◌≤◌, List, [], ◌∷◌, ◌++◌, length, take, drop, get_or, refl, ap, ◌∙◌, arith, inl, inr, length-append, length-drop, append-nil, append_assoc, IsSome}
use Rattle.std.specs.Prelude.{◌==◌}
use Rattle.std.specs.List.{All, flat_map}
use Rattle.std.proofs.lemmas.Bool.{cases_lt}
use Rattle.std.proofs.lemmas.List.{length-take, take-take, take_all, take_at, drop_at, drop_all, drop-drop, get_or_append_left, get_or-append_right, get_or-drop}
use Rattle.std.proofs.lemmas.List.Elements.{All-nil, All-append, All-take, All-drop}
use Rattle.node_heap.specs.Links.{here}
use Rattle.node_heap.specs.Heap.{Heap, row_at, form_at, links_at, holds_at}
use Rattle.node_heap.specs.Calls.{KeepsHeld}
use Rattle.rrb_core.specs.Seq.{IsThick, IsWell}
use Rattle.rrb_core.specs.Vector.{height_at, IsGoodVector}
use Rattle.rrb_core.specs.Levels.{rows_at, rows_of, HasFront, TakesFirstRows}
use Rattle.rrb_core.proofs.ClosedRows.{Stays}
use Rattle.rrb_core.proofs.Lists.{items-cut}
use Rattle.rrb_core.proofs.Stays.{links-form, below-stays}
use Rattle.rrb_core.proofs.LevelLemmas.{rows-inner, front-of-height}
use Rattle.rrb_core.proofs.RowSizes.{each-named}
use Rattle.rrb_join.specs.Seam.{but_last, AreAtNeed, HasSeam, JoinsRows, SlicesRows, ErasesRows}
use Rattle.rrb_join.specs.Rest.{AreHalves, HasRest, LeavesRows}
use Rattle.rrb_join.proofs.RowsOfHeights.{one-or, rows-some, none-before, but-last-append, rows-named, seam-kept, halves-at-need}
use Rattle.rrb_join.proofs.JoinLemmas.{rows-of-kept}
use Rattle.rrb_join.proofs.RestRows.{rest-kept}

-- no row is never too many
no-rows-at-need : {T : Type 0} (h : Heap T) (n : ℕ) → AreAtNeed h n []
no-rows-at-need h n = record { most = omega arith; need = λ i more. absurd (omega (arith, more)) }

-- two lists without the first i elements
drop-both : (i : ℕ) (xs ys : List ℕ) → drop i (xs ++ ys) ≡ drop i xs ++ drop (i - length xs) ys
drop-both zero xs ys = let e : 0 - length xs ≡ 0 = omega arith in rw e refl
drop-both (suc i) [] ys = let e : suc i - 0 ≡ suc i = omega arith in rw e refl
drop-both (suc i) (x ∷ xs) ys = let e : suc i - length (x ∷ xs) ≡ i - length xs = omega arith in rw e (drop-both i xs ys)

-- a front without its last is a shorter front
front-but-last : (rows : List ℕ) (place : ℕ) (cut : List ℕ) → length cut ≤ 1 → (i : ℕ) × (but_last (take place rows ++ cut) ≡ take i rows)
front-but-last rows place [] one = (length (take place rows) - 1, rw append-nil (take-take (length (take place rows) - 1) place rows (omega (arith, length-take place rows))))
front-but-last rows place (x ∷ []) one = (place, but-last-append (take place rows) (x ∷ []) (omega arith) ∙ append-nil (take place rows))
front-but-last rows place (x ∷ y ∷ cut) one = absurd (omega (arith, one))

-- what is behind the first of the made rows, or of the rows behind them
rest-but-first : (rows made : List ℕ) (j : ℕ) → (q : ℕ) × (drop 1 (made ++ drop j rows) ≡ drop 1 made ++ drop q rows)
rest-but-first rows [] j = (j + 1, drop-drop 1 j rows)
rest-but-first rows (x ∷ made) j = (j, refl)

-- a row with at least half the links that one can hold
abbrev IsWide : {T : Type 0} → Heap T → ℕ → Type 0
IsWide h l = 16 ≤ length (links_at h l)

-- all rows below a thick one are wide
thick-wide : {T : Type 0} (h : Heap T) (n m l : ℕ) → IsThick (form_at h) n l → All (IsWide h) (rows_at (links_at h) n m l)
unfolding rows_at IsThick
thick-wide h zero m l t = one-or (IsWide h) (m == zero) l [] (rw (← links-form h l) t) (All-nil (IsWide h))
thick-wide h (suc n) m l t =
    one-or (IsWide h) (m == suc n) l (flat_map (rows_at (links_at h) n m) (links_at h l)) (rw (← links-form h l) t.0)
    (each-named (IsWide h) (rows_at (links_at h) n m) (links_at h l) (rw (← links-form h l) (λ k d b. thick-wide h n m _ (t.1 k d b))))

-- all rows of a height but the last are wide, below a row that keeps the fill rule
well-wide : {T : Type 0} (h : Heap T) (n m l : ℕ) → IsWell (form_at h) n l → All (IsWide h) (but_last (rows_at (links_at h) n m l))
unfolding IsWell
well-wide h zero m l w = rw (none-before (links_at h) 0 m l (omega arith)) (All-nil (IsWide h))
well-wide h (suc n) m l w = elim (cases_lt n m) as (λ _. All (IsWide h) (but_last (rows_at (links_at h) (suc n) m l))) [
  | inl past ↦ rw (none-before (links_at h) (suc n) m l (omega arith)) (All-nil (IsWide h))
  | inr inner ↦
      let f : ℕ → List ℕ = rows_at (links_at h) n m in
      let place : ℕ = length (links_at h l) - 1 in
      let last : ℕ = get_or (links_at h l) place 0 in
      let some : 1 ≤ length (links_at h l) = rw (← links-form h l) w.some in
      let children : All (IsWell (form_at h) n) (links_at h l) = rw (← links-form h l) w.children in
      let well : IsWell (form_at h) n last = children place 0 (omega (arith, some)) in
      let none : drop (place + 1) (links_at h l) ≡ [] = drop_all (place + 1) (links_at h l) (omega arith) in
      let cut : rows_at (links_at h) (suc n) m l ≡ flat_map f (take place (links_at h l)) ++ f last = rows-inner (links_at h) n m l inner ∙ rw (none, append-nil) at (items-cut f (links_at h l) place (omega (arith, some))) in
      let thick : All (IsThick (form_at h) n) (take place (links_at h l)) = rw (← links-form h l) w.thick in
      rw (cut, but-last-append (flat_map f (take place (links_at h l))) (f last) (rows-some h n m last well inner))
      (All-append (IsWide h) (flat_map f (take place (links_at h l))) (but_last (f last)) (each-named (IsWide h) f (take place (links_at h l)) (λ k d b. thick-wide h n m _ (thick k d b))) (well-wide h n m last well))
]

-- what holds of all but the last holds of a front
front-all : (P : ℕ → Type 0) (xs ys : List ℕ) → 1 ≤ length ys → All P (but_last (xs ++ ys)) → All P xs
front-all P xs ys some all = rw (take_at xs (but_last ys) (length xs) refl) at (All-take P (length xs) (xs ++ but_last ys) (rw (but-last-append xs ys some) at all))

-- two rows at need, of which all are wide, and behind them the second of two halves
three-at-need : {T : Type 0} (z : Heap T) (seam made : List ℕ) → AreAtNeed z 2 seam → AreHalves z made → (1 ≤ length (drop 1 made) → All (IsWide z) seam) → AreAtNeed z 3 (seam ++ drop 1 made)
three-at-need z seam made few halves wide =
    let size = length-append seam (drop 1 made) in
    let late = length-drop 1 made in
    record {
      most = omega (arith, size, late, few.most, halves.most);
      need = λ i more. elim (cases_lt (i + 1) (length seam)) as (λ _. 32 < length (links_at z (get_or (seam ++ drop 1 made) i 0)) + length (links_at z (get_or (seam ++ drop 1 made) (i + 1) 0))) [
        | inl inner ↦ rw (get_or_append_left seam (drop 1 made) 0 i (omega (arith, inner)), get_or_append_left seam (drop 1 made) 0 (i + 1) inner) (few.need i inner)
        | inr end ↦
            let at : length seam ≡ i + 1 = omega (arith, more, size, late, halves.most) in
            let two : 2 ≤ length made = omega (arith, more, size, late, at) in
            let first : get_or (seam ++ drop 1 made) i 0 ≡ get_or seam i 0 = get_or_append_left seam (drop 1 made) 0 i (omega (arith, at)) in
            let behind : i + 1 - length seam ≡ 0 = omega (arith, at) in
            let second : get_or (seam ++ drop 1 made) (i + 1) 0 ≡ get_or made 1 0 = rw behind at (get_or-append_right seam (drop 1 made) (length seam) (i + 1) 0 refl (omega (arith, at))) ∙ get_or-drop 1 made 0 0 in
            let enough : 16 ≤ length (links_at z (get_or seam i 0)) = wide (omega (arith, late, two)) i 0 (omega (arith, at)) in
            rw (first, second) (omega (arith, enough, halves.second two))
      ];
    }

outer : (front back a b c s all : List ℕ) → front ≡ a → back ≡ b ++ c → all ≡ (front ++ s) ++ back → all ≡ (a ++ s) ++ (b ++ c)
outer front back a b c s all e f g = g ∙ rw (e, f) refl

-- a front and what is left, joined
erased : {T : Type 0} (z : Heap T) (rows front back all : List ℕ) (j : ℕ) → HasFront rows front → HasRest z (drop j rows) back → HasSeam z 2 (but_last front) (drop 1 back) all → All (IsWide z) (but_last all)
    → (i : ℕ) × (q : ℕ) × HasSeam z 3 (take i rows) (drop q rows) all
erased z rows front back all j has left joined wide =
    let before = front-but-last rows has.place has.last has.one in
    let after = rest-but-first rows left.made j in
    let late : List ℕ = drop 1 left.made in
    let front-is : but_last front ≡ take before.0 rows = ap (λ (xs : List ℕ). but_last xs) has.is ∙ before.1 in
    let back-is : drop 1 back ≡ late ++ drop after.0 rows = ap (λ (xs : List ℕ). drop 1 xs) left.rows ∙ after.1 in
    let whole : all ≡ (take before.0 rows ++ joined.seam) ++ (late ++ drop after.0 rows) = outer (but_last front) (drop 1 back) (take before.0 rows) late (drop after.0 rows) joined.seam all front-is back-is joined.rows in (
      before.0,
      after.0,
      record {
        seam = joined.seam ++ late;
        few = three-at-need z joined.seam left.made joined.few left.halves (λ some.
            let both : All (IsWide z) (take before.0 rows ++ joined.seam) = front-all (IsWide z) (take before.0 rows ++ joined.seam) (late ++ drop after.0 rows) (omega (arith, some, length-append late (drop after.0 rows))) (rw whole at wide) in
            rw (drop_at (take before.0 rows) joined.seam (length (take before.0 rows)) refl) at (All-drop (IsWide z) (length (take before.0 rows)) (take before.0 rows ++ joined.seam) both));
        rows = whole ∙ simp append_assoc;
      },
    )

module _ {T : Type 0} where
  -- a part is a front without its first elements
  pub slices : (old mid new : Heap T) (vector count front v : ℕ) → TakesFirstRows old mid vector count front → LeavesRows mid new front v → SlicesRows old new vector v
  slices old mid new vector count front v takes leaves m =
      let has = front-of-height old mid vector count front takes m in
      let left = leaves m in
      let rows : List ℕ = take has.place (rows_of old m vector) in (
        left.0,
        has.place,
        drop (left.0 - length rows) has.last,
        omega (arith, length-drop (left.0 - length rows) has.last, has.one),
        record {
          seam = left.1.made;
          few = halves-at-need new left.1.made left.1.halves;
          rows = left.1.rows ∙ ap (λ (xs : List ℕ). left.1.made ++ xs) (ap (λ (xs : List ℕ). drop left.0 xs) has.is ∙ drop-both left.0 rows has.last);
        },
      )

  -- a vector without a part is its front and what is left of it, joined
  pub erases : (old mid left new : Heap T) (vector count front back v : ℕ) → Stays (λ x. IsSome (row_at mid x)) mid left → Stays (λ x. IsSome (row_at left x)) left new → IsSome (row_at mid front) → IsSome (row_at left back) → IsGoodVector new v
      → ((m : ℕ) → rows_of mid m vector ≡ rows_of old m vector) → TakesFirstRows old mid vector count front → LeavesRows mid left vector back → JoinsRows left new front back v → ErasesRows old new vector v
  erases old mid left new vector count front back v s s' live live' good same takes leaves joins m =
      let rest = leaves m in
      let rest' : HasRest new (drop rest.0 (rows_of old m vector)) (rows_of left m back) = rw (same m) at (rest-kept s' (drop rest.0 (rows_of mid m vector)) (rows_of left m back) (rows_of left m back) (rows-named s' (height_at left back) m back live') rest.1 refl) in
      erased new (rows_of old m vector) (rows_of left m front) (rows_of left m back) (rows_of new m v) rest.0 (rw (rows-of-kept s m front live) (front-of-height old mid vector count front takes m)) rest' (joins m) (well-wide new (height_at new v) m v good.shape.well)

-- a vector that is still held keeps its rows of each height
module _ {T : Type 0} {old new : Heap T} {spent : ℕ → ℕ} (keeps : KeepsHeld spent old new) (l : ℕ) (held : spent l < holds_at old l) where
  seam-held : {n : ℕ} {front back : List ℕ} (m : ℕ) → HasSeam old n front back (rows_of old m l) → HasSeam new n front back (rows_of new m l)
  seam-held m has =
      let s = below-stays {old = old} {new = new} l (keeps.kept l held) in
      let kept = seam-kept s (rows-named s (height_at old l) m l (here l)) has in
      record { seam = kept.seam; few = kept.few; rows = rows-of-kept s m l (here l) ∙ kept.rows }

  pub slices-held : (first : Heap T) (vector : ℕ) → SlicesRows first old vector l → SlicesRows first new vector l
  slices-held first vector slices m = let has = slices m in (has.0, has.1, has.2, has.3, seam-held m has.4)

  pub erases-held : (first : Heap T) (vector : ℕ) → ErasesRows first old vector l → ErasesRows first new vector l
  erases-held first vector erases m = let has = erases m in (has.0, has.1, seam-held m has.2)

module _ {T : Type 0} (old new : Heap T) (l : ℕ) (same : (m : ℕ) → rows_of new m l ≡ rows_of old m l) where
  -- the vector itself is a part of it, and is what is left without none
  pub slices-itself : SlicesRows old new l l
  slices-itself m =
      let rows : List ℕ = rows_of old m l in
      (0, length rows, [], omega arith, record { seam = []; few = no-rows-at-need new 2; rows = same m ∙ rw (append-nil, take_all (length rows) rows (omega arith)) refl })

  pub erases-itself : ErasesRows old new l l
  erases-itself m = (0, 0, record { seam = []; few = no-rows-at-need new 3; rows = same m })

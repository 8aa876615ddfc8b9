-- The rows of each height in the whole of two vectors that were joined, and of one into which an element was put.
use Rattle.std.proofs.Common.{◌≡◌, ℕ, suc, ◌-◌, ◌+◌, ◌<◌, ◌≤◌, List, [], ◌∷◌, length, take, drop, get_or, refl, ap, sym, ◌∙◌, arith, inl, inr, length-drop, append-nil, take-append-drop, IsSome}
use Rattle.std.proofs.lemmas.List.{length-take}
use Rattle.std.proofs.lemmas.Bool.{cases_lt}
use Rattle.node_heap.specs.Heap.{Heap, row_at, form_at, links_at}
use Rattle.node_heap.specs.Calls.{Unchanged}
use Rattle.rrb_core.specs.Vector.{height_at, elements, IsGoodVector}
use Rattle.rrb_core.proofs.ClosedRows.{Stays}
use Rattle.rrb_core.proofs.FillRule.{well-pos}
use Rattle.rrb_core.proofs.Stays.{links-form}
use Rattle.rrb_core.specs.Levels.{rows_at, rows_of}
use Rattle.rrb_join.specs.Seam.{rows_under, but_last, AllStandBeside, AreAtNeed, HasSeam, JoinsRows, JoinsBelow, KeepsRows, KeepsBeneath, PutsInRow, PutsBelow}
use Rattle.rrb_join.specs.Unmade.{AreLinks}
use Rattle.rrb_join.proofs.AnswerLemmas.{height-stays, unchanged-links}
use Rattle.rrb_join.proofs.UnmadeLemmas.{links-live}
use Rattle.rrb_core.proofs.LevelLemmas.{rows-own, rows-kept, rows-of-same}
use Rattle.rrb_join.proofs.RowsOfHeights.{none-before, none-after, below-named, seam-kept, one-at-need, links-few}
use Rattle.rrb_join.proofs.BesideLemmas.{stand-low}

module _ {T : Type 0} where
  -- a root with fewer than two links is a leaf
  pub few-links : (h : Heap T) (l : ℕ) → IsGoodVector h l → length (links_at h l) < 2 → height_at h l ≡ 0
  few-links h l good few = elim (cases_lt 0 (height_at h l)) as (λ _. height_at h l ≡ 0) [
    | inl high ↦ absurd (omega (arith, few, ap length (links-form h l), good.shape.two high))
    | inr low ↦ omega arith
  ]

  -- so is one without elements
  pub no-items : (h : Heap T) (l : ℕ) → IsGoodVector h l → length (elements h l) ≡ 0 → height_at h l ≡ 0
  no-items h l good none = elim (cases_lt 0 (height_at h l)) as (λ _. height_at h l ≡ 0) [
    | inl high ↦ absurd (omega (arith, none, well-pos (form_at h) (height_at h l) l good.shape.well (omega (arith, good.shape.two high))))
    | inr low ↦ omega arith
  ]

  pub rows-of-kept : {P : ℕ → Type 0} {old new : Heap T} → Stays P old new → (m l : ℕ) → P l → rows_of new m l ≡ rows_of old m l
  rows-of-kept {P} {old} {new} s m l p = rw (height-stays s l p) (rows-kept s (height_at old l) m l p)

  -- a join with an empty side is the other side
  pub joins-left-none : (old new : Heap T) (left right : ℕ) → height_at old left ≡ 0 → ((m : ℕ) → rows_of new m right ≡ rows_of old m right) → JoinsRows old new left right right
  joins-left-none old new left right low same m =
      let none : but_last (rows_of old m left) ≡ [] = rw low (none-before (links_at old) 0 m left (omega arith)) in
      record {
        seam = take 1 (rows_of old m right);
        few = one-at-need new (take 1 (rows_of old m right)) (omega (arith, length-take 1 (rows_of old m right)));
        rows = same m ∙ rw none (sym (take-append-drop 1 (rows_of old m right)));
      }

  pub joins-right-none : (old new : Heap T) (left right : ℕ) → height_at old right ≡ 0 → ((m : ℕ) → rows_of new m left ≡ rows_of old m left) → JoinsRows old new left right left
  joins-right-none old new left right low same m =
      let none : drop 1 (rows_of old m right) ≡ [] = rw low (none-after (links_at old) 0 m right (omega arith)) in
      record {
        seam = drop (length (rows_of old m left) - 1) (rows_of old m left);
        few = one-at-need new (drop (length (rows_of old m left) - 1) (rows_of old m left)) (omega (arith, length-drop (length (rows_of old m left) - 1) (rows_of old m left)));
        rows = same m ∙ rw (none, append-nil) (sym (take-append-drop (length (rows_of old m left) - 1) (rows_of old m left)));
      }

  -- room was made first
  pub joins-after : (old mid new : Heap T) (left right v : ℕ) → Unchanged old mid → JoinsRows mid new left right v → JoinsRows old new left right v
  joins-after old mid new left right v same joins m =
      let has = joins m in
      record { seam = has.seam; few = has.few; rows = rw (rows-of-same old mid same.rows m left, rows-of-same old mid same.rows m right) at has.rows }

  -- a root over the links that were joined
  pub joins-root : (old mid new : Heap T) (left right n k height v : ℕ) (ls : List ℕ) → n ≡ height_at old left → k ≡ height_at old right → n ≤ height → k ≤ height → Stays (λ x. IsSome (row_at mid x)) mid new → AreLinks mid height ls
      → JoinsBelow old mid n left k right height ls → ((m : ℕ) → m < height → rows_of new m v ≡ rows_under (links_at mid) height m ls) → ((m : ℕ) → height ≤ m → AreAtNeed new 2 (rows_of new m v)) → JoinsRows old new left right v
  joins-root old mid new left right n k height v ls e e' low low' s links joins below top m = rw (← e, ← e') (elim (cases_lt m height) as (λ _. HasSeam new 2 (but_last (rows_at (links_at old) n m left)) (drop 1 (rows_at (links_at old) k m right)) (rows_of new m v)) [
    | inl lower ↦
        let has = seam-kept s (below-named s height m ls (links-live mid height ls links)) (joins m lower) in
        record { seam = has.seam; few = has.few; rows = below m lower ∙ has.rows }
    | inr high ↦
        let none : but_last (rows_at (links_at old) n m left) ≡ [] = none-before (links_at old) n m left (omega arith) in
        let none' : drop 1 (rows_at (links_at old) k m right) ≡ [] = none-after (links_at old) k m right (omega arith) in
        record { seam = rows_of new m v; few = top m high; rows = rw (none, none', append-nil) refl }
  ])

  -- so are all rows kept
  pub keeps-root : (old mid new : Heap T) (left right n k height v : ℕ) (ls : List ℕ) → n ≡ height_at old left → k ≡ height_at old right → n ≤ height → KeepsBeneath old mid n left k right (suc height) ls → ((m : ℕ) → m ≤ height → rows_of new m v ≡ rows_under (links_at mid) (suc height) m ls) → KeepsRows old new left right v
  keeps-root old mid new left right n k height v ls e e' low keeps below m stand =
      let stand' : AllStandBeside old n left k right m = rw (e, e') stand in
      let inside = (stand-low n left k right m stand').0 in
      let kept = keeps m (omega (arith, inside)) stand' in
      below m (omega (arith, inside)) ∙ rw (e, e') at kept

  pub keeps-after : (old mid new : Heap T) (left right v : ℕ) → Unchanged old mid → KeepsRows mid new left right v → KeepsRows old new left right v
  keeps-after old mid new left right v same keeps m stand =
      let stand' : AllStandBeside mid (height_at mid left) left (height_at mid right) right m = λ q low.
      let there = stand q low in
      rw (rows-of-same old mid same.rows q left, rows-of-same old mid same.rows q right) (record { some = there.some; others = there.others; half = rw (unchanged-links same (get_or (rows_of old q left) (length (rows_of old q left) - 1) 0)) there.half; past = rw (unchanged-links same (get_or (rows_of old q left) (length (rows_of old q left) - 1) 0), unchanged-links same (get_or (rows_of old q right) 0 0)) there.past }) in
      rw (rows-of-same old mid same.rows m left, rows-of-same old mid same.rows m right) at (keeps m stand')

  -- no rows can stand side by side where a side is empty
  pub keeps-left-none : (old new : Heap T) (left right v : ℕ) → height_at old left ≡ 0 → length (links_at old left) ≡ 0 → KeepsRows old new left right v
  keeps-left-none old new left right v low none m stand =
      let alone : rows_of old 0 left ≡ left ∷ [] = rw low (rows-own (links_at old) 0 left) in
      let half : 16 ≤ length (links_at old left) = rw alone at (stand 0 (omega arith)).half in
      absurd (omega (arith, half, none))

  pub keeps-right-none : (old new : Heap T) (left right v : ℕ) → IsGoodVector old left → height_at old right ≡ 0 → length (links_at old right) ≡ 0 → KeepsRows old new left right v
  keeps-right-none old new left right v good low none m stand =
      let alone : rows_of old 0 right ≡ right ∷ [] = rw low (rows-own (links_at old) 0 right) in
      let there = stand 0 (omega arith) in
      let few : length (links_at old (get_or (rows_of old 0 left) (length (rows_of old 0 left) - 1) 0)) ≤ 32 = links-few old (height_at old left) 0 left good.shape.well (length (rows_of old 0 left) - 1) 0 (omega (arith, there.some)) in
      let past = rw alone at there.past in
      absurd (omega (arith, past, few, none))

  -- the same for an element that was put into a vector
  pub puts-after : (old mid new : Heap T) (l v : ℕ) → Unchanged old mid → PutsInRow mid new l v → PutsInRow old new l v
  puts-after old mid new l v same puts m = let has = puts m in rw (rows-of-same old mid same.rows m l) at has

  pub puts-root : (old mid new : Heap T) (l height v : ℕ) (ls : List ℕ) → height ≡ height_at old l → Stays (λ x. IsSome (row_at mid x)) mid new → AreLinks mid height ls → PutsBelow old mid l height ls
      → ((m : ℕ) → m < height → rows_of new m v ≡ rows_under (links_at mid) height m ls) → ((m : ℕ) → height ≤ m → AreAtNeed new 2 (rows_of new m v)) → PutsInRow old new l v
  puts-root old mid new l height v ls e s links puts below top m = rw (← e) (elim (cases_lt m height) as (λ _. (i : ℕ) × (i ≤ length (rows_at (links_at old) height m l) - 1) × HasSeam new 2 (take i (rows_at (links_at old) height m l)) (drop (i + 1) (rows_at (links_at old) height m l)) (rows_of new m v)) [
    | inl lower ↦
        let sub = puts m lower in
        let has = seam-kept s (below-named s height m ls (links-live mid height ls links)) sub.2 in
        let inside : sub.0 < length (rows_at (links_at old) height m l) = sub.1 in
        (sub.0, omega arith, record { seam = has.seam; few = has.few; rows = below m lower ∙ has.rows })
    | inr high ↦
        let none : drop (0 + 1) (rows_at (links_at old) height m l) ≡ [] = none-after (links_at old) height m l (omega arith) in
        (0, omega arith, record { seam = rows_of new m v; few = top m high; rows = rw (none, append-nil) refl })
  ])

-- What is left of a row, and a part of a vector, has no more rows of a height than those in which it lies.
use Rattle.std.proofs.Common.{◌≡◌, ◌⊎◌, ℕ, suc, ◌+◌, ◌-◌, ◌<◌, ◌≤◌, min, List, ◌++◌, length, take, drop, get_or, refl, ap, sym, ◌∙◌, arith, inl, inr, length-append, IsSome}
use Rattle.std.specs.List.{All, flat_map}
use Rattle.std.proofs.lemmas.Bool.{cases_lt}
use Rattle.std.proofs.lemmas.List.{length-take, length-take-le, length-drop, take-append-le, take-take, take_all, drop_more}
use Rattle.std.proofs.lemmas.List.Concat.{flat_map-append}
use Rattle.std.proofs.lemmas.List.Elements.{All-take}
use Rattle.node_heap.specs.Links.{here}
use Rattle.node_heap.specs.Heap.{Heap, row_at, form_at, links_at, holds_at, IsGraph}
use Rattle.node_heap.specs.Calls.{Extends, SameRows, KeepsHeld}
use Rattle.rrb_core.specs.Seq.{seq_at, IsWell}
use Rattle.rrb_core.specs.Vector.{elements, height_at, IsGoodVector}
use Rattle.rrb_core.specs.Levels.{rows_at, rows_of, TakesFirstRows}
use Rattle.rrb_core.proofs.ClosedRows.{Stays}
use Rattle.rrb_core.proofs.FillRule.{height-is}
use Rattle.rrb_core.proofs.Lists.{take-past}
use Rattle.rrb_core.proofs.LevelLemmas.{rows-past, rows-few, front-of-height, takes-whole, takes-after}
use Rattle.rrb_core.proofs.RowSizes.{first-fewer, not-empty-count, not-empty-before, items-of-rows, items-before, rows-not-empty}
use Rattle.rrb_core.proofs.Stays.{links-form, well-live, items-stay, good-stays, live-stays, live-stays-by, below-stays}
use Rattle.rrb_join.specs.Seam.{rows_under, elements_before, HasNoMoreRows}
use Rattle.rrb_join.specs.Rest.{LeavesNoMore, LeavesNoMoreBelow, PutsBefore, PutsBeside}
use Rattle.rrb_join.specs.Unmade.{AreLinks}
use Rattle.rrb_join.proofs.UnmadeLemmas.{links-live}
use Rattle.rrb_join.proofs.RowsOfHeights.{rows-own-all, rows-some, rows-cut, below-row, below-past, below-kept, rows-named}
use Rattle.rrb_join.proofs.JoinLemmas.{rows-of-kept}

-- lists of elements below rows
module _ (f : ℕ → List ℕ) where
  -- a place before which no more than `count` elements stand is no further than one among the middle rows before which no more
  -- than `within` stand, where the element at the index `count` is below these
  place-within : (before middle behind : List ℕ) (i count within : ℕ) → length (flat_map f before) + within ≡ count → within < length (flat_map f middle) → length (flat_map f (take i (before ++ (middle ++ behind)))) ≤ count
      → (q : ℕ) × (q < length middle) × (length (flat_map f (take q middle)) ≤ within) × (i ≤ length before + q)
  place-within before middle behind i count within at inside few =
      let some : 0 < length middle = elim (cases_lt 0 (length middle)) as (λ _. 0 < length middle) [
        | inl lt ↦ lt
        | inr none ↦ let all : length (flat_map f (take 0 middle)) ≡ length (flat_map f middle) = ap (λ (xs : List ℕ). length (flat_map f xs)) (take_all 0 middle none) in absurd (omega (arith, inside, all))
      ] in
      elim (cases_lt (length before) i) as (λ _. (q : ℕ) × (q < length middle) × (length (flat_map f (take q middle)) ≤ within) × (i ≤ length before + q)) [
        | inl past ↦
            let q : ℕ = i - length before in
            let place : i ≡ length before + q = omega (arith, past) in
            let first : take i (before ++ (middle ++ behind)) ≡ before ++ take q (middle ++ behind) = ap (λ (j : ℕ). take j (before ++ (middle ++ behind))) place ∙ take-past before (middle ++ behind) q in
            let size : length (flat_map f (take i (before ++ (middle ++ behind)))) ≡ length (flat_map f before) + length (flat_map f (take q (middle ++ behind))) = ap (λ (xs : List ℕ). length (flat_map f xs)) first ∙ ap length (flat_map-append f before (take q (middle ++ behind))) ∙ length-append (flat_map f before) (flat_map f (take q (middle ++ behind))) in
            let own : (j : ℕ) → j ≤ length middle → length (flat_map f (take j (middle ++ behind))) ≡ length (flat_map f (take j middle)) = λ j le. ap (λ (xs : List ℕ). length (flat_map f xs)) (take-append-le j middle behind le) in
            elim (cases_lt q (length middle)) as (λ _. (q : ℕ) × (q < length middle) × (length (flat_map f (take q middle)) ≤ within) × (i ≤ length before + q)) [
              | inl lt ↦ (q, lt, omega (arith, few, size, at, own q (omega (arith, lt))), omega (arith, place))
              | inr far ↦
                  let all : length (flat_map f (take (length middle) middle)) ≡ length (flat_map f middle) = ap (λ (xs : List ℕ). length (flat_map f xs)) (take_all (length middle) middle (omega arith)) in
                  absurd (omega (arith, few, size, at, inside, all, own (length middle) (omega arith), first-fewer f (middle ++ behind) (length middle) q far))
            ]
        | inr le ↦ (0, some, omega arith, omega (arith, le))
      ]

module _ {T : Type 0} (h : Heap T) (n below l place child count within : ℕ) (e : n ≡ suc below) (lt : place < length (links_at h l)) (child-is : child ≡ get_or (links_at h l) place 0)
    (at : length (flat_map (seq_at (form_at h) below) (take place (links_at h l))) + within ≡ count) (inside : within < length (seq_at (form_at h) below child)) where
  -- a place among the rows of a height below the row, by its place among those below the child where the rest begins
  place-below : (m i : ℕ) → m ≤ below → length (flat_map (seq_at (form_at h) m) (take i (rows_at (links_at h) n m l))) ≤ count
      → (q : ℕ) × (q < length (rows_at (links_at h) below m child)) × (length (flat_map (seq_at (form_at h) m) (take q (rows_at (links_at h) below m child))) ≤ within) × (i ≤ length (flat_map (rows_at (links_at h) below m) (take place (links_at h l))) + q)
  place-below m i low few =
      let f : ℕ → List ℕ = rows_at (links_at h) below m in
      let cut : rows_at (links_at h) n m l ≡ flat_map f (take place (links_at h l)) ++ (f child ++ flat_map f (drop (place + 1) (links_at h l))) = rw child-is (rows-cut (links_at h) n below m l place e low lt) in
      let front : length (flat_map (seq_at (form_at h) m) (flat_map f (take place (links_at h l)))) + within ≡ count = ap (λ (xs : List ℕ). length xs + within) (items-before h below m (take place (links_at h l)) low) ∙ at in
      let own : within < length (flat_map (seq_at (form_at h) m) (f child)) = rw (items-of-rows h below m child low) inside in
      place-within (seq_at (form_at h) m) (flat_map f (take place (links_at h l))) (f child) (flat_map f (drop (place + 1) (links_at h l))) i count within front own (rw cut at few)

  -- how many rows of a height there are below the row
  rows-below : (m : ℕ) → m ≤ below → length (rows_at (links_at h) n m l) ≡ length (flat_map (rows_at (links_at h) below m) (take place (links_at h l))) + (length (rows_at (links_at h) below m child) + length (flat_map (rows_at (links_at h) below m) (drop (place + 1) (links_at h l))))
  rows-below m low =
      let f : ℕ → List ℕ = rows_at (links_at h) below m in
      let cut : rows_at (links_at h) n m l ≡ flat_map f (take place (links_at h l)) ++ (f child ++ flat_map f (drop (place + 1) (links_at h l))) = rw child-is (rows-cut (links_at h) n below m l place e low lt) in
      ap length cut ∙ length-append (flat_map f (take place (links_at h l))) (f child ++ flat_map f (drop (place + 1) (links_at h l))) ∙ ap (λ (x : ℕ). length (flat_map f (take place (links_at h l))) + x) (length-append (f child) (flat_map f (drop (place + 1) (links_at h l))))

  -- what is left of the last child
  pub fewer-last : (y : Heap T) (height : ℕ) (ls : List ℕ) → height ≤ below → LeavesNoMoreBelow h y below child within height ls → LeavesNoMoreBelow h y n l count height ls
  fewer-last y height ls low sub m i less few = elim (cases_lt below m) as (λ _. length (rows_under (links_at y) height m ls) + i ≤ length (rows_at (links_at h) n m l)) [
    | inl past ↦ rw (below-past (links_at y) height m ls (omega (arith, low, past))) (omega (arith, less))
    | inr inner ↦
        let spot = place-below m i inner few in
        omega (arith, rows-below m inner, spot.3, sub m spot.0 spot.1 spot.2)
  ]

  -- what is left of another child, put before the next one, and the children after that
  pub fewer-next : {w y z : Heap T} {next k k' height : ℕ} {rest mids all : List ℕ} → place + 1 < length (links_at h l) → next ≡ get_or (links_at h l) (place + 1) 0 → IsWell (form_at h) below next → k' ≤ below → height ≤ k' + 1
      → ((m : ℕ) → rows_at (links_at w) below m next ≡ rows_at (links_at h) below m next)
      → ((m : ℕ) → flat_map (rows_at (links_at y) k' m) (drop (place + 1 + 1) (links_at y l)) ≡ flat_map (rows_at (links_at h) below m) (drop (place + 1 + 1) (links_at h l)))
      → LeavesNoMoreBelow h w below child within k rest → PutsBefore w y k rest below next k' mids → PutsBeside y z k' mids (drop (place + 1 + 1) (links_at y l)) height all → LeavesNoMoreBelow h z n l count height all
  fewer-next {w} {y} {z} {next} {k} {k'} {height} {rest} {mids} {all} more next-is well low up kept same sub before put m i less few = elim (cases_lt m height) as (λ _. length (rows_under (links_at z) height m all) + i ≤ length (rows_at (links_at h) n m l)) [
    | inr past ↦ rw (below-past (links_at z) height m all past) (omega (arith, less))
    | inl under ↦
        let f : ℕ → List ℕ = rows_at (links_at h) below m in
        let behind : List ℕ = flat_map f (drop (place + 1 + 1) (links_at h l)) in
        let inner : m ≤ below = omega (arith, under, up, low) in
        let spot = place-below m i inner few in
        let rows : flat_map f (drop (place + 1) (links_at h l)) ≡ f next ++ behind = rw next-is (ap (flat_map f) (drop_more (links_at h l) (place + 1) 0 more)) in
        let size : length (rows_at (links_at h) n m l) ≡ length (flat_map f (take place (links_at h l))) + (length (f child) + (length (f next) + length behind)) =
        rows-below m inner ∙ ap (λ (x : ℕ). length (flat_map f (take place (links_at h l))) + (length (f child) + x)) (ap length rows ∙ length-append (f next) behind) in
        let some : 1 ≤ length (f next) = rows-some h below m next well inner in
        elim (cases_lt m k') as (λ _. length (rows_under (links_at z) height m all) + i ≤ length (rows_at (links_at h) n m l)) [
          | inl lower ↦
              let whole : length (rows_under (links_at z) height m all) ≡ length (rows_under (links_at y) k' m mids) + length behind =
              ap length (put.lower m lower) ∙ length-append (rows_under (links_at y) k' m mids) (flat_map (rows_at (links_at y) k' m) (drop (place + 1 + 1) (links_at y l))) ∙ ap (λ (xs : List ℕ). length (rows_under (links_at y) k' m mids) + length xs) (same m) in
              elim (cases_lt m k) as (λ _. length (rows_under (links_at z) height m all) + i ≤ length (rows_at (links_at h) n m l)) [
                | inl lowest ↦
                    let mid : length (rows_under (links_at y) k' m mids) ≡ length (rows_under (links_at w) k m rest) + length (f next) =
                    ap length (before.lower m lowest) ∙ length-append (rows_under (links_at w) k m rest) (rows_at (links_at w) below m next) ∙ ap (λ (xs : List ℕ). length (rows_under (links_at w) k m rest) + length xs) (kept m) in
                    omega (arith, size, whole, mid, spot.3, sub m spot.0 spot.1 spot.2)
                | inr amid ↦
                    let has = before.upper m amid in
                    let mid : length (rows_under (links_at y) k' m mids) ≡ length has.made + (length (f next) - 1) =
                    ap length has.rows ∙ length-append has.made (drop 1 (rows_at (links_at w) below m next)) ∙ ap (λ (x : ℕ). length has.made + x) (ap (λ (xs : List ℕ). length (drop 1 xs)) (kept m) ∙ length-drop 1 (f next)) in
                    omega (arith, size, whole, mid, has.halves.most, some, spot.1, spot.3)
              ]
          | inr from ↦
              let top : m ≡ k' = omega (arith, from, under, up) in
              let rows-behind : drop (place + 1 + 1) (links_at y l) ≡ behind = sym (rows-own-all (links_at y) k' (drop (place + 1 + 1) (links_at y l))) ∙ ap (λ (x : ℕ). flat_map (rows_at (links_at y) k' x) (drop (place + 1 + 1) (links_at y l))) (sym top) ∙ same m in
              let own : length (rows_under (links_at z) height m all) ≡ length put.own.made + length behind = ap (λ (x : ℕ). length (rows_under (links_at z) height x all)) top ∙ ap length put.own.rows ∙ length-append put.own.made (drop (place + 1 + 1) (links_at y l)) ∙ ap (λ (xs : List ℕ). length put.own.made + length xs) rows-behind in
              omega (arith, size, own, put.own.halves.most, some, spot.1, spot.3)
        ]
  ]

-- a leaf has no rows below it
pub fewer-leaf : {T : Type 0} (h z : Heap T) (n l count : ℕ) (ls : List ℕ) → LeavesNoMoreBelow h z n l count 0 ls
fewer-leaf h z n l count ls m i less few = rw (below-past (links_at z) 0 m ls (omega arith)) (omega (arith, less))

-- a row over the links that are left
pub fewer-root : {T : Type 0} (old mid new : Heap T) (root count n height v : ℕ) {ls : List ℕ} → n ≡ height_at old root → Stays (λ x. IsSome (row_at mid x)) mid new → AreLinks mid height ls → IsWell (form_at new) height v → links_at new v ≡ ls
    → LeavesNoMoreBelow old mid n root count height ls → LeavesNoMore old new root count v
fewer-root old mid new root count n height v {ls} e s named well is sub m i less few = rw (height-is (form_at new) height v well) (elim (cases_lt m height) as (λ _. length (rows_at (links_at new) height m v) + i ≤ length (rows_of old m root)) [
  | inl lower ↦
      let rows : rows_at (links_at new) height m v ≡ rows_under (links_at mid) height m ls = below-row (links_at new) height m v lower ∙ ap (rows_under (links_at new) height m) is ∙ below-kept s height m ls (links-live mid height ls named) in
      rw rows (rw e at sub m i less few)
  | inr high ↦ omega (arith, less, rows-few (links_at new) height m v high)
])

-- where nothing is left, a leaf is made
pub fewer-none : {T : Type 0} (old new : Heap T) (root count v : ℕ) → IsWell (form_at new) 0 v → LeavesNoMore old new root count v
fewer-none old new root count v well m i less few = rw (height-is (form_at new) 0 v well) (omega (arith, less, rows-few (links_at new) 0 m v (omega arith)))

module _ {T : Type 0} (h : Heap T) (v : ℕ) (good : IsGoodVector h v) where
  -- a vector has one row of a height at most, or none that is empty
  few-or-not-empty : (m : ℕ) → (length (rows_of h m v) ≤ 1) ⊎ All (λ k. 1 ≤ length (seq_at (form_at h) m k)) (rows_of h m v)
  few-or-not-empty m = elim (cases_lt m (height_at h v)) as (λ _. (length (rows_of h m v) ≤ 1) ⊎ All (λ k. 1 ≤ length (seq_at (form_at h) m k)) (rows_of h m v)) [
    | inl lower ↦ inr (rows-not-empty h (height_at h v) m v good.shape.well (rw (← links-form h v) (omega (arith, good.shape.two (omega (arith, lower))))) (omega (arith, lower)))
    | inr high ↦ inl (rows-few (links_at h) (height_at h v) m v high)
  ]

  -- where the first j rows of a height have all elements, there are no more than j
  all-rows : (m j : ℕ) → 0 < j → (m ≤ height_at h v → length (elements h v) ≤ elements_before h v m j) → length (rows_of h m v) ≤ j
  all-rows m j some all = elim (few-or-not-empty m) as (λ _. length (rows_of h m v) ≤ j) [
    | inl few ↦ omega (arith, few, some)
    | inr not-empty ↦ elim (cases_lt j (length (rows_of h m v))) as (λ _. length (rows_of h m v) ≤ j) [
      | inr le ↦ le
      | inl lt ↦ elim (cases_lt (height_at h v) m) as (λ _. length (rows_of h m v) ≤ j) [
        | inl past ↦ rw (rows-past (links_at h) (height_at h v) m v past) (omega arith)
        | inr low ↦ absurd (omega (arith, not-empty-before (seq_at (form_at h) m) (rows_of h m v) j not-empty lt, all low, ap length (items-of-rows h (height_at h v) m v low)))
      ]
    ]
  ]

  -- of the vector itself: only its first row has no element before it
  pub fewer-itself : (new : Heap T) → ((m : ℕ) → rows_of new m v ≡ rows_of h m v) → LeavesNoMore h new v 0 v
  fewer-itself new same m i less few = rw (same m) (elim (few-or-not-empty m) as (λ _. length (rows_of h m v) + i ≤ length (rows_of h m v)) [
    | inl one ↦ omega (arith, less, one)
    | inr not-empty ↦ omega (arith, less, few, length-take i (rows_of h m v), not-empty-count (seq_at (form_at h) m) (take i (rows_of h m v)) (All-take (λ k. 1 ≤ length (seq_at (form_at h) m k)) i (rows_of h m v) not-empty))
  ])

  -- what is left of a front has no more rows than those of the front in which it lies
  fits : (new : Heap T) (from part : ℕ) → LeavesNoMore h new v from part → height_at new part ≤ height_at h v → (m i j : ℕ) → i < j → elements_before h v m (min i (length (rows_of h m v) - 1)) ≤ from → (m ≤ height_at h v → length (elements h v) ≤ elements_before h v m j)
      → length (rows_of new m part) ≤ j - i
  fits new from part leaves low m i j lt few all = elim (cases_lt (height_at h v) m) as (λ _. length (rows_of new m part) ≤ j - i) [
    | inl past ↦ rw (rows-past (links_at new) (height_at new part) m part (omega (arith, low, past))) (omega arith)
    | inr inner ↦
        let some : 1 ≤ length (rows_of h m v) = rows-some h (height_at h v) m v good.shape.well inner in
        omega (arith, lt, some, all-rows m j (omega (arith, lt)) all, leaves m (min i (length (rows_of h m v) - 1)) (omega (arith, some)) few)
  ]

-- a part of a vector, as what is left of its front
fewer-part : {T : Type 0} (old mid new : Heap T) (vector front v from to : ℕ) → IsGoodVector mid front → Stays (λ x. IsSome (row_at old x)) old mid → IsSome (row_at old vector) → length (elements mid front) ≤ to
    → TakesFirstRows old mid vector to front → LeavesNoMore mid new front from v → height_at new v ≤ height_at mid front → HasNoMoreRows old new vector from to v
fewer-part old mid new vector front v from to good s live short takes leaves low m i j lt few all =
    let has = front-of-height old mid vector to front takes m in
    let f : ℕ → List ℕ = seq_at (form_at mid) m in
    let rows : List ℕ = rows_of old m vector in
    let size : length (rows_of mid m front) ≡ has.place + length has.last = ap length has.is ∙ length-append (take has.place rows) has.last ∙ ap (λ (x : ℕ). x + length has.last) (length-take-le has.place rows has.inside) in
    let same : (q : ℕ) → q ≤ has.place → elements_before mid front m q ≡ elements_before old vector m q = λ q le.
    ap (λ (xs : List ℕ). length (flat_map f (take q xs))) has.is ∙ ap (λ (xs : List ℕ). length (flat_map f xs)) (take-append-le q (take has.place rows) has.last (omega (arith, le, length-take-le has.place rows has.inside)) ∙ take-take q has.place rows le)
    ∙ ap length (items-stay s m (take q rows) (All-take (λ x. IsSome (row_at old x)) q rows (rows-named s (height_at old vector) m vector live))) in
    let q : ℕ = min i (length (rows_of mid m front) - 1) in
    fits mid front good new from v leaves low m i j lt (omega (arith, few, same q (omega (arith, size, has.one)), first-fewer (seq_at (form_at old) m) rows q i (omega arith)))
    (λ inner. elim (cases_lt has.place j) as (λ _. length (elements mid front) ≤ elements_before mid front m j) [
      | inl past ↦ let whole : take j (rows_of mid m front) ≡ rows_of mid m front = take_all j (rows_of mid m front) (omega (arith, size, has.one, past)) in omega (arith, ap (λ (xs : List ℕ). length (flat_map f xs)) whole, ap length (items-of-rows mid (height_at mid front) m front inner))
      | inr le ↦ omega (arith, short, all, same j le)
    ])

module _ {T : Type 0} (old mid : Heap T) (vector : ℕ) (same : SameRows old mid) (graph : IsGraph mid) (good : IsGoodVector old vector) where
  stays : Stays (λ x. IsSome (row_at old x)) old mid
  stays = live-stays-by old mid same graph

  still : IsGoodVector mid vector × (elements mid vector ≡ elements old vector)
  still = good-stays stays vector (well-live old (height_at old vector) vector good.shape.well) good

  -- what is left of a vector, where room was made first
  pub fewer-rest : (new : Heap T) (v from : ℕ) → LeavesNoMore mid new vector from v → height_at new v ≤ height_at mid vector → HasNoMoreRows old new vector from (length (elements old vector)) v
  fewer-rest new v from leaves low =
      fewer-part old mid new vector vector v from (length (elements old vector)) still.0 stays (well-live old (height_at old vector) vector good.shape.well) (omega (arith, ap length still.1)) (takes-whole old mid same vector (length (elements old vector))) leaves low

  -- what is left of a front of it
  pub fewer-slice : (taken new : Heap T) (front v from to : ℕ) → Extends mid taken → IsGoodVector taken front → length (elements taken front) ≤ to → TakesFirstRows mid taken vector to front → LeavesNoMore taken new front from v
      → height_at new v ≤ height_at taken front → HasNoMoreRows old new vector from to v
  fewer-slice taken new front v from to more good' short takes leaves low =
      let later : Stays (λ x. IsSome (row_at old x)) old taken = record { closed = stays.closed; kept = λ l live. (live-stays graph more).kept l (rw (same l) live) ∙ same l } in
      fewer-part old taken new vector front v from to good' later (well-live old (height_at old vector) vector good.shape.well) short (takes-after old mid same taken vector to front takes) leaves low

  -- the whole vector
  pub fewer-whole : HasNoMoreRows old mid vector 0 (length (elements old vector)) vector
  fewer-whole = fewer-rest mid vector 0 (fewer-itself mid vector still.0 mid (λ m. refl)) (omega arith)

-- a vector that is still held has as many rows of each height
pub fewer-held : {T : Type 0} {old new : Heap T} {spent : ℕ → ℕ} (keeps : KeepsHeld spent old new) (l : ℕ) (held : spent l < holds_at old l) (first : Heap T) (vector from to : ℕ) → HasNoMoreRows first old vector from to l → HasNoMoreRows first new vector from to l
fewer-held {T} {old} {new} keeps l held first vector from to has m i j lt few all = rw (rows-of-kept (below-stays {old = old} {new = new} l (keeps.kept l held)) m l (here l)) (has m i j lt few all)

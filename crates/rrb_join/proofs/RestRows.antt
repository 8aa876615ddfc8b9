-- The rows of each height below what is left of a row, put before the next row.
use Rattle.std.proofs.Common.{◌≡◌, ℕ, suc, ◌+◌, ◌<◌, ◌≤◌, min, List, [], ◌++◌, length, take, drop, get_or, refl, ap, sym, ◌∙◌, arith, inl, inr, length-append, append-nil, append_assoc, IsSome}
use Rattle.std.specs.List.{All, flat_map}
use Rattle.std.proofs.lemmas.Bool.{cases_lt}
use Rattle.std.proofs.lemmas.List.{drop_all, drop_at, drop_min, drop_more, drop-drop, drop-append-le}
use Rattle.std.proofs.lemmas.List.Concat.{flat_map-append}
use Rattle.node_heap.specs.Heap.{Heap, row_at, form_at, links_at}
use Rattle.node_heap.specs.Calls.{Unchanged}
use Rattle.rrb_core.specs.Seq.{IsWell}
use Rattle.rrb_core.specs.Vector.{height_at}
use Rattle.rrb_core.specs.Build.{AreRows}
use Rattle.rrb_core.proofs.ClosedRows.{Stays}
use Rattle.rrb_core.proofs.FillRule.{height-is}
use Rattle.rrb_core.proofs.Lists.{empty-list}
use Rattle.rrb_core.proofs.Stays.{links-stay}
use Rattle.rrb_core.proofs.RowLists.{rows-live}
use Rattle.rrb_core.specs.Levels.{rows_at, rows_of}
use Rattle.rrb_core.proofs.LevelLemmas.{rows-few, all-kept, rows-of-same}
use Rattle.rrb_join.specs.Seam.{rows_under, DropsRows}
use Rattle.rrb_join.specs.Rest.{AreHalves, HasRest, LeavesRows, LeavesBelow, PutsBefore, PutsBeside}
use Rattle.rrb_join.specs.Unmade.{AreLinks}
use Rattle.rrb_join.proofs.AnswerLemmas.{all-links-stay}
use Rattle.rrb_join.proofs.UnmadeLemmas.{links-live}
use Rattle.rrb_join.proofs.RowsOfHeights.{rows-own-all, rows-some, rows-cut, none-after, below-above, below-rows, below-row, below-past, below-append, middle-named, below-named, below-kept, halves-at-need, one-half}

-- what is left of a middle part and what is behind it is left of the whole
drop-within : (a b c : List ℕ) (j : ℕ) → (i : ℕ) × (drop i (a ++ (b ++ c)) ≡ drop j b ++ c)
drop-within a b c j = (
  length a + min j (length b),
  sym (drop-drop (min j (length b)) (length a) (a ++ (b ++ c))) ∙ ap (drop (min j (length b))) (drop_at a (b ++ c) (length a) refl) ∙ drop-append-le (min j (length b)) b c (omega arith)
      ∙ ap (λ (xs : List ℕ). xs ++ c) (drop_min j b),
)

-- all rows are behind
pub none-made : {T : Type 0} (h : Heap T) (back all : List ℕ) → all ≡ back → HasRest h back all
none-made h back all same = record { made = []; halves = one-half h [] (omega arith); rows = same }

-- at most one row, and none behind
one-made : {T : Type 0} (h z : Heap T) (n m l v k : ℕ) → k ≤ m → (i : ℕ) × HasRest z (drop i (rows_at (links_at h) n m l)) (rows_at (links_at z) k m v)
one-made h z n m l v k high = (
  length (rows_at (links_at h) n m l),
  record {
    made = rows_at (links_at z) k m v;
    halves = one-half z (rows_at (links_at z) k m v) (rows-few (links_at z) k m v high);
    rows = rw (drop_all (length (rows_at (links_at h) n m l)) (rows_at (links_at h) n m l) (omega arith)) (sym (append-nil (rows_at (links_at z) k m v)));
  },
)

-- no rows above
pub none-above : {T : Type 0} (h z : Heap T) (n l height m : ℕ) (ls : List ℕ) → height ≤ m → (i : ℕ) × HasRest z (drop i (rows_at (links_at h) n m l)) (rows_under (links_at z) height m ls)
none-above h z n l height m ls high = (
  length (rows_at (links_at h) n m l),
  none-made z _ (rows_under (links_at z) height m ls) (below-past (links_at z) height m ls high ∙ sym (drop_all (length (rows_at (links_at h) n m l)) (rows_at (links_at h) n m l) (omega arith))),
)

-- where there are no rows, none are behind
none-behind : {T : Type 0} {h : Heap T} {back all : List ℕ} → HasRest h back all → all ≡ [] → back ≡ []
none-behind {T} {h} {back} {all} has none = empty-list back (omega (arith, ap length (sym has.rows ∙ none), length-append has.made back))

module _ {T : Type 0} {P : ℕ → Type 0} {old new : Heap T} (s : Stays P old new) where
  halves-kept : (ks : List ℕ) → All P ks → AreHalves old ks → AreHalves new ks
  halves-kept ks named has =
      record {
        most = has.most;
        first = λ two. rw (links-stay s (get_or ks 0 0) (named 0 0 (omega (arith, two)))) (has.first two);
        second = λ two. rw (links-stay s (get_or ks 1 0) (named 1 0 (omega (arith, two)))) (has.second two);
      }

  pub rest-kept : (back all whole : List ℕ) → All P all → HasRest old back all → whole ≡ all → HasRest new back whole
  rest-kept back all whole named has same = record { made = has.made; halves = halves-kept has.made (middle-named P [] has.made back (rw has.rows at named)) has.halves; rows = same ∙ has.rows }

  -- the same with more rows behind
  rest-beside : (back xs all whole : List ℕ) → All P all → HasRest old back all → whole ≡ all ++ xs → HasRest new (back ++ xs) whole
  rest-beside back xs all whole named has is =
      let kept = rest-kept back all all named has refl in
      record { made = kept.made; halves = kept.halves; rows = is ∙ ap (λ (ys : List ℕ). ys ++ xs) kept.rows ∙ append_assoc kept.made back xs }

-- what is left of one child and the children after it are left of the row
left-at : {T : Type 0} (h z : Heap T) (n below m l i j : ℕ) (whole : List ℕ) → n ≡ suc below → m ≤ below → i < length (links_at h l)
    → HasRest z (drop j (rows_at (links_at h) below m (get_or (links_at h l) i 0)) ++ flat_map (rows_at (links_at h) below m) (drop (i + 1) (links_at h l))) whole → (i' : ℕ) × HasRest z (drop i' (rows_at (links_at h) n m l)) whole
left-at h z n below m l i j whole e low lt has =
    let f : ℕ → List ℕ = rows_at (links_at h) below m in
    let at = drop-within (flat_map f (take i (links_at h l))) (f (get_or (links_at h l) i 0)) (flat_map f (drop (i + 1) (links_at h l))) j in
    (at.0, rw (rows-cut (links_at h) n below m l i e low lt, at.1) has)

-- one row or two over the links, before rows of their height
pub raised-beside : {T : Type 0} {h y z : Heap T} {k : ℕ} {ls made back all : List ℕ} → Stays (λ x. IsSome (row_at h x)) h z → Stays (λ x. IsSome (row_at y x)) y z → AreLinks h k ls → AreRows h k back → AreRows y k made
    → flat_map (links_at y) made ≡ ls → AreHalves y made → all ≡ made ++ back → PutsBeside h z k ls back (suc k) all
raised-beside {T} {h} {y} {z} {k} {ls} {made} {back} {all} s sy named behind rows over-links halves is =
    let made-live = rows-live y k made rows in
    record {
      lower = λ m low.
          let f : ℕ → List ℕ = rows_at (links_at z) k m in
          let links : flat_map (links_at z) made ≡ ls = all-links-stay sy made made-live ∙ over-links in
          let first : flat_map f made ≡ rows_under (links_at h) k m ls = below-rows (links_at z) k m made low ∙ ap (rows_under (links_at z) k m) links ∙ below-kept s k m ls (links-live h k ls named) in
          below-above (links_at z) k m all ∙ ap (flat_map f) is ∙ flat_map-append f made back ∙ ap (λ (xs : List ℕ). xs ++ flat_map f back) first ∙ ap (λ (xs : List ℕ). rows_under (links_at h) k m ls ++ xs) (all-kept s k m back (rows-live h k back behind));
      own = record { made = made; halves = halves-kept sy made made-live halves; rows = below-above (links_at z) k k all ∙ rows-own-all (links_at z) k all ∙ is };
    }

-- links that stay as they are, before no rows
pub kept-beside : {T : Type 0} (h : Heap T) (k : ℕ) (ls back : List ℕ) → back ≡ [] → PutsBeside h h k ls back k ls
kept-beside h k ls back none =
    record {
      lower = λ m low. rw none (sym (append-nil (rows_under (links_at h) k m ls)));
      own = none-made h back (rows_under (links_at h) k k ls) (below-past (links_at h) k k ls (omega arith) ∙ sym none);
    }

-- links before those of a row of their height
pub merged-before : {T : Type 0} {h z : Heap T} {n k r : ℕ} {ks all : List ℕ} → Stays (λ x. IsSome (row_at h x)) h z → k ≡ n → AreLinks h k (ks ++ links_at h r) → all ≡ ks ++ links_at h r → PutsBefore h z k ks n r k all
merged-before {T} {h} {z} {n} {k} {r} {ks} {all} s e links is =
    record {
      lower = λ m low.
          ap (rows_under (links_at z) k m) is ∙ below-kept s k m (ks ++ links_at h r) (links-live h k (ks ++ links_at h r) links) ∙ below-append (links_at h) k m ks (links_at h r)
          ∙ ap (λ (xs : List ℕ). rows_under (links_at h) k m ks ++ xs) (sym (below-row (links_at h) k m r low) ∙ ap (λ (height : ℕ). rows_at (links_at h) height m r) e);
      upper = λ m high. none-made z _ (rows_under (links_at z) k m all) (below-past (links_at z) k m all high ∙ sym (none-after (links_at h) n m r (omega arith)));
    }

-- links put before the first child, and what that becomes before the other children
pub raised-before : {T : Type 0} {h y z : Heap T} {k n below r first k' height : ℕ} {ks mids all : List ℕ} → n ≡ suc below → Stays (λ x. IsSome (row_at y x)) y z → AreLinks y k' mids
    → 1 ≤ length (links_at h r) → first ≡ get_or (links_at h r) 0 0 → IsWell (form_at h) below first → k ≤ k' → k' ≤ below → height ≤ k' + 1
    → ((m : ℕ) → flat_map (rows_at (links_at y) k' m) (drop 1 (links_at y r)) ≡ flat_map (rows_at (links_at h) below m) (drop 1 (links_at h r)))
    → PutsBefore h y k ks below first k' mids → PutsBeside y z k' mids (drop 1 (links_at y r)) height all → PutsBefore h z k ks n r height all
raised-before {T} {h} {y} {z} {k} {n} {below} {r} {first} {k'} {height} {ks} {mids} {all} e s named some first-is well above low up same sub put =
    let f : ℕ → ℕ → List ℕ = rows_at (links_at h) below in
    let back : ℕ → List ℕ = λ m. flat_map (rows_at (links_at y) k' m) (drop 1 (links_at y r)) in
    let first-at : get_or (links_at h r) 0 0 ≡ first = sym first-is in
    let cut : (m : ℕ) → m ≤ below → rows_at (links_at h) n m r ≡ f m first ++ back m = λ m inner. rw first-at at (rows-cut (links_at h) n below m r 0 e inner some) ∙ ap (λ (xs : List ℕ). f m first ++ xs) (sym (same m)) in
    let after : (m : ℕ) → m ≤ below → drop 1 (rows_at (links_at h) n m r) ≡ drop 1 (f m first) ++ back m = λ m inner. ap (λ (xs : List ℕ). drop 1 xs) (cut m inner) ∙ drop-append-le 1 (f m first) (back m) (rows-some h below m first well inner) in
    let alone : (m : ℕ) → k' ≤ m → drop 1 (f m first) ≡ [] = λ m high. none-behind (sub.upper m (omega (arith, high))) (below-past (links_at y) k' m mids high) in
    let above-own : (m : ℕ) → k' ≤ m → m ≤ below → drop 1 (rows_at (links_at h) n m r) ≡ back m = λ m high inner. after m inner ∙ ap (λ (xs : List ℕ). xs ++ back m) (alone m high) in
    let past-all : (m : ℕ) → k' < m → drop 1 (rows_at (links_at h) n m r) ≡ [] = λ m past. elim (cases_lt below m) as (λ _. drop 1 (rows_at (links_at h) n m r) ≡ []) [
      | inl higher ↦ none-after (links_at h) n m r (omega arith)
      | inr inner ↦ above-own m (omega (arith, past)) inner ∙ sym (below-above (links_at y) k' m (drop 1 (links_at y r))) ∙ below-past (links_at y) (suc k') m (drop 1 (links_at y r)) (omega (arith, past))
    ] in
    record {
      lower = λ m lower.
          put.lower m (omega arith) ∙ ap (λ (xs : List ℕ). xs ++ back m) (sub.lower m lower) ∙ append_assoc (rows_under (links_at h) k m ks) (f m first) (back m) ∙ ap (λ (xs : List ℕ). rows_under (links_at h) k m ks ++ xs) (sym (cut m (omega arith)));
      upper = λ m high. elim (cases_lt m k') as (λ _. HasRest z (drop 1 (rows_at (links_at h) n m r)) (rows_under (links_at z) height m all)) [
        | inl lower ↦ rw (after m (omega arith)) (rest-beside s (drop 1 (f m first)) (back m) (rows_under (links_at y) k' m mids) (rows_under (links_at z) height m all) (below-named s k' m mids (links-live y k' mids named)) (sub.upper m high) (put.lower m lower))
        | inr from ↦ elim (cases_lt k' m) as (λ _. HasRest z (drop 1 (rows_at (links_at h) n m r)) (rows_under (links_at z) height m all)) [
          | inl past ↦ none-made z _ (rows_under (links_at z) height m all) (below-past (links_at z) height m all (omega arith) ∙ sym (past-all m past))
          | inr own ↦ let top : m ≡ k' = omega arith in rw (top, above-own k' (omega arith) low, rows-own-all (links_at y) k' (drop 1 (links_at y r))) put.own
        ]
      ];
    }

-- what is left of the last child
pub left-last : {T : Type 0} (h y : Heap T) (n below l i child height : ℕ) (ls : List ℕ) → n ≡ suc below → height ≤ below → i + 1 ≡ length (links_at h l) → child ≡ get_or (links_at h l) i 0 → LeavesBelow h y below child height ls → LeavesBelow h y n l height ls
left-last h y n below l i child height ls e low end child-is sub m = elim (cases_lt below m) as (λ _. (j : ℕ) × HasRest y (drop j (rows_at (links_at h) n m l)) (rows_under (links_at y) height m ls)) [
  | inl past ↦ none-above h y n l height m ls (omega arith)
  | inr inner ↦
      let has = sub m in
      let none : drop (i + 1) (links_at h l) ≡ [] = drop_all (i + 1) (links_at h l) (omega arith) in
      left-at h y n below m l i has.0 (rows_under (links_at y) height m ls) e inner (omega arith) (rw (none, append-nil, ← child-is) has.1)
]

-- what is left of another child, put before the next one, and the children after that
pub left-next : {T : Type 0} (h : Heap T) {w y z : Heap T} (n below l i child : ℕ) {next k k' height : ℕ} {rest mids all : List ℕ} → n ≡ suc below → Stays (λ x. IsSome (row_at w x)) w z → Stays (λ x. IsSome (row_at y x)) y z → AreLinks w k rest → AreLinks y k' mids
    → i + 1 < length (links_at h l) → child ≡ get_or (links_at h l) i 0 → next ≡ get_or (links_at h l) (i + 1) 0 → k ≤ k' → k' ≤ below → height ≤ k' + 1
    → ((m : ℕ) → rows_at (links_at w) below m next ≡ rows_at (links_at h) below m next)
    → ((m : ℕ) → flat_map (rows_at (links_at y) k' m) (drop (i + 1 + 1) (links_at y l)) ≡ flat_map (rows_at (links_at h) below m) (drop (i + 1 + 1) (links_at h l)))
    → LeavesBelow h w below child k rest → PutsBefore w y k rest below next k' mids → PutsBeside y z k' mids (drop (i + 1 + 1) (links_at y l)) height all → LeavesBelow h z n l height all
left-next {T} h {w} {y} {z} n below l i child {next} {k} {k'} {height} {rest} {mids} {all} e sw sy named named' more child-is next-is above low up kept same sub before put m =
    let f : ℕ → List ℕ = rows_at (links_at h) below m in
    let back : List ℕ = flat_map (rows_at (links_at y) k' m) (drop (i + 1 + 1) (links_at y l)) in
    let next-at : get_or (links_at h l) (i + 1) 0 ≡ next = sym next-is in
    elim (cases_lt m k') as (λ _. (j : ℕ) × HasRest z (drop j (rows_at (links_at h) n m l)) (rows_under (links_at z) height m all)) [
      | inl lower ↦ elim (cases_lt m k) as (λ _. (j : ℕ) × HasRest z (drop j (rows_at (links_at h) n m l)) (rows_under (links_at z) height m all)) [
        | inl lowest ↦
            let has = sub m in
            let cut : flat_map f (drop (i + 1) (links_at h l)) ≡ f next ++ flat_map f (drop (i + 1 + 1) (links_at h l)) = ap (flat_map f) (drop_more (links_at h l) (i + 1) 0 more) ∙ ap (λ (x : ℕ). f x ++ flat_map f (drop (i + 1 + 1) (links_at h l))) next-at in
            let whole : rows_under (links_at z) height m all ≡ rows_under (links_at w) k m rest ++ flat_map f (drop (i + 1) (links_at h l)) =
            put.lower m lower ∙ ap (λ (xs : List ℕ). xs ++ back) (before.lower m lowest) ∙ append_assoc (rows_under (links_at w) k m rest) (rows_at (links_at w) below m next) back ∙ ap (λ (xs : List ℕ). rows_under (links_at w) k m rest ++ xs) (rw (kept m, same m) (sym cut)) in
            left-at h z n below m l i has.0 (rows_under (links_at z) height m all) e (omega arith) (omega (arith, more))
            (rw (← child-is) (rest-beside sw (drop has.0 (f child)) (flat_map f (drop (i + 1) (links_at h l))) (rows_under (links_at w) k m rest) (rows_under (links_at z) height m all) (below-named sw k m rest (links-live w k rest named)) has.1 whole))
        | inr amid ↦
            let has : HasRest z (drop 1 (rows_at (links_at w) below m next) ++ back) (rows_under (links_at z) height m all) = rest-beside sy (drop 1 (rows_at (links_at w) below m next)) back (rows_under (links_at y) k' m mids) (rows_under (links_at z) height m all) (below-named sy k' m mids (links-live y k' mids named')) (before.upper m amid) (put.lower m lower) in
            left-at h z n below m l (i + 1) 1 (rows_under (links_at z) height m all) e (omega arith) more (rw (next-at, ← kept m, ← same m) has)
      ]
      | inr from ↦ elim (cases_lt k' m) as (λ _. (j : ℕ) × HasRest z (drop j (rows_at (links_at h) n m l)) (rows_under (links_at z) height m all)) [
        | inl past ↦ none-above h z n l height m all (omega arith)
        | inr own ↦
            let top : m ≡ k' = omega arith in
            let none : drop (length (f next)) (f next) ≡ [] = drop_all (length (f next)) (f next) (omega arith) in
            let has : HasRest z back (rows_under (links_at z) height m all) = rw (top, rows-own-all (links_at y) k' (drop (i + 1 + 1) (links_at y l))) put.own in
            left-at h z n below m l (i + 1) (length (f next)) (rows_under (links_at z) height m all) e (omega arith) more (rw (next-at, none, ← same m) has)
      ]
    ]

-- a row over the links that are left
pub left-root : {T : Type 0} (old mid new : Heap T) (root n height v : ℕ) {ls : List ℕ} → n ≡ height_at old root → Stays (λ x. IsSome (row_at mid x)) mid new → AreLinks mid height ls → IsWell (form_at new) height v → links_at new v ≡ ls → LeavesBelow old mid n root height ls → LeavesRows old new root v
left-root old mid new root n height v {ls} e s named well is sub m = rw (height-is (form_at new) height v well, ← e) (elim (cases_lt m height) as (λ _. (i : ℕ) × HasRest new (drop i (rows_at (links_at old) n m root)) (rows_at (links_at new) height m v)) [
  | inl lower ↦
      let has = sub m in
      let live : 0 < height → All (λ x. IsSome (row_at mid x)) ls = links-live mid height ls named in
      let rows : rows_at (links_at new) height m v ≡ rows_under (links_at mid) height m ls = below-row (links_at new) height m v lower ∙ ap (rows_under (links_at new) height m) is ∙ below-kept s height m ls live in
      (has.0, rest-kept s (drop has.0 (rows_at (links_at old) n m root)) (rows_under (links_at mid) height m ls) (rows_at (links_at new) height m v) (below-named s height m ls live) has.1 rows)
  | inr high ↦ one-made old new n m root v height high
])

-- where nothing is left, a leaf is made
pub left-none : {T : Type 0} (old new : Heap T) (root v : ℕ) → IsWell (form_at new) 0 v → LeavesRows old new root v
left-none old new root v well m = rw (height-is (form_at new) 0 v well) (one-made old new (height_at old root) m root v 0 (omega arith))

module _ {T : Type 0} where
  -- room was made first
  pub left-drops : (old mid new : Heap T) (l v : ℕ) → Unchanged old mid → LeavesRows mid new l v → DropsRows old new l v
  left-drops old mid new l v same left m =
      let has = left m in
      (has.0, record { seam = has.1.made; few = halves-at-need new has.1.made has.1.halves; rows = rw (rows-of-same old mid same.rows m l) at has.1.rows })

  -- all was left
  pub all-left : (old new : Heap T) (l : ℕ) → ((m : ℕ) → rows_of new m l ≡ rows_of old m l) → LeavesRows old new l l
  all-left old new l same m = (0, none-made new (rows_of old m l) (rows_of new m l) (same m))

  pub drops-itself : (old new : Heap T) (l : ℕ) → ((m : ℕ) → rows_of new m l ≡ rows_of old m l) → DropsRows old new l l
  drops-itself old new l same m = let has = none-made new (rows_of old m l) (rows_of new m l) (same m) in (0, record { seam = has.made; few = halves-at-need new has.made has.halves; rows = has.rows })

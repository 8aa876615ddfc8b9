-- Rows at a seam that can stand side by side, and what they are together.
use Rattle.std.proofs.Common.{◌≡◌, ℕ, suc, zero, ◌-◌, ◌+◌, ◌*◌, ◌<◌, ◌≤◌, List, [], ◌∷◌, ◌++◌, length, take, drop, get_or, refl, ap, ◌∙◌, arith, inl, inr, length-append, append-nil, append_assoc, IsSome}
use Rattle.std.specs.List.{All, flat_map}
use Rattle.std.proofs.lemmas.Bool.{cases_lt}
use Rattle.std.proofs.lemmas.List.{take_all, take_more, drop_all, get_or_append_left, get_or-append_right}
use Rattle.std.proofs.lemmas.List.Elements.{All-cons}
use Rattle.node_heap.specs.Heap.{Heap, row_at, form_at, links_at}
use Rattle.rrb_core.specs.Seq.{seq_at, IsThick, IsWell}
use Rattle.rrb_core.specs.Levels.{rows_at}
use Rattle.rrb_core.proofs.ClosedRows.{Stays}
use Rattle.rrb_core.proofs.Lists.{items-cut, front-last}
use Rattle.rrb_core.specs.Build.{IsRowOf}
use Rattle.rrb_core.proofs.Stays.{links-form, well-live, links-stay, thick-stays, row-stays}
use Rattle.rrb_core.proofs.RowLists.{rows-append}
use Rattle.rrb_core.proofs.LevelLemmas.{rows-own, rows-inner, rows-past, rows-kept}
use Rattle.rrb_join.specs.Seam.{rows_under, but_last, StandBeside, AllStandBeside, AreAtNeed, JoinsBelow, KeepsBeneath}
use Rattle.rrb_join.specs.Joining.{JoinsToRows}
use Rattle.node_heap.specs.Calls.{Builds}
use Rattle.node_heap.proofs.BuildLemmas.{Builds-more}
use Rattle.rrb_join.specs.Unmade.{AreThick, IsSomeRow, AreUnmade, EndsIn, BeginsWith}
use Rattle.rrb_join.proofs.RowsOfHeights.{below-above, rows-some, rows-named}
use Rattle.rrb_join.proofs.UnmadeLemmas.{rows-above, items-above, thick-above, row-one, thick-one}

-- the last of two lists is that of the second, where that one isn't empty, and the first that of the first
last-append : (xs ys : List ℕ) → 1 ≤ length ys → get_or (xs ++ ys) (length (xs ++ ys) - 1) 0 ≡ get_or ys (length ys - 1) 0
last-append xs ys some =
    let size = length-append xs ys in
    let at : length (xs ++ ys) - 1 - length xs ≡ length ys - 1 = omega (arith, size) in
    rw at at (get_or-append_right xs ys (length xs) (length (xs ++ ys) - 1) 0 refl (omega (arith, size)))

first-append : (xs ys : List ℕ) → 1 ≤ length xs → get_or (xs ++ ys) 0 0 ≡ get_or xs 0 0
first-append xs ys some = get_or_append_left xs ys 0 0 (omega arith)

module _ {T : Type 0} {h : Heap T} where
  -- the rows at the edges can stand side by side where all can
  stand-within : (front back a b edge edge' : List ℕ) → front ≡ a ++ edge → back ≡ edge' ++ b → 1 ≤ length edge → 1 ≤ length edge' → StandBeside h front back → StandBeside h edge edge'
  stand-within front back a b edge edge' e f some some' stand =
      let last : get_or front (length front - 1) 0 ≡ get_or edge (length edge - 1) 0 = rw e (last-append a edge some) in
      let first : get_or back 0 0 ≡ get_or edge' 0 0 = rw f (first-append edge' b some') in
      record { some = some; others = some'; half = rw last at stand.half; past = rw (last, first) at stand.past }

  -- and all can where those at the edges can
  stand-around : (front back a b edge edge' : List ℕ) → front ≡ a ++ edge → back ≡ edge' ++ b → StandBeside h edge edge' → StandBeside h front back
  stand-around front back a b edge edge' e f stand =
      let last : get_or front (length front - 1) 0 ≡ get_or edge (length edge - 1) 0 = rw e (last-append a edge stand.some) in
      let first : get_or back 0 0 ≡ get_or edge' 0 0 = rw f (first-append edge' b stand.others) in
      record {
        some = rw e (omega (arith, stand.some, length-append a edge));
        others = rw f (omega (arith, stand.others, length-append edge' b));
        half = rw last stand.half;
        past = rw (last, first) stand.past;
      }

  module _ {below n l place n' last k r from k' first : ℕ} (ends : EndsIn h below n l place n' last) (begins : BeginsWith h below k r from k' first) where
    -- the same of a row and what it ends in, and of one and what it begins with
    pub edges-stand : (m : ℕ) → m ≤ below → StandBeside h (rows_at (links_at h) n m l) (rows_at (links_at h) k m r) → StandBeside h (rows_at (links_at h) n' m last) (rows_at (links_at h) k' m first)
    edges-stand m low stand =
        stand-within (rows_at (links_at h) n m l) (rows_at (links_at h) k m r) (flat_map (rows_at (links_at h) below m) (take place (links_at h l))) (flat_map (rows_at (links_at h) below m) (drop from (links_at h r))) (rows_at (links_at h) n' m last) (rows_at (links_at h) k' m first)
        (ends.levels m low) (begins.levels m low) (ends.some m low stand.some) (begins.some m low stand.others) stand

    pub whole-stand : (m : ℕ) → m ≤ below → StandBeside h (rows_at (links_at h) n' m last) (rows_at (links_at h) k' m first) → StandBeside h (rows_at (links_at h) n m l) (rows_at (links_at h) k m r)
    whole-stand m low stand =
        stand-around (rows_at (links_at h) n m l) (rows_at (links_at h) k m r) (flat_map (rows_at (links_at h) below m) (take place (links_at h l))) (flat_map (rows_at (links_at h) below m) (drop from (links_at h r))) (rows_at (links_at h) n' m last) (rows_at (links_at h) k' m first)
        (ends.levels m low) (begins.levels m low) stand

  -- two rows of one height
  pub own-stand : (n l r : ℕ) → StandBeside h (rows_at (links_at h) n n l) (rows_at (links_at h) n n r) → (16 ≤ length (links_at h l)) × (32 < length (links_at h l) + length (links_at h r))
  own-stand n l r stand =
      let left : rows_at (links_at h) n n l ≡ l ∷ [] = rows-own (links_at h) n l in
      let right : rows_at (links_at h) n n r ≡ r ∷ [] = rows-own (links_at h) n r in
      (rw left at stand.half, rw (left, right) at stand.past)

  pub stand-own : (n l r : ℕ) → 16 ≤ length (links_at h l) → 32 < length (links_at h l) + length (links_at h r) → StandBeside h (rows_at (links_at h) n n l) (rows_at (links_at h) n n r)
  stand-own n l r half past =
      let left : rows_at (links_at h) n n l ≡ l ∷ [] = rows-own (links_at h) n l in
      let right : rows_at (links_at h) n n r ≡ r ∷ [] = rows-own (links_at h) n r in
      record { some = rw left (omega arith); others = rw right (omega arith); half = rw left half; past = rw (left, right) past }

  -- rows stand side by side at no height above that of either row
  pub stand-low : (n l k r top : ℕ) → AllStandBeside h n l k r top → (top ≤ n) × (top ≤ k)
  stand-low n l k r top stand = (
    elim (cases_lt n top) as (λ _. top ≤ n) [
      | inl past ↦ absurd (omega (arith, rw (rows-past (links_at h) n top l past) at (stand top (omega arith)).some))
      | inr low ↦ low
    ],
    elim (cases_lt k top) as (λ _. top ≤ k) [
      | inl past ↦ absurd (omega (arith, rw (rows-past (links_at h) k top r past) at (stand top (omega arith)).others))
      | inr low ↦ low
    ],
  )

  -- rows that can stand side by side at their own height and at each height below
  stand-all : (n l r : ℕ) → 16 ≤ length (links_at h l) → 32 < length (links_at h l) + length (links_at h r) → ((m : ℕ) → m < n → StandBeside h (rows_at (links_at h) n m l) (rows_at (links_at h) n m r)) → AllStandBeside h n l n r n
  stand-all n l r half past each m le = elim (cases_lt m n) as (λ _. StandBeside h (rows_at (links_at h) n m l) (rows_at (links_at h) n m r)) [
    | inl low ↦ each m low
    | inr high ↦ let same : m ≡ n = omega arith in rw same (stand-own n l r half past)
  ]

  pub leaves-stand : (n l r : ℕ) → n ≡ 0 → 16 ≤ length (links_at h l) → 32 < length (links_at h l) + length (links_at h r) → AllStandBeside h n l n r n
  leaves-stand n l r e half past = stand-all n l r half past (λ m low. absurd (omega arith))

  pub inner-stand : (n below l place last r first : ℕ) → n ≡ suc below → EndsIn h below n l place below last → BeginsWith h below n r 1 below first → 16 ≤ length (links_at h l) → 32 < length (links_at h l) + length (links_at h r)
      → AllStandBeside h below last below first below → AllStandBeside h n l n r n
  inner-stand n below l place last r first e ends begins half past sub = stand-all n l r half past (λ m low. whole-stand ends begins m (omega arith) (sub m (omega arith)))

  pub stand-inner : (n below l place last r first : ℕ) → n ≡ suc below → EndsIn h below n l place below last → BeginsWith h below n r 1 below first → AllStandBeside h n l n r n → AllStandBeside h below last below first below
  stand-inner n below l place last r first e ends begins stand m le = edges-stand ends begins m le (stand m (omega arith))

  -- two rows of this height, in the words of their own heights
  pub stand-same : (height n l k r : ℕ) → n ≡ height → k ≡ height → (AllStandBeside h height l height r height → AllStandBeside h n l k r height) × (AllStandBeside h n l k r height → AllStandBeside h height l height r height)
  stand-same height n l k r e e' = rw (e, e') (λ stand. stand, λ stand. stand)

-- a row is thick where it keeps the fill rule and, at each height, the last row below it has 16 links or more
right-thick : {T : Type 0} (h : Heap T) (n l : ℕ) → IsWell (form_at h) n l → ((m : ℕ) → m ≤ n → 16 ≤ length (links_at h (get_or (rows_at (links_at h) n m l) (length (rows_at (links_at h) n m l) - 1) 0))) → IsThick (form_at h) n l
unfolding IsWell IsThick
right-thick h zero l w half = rw (links-form h l) (rw (rows-own (links_at h) 0 l) at (half 0 (omega arith)))
right-thick h (suc n) l w half =
    let own : 16 ≤ length (links_at h l) = rw (rows-own (links_at h) (suc n) l) at (half (suc n) (omega arith)) in
    let place : ℕ = length (links_at h l) - 1 in
    let last : ℕ = get_or (links_at h l) place 0 in
    let children : All (IsWell (form_at h) n) (links_at h l) = rw (← links-form h l) w.children in
    let well : IsWell (form_at h) n last = children place 0 (omega (arith, own)) in
    let thick : All (IsThick (form_at h) n) (take place (links_at h l)) = rw (← links-form h l) w.thick in
    let edge : IsThick (form_at h) n last = right-thick h n last well (λ m low.
    let f : ℕ → List ℕ = rows_at (links_at h) n m in
    let none : drop (place + 1) (links_at h l) ≡ [] = drop_all (place + 1) (links_at h l) (omega (arith, own)) in
    let cut : rows_at (links_at h) (suc n) m l ≡ flat_map f (take place (links_at h l)) ++ f last = rows-inner (links_at h) n m l low ∙ rw (none, append-nil) at (items-cut f (links_at h l) place (omega (arith, own))) in
    let at : get_or (rows_at (links_at h) (suc n) m l) (length (rows_at (links_at h) (suc n) m l) - 1) 0 ≡ get_or (f last) (length (f last) - 1) 0 = rw cut (last-append (flat_map f (take place (links_at h l))) (f last) (rows-some h n m last well low)) in
    rw at at (half m (omega arith))) in
    (rw (links-form h l) own, rw (links-form h l) (front-last (IsThick (form_at h) n) (links_at h l) (omega (arith, own)) thick edge))

-- a list by its last element, and another by its first
meet : (front back : List ℕ) → 1 ≤ length front → 1 ≤ length back → front ++ back ≡ (but_last front ++ (get_or front (length front - 1) 0 ∷ get_or back 0 0 ∷ [])) ++ drop 1 back
meet front [] some some' = absurd (omega arith)
meet front (r ∷ rs) some some' =
    let up : length front - 1 + 1 ≡ length front = omega arith in
    let whole : take (length front) front ≡ front = take_all (length front) front (omega arith) in
    let parts : front ≡ but_last front ++ get_or front (length front - 1) 0 ∷ [] = rw (up, whole) at (take_more front (length front - 1) 0 (omega arith)) in
    ap (λ (xs : List ℕ). xs ++ r ∷ rs) parts ∙ simp append_assoc

-- two rows as they are, which can stand side by side
module _ {T : Type 0} {h z : Heap T} (s : Stays (λ x. IsSome (row_at h x)) h z) (n l r : ℕ) (left : IsSomeRow h n l) (right : IsSomeRow h n r) (stand : AllStandBeside h n l n r n) where
  left-live : IsSome (row_at h l)
  left-live = well-live h n l left.well

  right-live : IsSome (row_at h r)
  right-live = well-live h n r right.well

  left-thick : IsThick (form_at z) n l
  left-thick = thick-stays s n l left-live (right-thick h n l left.well (λ m low. (stand m low).half))

  pair-links : AreUnmade z (suc n) (l ∷ r ∷ []) (seq_at (form_at h) n l ++ seq_at (form_at h) n r)
  pair-links =
      let xs : List ℕ = seq_at (form_at h) n l in
      let ys : List ℕ = seq_at (form_at h) n r in
      let first : IsRowOf z n l xs = row-stays s n l xs left-live (record { well = left.well; sums = left.sums; items = refl }) in
      let second : IsRowOf z n r ys = row-stays s n r ys right-live (record { well = right.well; sums = right.sums; items = refl }) in
      record {
        links = rows-above z n (l ∷ r ∷ []) (rows-append z n (l ∷ []) (r ∷ []) (row-one z n l xs first (rw (links-stay s l left-live) left.some)) (row-one z n r ys second (rw (links-stay s r right-live) right.some)) (λ _. thick-one z n l left-thick));
        items = items-above z n (l ∷ r ∷ []) ∙ rw (first.items, second.items, append-nil) refl;
        some = omega arith;
        most = omega arith;
      }

  pair-need : AreAtNeed z 2 (l ∷ r ∷ [])
  pair-need =
      record {
        most = omega arith;
        need = λ i more.
            let same : i ≡ 0 = omega arith in
            rw (same, links-stay s l left-live, links-stay s r right-live) (own-stand n l r (stand n (omega arith))).1;
      }

  pair-thick : IsThick (form_at h) n r → AreThick z (suc n) (l ∷ r ∷ [])
  pair-thick t = thick-above z n (l ∷ r ∷ []) (All-cons (IsThick (form_at z) n) l (r ∷ []) left-thick (thick-one z n r (thick-stays s n r right-live t)))

  pair-all : length (flat_map (links_at z) (l ∷ r ∷ [])) ≡ length (links_at h l) + length (links_at h r)
  pair-all =
      let all : flat_map (links_at z) (l ∷ r ∷ []) ≡ links_at h l ++ links_at h r = rw (links-stay s l left-live, links-stay s r right-live, append-nil) refl in
      omega (arith, ap length all, length-append (links_at h l) (links_at h r))

  pair-rows : (m : ℕ) → rows_under (links_at z) (suc n) m (l ∷ r ∷ []) ≡ rows_at (links_at h) n m l ++ rows_at (links_at h) n m r
  pair-rows m = below-above (links_at z) n m (l ∷ r ∷ []) ∙ rw (rows-kept s n m l left-live, rows-kept s n m r right-live, append-nil) refl

  pair-keeps : KeepsBeneath h z n l n r (suc n) (l ∷ r ∷ [])
  pair-keeps m lower low = pair-rows m

  pair-seam : JoinsBelow h z n l n r (suc n) (l ∷ r ∷ [])
  pair-seam m lower =
      let own = stand m (omega arith) in
      let front : List ℕ = rows_at (links_at h) n m l in
      let back : List ℕ = rows_at (links_at h) n m r in
      let last : ℕ = get_or front (length front - 1) 0 in
      let first : ℕ = get_or back 0 0 in
      let last-kept : links_at z last ≡ links_at h last = links-stay s last (rows-named s n m l left-live (length front - 1) 0 (omega (arith, own.some))) in
      let first-kept : links_at z first ≡ links_at h first = links-stay s first (rows-named s n m r right-live 0 0 (omega (arith, own.others))) in
      record {
        seam = last ∷ first ∷ [];
        few = record { most = omega arith; need = λ i more. let same : i ≡ 0 = omega arith in rw (same, last-kept, first-kept) own.past };
        rows = pair-rows m ∙ meet front back own.some own.others;
      }

-- what two rows as they are, of the heights n and k, are together
pub both : {T : Type 0} {h z : Heap T} (height n l k r : ℕ) (all : List ℕ) → Stays (λ x. IsSome (row_at h x)) h z → n ≤ height → k ≤ height → IsSomeRow h n l → IsSomeRow h k r → AllStandBeside h n l k r height → all ≡ l ∷ r ∷ []
    → Builds h z [] all 0 0 → JoinsToRows h z n l k r height all × AreAtNeed z 2 all
both {T} {h} {z} height n l k r all s low low' left right stand is builds =
    let inside = stand-low n l k r height stand in
    let e : n ≡ height = omega (arith, low, inside.0) in
    let e' : k ≡ height = omega (arith, low', inside.1) in
    let left' : IsSomeRow h height l = rw (← e) left in
    let right' : IsSomeRow h height r = rw (← e') right in
    let stand' : AllStandBeside h height l height r height = (stand-same height n l k r e e').1 stand in
    let size = pair-all s height l r left' right' stand' in
    let builds' : Builds h z [] all 0 (2 * suc height) = Builds-more 0 (2 * suc height) builds (omega arith) (omega arith) in
    rw (e, e', is) (
      record {
        links = pair-links s height l r left' right' stand';
        thick = λ _ t. pair-thick s height l r left' right' stand' t;
        left_wide = λ _. omega (arith, size);
        right_wide = λ _. omega (arith, size);
        few = λ _ _. omega (arith, size);
        seam = pair-seam s height l r left' right' stand';
        keeps = pair-keeps s height l r left' right' stand';
        builds = rw is at builds';
      },
      pair-need s height l r left' right' stand',
    )

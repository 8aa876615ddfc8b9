-- The positions at which one side has something, or both.
use Rattle.std.proofs.Common.{◌≡◌, ℕ, zero, suc, ◌+◌, ◌-◌, ◌/◌, ◌%◌, ◌^◌, ◌<◌, ◌≤◌, List, refl, ap, sym, subst, ◌∙◌, arith, Bool, true, false, ◌||◌, ◌⊎◌, inl, inr}
use Rattle.std.specs.Prelude.{◌&&◌, nat_eq, max, min}
use Rattle.std.specs.Int.{bit_at, trailing_zeros, w32}
use Rattle.std.specs.Int.Bits.{bit_or, bit_and}
use Rattle.std.specs.Cmp.{IsTotalOrder}
use Rattle.std.proofs.lemmas.Bool.{cases_lt}
use Rattle.std.proofs.lemmas.Nat.{shr-shr}
use Rattle.std.proofs.lemmas.Nat.Bits.{bit_at_or, bit_at_and, bit_at-lt, bit_at_above, bit_at-trailing_zeros}
use Rattle.std.specs.declared.cmp.Ordering.{Ordering}
use Rattle.std.specs.declared.cmp.Ordering.TheVariants.{Equal}
use Rattle.elem_core.specs.Codes.{digit_at}
use Rattle.node_heap.specs.Forms.{Forms}
use Rattle.node_heap.specs.Heap.{Heap, form_at}
use Rattle.champ_chain.specs.Entry.{Entry}
use Rattle.champ_chain.proofs.FrameLemmas.{KeepsForms}
use Rattle.champ_trie.specs.Bits.{has}
use Rattle.champ_trie.proofs.BitLemmas.{has-none}
use Rattle.champ_trie.specs.declared.place.Place.{Place}
use Rattle.champ_trie.specs.declared.place.Place.TheVariants.{Empty, Entry as At, Node}
use Rattle.set_merge.specs.declared.keeps.Keeps.{Keeps}
use Rattle.set_merge.specs.declared.side.Side.{Side}
use Rattle.set_merge.specs.declared.spread.Spread.{Spread}
use Rattle.set_merge.specs.Merge.{merged}
use Rattle.set_merge.specs.Need.{sum_below}
use Rattle.set_merge.specs.Side.{has_place, IsLow, IsSide, place_below}
use Rattle.set_merge.specs.Walk.{AreSides, position_need, IsSpread}
use Rattle.set_merge.proofs.WalkLemmas.{or-false, below-none, at-first, at-second, spread-skip, sum-next, need-skip}

either-bit : (m n : ℕ) → m < 2 → n < 2 → nat_eq (max m n) 1 ≡ (nat_eq m 1 || nat_eq n 1)
either-bit zero zero small also = refl
either-bit zero (suc zero) small also = refl
either-bit (suc zero) zero small also = refl
either-bit (suc zero) (suc zero) small also = refl
either-bit (suc (suc m)) n small also = absurd (omega (arith, small))
either-bit m (suc (suc n)) small also = absurd (omega (arith, also))

both-bits : (m n : ℕ) → m < 2 → n < 2 → nat_eq (min m n) 1 ≡ (nat_eq m 1 && nat_eq n 1)
both-bits zero zero small also = refl
both-bits zero (suc zero) small also = refl
both-bits (suc zero) zero small also = refl
both-bits (suc zero) (suc zero) small also = refl
both-bits (suc (suc m)) n small also = absurd (omega (arith, small))
both-bits m (suc (suc n)) small also = absurd (omega (arith, also))

pub has-or : (a b p : ℕ) → has (bit_or a b) p ≡ (has a p || has b p)
has-or a b p = ap (λ n. nat_eq n 1) (bit_at_or a b p) ∙ either-bit (bit_at a p) (bit_at b p) (bit_at-lt a p) (bit_at-lt b p)

pub has-and : (a b p : ℕ) → has (bit_and a b) p ≡ (has a p && has b p)
has-and a b p = ap (λ n. nat_eq n 1) (bit_at_and a b p) ∙ both-bits (bit_at a p) (bit_at b p) (bit_at-lt a p) (bit_at-lt b p)

and-false : (a b : Bool) → (a && b) ≡ false → (a ≡ false) ⊎ (b ≡ false)
and-false true b is = inr is
and-false false b is = inl refl

module _ {K : Type 0} (code : K → ℕ) (F : Forms K) (depth : ℕ) where
  pub side-low : (place : Place) (side : Side) → IsSide code F depth place side → IsLow side
  side-low Empty side is = subst IsLow (sym is) tt
  side-low (At x) side is = subst IsLow (sym is.2) (let low : digit_at (code is.0) depth < 32 = omega arith in low)
  side-low (Node l) side is = subst IsLow (sym is.4) tt

module _ {K : Type 0} (cmp : K → K → Ordering) (code : K → ℕ) (F : Forms K) (depth : ℕ) (a b : Place) (first second : Side) (m n p : ℕ) (small : p < 32)
    (is_first : IsSide code F depth a first) (is_second : IsSide code F depth b second)
    (at_first : (q : ℕ) → q < 32 → has m q ≡ has_place first q) (at_second : (q : ℕ) → q < 32 → has n q ≡ has_place second q) where
  -- neither has something where the union of the positions has nothing
  pub neither-there : has (bit_or m n) p ≡ false → (place_below code F depth a p ≡ Empty) × (place_below code F depth b p ≡ Empty)
  neither-there none =
      let off = or-false (has m p) (has n p) (sym (has-or m n p) ∙ none) in
      (below-none cmp code F depth a first p is_first (sym (at_first p small) ∙ off.0), below-none cmp code F depth b second p is_second (sym (at_second p small) ∙ off.1))

  -- one has nothing where the positions of both aren't
  pub one-missing : has (bit_and m n) p ≡ false → (place_below code F depth a p ≡ Empty) ⊎ (place_below code F depth b p ≡ Empty)
  one-missing none = elim (and-false (has m p) (has n p) (sym (has-and m n p) ∙ none)) [
    | inl off ↦ inl (below-none cmp code F depth a first p is_first (sym (at_first p small) ∙ off))
    | inr off ↦ inr (below-none cmp code F depth b second p is_second (sym (at_second p small) ∙ off))
  ]

-- a position of what is left of a set
later-bit : (set from p : ℕ) → from ≤ p → bit_at set p ≡ bit_at (set / 2 ^ from) (p - from)
later-bit set from p after =
    let at : from + (p - from) ≡ p = omega (arith, after) in
    sym (ap (λ i. bit_at set i) at) ∙ sym (ap (λ n. n % 2) (shr-shr set from (p - from)))

-- where nothing is left of a set, it has no position further on
pub none-later : (set from p : ℕ) → set / 2 ^ from ≡ 0 → from ≤ p → has set p ≡ false
none-later set from p none after = ap (λ n. nat_eq n 1) (later-bit set from p after ∙ ap (λ n. bit_at n (p - from)) none) ∙ has-none (p - from)

-- it has none before the lowest of what is left
pub none-before : (set from p : ℕ) → 0 < set / 2 ^ from → set / 2 ^ from < 2 ^ 32 → from ≤ p → p < from + trailing_zeros w32 (set / 2 ^ from) → has set p ≡ false
none-before set from p some fits after before =
    let low = bit_at-trailing_zeros w32 (set / 2 ^ from) some fits in
    ap (λ n. nat_eq n 1) (later-bit set from p after ∙ low.2 (p - from) (omega (arith, after, before)))

-- and that is one of 32
pub lowest-low : (set from : ℕ) → set < 2 ^ 32 → 0 < set / 2 ^ from → set / 2 ^ from < 2 ^ 32 → from + trailing_zeros w32 (set / 2 ^ from) < 32
lowest-low set from all some fits =
    let low = bit_at-trailing_zeros w32 (set / 2 ^ from) some fits in
    let there : bit_at set (from + trailing_zeros w32 (set / 2 ^ from)) ≡ 1 = sym (ap (λ n. n % 2) (shr-shr set from (trailing_zeros w32 (set / 2 ^ from)))) ∙ low.1 in
    elim (cases_lt (from + trailing_zeros w32 (set / 2 ^ from)) 32) [
      | inl small ↦ small
      | inr high ↦ (let off = bit_at_above set 32 (from + trailing_zeros w32 (set / 2 ^ from)) all high in absurd (omega (arith, off, there)))
    ]

-- numbers that are nothing from one on add nothing
pub sum-on : (f : ℕ → ℕ) (n m : ℕ) → ((p : ℕ) → n ≤ p → p < n + m → f p ≡ 0) → sum_below (n + m) f ≡ sum_below n f
sum-on f n zero none = ap (λ i. sum_below i f) (let same : n + 0 ≡ n = omega arith in same)
sum-on f n (suc m) none =
    let more : n + suc m ≡ suc (n + m) = omega arith in
    let last : f (n + m) ≡ 0 = none (n + m) (omega arith) (omega arith) in
    let before : sum_below (n + m) f ≡ sum_below n f = sum-on f n m (λ p after low. none p after (omega (arith, low))) in
    ap (λ i. sum_below i f) more ∙ omega (arith, sum-next f (n + m), last, before)

module _ {K : Type 0} (cmp : K → K → Ordering) (code : K → ℕ) (most : ℕ) (F : Forms K) (k : Keeps) (left depth : ℕ) (a b : Place) (first second : Side) (m n : ℕ)
    (is_first : IsSide code F depth a first) (is_second : IsSide code F depth b second)
    (at_first : (q : ℕ) → q < 32 → has m q ≡ has_place first q) (at_second : (q : ℕ) → q < 32 → has n q ≡ has_place second q)
    (p q : ℕ) (after : p ≤ q) (low : q ≤ 32) where
  -- up to the next position at which both have something, nothing is needed
  pub need-on : ((i : ℕ) → p ≤ i → i < q → has (bit_and m n) i ≡ false) → sum_below q (position_need cmp code most F k left depth a b) ≡ sum_below p (position_need cmp code most F k left depth a b)
  need-on none =
      let to : p + (q - p) ≡ q = omega (arith, after) in
      sym (ap (λ i. sum_below i (position_need cmp code most F k left depth a b)) to)
      ∙ sum-on (position_need cmp code most F k left depth a b) p (q - p)
      (λ i above below. need-skip cmp code most F k left depth a b i
      (one-missing cmp code F depth a b first second m n i (omega (arith, below, to, low)) is_first is_second at_first at_second (none i above (omega (arith, below, to)))))

-- positions at which nothing stands, one after another
module _ {T : Type 0} (cmp : T → T → Ordering) (o : IsTotalOrder cmp) (code : T → ℕ) (agree : (i j : T) → cmp i j ≡ Equal → code i ≡ code j) (most : ℕ) (k : Keeps) (F : Forms T) (old now : Heap T) (left depth : ℕ) (a b : Place) (E D : List (Entry T))
    (are : AreSides cmp code F (suc left) depth a b E D) (s : Spread) where
  skip-on : KeepsForms F (form_at now) → (n m : ℕ) → n + m ≤ 32 → ((p : ℕ) → n ≤ p → p < n + m → (place_below code F depth a p ≡ Empty) × (place_below code F depth b p ≡ Empty))
      → IsSpread cmp code most k F old now left depth a b (merged cmp k E D) s n → IsSpread cmp code most k F old now left depth a b (merged cmp k E D) s (n + m)
  skip-on keeps n zero low none is = subst (λ i. IsSpread cmp code most k F old now left depth a b (merged cmp k E D) s i) (let same : n ≡ n + 0 = omega arith in same) is
  skip-on keeps n (suc m) low none is =
      let here = none n (omega arith) (omega arith) in
      let one = spread-skip cmp o code most k F old now left depth a b E D s n (omega (arith, low)) is are keeps agree is.builds.graph here.0 here.1 in
      subst (λ i. IsSpread cmp code most k F old now left depth a b (merged cmp k E D) s i) (let more : (n + 1) + m ≡ n + suc m = omega arith in more)
      (skip-on keeps (n + 1) m (omega (arith, low)) (λ p after before. none p (omega (arith, after)) (omega (arith, before))) one)

  -- the positions up to the next one at which one has something
  pub spread-on : (keeps : KeepsForms F (form_at old)) (then : KeepsForms (form_at old) (form_at now)) (first second : Side) (m n : ℕ) → IsSide code (form_at now) depth a first → IsSide code (form_at now) depth b second
      → ((q : ℕ) → q < 32 → has m q ≡ has_place first q) → ((q : ℕ) → q < 32 → has n q ≡ has_place second q)
      → (p q : ℕ) → p ≤ q → q ≤ 32 → ((i : ℕ) → p ≤ i → i < q → has (bit_or m n) i ≡ false)
      → IsSpread cmp code most k F old now left depth a b (merged cmp k E D) s p → IsSpread cmp code most k F old now left depth a b (merged cmp k E D) s q
  spread-on keeps then first second m n is_first is_second at_first' at_second' p q after low none is =
      let to : p + (q - p) ≡ q = omega (arith, after) in
      subst (λ i. IsSpread cmp code most k F old now left depth a b (merged cmp k E D) s i) to
      (skip-on (record { kept = λ l f so. then.kept l f (keeps.kept l f so) }) p (q - p) (omega (arith, to, low))
      (λ i above below.
      let nothing = neither-there cmp code (form_at now) depth a b first second m n i (omega (arith, below, to, low)) is_first is_second at_first' at_second' (none i above (omega (arith, below, to))) in (
        sym (at-first cmp code F left depth a b E D are (form_at old) (form_at now) keeps then i) ∙ nothing.0,
        sym (at-second cmp code F left depth a b E D are (form_at old) (form_at now) keeps then i) ∙ nothing.1,
      )) is)

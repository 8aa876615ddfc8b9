-- Sets of positions, counted from below.
use Rattle.std.proofs.Common.{◌≡◌, ℕ, suc, zero, ◌-◌, ◌+◌, ◌*◌, ◌/◌, ◌%◌, ◌<◌, ◌≤◌, ◌^◌, refl, ap, ◌∙◌, arith, true, false}
use Rattle.std.specs.Prelude.{count_ones, nat_eq}
use Rattle.std.specs.Int.{bit_at}
use Rattle.std.specs.Int.Bits.{bit_and}
use lib.Count.{ones, ones_cat}
use Rattle.std.proofs.lemmas.Nat.{mod-pow-add, pow_pos, one_shl, and_mask}
use Rattle.std.proofs.lemmas.Bool.{cases_lt, eqb-true, eqb-false, eq-eqb}
use Rattle.std.proofs.lemmas.Nat.Bits.{bit_at-lt}
use Rattle.std.proofs.Common.{inl, inr}
use Rattle.champ_trie.specs.Bits.{has, rank, GainsPosition}

-- how many ones a number has below p
pub ones-rank : (s p : ℕ) → count_ones (s % 2 ^ p) ≡ rank s p
unfolding rank ones
ones-rank s zero = let e : s % 1 ≡ 0 = omega arith in rw e refl
ones-rank s (suc p) =
    let split : s % 2 ^ (1 + p) ≡ (s / 2 ^ p % 2 ^ 1) * 2 ^ p + s % 2 ^ p = mod-pow-add s 1 p in
    let cat : ones ((s / 2 ^ p % 2) * 2 ^ p + s % 2 ^ p) ≡ ones (s / 2 ^ p % 2) + ones (s % 2 ^ p) = ones_cat p (s / 2 ^ p % 2) (s % 2 ^ p) (mod-lt s (2 ^ p) (pow_pos p)) in
    let one : 1 + p ≡ suc p = omega arith in
    let bit : ones (s / 2 ^ p % 2) ≡ s / 2 ^ p % 2 = ones-bit (s / 2 ^ p % 2) (mod-lt (s / 2 ^ p) 2 (omega arith)) in
    let rest : ones (s % 2 ^ p) ≡ rank s p = ones-rank s p in
    rw one at (ap ones split) ∙ cat ∙ omega (arith, bit, rest)
  where
    ones-bit : (b : ℕ) → b < 2 → ones b ≡ b
    ones-bit zero h = refl
    ones-bit (suc zero) h = refl
    ones-bit (suc (suc b)) h = absurd (omega arith)

    mod-lt : (a m : ℕ) → 0 < m → a % m < m
    mod-lt a m h = omega arith

-- the code's index
pub index-rank : (s p : ℕ) → p < 32 → count_ones (bit_and s (1 * 2 ^ p % 2 ^ 32 - 1)) ≡ rank s p
index-rank s p h = rw (one_shl p 32 h, and_mask s p) (ones-rank s p)

pub rank-le : (s p : ℕ) → rank s p ≤ p
unfolding rank
rank-le s zero = omega arith
rank-le s (suc p) = let here : rank s p ≤ p = rank-le s p in let bit : bit_at s p < 2 = bit_at-lt s p in omega arith

pub rank-mono : (s p n : ℕ) → p ≤ n → rank s p ≤ rank s n
unfolding rank
rank-mono s p zero h = let e : p ≡ zero = omega arith in rw e (omega arith)
rank-mono s p (suc n) h =
    elim (cases_lt n p) [ inl lt ↦ (let e : p ≡ suc n = omega arith in rw e (omega arith)) | inr ge ↦ (let here : rank s p ≤ rank s n = rank-mono s p n ge in omega arith) ]

pub rank-lt : (s p n : ℕ) → p < n → has s p ≡ true → rank s p < rank s n
unfolding rank
rank-lt s p n h t =
    let bit : bit_at s p ≡ 1 = eqb-true (bit_at s p) 1 t in
    let more : rank s (suc p) ≤ rank s n = rank-mono s (suc p) n h in
    let next : rank s (suc p) ≡ rank s p + bit_at s p = refl in
    omega arith

pub count-rank : (s : ℕ) → s < 2 ^ 32 → count_ones s ≡ rank s 32
count-rank s h = let e : s % 2 ^ 32 ≡ s = omega arith in rw e at (ones-rank s 32)

-- each place below the count is a position's rank
pub rank-onto : (s n k : ℕ) → k < rank s n → (p : ℕ) × (p < n) × (has s p ≡ true) × (rank s p ≡ k)
unfolding rank
rank-onto s zero k h = absurd (omega arith)
rank-onto s (suc n) k h =
    elim (cases_lt k (rank s n)) [
      | inl lt ↦ (let r = rank-onto s n k lt in (r.0, omega (arith, r.1), r.2, r.3))
      | inr ge ↦ (let bit : bit_at s n < 2 = bit_at-lt s n in (n, omega arith, eq-eqb (bit_at s n) 1 (omega arith), omega arith))
    ]

pub rank-agree : (a b p : ℕ) → ((q : ℕ) → q < p → bit_at a q ≡ bit_at b q) → rank a p ≡ rank b p
unfolding rank
rank-agree a b zero h = refl
rank-agree a b (suc p) h =
    let rest : rank a p ≡ rank b p = rank-agree a b p (λ q lt. h q (omega arith)) in
    let here : bit_at a p ≡ bit_at b p = h p (omega arith) in
    omega arith

pub rank-gain_below : (a b p q : ℕ) → GainsPosition a b p → p < 32 → q ≤ p → rank b q ≡ rank a q
rank-gain_below a b p q g small le = rank-agree b a q (λ k lt. g.others k (omega arith) (λ e. omega arith))

pub rank-gain_above : (a b p q : ℕ) → GainsPosition a b p → p < 32 → p < q → q ≤ 32 → rank b q ≡ rank a q + 1
unfolding rank
rank-gain_above a b p zero g small lt le = absurd (omega arith)
rank-gain_above a b p (suc q) g small lt le =
    elim (cases_lt p q) [
      | inl more ↦ (let rest : rank b q ≡ rank a q + 1 = rank-gain_above a b p q g small more (omega arith) in let same : bit_at b q ≡ bit_at a q = g.others q (omega arith) (λ e. omega arith) in omega arith)
      | inr here ↦ (let e : q ≡ p = omega arith in let rest : rank b q ≡ rank a q = rank-gain_below a b p q g small (omega arith) in let was : bit_at a q ≡ 0 = rw e g.was in let is : bit_at b q ≡ 1 = rw e g.is in omega arith)
    ]

pub has-bit : (s p : ℕ) → bit_at s p ≡ 1 → has s p ≡ true
has-bit s p h = eq-eqb (bit_at s p) 1 h

pub bit-has : (s p : ℕ) → has s p ≡ true → bit_at s p ≡ 1
bit-has s p h = eqb-true (bit_at s p) 1 h

pub no-bit : (s p : ℕ) → bit_at s p ≡ 0 → has s p ≡ false
no-bit s p h = let is : nat_eq (bit_at s p) 1 ≡ nat_eq 0 1 = ap (λ b. nat_eq b 1) h in is

pub bit-no : (s p : ℕ) → has s p ≡ false → bit_at s p ≡ 0
bit-no s p h = let ne = eqb-false (bit_at s p) 1 h in let lt : bit_at s p < 2 = bit_at-lt s p in omega (arith, ne)

pub has-same : (a b q : ℕ) → bit_at b q ≡ bit_at a q → has b q ≡ has a q
has-same a b q e = ap (λ n. nat_eq n 1) e

-- the empty set
bit-none : (p : ℕ) → bit_at 0 p ≡ 0
bit-none p = let lt : bit_at 0 p < 2 = bit_at-lt 0 p in omega arith

pub has-none : (p : ℕ) → has 0 p ≡ false
has-none p = no-bit 0 p (bit-none p)

pub rank-none : (p : ℕ) → rank 0 p ≡ 0
unfolding rank
rank-none zero = refl
rank-none (suc p) = omega (arith, rank-none p, bit-none p)

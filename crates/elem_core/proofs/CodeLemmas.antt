-- Codes by their digits: the one place where the width of a code and the depth of its last digit meet.
use Rattle.std.proofs.Common.{◌≡◌, ℕ, zero, suc, ◌+◌, ◌*◌, ◌%◌, ◌^◌, ◌<◌, ◌≤◌, ap, sym, subst, ◌∙◌, arith}
use Rattle.std.proofs.lemmas.Nat.{mod-pow-add, pow_pos}
use Rattle.std.proofs.Math.Pow.{pow_mono}
use Rattle.elem_core.specs.Codes.{digit_at, masked_code}
use Rattle.elem_core.specs.declared.codes.TheConstants.{CODE_BITS, DEEPEST, LEVELS}

-- the bits above a depth and a digit more
pub digit-more : (x d : ℕ) → x % 2 ^ (5 * (d + 1)) ≡ digit_at x d * 2 ^ (5 * d) + x % 2 ^ (5 * d)
digit-more x d = let same : 5 + 5 * d ≡ 5 * (d + 1) = omega arith in subst (λ n. x % 2 ^ n ≡ digit_at x d * 2 ^ (5 * d) + x % 2 ^ (5 * d)) same (mod-pow-add x 5 (5 * d))

-- numbers that have the same digits at the first depths agree on these depths' bits
pub same-front : (n x y : ℕ) → ((d : ℕ) → d < n → digit_at x d ≡ digit_at y d) → x % 2 ^ (5 * n) ≡ y % 2 ^ (5 * n)
same-front zero x y same = omega arith
same-front (suc n) x y same =
    let front : x % 2 ^ (5 * n) ≡ y % 2 ^ (5 * n) = same-front n x y (λ d less. same d (omega (arith, less))) in
    let last : digit_at x n ≡ digit_at y n = same n (omega arith) in
    let both : x % 2 ^ (5 * (n + 1)) ≡ y % 2 ^ (5 * (n + 1)) =
    digit-more x n ∙ ap (λ a. a * 2 ^ (5 * n) + x % 2 ^ (5 * n)) last ∙ ap (λ r. digit_at y n * 2 ^ (5 * n) + r) front ∙ sym (digit-more y n) in
    subst (λ m. x % 2 ^ (5 * m) ≡ y % 2 ^ (5 * m)) (omega arith) both

-- a code has no bits behind its last digit
pub all-bits : (c : ℕ) → c < 2 ^ CODE_BITS → c % 2 ^ (5 * LEVELS) ≡ c
all-bits c low =
    let longer : CODE_BITS ≤ 5 * LEVELS = omega arith in
    let wide : 2 ^ CODE_BITS ≤ 2 ^ (5 * LEVELS) = pow_mono longer in
    omega (arith, low, wide)

-- codes that agree above all depths are equal
pub same-bits : (x y : ℕ) → x < 2 ^ CODE_BITS → y < 2 ^ CODE_BITS → x % 2 ^ (5 * LEVELS) ≡ y % 2 ^ (5 * LEVELS) → x ≡ y
same-bits x y low_x low_y same = sym (all-bits x low_x) ∙ same ∙ all-bits y low_y

-- codes that agree on all digits are equal
pub same-digits : (x y : ℕ) → x < 2 ^ CODE_BITS → y < 2 ^ CODE_BITS → ((d : ℕ) → d ≤ DEEPEST → digit_at x d ≡ digit_at y d) → x ≡ y
same-digits x y low_x low_y same = same-bits x y low_x low_y (same-front LEVELS x y (λ d less. same d (omega (arith, less))))

-- a masked code is a code
pub masked-small : (n bits : ℕ) → bits ≤ CODE_BITS → masked_code n bits < 2 ^ CODE_BITS
masked-small n bits le =
    let some : 0 < 2 ^ bits = pow_pos bits in
    let wide : 2 ^ bits ≤ 2 ^ CODE_BITS = pow_mono le in
    let less : n % 2 ^ bits < 2 ^ bits = omega (arith, some) in
    omega (arith, less, wide)

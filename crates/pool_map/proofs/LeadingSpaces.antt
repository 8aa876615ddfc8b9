-- A text that begins with no space.
use Rattle.std.proofs.Common.{◌≡◌, ℕ, ◌+◌, cond, false, [], ◌∷◌, drop, refl, ap, ◌∙◌, arith, inl, inr}
use Rattle.std.specs.Prelude.{◌≢◌, ◌==◌, min}
use Rattle.std.proofs.lemmas.Bool.{cases_eq}
use Rattle.std.proofs.lemmas.Bool.Decides.{nat_tests}
use Rattle.std.proofs.Math.Nat.{min-zero}
use Rattle.pool_text.specs.Rows.{Bytes}
use Rattle.pool_map.specs.Spaces.{leading, dedented}

stays : (n : ℕ) (text : Bytes) → leading text ≡ 0 → dedented n text ≡ text
stays n text none = ap (λ k. drop (min n k) text) none ∙ ap (λ k. drop k text) (min-zero n)

other-byte : (x : ℕ) → x ≢ 32 → (x == 32) ≡ false
other-byte x other = grind (arith, nat_tests)

pub none-leading : (n : ℕ) (text : Bytes) → ((rest : Bytes) → text ≢ 32 ∷ rest) → dedented n text ≡ text
none-leading n [] none = stays n [] refl
none-leading n (x ∷ xs) none = elim (cases_eq x 32) as (λ _. dedented n (x ∷ xs) ≡ x ∷ xs) [
  | inl same ↦ absurd (none xs (ap (λ y. y ∷ xs) same))
  | inr other ↦ stays n (x ∷ xs) (ap (λ b. cond b (1 + leading xs) 0) (other-byte x other))
]

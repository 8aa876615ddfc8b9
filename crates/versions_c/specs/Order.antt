-- The order of values, and that equal ones have one code.
use Rattle.std.proofs.Common.{◌≡◌, ◌≢◌, ℕ, List, T, sym, ap, subst, ◌∙◌}
use Rattle.std.specs.Ordering.{nat_cmp, is_eq}
use Rattle.std.specs.FinMap.{nat_cmp-IsAntisymmetric, slice_cmp-IsAntisymmetric}
use Rattle.std.specs.Cmp.Lexicographic.{slice_cmp}
use Rattle.std.specs.declared.cmp.Ordering.{Ordering}
use Rattle.std.specs.declared.cmp.Ordering.TheVariants.{Less, Equal, Greater}
use Rattle.elem_core.specs.Codes.{text_code}
use Rattle.versions_c.specs.declared.value.Value.{Value}
use Rattle.versions_c.specs.declared.value.Value.TheVariants.{Number, Text}
use Rattle.versions_c.specs.Values.{value_code}

-- numbers go by their order and come before texts, which go by their bytes
pub record IsValueOrder (order : Value → Value → Ordering) : Type 0 where
  pub numbers : (a b : ℕ) → order (Number a) (Number b) ≡ nat_cmp a b
  pub before : (a : ℕ) (w : List ℕ) → order (Number a) (Text w) ≡ Less
  pub after : (v : List ℕ) (b : ℕ) → order (Text v) (Number b) ≡ Greater
  pub texts : (v w : List ℕ) → order (Text v) (Text w) ≡ slice_cmp nat_cmp v w

less-unequal : Less ≢ Equal
less-unequal e = subst (λ r. T (is_eq r)) (sym e) tt

greater-unequal : Greater ≢ Equal
greater-unequal e = subst (λ r. T (is_eq r)) (sym e) tt

pub value-codes : (order : Value → Value → Ordering) → IsValueOrder order → (x y : Value) → order x y ≡ Equal → value_code x ≡ value_code y
value-codes order is (Number a) (Number b) same = nat_cmp-IsAntisymmetric a b (sym (is.numbers a b) ∙ same)
value-codes order is (Number a) (Text w) same = absurd (less-unequal (sym (is.before a w) ∙ same))
value-codes order is (Text v) (Number b) same = absurd (greater-unequal (sym (is.after v b) ∙ same))
value-codes order is (Text v) (Text w) same = ap text_code (slice_cmp-IsAntisymmetric nat_cmp-IsAntisymmetric v w (sym (is.texts v w) ∙ same))

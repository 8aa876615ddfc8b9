use Rattle.std.proofs.Common.{refl}
use Rattle.elem_core.specs.Codes.{text_code, old_text_code}
use Rattle.elem_core.proofs.laws.worked_codes.Goals as goal

pub returns : goal.returns
unfolding text_code old_text_code
returns c = record {
  empty = record { is_code = refl; is_first = refl; is_second = refl; is_last = refl };
  small_a = record { is_code = refl; is_first = refl; is_second = refl; is_last = refl };
  small_b = record { is_code = refl; is_first = refl; is_second = refl; is_last = refl };
  large_a = record { is_code = refl; is_first = refl; is_second = refl; is_last = refl };
  old_small_a = refl;
  old_large_a = refl;
}

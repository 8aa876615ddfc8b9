-- What a name is.
use Rattle.std.specs.Prelude.{◌≢◌, ℕ, ◌≤◌, Bool, not, ◌||◌, ◌&&◌, nat_le, ◌==◌, List, length, slice_get, slice_index, Some}
use Rattle.std.specs.List.{AllPass, list_all}
use Rattle.elem_core.specs.declared.TheConstants.{MAX_NAME}

-- A byte of the alphabet of names: A to Z, a to z, 0 to 9, the full stop, the underline or the hyphen.
abbrev pub is_name_byte : ℕ → Bool
is_name_byte b =
    (nat_le 65 b && nat_le b 90) || (nat_le 97 b && nat_le b 122) || (nat_le 48 b && nat_le b 57) || (b == 46) || (b == 95) || (b == 45)

-- The bytes of a name: 1 to 64 of the alphabet, the first neither a full stop nor a hyphen.
pub record IsName (bytes : List ℕ) : Type 0 where
  pub some : 1 ≤ length bytes
  pub short : length bytes ≤ MAX_NAME
  pub alphabet : AllPass is_name_byte bytes
  pub no_stop_first : slice_get bytes 0 ≢ Some 46
  pub no_hyphen_first : slice_get bytes 0 ≢ Some 45

-- The test of `IsName`.
unfoldable pub is_name : List ℕ → Bool
is_name bytes =
    nat_le 1 (length bytes) && nat_le (length bytes) MAX_NAME && list_all is_name_byte bytes
    && not (slice_index bytes 0 == 46) && not (slice_index bytes 0 == 45)

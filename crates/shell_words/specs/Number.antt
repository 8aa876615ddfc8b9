-- Numbers as lines and options write them.
use Rattle.std.specs.Prelude.{ℕ, ◌-◌, ◌^◌, Bool, not, ◌&&◌, ◌==◌, nat_lt, nat_le, if◌then◌else◌}
use Rattle.std.specs.Prelude.{List, length, slice_index, Option, Some, None}
use Rattle.std.specs.Str.{all_ascii_digits}
use Rattle.std.specs.Str.Parse.{digits_value}

-- A zero stands first (48 is the byte `0`), and more follows.
abbrev pub leading_zero : List ℕ → Bool
leading_zero piece = slice_index piece 0 == 48 && nat_lt 1 (length piece)

-- One decimal digit or more without a leading zero, for a number of at most so much.
unfoldable pub is_number : ℕ → List ℕ → Bool
is_number most piece =
    nat_lt 0 (length piece) && all_ascii_digits piece && not (leading_zero piece)
    && nat_le (digits_value 10 piece) most

-- The number of at most so much that a piece writes, if it writes one.
unfoldable pub number_to : ℕ → List ℕ → Option ℕ
number_to most piece = if is_number most piece then Some (digits_value 10 piece) else None

-- The same for the numbers of a line, which have 32 bits.
abbrev pub number_of : List ℕ → Option ℕ
number_of piece = number_to (2 ^ 32 - 1) piece

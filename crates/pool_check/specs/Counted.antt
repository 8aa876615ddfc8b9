-- Lists that count up from 0.
use Rattle.std.specs.Prelude.{◌≡◌, ℕ, List, length, Option, Some, None}
use Rattle.std.specs.List.{range_with_len}

-- the list is 0, 1, 2 and so on
abbrev pub CountsUp : List ℕ → Type 0
CountsUp ks = ks ≡ range_with_len 0 (length ks)

-- the list counts up to the next number, or doesn't count up
abbrev pub CountsOn : List ℕ → Option ℕ → Type 0
CountsOn ks (Some next) = ks ≡ range_with_len 0 next
CountsOn ks None = ¬ CountsUp ks

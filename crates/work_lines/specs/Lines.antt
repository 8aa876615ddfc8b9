-- The lines that the program makes by itself, from a seed.
use Rattle.std.specs.Prelude.{ℕ, zero, suc, ◌+◌, ◌*◌, ◌/◌, ◌%◌, ◌^◌, nat_lt, ◌==◌, if◌then◌else◌, List, [], ◌∷◌, ◌++◌, map, codes}
use Rattle.std.specs.Fmt.{decimal}

-- The number that follows another: Knuth's linear congruential generator for 64 bits.
unfoldable pub next_number : ℕ → ℕ
next_number x = (x * 6364136223846793005 + 1442695040888963407) % 2 ^ 64

-- The parts of a number that a line is made of: its bits from 60 on, three from 57, three from 54, and 22 from 32.
abbrev pub kind_in : ℕ → ℕ
kind_in x = x / 2 ^ 60

abbrev pub buffer_in : ℕ → ℕ
buffer_in x = x / 2 ^ 57 % 8

abbrev pub other_in : ℕ → ℕ
other_in x = x / 2 ^ 54 % 8

abbrev pub size_in : ℕ → ℕ
size_in x = x / 2 ^ 32 % 2 ^ 22

-- The line of a kind, two buffers and a size.
unfoldable pub line_by : ℕ → ℕ → ℕ → ℕ → List ℕ
line_by kind a b n =
    if nat_lt kind 7 then codes "add w" ++ decimal a ++ codes " t" ++ decimal n
    else if nat_lt kind 9 then codes "set w" ++ decimal a ++ codes " " ++ decimal (n % 256) ++ codes " t" ++ decimal n
    else if kind == 9 then codes "put w" ++ decimal a ++ codes " " ++ decimal (n % 256) ++ codes " t" ++ decimal n
    else if kind == 10 then codes "del w" ++ decimal a ++ codes " " ++ decimal (n % 16) ++ codes " " ++ decimal (n % 16 + n / 16 % 16)
    else if kind == 11 then codes "copy w" ++ decimal a ++ codes " w" ++ decimal b
    else if kind == 12 then codes "undo"
    else if kind == 13 then codes "redo"
    else if kind == 14 then codes "cat w" ++ decimal a ++ codes " w" ++ decimal b
    else codes "mark v" ++ decimal n

-- The line of a number.
abbrev pub line_of : ℕ → List ℕ
line_of x = line_by (kind_in x) (buffer_in x) (other_in x) (size_in x)

-- So many lines, each of the next number.
unfoldable pub lines_from : ℕ → ℕ → List (List ℕ)
lines_from zero x = []
lines_from (suc count) x = line_of (next_number x) ∷ lines_from count (next_number x)

-- The line that makes a buffer.
abbrev pub new_line : ℕ → List ℕ
new_line b = codes "new w" ++ decimal b

-- All lines of a seed and a number of lines: eight buffers are made first.
unfoldable pub work_lines : ℕ → ℕ → List (List ℕ)
work_lines seed count = map new_line (0 ∷ 1 ∷ 2 ∷ 3 ∷ 4 ∷ 5 ∷ 6 ∷ 7 ∷ []) ++ lines_from count seed

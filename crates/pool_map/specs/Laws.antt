-- Laws of mapped pools, by whatever rules.
use Rattle.std.specs.Prelude.{◌≡◌, ◌↔◌, ℕ, Bool, true, length}
use Rattle.std.specs.List.{All}
use Rattle.elem_core.specs.Cell.{IsCell}
use Rattle.pool_text.specs.Rows.{Bytes}
use Rattle.pool_text.specs.Rules.{Rules}
use Rattle.pool_text.specs.declared.pool.Pool.{Pool}
use Rattle.pool_check.specs.Damages.{IsValidBy}
use Rattle.plain_space.specs.Workspace.{Workspace, all_lines_pass}
use Rattle.plain_space.specs.Refusing.{has_room_for}
use Rattle.plain_space.specs.Lines.{IsLineIn}
use Rattle.state_rows.specs.Standing.{StandsForBy}
use Rattle.pool_carry.specs.Laws.{HasDigits}
use Rattle.pool_map.specs.Lines.{line_texts}
use Rattle.pool_map.specs.Mapped.{mapped}
use Rattle.pool_map.specs.Plain.{changed_space}
use Rattle.pool_map.specs.Spaces.{indented, dedented}
use Rattle.pool_map.specs.Named.{KeepsLines}

-- the image of each line is a line
abbrev pub KeepsCells : (Bytes → Bytes) → Pool → Type 0
KeepsCells change P = All (λ text. IsCell (change text)) (line_texts P)

-- the mapped pool of a valid pool is valid
abbrev pub MappedIsValid : Type 0
MappedIsValid = (rules : Rules) (change : Bytes → Bytes) (P : Pool) → HasDigits rules P.bits → IsValidBy rules P → KeepsCells change P → IsValidBy rules (mapped change P)

-- it stands for the pool's workspace with each line of each state changed
abbrev pub MappedStands : Type 0
MappedStands = (rules : Rules) (change : Bytes → Bytes) (P : Pool) (W : Workspace) → IsValidBy rules P → KeepsCells change P → StandsForBy rules P W → StandsForBy rules (mapped change P) (changed_space change W)

-- two lines are one cell exactly where they were
abbrev pub MappedKeepsLines : Type 0
MappedKeepsLines = (rules : Rules) (change : Bytes → Bytes) (P : Pool) → IsValidBy rules P → KeepsLines P (mapped change P)

-- a test holds of the texts of all line cells exactly where it holds of all lines of the states
abbrev pub LinesAreOfStates : Type 0
LinesAreOfStates = (rules : Rules) (P : Pool) (W : Workspace) (test : Bytes → Bool) → HasDigits rules P.bits → length P.roots ≡ 4 → IsValidBy rules P → StandsForBy rules P W
    → (All (λ text. test text ≡ true) (line_texts P)) ↔ ((text : Bytes) → IsLineIn W text → test text ≡ true)

-- so many spaces before each line make lines exactly where each line of each state has room for them
abbrev pub IndentNeedsRoom : Type 0
IndentNeedsRoom = (rules : Rules) (P : Pool) (W : Workspace) (n : ℕ) → HasDigits rules P.bits → length P.roots ≡ 4 → IsValidBy rules P → StandsForBy rules P W
    → KeepsCells (indented n) P ↔ (all_lines_pass (has_room_for n) W ≡ true)

-- a line without leading spaces is always one
abbrev pub DedentKeepsLines : Type 0
DedentKeepsLines = (rules : Rules) (P : Pool) (n : ℕ) → IsValidBy rules P → KeepsCells (dedented n) P

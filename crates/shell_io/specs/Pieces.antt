-- The pieces of an input: its bytes split at each newline.
use Rattle.std.specs.Prelude.{◌≡◌, ℕ, ◌<◌, List, [], ◌∷◌, length, take, nat_le, ◌==◌, if◌then◌else◌}
use Rattle.std.specs.List.{Contains}
use Rattle.elem_core.specs.declared.TheConstants.{MAX_LINE, NEWLINE}

-- a byte before the first piece; with no piece there it is one by itself
abbrev pub at_front : ℕ → List (List ℕ) → List (List ℕ)
at_front byte [] = (byte ∷ []) ∷ []
at_front byte (first ∷ others) = (byte ∷ first) ∷ others

-- a byte before the first piece; with no piece there it is in none
abbrev pub before_first : ℕ → List (List ℕ) → List (List ℕ)
before_first byte [] = []
before_first byte (first ∷ others) = (byte ∷ first) ∷ others

-- the bytes split at each newline; an empty rest is no piece
unfoldable pub pieces : List ℕ → List (List ℕ)
pieces [] = []
pieces (byte ∷ bytes) = if byte == NEWLINE then [] ∷ pieces bytes else at_front byte (pieces bytes)

-- the pieces that a newline ends
unfoldable pub ended : List ℕ → List (List ℕ)
ended [] = []
ended (byte ∷ bytes) = if byte == NEWLINE then [] ∷ ended bytes else before_first byte (ended bytes)

-- the pieces that end within the first n bytes: the newline is one of these bytes, or it is the
-- last piece, has no newline, and there are at most n bytes
abbrev pub pieces_within : ℕ → List ℕ → List (List ℕ)
pieces_within n bytes = if nat_le (length bytes) n then pieces bytes else ended (take n bytes)

-- each piece of the bytes is ended by a newline
abbrev pub IsWhole : List ℕ → Type 0
IsWhole bytes = ended bytes ≡ pieces bytes

-- a piece that is too long to be a line
abbrev pub IsOverlong : List ℕ → Type 0
IsOverlong piece = MAX_LINE < length piece

-- no byte is a newline
abbrev pub IsUnbroken : List ℕ → Type 0
IsUnbroken bytes = ¬ Contains bytes NEWLINE

-- What a reader of lines is, where it stands in an input, and what its answers say.
use Rattle.std.specs.Prelude.{◌≡◌, ℕ, ◌+◌, ◌-◌, ◌<◌, ◌≤◌, Bool, true, false, if◌then◌else◌, List, [], ◌∷◌, ◌++◌, length, take, drop, None, Some}
use Rattle.std.specs.declared.option.Option.{Option}
use Rattle.shell_io.specs.declared.reader.Next.{Next}
use Rattle.shell_io.specs.declared.reader.Next.TheVariants.{Line, Long, End, Budget, Failed}
use Rattle.elem_core.specs.declared.TheConstants.{NEWLINE}
use Rattle.shell_io.specs.Pieces.{pieces, ended, pieces_within, IsWhole, IsOverlong, IsUnbroken}

-- a reader of lines
pub record Reading : Type 0 where
  -- how many bytes it has taken from the source
  pub taken : ℕ
  -- how many of these stood in the pieces that it has given, with their newlines
  pub given : ℕ
  -- how many bytes of the next piece it has let go, since that piece is too long anyway
  pub let_go : ℕ
  -- the bytes that it has taken and neither given nor let go
  pub held : List ℕ
  -- the line that it gave last, or none
  pub line : List ℕ
  -- within how many bytes a line has to end, once the first call has said so
  pub most : Option ℕ
  -- the source has come to its end
  pub at_end : Bool
  -- what it answers from now on, once that is settled
  pub settled : Option Next

-- the pieces that the reader has given, in order
abbrev pub pieces_given : List ℕ → Reading → List (List ℕ)
pieces_given input reader = pieces (take reader.given input)

-- what the reader's last answer says: there is no further piece to give
abbrev pub HasGivenAll : ℕ → List ℕ → Reading → Next → Type 0
HasGivenAll most input reader End =
    (pieces_given input reader ≡ pieces input) × (reader.taken ≡ length input) × (length input ≤ most)
HasGivenAll most input reader Budget =
    (pieces_given input reader ≡ pieces_within most input) × (reader.taken ≡ most + 1)
HasGivenAll most input reader _ = ⊥

-- The reader stands in this input: what it has taken is the input's front, and the source has the rest.
pub record StandsIn (input : List ℕ) (reader : Reading) (left : Option (List ℕ)) : Type 0 where
  pub within : reader.taken ≤ length input
  pub left_is : left ≡ Some (drop reader.taken input)
  -- the bytes of the pieces given, and the bytes let go
  pub before : List ℕ
  pub front : List ℕ
  pub taken_is : take reader.taken input ≡ before ++ (front ++ reader.held)
  pub given_is : length before ≡ reader.given
  pub let_go_is : length front ≡ reader.let_go
  pub unbroken : IsUnbroken front
  -- each piece given was ended by a newline, but for the input's last
  pub whole : reader.at_end ≡ false → IsWhole before
  pub whole_so_far : reader.given < reader.taken → IsWhole before
  pub end_is : reader.at_end ≡ true → reader.taken ≡ length input
  pub settled_is : (most : ℕ) (answer : Next) → reader.most ≡ Some most → reader.settled ≡ Some answer → HasGivenAll most input reader answer

-- the reader gave the next piece, and that piece ends within the first `most` bytes
pub record GivesNext (most : ℕ) (input : List ℕ) (old new : Reading) (piece : List ℕ) : Type 0 where
  pub next : pieces_given input new ≡ pieces_given input old ++ piece ∷ []
  pub in_time : (others : List (List ℕ)) × (pieces_within most input ≡ pieces_given input new ++ others)

-- the reader gave no further piece
abbrev pub GivesNone : Reading → Reading → Type 0
GivesNone old new = new.given ≡ old.given

-- what each answer says of an input in which the reader stands
abbrev pub Answers : ℕ → List ℕ → Reading → Reading → Next → Type 0
Answers most input old new Line = GivesNext most input old new new.line
Answers most input old new Long = (piece : List ℕ) × IsOverlong piece × GivesNext most input old new piece
Answers most input old new Failed = GivesNone old new × (pieces_given input new ≡ ended (take new.taken input))
Answers most input old new last = GivesNone old new × HasGivenAll most input new last

-- the reader has taken and given the same bytes as before
pub record SamePlace (old new : Reading) : Type 0 where
  pub taken : new.taken ≡ old.taken
  pub given : new.given ≡ old.given
  pub most : new.most ≡ old.most
  pub at_end : new.at_end ≡ old.at_end
  pub settled : new.settled ≡ old.settled

-- how many bytes may be taken in all: one more than the most, and none before that is known
abbrev pub limit_of : Option ℕ → ℕ
limit_of None = 0
limit_of (Some most) = most + 1

-- how many bytes the reader may still take, of one more than the most in all: none once the source has come to its end
abbrev pub may_take : ℕ → Reading → ℕ
may_take most reader = if reader.at_end then 0 else most + 1 - reader.taken

-- a newline follows so many of the bytes held
pub record EndsByNewline (r : Reading) (count end : ℕ) : Type 0 where
  pub one : end ≡ 1
  pub newline : r.held ≡ take count r.held ++ NEWLINE ∷ drop (count + 1) r.held

-- the source ends behind so many of the bytes held
pub record EndsBySource (r : Reading) (count end : ℕ) : Type 0 where
  pub none : end ≡ 0
  pub all : count ≡ length r.held
  pub at_end : r.at_end ≡ true
  pub some : 0 < r.let_go + count

-- the reader has given a piece that ends behind so many of the bytes held
pub record Passes (old new : Reading) (count end : ℕ) : Type 0 where
  pub taken : new.taken ≡ old.taken
  pub given : new.given ≡ old.given + (old.let_go + (count + end))
  pub let_go : new.let_go ≡ 0
  pub held : new.held ≡ drop (count + end) old.held
  pub most : new.most ≡ old.most
  pub at_end : new.at_end ≡ old.at_end
  pub settled : new.settled ≡ None

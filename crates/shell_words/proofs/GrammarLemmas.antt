-- What the words of the grammar give, case by case.
use Rattle.std.proofs.Common.{◌≡◌, ℕ, ◌+◌, ◌<◌, ◌≤◌, Bool, true, false, not, ◌||◌, cond, List, [], ◌∷◌, length, drop, get_or, Some, None, Result, Ok, Err, is_ok, suc, sym, ap, refl, ◌∙◌, arith, ltb, length-drop}
use Rattle.std.specs.List.{list_any, position, position_or_len, after_first}
use Rattle.std.specs.Str.{IsCharBoundary, IsUtf8}
use Rattle.std.proofs.lemmas.Bool.{eqb-true, lt-ltb, le-ltb, false≢true}
use Rattle.std.proofs.lemmas.Bool.Decides.{nat_tests}
use Rattle.std.proofs.lemmas.Grind.{common_steps}
use Rattle.std.proofs.lemmas.List.{get_or-drop}
use Rattle.std.proofs.lemmas.List.Quantifiers.{position-Some}
use Rattle.std.proofs.lemmas.List.Sums.{prefix_len-le-length}
use Rattle.std.proofs.lemmas.Str.{IsCharBoundary-after_ascii}
use Rattle.elem_core.specs.Cell.{IsCell}
use Rattle.elem_core.specs.Naming.{IsName, is_name}
use Rattle.shell_terms.specs.Command.{PlainCommand, len}
use Rattle.shell_words.specs.declared.BadLine.{BadLine}
use Rattle.shell_words.specs.declared.BadLine.TheVariants as refused
use Rattle.elem_core.proofs.NamingLemmas.{is_name-yes, is_name-no}
use Rattle.shell_words.specs.Grammar.{is_space, first_piece, after_piece, if_named}

-- one element more, in front
within_step : (here later : Bool) (i n : ℕ) → later ≡ ltb i n → (here || later) ≡ ltb (cond (not here) (1 + i) 0) (suc n)
within_step true later i n h = grind (arith, nat_tests)
within_step false later i n h = grind (arith, nat_tests)

-- an element passes just where the first that passes stands within the list
list_any_within : (p : ℕ → Bool) (xs : List ℕ) → list_any p xs ≡ ltb (position_or_len p xs) (length xs)
list_any_within p [] = refl
list_any_within p (x ∷ xs) = within_step (p x) (list_any p xs) (position_or_len p xs) (length xs) (list_any_within p xs)

-- with a space, a piece ends before it
pub after_piece-spaced : (bytes : List ℕ) → position_or_len is_space bytes < length bytes → after_piece bytes ≡ Some (after_first is_space bytes)
unfolding after_piece
after_piece-spaced bytes within =
    let e : list_any is_space bytes ≡ true = list_any_within is_space bytes ∙ lt-ltb _ _ within in
    rw e refl

-- without one, the line ends with the piece
pub after_piece-unspaced : (bytes : List ℕ) → position_or_len is_space bytes ≡ length bytes → after_piece bytes ≡ None
unfolding after_piece
after_piece-unspaced bytes whole =
    let e : list_any is_space bytes ≡ false = list_any_within is_space bytes ∙ le-ltb _ _ (omega arith) in
    rw e refl

-- and the piece is the whole line
pub first_piece-unspaced : (bytes : List ℕ) → position_or_len is_space bytes ≡ length bytes → first_piece bytes ≡ bytes
unfolding first_piece
first_piece-unspaced bytes whole = grind (arith, common_steps)

-- the place of the first space, and that a piece ends there as a text may
pub record Spaced (bytes : List ℕ) (at : ℕ) : Type 0 where
  pub first : position_or_len is_space bytes ≡ at
  pub inside : at < length bytes
  pub before : IsCharBoundary bytes at
  pub behind : IsUtf8 bytes → IsCharBoundary bytes (at + 1)

pub spaced : (bytes : List ℕ) (at : ℕ) → position is_space bytes ≡ Some at → Spaced bytes at
spaced bytes at is =
    let found = position-Some is_space bytes at 0 is in
    let space : get_or bytes at 0 ≡ 32 = eqb-true _ _ found.1 in
    let first : position_or_len is_space bytes ≡ at = grind (arith, common_steps) in
    record {
      first = first;
      inside = found.0;
      before = (omega (arith, found.0), λ within high. absurd (omega (arith, high, space)));
      behind = λ utf8. IsCharBoundary-after_ascii bytes at utf8 found.0 (omega (arith, space));
    }

pub unspaced : (bytes : List ℕ) → position is_space bytes ≡ None → position_or_len is_space bytes ≡ length bytes
unspaced bytes is =
    let bound : position_or_len is_space bytes ≤ length bytes = prefix_len-le-length (λ b. not (is_space b)) bytes in
    grind (arith, common_steps, nat_tests)

-- what stands behind a part of a cell may stand in a cell
pub cell-drop : (n : ℕ) (bytes : List ℕ) → IsCell bytes → IsCell (drop n bytes)
cell-drop n bytes cell = record {
  unbroken = λ has. cell.unbroken (n + has.0, omega (arith, has.1, length-drop n bytes), sym (get_or-drop n bytes has.0 _) ∙ has.2);
  short = omega (arith, cell.short, length-drop n bytes);
}

-- a refusal for the form of a line stays, whatever its names are
pub if_named-bad : (piece : List ℕ) (read : Result PlainCommand BadLine) (bad : BadLine) → read ≡ Err bad → if_named piece read ≡ Err bad
unfolding if_named
if_named-bad piece read bad e = rw e refl

pub if_named-yes : (piece : List ℕ) (command : PlainCommand) → IsName piece → if_named piece (Ok command) ≡ Ok command
unfolding if_named
if_named-yes piece command named =
    let e = is_name-yes piece named in
    rw e refl

pub if_named-no : (piece : List ℕ) (command : PlainCommand) → (IsName piece → ⊥) → if_named piece (Ok command) ≡ Err refused.Name
unfolding if_named
if_named-no piece command unnamed =
    let e = is_name-no piece unnamed in
    rw e refl

-- a piece that is no name is refused alike where another name follows it
named_first : (piece other : List ℕ) (one two : Bool) (x y : PlainCommand) (bad : BadLine) → is_name piece ≡ one → is_name other ≡ two → if_named piece (Ok x) ≡ Err bad → if_named piece (if_named other (Ok y)) ≡ Err bad
unfolding if_named
named_first piece other true two x y bad p o e =
    let wrong : Ok x ≡ Err bad = rw p at e in
    let no : true ≡ false = ap is_ok wrong in
    absurd (false≢true (sym no))
named_first piece other false true x y bad p o e =
    let no : cond false (Ok x) (Err refused.Name) ≡ Err bad = rw p at e in
    rw o (rw p no)
named_first piece other false false x y bad p o e =
    let no : cond false (Ok x) (Err refused.Name) ≡ Err bad = rw p at e in
    rw o no

pub if_named-first : (piece other : List ℕ) (x y : PlainCommand) (bad : BadLine) → if_named piece (Ok x) ≡ Err bad → if_named piece (if_named other (Ok y)) ≡ Err bad
if_named-first piece other x y bad e = named_first piece other (is_name piece) (is_name other) x y bad refl refl e

-- a name is no reason to refuse
named_passes : (piece : List ℕ) (read : Result PlainCommand BadLine) → is_name piece ≡ true → if_named piece read ≡ read
unfolding if_named
named_passes piece (Ok command) e = rw e refl
named_passes piece (Err bad) e = refl

named_by : (piece name : List ℕ) (test : Bool) (read : List ℕ → Result PlainCommand BadLine) → is_name piece ≡ test → if_named piece (Ok (len piece)) ≡ Ok (len name) → if_named piece (read piece) ≡ read name
unfolding if_named
named_by piece name true read e gave =
    let found : Ok (len piece) ≡ Ok (len name) = rw e at gave in
    let same : piece ≡ name = cc in
    named_passes piece (read piece) e ∙ ap read same
named_by piece name false read e gave =
    let wrong : Err refused.Name ≡ Ok (len name) = rw e at gave in
    absurd (let never = wrong in cc)

-- where the piece was taken as this name, what is read of the piece is read of the name
pub named-then : (piece name : List ℕ) (read : List ℕ → Result PlainCommand BadLine) → if_named piece (Ok (len piece)) ≡ Ok (len name) → if_named piece (read piece) ≡ read name
named-then piece name read gave = named_by piece name (is_name piece) read refl gave

-- The pieces of bytes one after the other, and whether one of them is too long.
use Rattle.std.proofs.Common.{◌≡◌, ℕ, zero, suc, ◌+◌, ◌<◌, List, [], ◌∷◌, ◌++◌, length, length-take, take, drop, get_or, refl, sym, ap, subst, ◌∙◌, arith}
use Rattle.std.specs.Prelude.{Contains}
use Rattle.std.specs.Str.{IsCharBoundary, IsUtf8}
use Rattle.std.proofs.Math.Seq.{get_or-append_seam}
use Rattle.std.proofs.lemmas.Str.{IsCharBoundary-after_ascii}
use Rattle.elem_core.specs.declared.TheConstants.{NEWLINE}
use Rattle.shell_io.specs.Pieces.{pieces, IsOverlong, IsUnbroken}
use Rattle.shell_io.specs.Lines.{HasOverlong}
use Rattle.shell_io.proofs.PiecesLemmas.{pieces-line, pieces-unbroken}

-- the piece before a newline
pub pieces-at : (s : List ℕ) (at : ℕ) → IsUnbroken (take at s) → s ≡ take at s ++ NEWLINE ∷ drop (at + 1) s →
    pieces s ≡ take at s ∷ pieces (drop (at + 1) s)
pieces-at s at un is = ap pieces is ∙ pieces-line (take at s) (drop (at + 1) s) un

-- without a newline there is one piece
pub pieces-one : (s : List ℕ) → 0 < length s → IsUnbroken s → pieces s ≡ s ∷ pieces []
unfolding pieces
pieces-one [] h un = absurd (omega arith)
pieces-one (x ∷ xs) h un = pieces-unbroken x xs un

-- the first piece is too long
pub HasOverlong-first : (s first : List ℕ) (others : List (List ℕ)) → pieces s ≡ first ∷ others → IsOverlong first → HasOverlong s
HasOverlong-first s first others is long =
    (first, subst (λ ps. Contains ps first) (sym is) (0, (omega arith), refl), long)

-- a piece behind the first is too long
pub HasOverlong-behind : (s first t : List ℕ) → pieces s ≡ first ∷ pieces t → HasOverlong t → HasOverlong s
HasOverlong-behind s first t is (piece, (k, within, at), long) =
    (piece, subst (λ ps. Contains ps piece) (sym is) (suc k, (omega arith), at), long)

-- where the first piece isn't too long, one behind it is
pub HasOverlong-rest : (s first t : List ℕ) → pieces s ≡ first ∷ pieces t → ¬ IsOverlong first → HasOverlong s → HasOverlong t
HasOverlong-rest s first t is short (piece, has, long) =
    let P : Contains (first ∷ pieces t) piece = subst (λ ps. Contains ps piece) is has in
    past P
  where
    past : Contains (first ∷ pieces t) piece → HasOverlong t
    past (zero, within, at) = absurd (short (subst IsOverlong (sym at) long))
    past (suc k, within, at) = (piece, (k, (omega arith), at), long)

-- no bytes have no piece
pub HasOverlong-none : (s : List ℕ) → length s ≡ 0 → ¬ HasOverlong s
unfolding pieces
HasOverlong-none [] e = λ (piece, (k, within, at), long). absurd (omega (arith, within))
HasOverlong-none (x ∷ xs) e = absurd (omega arith)

pub pieces-none : (s : List ℕ) → length s ≡ 0 → pieces s ≡ []
unfolding pieces
pieces-none [] e = refl
pieces-none (x ∷ xs) e = absurd (omega arith)

-- the first newline stands here
abbrev pub IsNewlineAt : List ℕ → ℕ → Type 0
IsNewlineAt s at = (at < length s) × IsUnbroken (take at s) × (s ≡ take at s ++ NEWLINE ∷ drop (at + 1) s)

-- a text may be cut before a newline and behind it
pub record NewlinePlace (s : List ℕ) (at : ℕ) : Type 0 where
  pub before : IsCharBoundary s at
  pub behind : IsUtf8 s → IsCharBoundary s (at + 1)

pub newline_place : (s : List ℕ) (at : ℕ) → IsNewlineAt s at → NewlinePlace s at
newline_place s at (inside, clean, is) =
    let whole : length (take at s) ≡ at = omega (arith, length-take at s, inside) in
    let seam : get_or (take at s ++ NEWLINE ∷ drop (at + 1) s) at 0 ≡ NEWLINE =
    subst (λ n. get_or (take at s ++ NEWLINE ∷ drop (at + 1) s) n 0 ≡ NEWLINE) whole (get_or-append_seam (take at s) NEWLINE (drop (at + 1) s) 0) in
    let newline : get_or s at 0 ≡ NEWLINE = ap (λ bytes. get_or bytes at 0) is ∙ seam in
    record {
      before = (omega (arith, inside), λ within high. absurd (omega (arith, high, newline)));
      behind = λ utf8. IsCharBoundary-after_ascii s at utf8 inside (omega (arith, newline));
    }

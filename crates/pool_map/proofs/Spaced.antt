-- Spaces before lines: where there is room for them, and that a line without them is still one.
use Rattle.std.proofs.Common.{◌≡◌, ℕ, ◌+◌, ◌≤◌, true, length, replicate, take, drop, subst, ◌∙◌, arith, inl, inr}
use Rattle.std.specs.Prelude.{Contains, nat_le, min}
use Rattle.std.specs.List.{All}
use Rattle.std.proofs.lemmas.Bool.{le-leb}
use Rattle.std.proofs.lemmas.Bool.Decides.{nat_tests}
use Rattle.std.proofs.lemmas.List.{length-append, length-replicate, length-drop, take-append-drop, get_or-replicate}
use Rattle.std.proofs.lemmas.List.Elements.{All-weaker, Contains-append_cases, Contains-append_right}
use Rattle.elem_core.specs.Cell.{IsCell}
use Rattle.elem_core.specs.declared.TheConstants.{MAX_LINE, NEWLINE}
use Rattle.pool_text.specs.Rows.{Bytes}
use Rattle.plain_space.specs.Refusing.{has_room_for}
use Rattle.plain_space.proofs.LineLemmas.{lines-decided}
use Rattle.pool_map.specs.Lines.{line_texts}
use Rattle.pool_map.specs.Spaces.{leading, indented, dedented}
use Rattle.pool_map.specs.Laws.{IndentNeedsRoom, DedentKeepsLines}
use Rattle.pool_map.proofs.LineTexts.{texts-are}
use Rattle.pool_map.proofs.LinesTold.{lines-of-states}

le-from : (a b : ℕ) → nat_le a b ≡ true → a ≤ b
le-from a b is = grind (arith, nat_tests)

-- no newline among spaces
spaces-unbroken : (n : ℕ) → Contains (replicate n 32) NEWLINE → ⊥
spaces-unbroken n has =
    let space = get_or-replicate n has.0 32 NEWLINE (omega (arith, has.1, length-replicate {A = ℕ} n 32)) in
    omega (arith, space, has.2)

module _ (n : ℕ) (text : Bytes) where
  long : length (indented n text) ≡ length text + n
  long = length-append (replicate n 32) text ∙ omega (arith, length-replicate {A = ℕ} n 32)

  room-cell : IsCell text → has_room_for n text ≡ true → IsCell (indented n text)
  room-cell line room = record {
    unbroken = λ has. elim (Contains-append_cases (replicate n 32) text NEWLINE has) as (λ _. ⊥) [
      | inl before ↦ spaces-unbroken n before
      | inr own ↦ line.unbroken own
    ];
    short = omega (arith, long, le-from (length text + n) MAX_LINE room);
  }

  cell-room : IsCell (indented n text) → has_room_for n text ≡ true
  cell-room line = le-leb (length text + n) MAX_LINE (omega (arith, long, line.short))

  less-cell : IsCell text → IsCell (dedented n text)
  less-cell line =
      let k : ℕ = min n (leading text) in
      record {
        unbroken = λ has. line.unbroken (subst (λ bytes. Contains bytes NEWLINE) (take-append-drop k text) (Contains-append_right (take k text) (drop k text) NEWLINE has));
        short = omega (arith, line.short, length-drop k text);
      }

pub indent-needs : IndentNeedsRoom
indent-needs rules P W n few four valid stands =
    let each = lines-of-states rules P W (has_room_for n) few four valid stands in
    let decided = lines-decided (has_room_for n) W in
    let lines : All IsCell (line_texts P) = texts-are rules P valid in (
      λ cells. decided.1 (each.0 (All-weaker (λ text. IsCell (indented n text)) (λ text. has_room_for n text ≡ true) (cell-room n) (line_texts P) cells)),
      λ passes. (let all : All (λ text. has_room_for n text ≡ true) (line_texts P) = each.1 (decided.0 passes) in
          λ i d low. room-cell n _ (lines i d low) (all i d low)),
    )

pub dedent-keeps : DedentKeepsLines
dedent-keeps rules P n valid = All-weaker IsCell (λ text. IsCell (dedented n text)) (less-cell n) (line_texts P) (texts-are rules P valid)

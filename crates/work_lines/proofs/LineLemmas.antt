-- Which command each made line is, and which line comes next.
use Rattle.std.proofs.Common.{◌≡◌, ◌∙◌, ℕ, zero, suc, ◌+◌, ◌-◌, ◌/◌, ◌%◌, ◌<◌, ◌≤◌, ◌^◌, Bool, true, false, List, [], ◌∷◌, ◌++◌, length, map, Some, refl, sym, ap, subst, arith, lit≤, append_assoc}
use Rattle.std.specs.Prelude.{codes, decimal, nat_lt, ◌==◌, if◌then◌else◌, IsTrue, bytes_eq}
use Rattle.std.specs.List.{list_all}
use Rattle.std.specs.Map.{lookup}
use Rattle.std.proofs.Math.Nat.{mod-lt}
use Rattle.elem_core.specs.Naming.{IsName}
use Rattle.shell_terms.specs.Edit.{new, add, set, put, del, cat, copy}
use Rattle.shell_terms.specs.Command.{PlainCommand, edit, mark, undo, redo}
use Rattle.shell_words.specs.Grammar.{commands, a_name, a_number, the_end, the_text}
use Rattle.work_lines.specs.Lines.{next_number, kind_in, buffer_in, other_in, size_in, line_by, line_of, lines_from, new_line}
use Rattle.work_lines.specs.View.{last_new_lines}
use Rattle.work_lines.specs.Commands.{is_made, IsLineOf, ChangesSpace, buffer, version, line_text, command_by}
use Rattle.work_lines.proofs.PieceLemmas.{is_line_byte, Unspaced, name-then, name-last, number-then, number-last, lettered, lettered_unspaced, IsPart, part-number, part-letter, part-joined, word-line, word-alone}

-- ## The lines as commands

-- the name of a buffer
buffer_named : (a : ℕ) → a < 8 → IsName (buffer a)
buffer_named a few = lettered a (omega arith) 119 refl (λ e. omega (arith, e)) (λ e. omega (arith, e))

buffer_unspaced : (a : ℕ) → a < 8 → Unspaced (buffer a)
buffer_unspaced a few = lettered_unspaced a (omega arith) 119 refl

buffer_part : (a : ℕ) → a < 8 → IsPart 11 (buffer a)
buffer_part a few = part-letter 119 10 (decimal a) refl (part-number a (omega arith))

-- a text
text_part : (n : ℕ) → n < 2 ^ 22 → IsPart 11 (line_text n)
text_part n small = part-letter 116 10 (decimal n) refl (part-number n (omega arith))

-- the same line, its bytes joined in another order
regrouped : (line other : List ℕ) (command : PlainCommand) → line ≡ other → IsLineOf other command → IsLineOf line command
regrouped line other command same is = subst (λ l. IsLineOf l command) (sym same) is

five_parts : (a b c d e : List ℕ) → a ++ b ++ c ++ d ++ e ≡ a ++ (b ++ (c ++ (d ++ e)))
five_parts a b c d e = append_assoc (a ++ b ++ c) d e ∙ append_assoc (a ++ b) c (d ++ e) ∙ append_assoc a b (c ++ (d ++ e))

module _ (a : ℕ) (few : a < 8) where
  pub makes : IsLineOf (new_line a) (edit (new (buffer a)))
  unfolding commands the_end
  makes = word-line 11 (codes "new") (buffer a) _ _ refl (lit≤ tt) (lit≤ tt) refl (buffer_part a few) refl (name-last (buffer a) (buffer_unspaced a few) _ _ (buffer_named a few) refl) refl

  -- a word and the names of two buffers
  two_buffers : (word : List ℕ) (make : List ℕ → List ℕ → PlainCommand) (b : ℕ) → b < 8 → Unspaced word → length word ≤ 10 → list_all is_line_byte word ≡ true
      → lookup (bytes_eq word) commands ≡ Some (a_name (λ x. a_name (λ y. the_end (make x y)))) → IsTrue (is_made (make (buffer a) (buffer b)))
      → IsLineOf (word ++ 32 ∷ (buffer a ++ 32 ∷ buffer b)) (make (buffer a) (buffer b))
  unfolding the_end
  two_buffers word make b few_too un short passes found changes =
      word-line 23 word (buffer a ++ 32 ∷ buffer b) _ _ un (lit≤ tt) short passes (part-joined 11 11 (buffer a) (buffer b) (buffer_part a few) (buffer_part b few_too)) found
      (name-then (buffer a) (buffer_unspaced a few) (buffer b) _ _ (buffer_named a few) (name-last (buffer b) (buffer_unspaced b few_too) _ _ (buffer_named b few_too) refl)) changes

  copies : (b : ℕ) → b < 8 → IsLineOf (codes "copy w" ++ decimal a ++ codes " w" ++ decimal b) (edit (copy (buffer a) (buffer b)))
  unfolding commands
  copies b few_too =
      regrouped _ _ _ (ap (codes "copy w" ++◌) (append_assoc (decimal a) (codes " w") (decimal b)))
      (two_buffers (codes "copy") (λ x y. edit (copy x y)) b few_too refl (lit≤ tt) refl refl refl)

  joins : (b : ℕ) → b < 8 → IsLineOf (codes "cat w" ++ decimal a ++ codes " w" ++ decimal b) (edit (cat (buffer a) (buffer b)))
  unfolding commands
  joins b few_too =
      regrouped _ _ _ (ap (codes "cat w" ++◌) (append_assoc (decimal a) (codes " w") (decimal b)))
      (two_buffers (codes "cat") (λ x y. edit (cat x y)) b few_too refl (lit≤ tt) refl refl refl)

  adds : (n : ℕ) → n < 2 ^ 22 → IsLineOf (codes "add w" ++ decimal a ++ codes " t" ++ decimal n) (edit (add (buffer a) (line_text n)))
  unfolding commands the_text
  adds n small =
      regrouped _ _ _ (ap (codes "add w" ++◌) (append_assoc (decimal a) (codes " t") (decimal n))) (
      word-line 23 (codes "add") (buffer a ++ 32 ∷ line_text n) _ _ refl (lit≤ tt) (lit≤ tt) refl (part-joined 11 11 (buffer a) (line_text n) (buffer_part a few) (text_part n small)) refl
      (name-then (buffer a) (buffer_unspaced a few) (line_text n) _ _ (buffer_named a few) refl) refl)

  module _ (i : ℕ) (low : i < 2 ^ 32) where
    -- a word, the name of a buffer, a number and a text
    numbered : (word : List ℕ) (make : List ℕ → ℕ → List ℕ → PlainCommand) (n : ℕ) → n < 2 ^ 22 → Unspaced word → length word ≤ 10 → list_all is_line_byte word ≡ true
        → lookup (bytes_eq word) commands ≡ Some (a_name (λ x. a_number (λ k. the_text (λ t. make x k t)))) → IsTrue (is_made (make (buffer a) i (line_text n)))
        → IsLineOf (word ++ 32 ∷ (buffer a ++ 32 ∷ (decimal i ++ 32 ∷ line_text n))) (make (buffer a) i (line_text n))
    unfolding the_text
    numbered word make n small un short passes found changes =
        let part = part-joined 11 22 (buffer a) (decimal i ++ 32 ∷ line_text n) (buffer_part a few) (part-joined 10 11 (decimal i) (line_text n) (part-number i low) (text_part n small)) in
        word-line 34 word (buffer a ++ 32 ∷ (decimal i ++ 32 ∷ line_text n)) _ _ un (lit≤ tt) short passes part found
        (name-then (buffer a) (buffer_unspaced a few) (decimal i ++ 32 ∷ line_text n) _ _ (buffer_named a few) (number-then i low (line_text n) _)) changes

    sets : (n : ℕ) → n < 2 ^ 22 → IsLineOf (codes "set w" ++ decimal a ++ codes " " ++ decimal i ++ codes " t" ++ decimal n) (edit (set (buffer a) i (line_text n)))
    unfolding commands
    sets n small =
        regrouped _ _ _ (ap (codes "set w" ++◌) (five_parts (decimal a) (codes " ") (decimal i) (codes " t") (decimal n)))
        (numbered (codes "set") (λ x k t. edit (set x k t)) n small refl (lit≤ tt) refl refl refl)

    puts : (n : ℕ) → n < 2 ^ 22 → IsLineOf (codes "put w" ++ decimal a ++ codes " " ++ decimal i ++ codes " t" ++ decimal n) (edit (put (buffer a) i (line_text n)))
    unfolding commands
    puts n small =
        regrouped _ _ _ (ap (codes "put w" ++◌) (five_parts (decimal a) (codes " ") (decimal i) (codes " t") (decimal n)))
        (numbered (codes "put") (λ x k t. edit (put x k t)) n small refl (lit≤ tt) refl refl refl)

    deletes : (j : ℕ) → j < 2 ^ 32 → IsLineOf (codes "del w" ++ decimal a ++ codes " " ++ decimal i ++ codes " " ++ decimal j) (edit (del (buffer a) i j))
    unfolding commands the_end
    deletes j high =
        let part = part-joined 11 21 (buffer a) (decimal i ++ 32 ∷ decimal j) (buffer_part a few) (part-joined 10 10 (decimal i) (decimal j) (part-number i low) (part-number j high)) in
        regrouped _ _ _ (ap (codes "del w" ++◌) (five_parts (decimal a) (codes " ") (decimal i) (codes " ") (decimal j))) (
        word-line 33 (codes "del") (buffer a ++ 32 ∷ (decimal i ++ 32 ∷ decimal j)) _ _ refl (lit≤ tt) (lit≤ tt) refl part refl
        (name-then (buffer a) (buffer_unspaced a few) (decimal i ++ 32 ∷ decimal j) _ _ (buffer_named a few) (number-then i low (decimal j) _ ∙ number-last j high _)) refl)

marks : (n : ℕ) → n < 2 ^ 22 → IsLineOf (codes "mark v" ++ decimal n) (mark (version n))
unfolding commands the_end
marks n small =
    let named = lettered n (omega arith) 118 refl (λ e. omega (arith, e)) (λ e. omega (arith, e)) in
    word-line 11 (codes "mark") (version n) _ _ refl (lit≤ tt) (lit≤ tt) refl (part-letter 118 10 (decimal n) refl (part-number n (omega arith))) refl
    (name-last (version n) (lettered_unspaced n (omega arith) 118 refl) _ _ named refl) refl

undoes : IsLineOf (codes "undo") undo
unfolding commands the_end
undoes = word-alone (codes "undo") _ _ refl (lit≤ tt) refl refl refl refl

redoes : IsLineOf (codes "redo") redo
unfolding commands the_end
redoes = word-alone (codes "redo") _ _ refl (lit≤ tt) refl refl refl refl

-- a test chooses the line and the command alike
either : (test : Bool) (line other : List ℕ) (command another : PlainCommand) → IsLineOf line command → IsLineOf other another
    → IsLineOf (if test then line else other) (if test then command else another)
either true line other command another one two = one
either false line other command another one two = two

pub means-by : (kind a b n : ℕ) → a < 8 → b < 8 → n < 2 ^ 22 → IsLineOf (line_by kind a b n) (command_by kind a b n)
unfolding line_by command_by
means-by kind a b n few few_too small =
    let byte : n % 256 < 256 = mod-lt n (omega arith) in
    let from : n % 16 < 16 = mod-lt n (omega arith) in
    let wide : n / 16 % 16 < 16 = mod-lt (n / 16) (omega arith) in
    either (nat_lt kind 7) _ _ _ _ (adds a few n small) (
    either (nat_lt kind 9) _ _ _ _ (sets a few (n % 256) (omega (arith, byte)) n small) (
    either (kind == 9) _ _ _ _ (puts a few (n % 256) (omega (arith, byte)) n small) (
    either (kind == 10) _ _ _ _ (deletes a few (n % 16) (omega (arith, from)) (n % 16 + n / 16 % 16) (omega (arith, from, wide))) (
    either (kind == 11) _ _ _ _ (copies a few b few_too) (
    either (kind == 12) _ _ _ _ undoes (
    either (kind == 13) _ _ _ _ redoes (
    either (kind == 14) _ _ _ _ (joins a few b few_too) (marks n small))))))))

-- ## The line that comes next

pub new_changes : (line : List ℕ) (a : ℕ) → a < 8 → line ≡ new_line a → ChangesSpace line
new_changes line a few is = record { command = edit (new (buffer a)); is = regrouped _ _ _ is (makes a few) }

pub made_changes : (line : List ℕ) (x : ℕ) → line ≡ line_of x → ChangesSpace line
made_changes line x is =
    record {
      command = command_by (kind_in x) (buffer_in x) (other_in x) (size_in x);
      is = regrouped _ _ _ is (means-by (kind_in x) (buffer_in x) (other_in x) (size_in x) (mod-lt (x / 2 ^ 57) (omega arith)) (mod-lt (x / 2 ^ 54) (omega arith)) (mod-lt (x / 2 ^ 32) (omega arith)));
    }

-- before the first line, all eight are left
pub all-new : last_new_lines 8 ≡ map new_line (0 ∷ 1 ∷ 2 ∷ 3 ∷ 4 ∷ 5 ∷ 6 ∷ 7 ∷ [])
unfolding last_new_lines
all-new = refl

pub new-next : (left : ℕ) (rest : List (List ℕ)) (line : List ℕ) → 0 < left → line ≡ new_line (7 - (left - 1)) → last_new_lines left ++ rest ≡ line ∷ (last_new_lines (left - 1) ++ rest)
unfolding last_new_lines
new-next zero rest line some is = absurd (omega arith)
new-next (suc left) rest line some is = let less : suc left - 1 ≡ left = omega arith in rw (is, less) refl

pub made-next : (left count x next : ℕ) (line : List ℕ) → left ≤ 0 → 0 < count → next ≡ next_number x → line ≡ line_of next
    → last_new_lines left ++ lines_from count x ≡ line ∷ (last_new_lines left ++ lines_from (count - 1) next)
unfolding last_new_lines lines_from
made-next zero zero x next line none some is made = absurd (omega arith)
made-next zero (suc count) x next line none some is made = let less : suc count - 1 ≡ count = omega arith in rw (made, less, is) refl
made-next (suc left) count x next line none some is made = absurd (omega arith)

pub none-next : (left count x : ℕ) → left ≤ 0 → count ≤ 0 → last_new_lines left ++ lines_from count x ≡ []
unfolding last_new_lines lines_from
none-next zero zero x none some = refl
none-next zero (suc count) x none some = absurd (omega arith)
none-next (suc left) count x none some = absurd (omega arith)

-- Where the first newline stands.
use Rattle.std.proofs.Common.{◌≡◌, ℕ, ◌+◌, ◌-◌, ◌<◌, ◌≤◌, Bool, false, cond, List, ◌∷◌, ◌++◌, length, take, drop, get_or, None, Some, sym, ap, subst, ◌∙◌, inl, inr, arith, length-drop, length-take, take-append-drop}
use Rattle.std.specs.Prelude.{◌==◌, nat_lt}
use Rattle.std.specs.List.{position, position_or_len}
use Rattle.std.proofs.lemmas.List.{drop_more, get_or-drop, get_or-take, get_or_default, take_rest, take_all}
use Rattle.std.proofs.lemmas.List.Quantifiers.{position-Some}
use Rattle.std.proofs.lemmas.List.Sums.{fails_before_first, position_or_len_is}
use Rattle.std.proofs.lemmas.Bool.{eqb-true, eqb-false, lt-ltb, le-ltb, ltb-false, cases_Bool, false_from_ne_true}
use Rattle.std.specs.declared.option.Option.{Option}
use Rattle.memchr.specs.Find.{IsFirstByte, is_byte}
use Rattle.elem_core.specs.declared.TheConstants.{NEWLINE}
use Rattle.shell_io.specs.Pieces.{IsUnbroken}
use Rattle.shell_io.proofs.PiecesLemmas.{take_plus}
use Rattle.shell_io.proofs.StandsLemmas.{IsUnbroken-append}

-- the first newline of some bytes
abbrev first_newline : List ℕ → Option ℕ
first_newline bytes = position (λ byte. byte == NEWLINE) bytes

-- bytes whose first n are no newlines
unbroken_below : (xs : List ℕ) (n : ℕ) → n ≤ length xs → ((k : ℕ) → k < n → (get_or xs k 0 == NEWLINE) ≡ false) → IsUnbroken (take n xs)
unbroken_below xs n within none = λ (k, h, e).
    let inside : k < n = omega (arith, length-take n xs, h) in
    eqb-false (get_or xs k 0) NEWLINE (none k inside)
    (get_or_default xs k 0 NEWLINE (omega arith) ∙ sym (get_or-take n xs k NEWLINE inside) ∙ e)

-- what a search answers is the first newline
pub newline_is : (xs : List ℕ) (r : Option ℕ) → IsFirstByte (is_byte NEWLINE) xs r → r ≡ first_newline xs
newline_is xs None nowhere =
    let e : position_or_len (λ byte. byte == NEWLINE) xs ≡ length xs =
    position_or_len_is (λ byte. byte == NEWLINE) xs (length xs) 0 (omega arith)
    (λ k h. false_from_ne_true _ (nowhere k (omega arith) h)) (λ h. absurd (omega (arith, h))) in
    rw (e, le-ltb (length xs) (length xs) (omega arith))
newline_is xs (Some at) found =
    let first = found.0 in
    let e : position_or_len (λ byte. byte == NEWLINE) xs ≡ at =
    position_or_len_is (λ byte. byte == NEWLINE) xs at 0 (omega (arith, first.high))
    (λ k h. false_from_ne_true _ (first.before k (omega arith) h)) (λ h. found.1) in
    rw (e, lt-ltb at (length xs) first.high)

record Found (xs : List ℕ) (at : ℕ) : Type 0 where
  inside : at < length xs
  clean : IsUnbroken (take at xs)
  newline : get_or xs at 0 ≡ NEWLINE

found : (xs : List ℕ) (at : ℕ) → first_newline xs ≡ Some at → Found xs at
found xs at is =
    let p = position-Some (λ byte. byte == NEWLINE) xs at 0 is in
    record {
      inside = p.0;
      clean = unbroken_below xs at (omega (arith, p.0)) p.2;
      newline = eqb-true (get_or xs at 0) NEWLINE p.1;
    }

pub found_from : (xs : List ℕ) (from at : ℕ) → from ≤ length xs → IsUnbroken (take from xs) →
    first_newline (take (length xs - from) (drop from xs)) ≡ Some at →
    (from + at < length xs) × IsUnbroken (take (from + at) xs) × (xs ≡ take (from + at) xs ++ NEWLINE ∷ drop (from + at + 1) xs)
found_from xs from at within clean is =
    let f = found (drop from xs) at (ap first_newline (sym (take_rest xs from)) ∙ is) in
    let fits : from + at < length xs = omega (arith, length-drop from xs, f.inside) in
    let unbroken : IsUnbroken (take from xs ++ take at (drop from xs)) =
    IsUnbroken-append (take from xs) (take at (drop from xs)) clean f.clean in (
      fits,
      subst IsUnbroken (sym (take_plus xs from at within)) unbroken,
      sym (take-append-drop (from + at) xs) ∙ ap (λ ys. take (from + at) xs ++ ys) (drop_more xs (from + at) 0 fits)
          ∙ ap (λ y. take (from + at) xs ++ y ∷ drop (from + at + 1) xs) (sym (get_or-drop from xs at 0) ∙ f.newline),
    )

none_found : (xs : List ℕ) → first_newline xs ≡ None → length xs ≤ position_or_len (λ byte. byte == NEWLINE) xs
none_found xs is =
    elim (cases_Bool (nat_lt (position_or_len (λ byte. byte == NEWLINE) xs) (length xs))) [
      | inl e ↦
          let P : Bool → Type 0 = λ b. cond b (Some (position_or_len (λ byte. byte == NEWLINE) xs)) None ≡ None in
          let no_place : Some (position_or_len (λ byte. byte == NEWLINE) xs) ≡ None = subst P e is in
          absurd (cc)
      | inr e ↦ ltb-false _ _ e
    ]

pub unbroken_from : (xs : List ℕ) (from : ℕ) → from ≤ length xs → IsUnbroken (take from xs) →
    first_newline (take (length xs - from) (drop from xs)) ≡ None → IsUnbroken xs
unbroken_from xs from within clean is =
    let rest = drop from xs in
    let past = none_found rest (ap first_newline (sym (take_rest xs from)) ∙ is) in
    let clean_rest : IsUnbroken (take (length rest) rest) =
    unbroken_below rest (length rest) (omega arith) (λ k h. fails_before_first (λ byte. byte == NEWLINE) rest k 0 (omega arith)) in
    let whole : IsUnbroken (take from xs ++ rest) =
    IsUnbroken-append (take from xs) rest clean (subst IsUnbroken (take_all (length rest) rest (omega arith)) clean_rest) in
    subst IsUnbroken (take-append-drop from xs) whole

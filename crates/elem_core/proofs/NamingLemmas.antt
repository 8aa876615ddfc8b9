-- The test of a name and what it tells.
use Rattle.std.proofs.Common.{arith, ◌≡◌, ℕ, ◌≤◌, true, false, List, [], ◌∷◌, length, Some, slice_index, slice_get, ap, refl, eqb}
use Rattle.std.proofs.lemmas.Bool.{le-leb, leb-true, ne_eqb, eqb-false, and_parts, not-true, false_from_ne_true}
use Rattle.std.proofs.lemmas.List.Sums.{list_all-from_AllPass, AllPass-from_list_all}
use Rattle.elem_core.specs.Naming.{IsName, is_name, is_name_byte}
use Rattle.elem_core.specs.declared.TheConstants.{MAX_NAME}

-- the first byte is another
other_first : (piece : List ℕ) (byte : ℕ) → 1 ≤ length piece → (slice_get piece 0 ≡ Some byte → ⊥) → eqb (slice_index piece 0) byte ≡ false
other_first [] byte some other = absurd (omega arith)
other_first (x ∷ xs) byte some other = ne_eqb x byte (λ e. other (ap (λ v. Some v) e))

-- and the other way round
first_other : (piece : List ℕ) (byte : ℕ) → eqb (slice_index piece 0) byte ≡ false → slice_get piece 0 ≡ Some byte → ⊥
first_other [] byte other is = cc
first_other (x ∷ xs) byte other is = eqb-false x byte other (cc)

-- the test of a name holds for each name
pub is_name-yes : (piece : List ℕ) → IsName piece → is_name piece ≡ true
unfolding is_name
is_name-yes piece named =
    let some = le-leb 1 (length piece) named.some in
    let short = le-leb (length piece) MAX_NAME named.short in
    let letters = list_all-from_AllPass is_name_byte piece named.alphabet in
    let no_stop = other_first piece 46 named.some named.no_stop_first in
    let no_hyphen = other_first piece 45 named.some named.no_hyphen_first in
    rw (some, short, letters, no_stop, no_hyphen) refl

-- where it holds, the piece is a name
pub named_by_test : (piece : List ℕ) → is_name piece ≡ true → IsName piece
unfolding is_name
named_by_test piece test =
    let a = and_parts _ _ test in
    let b = and_parts _ _ a.0 in
    let c = and_parts _ _ b.0 in
    let d = and_parts _ _ c.0 in
    record {
      some = leb-true _ _ d.0;
      short = leb-true _ _ d.1;
      alphabet = AllPass-from_list_all is_name_byte piece c.1;
      no_stop_first = first_other piece 46 (not-true _ b.1);
      no_hyphen_first = first_other piece 45 (not-true _ a.1);
    }

-- and it fails for each other piece
pub is_name-no : (piece : List ℕ) → (IsName piece → ⊥) → is_name piece ≡ false
is_name-no piece unnamed = false_from_ne_true _ (λ test. unnamed (named_by_test piece test))

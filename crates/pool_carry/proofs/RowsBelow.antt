-- Below each row of the new tries stand rows of them: those of the parts of two entries or more, and the rests of chains.
use Rattle.std.proofs.Common.{◌≡◌, ℕ, zero, suc, ◌+◌, ◌<◌, ◌≤◌, sym, subst, ◌∙◌, arith, true, List, [], ◌∷◌, ◌++◌, length, get_or, flat_map}
use Rattle.std.specs.List.{list_any, position_or_len}
use Rattle.champ_chain.specs.Entry.{Entry}
use Rattle.pool_text.specs.Rows.{Bytes}
use Rattle.pool_carry.specs.Computed.{TrieRow, trie_row, same_row, of_two, parts, rows_of, chain_rows}
use Rattle.pool_carry.proofs.FirstRows.{AreAll, all-front, position-passes, are-same, same-depth, same-links}

-- the same row is among these
abbrev pub IsIn : List TrieRow → TrieRow → Type 0
IsIn R r = list_any (same_row r) R ≡ true

-- so is the row of the entries of one digit, where these are two or more
abbrev pub IsPartIn : List TrieRow → ℕ → List (Entry Bytes) → Type 0
IsPartIn R depth [] = Unit {0}
IsPartIn R depth (e ∷ []) = Unit {0}
IsPartIn R depth (e ∷ d ∷ es) = IsIn R (trie_row (suc depth) (e ∷ d ∷ es))

-- so is the chain row after that of the first entry, if there is one
abbrev pub IsRestIn : List TrieRow → ℕ → List (Entry Bytes) → Type 0
IsRestIn R depth [] = Unit {0}
IsRestIn R depth (e ∷ []) = Unit {0}
IsRestIn R depth (e ∷ d ∷ es) = IsIn R (trie_row depth (d ∷ es))

-- each of these parts is as Q says
abbrev pub EachPart : (List (Entry Bytes) → Type 0) → List (List (Entry Bytes)) → Type 0
EachPart Q [] = Unit {0}
EachPart Q (P ∷ Ps) = Q P × EachPart Q Ps

pub part-at : (Q : List (Entry Bytes) → Type 0) (Ps : List (List (Entry Bytes))) → EachPart Q Ps → (p : ℕ) → p < length Ps → Q (get_or Ps p [])
part-at Q [] each p low = absurd (omega (arith, low))
part-at Q (P ∷ Ps) each zero low = each.0
part-at Q (P ∷ Ps) each (suc p) low = part-at Q Ps each.1 p (omega (arith, low))

pub all-first : (Q : TrieRow → Type 0) (S T : List TrieRow) → AreAll Q (S ++ T) → AreAll Q S
all-first Q [] T are = tt
all-first Q (s ∷ S) T are = (are.0, all-first Q S T are.1)

pub all-rest : (Q : TrieRow → Type 0) (S T : List TrieRow) → AreAll Q (S ++ T) → AreAll Q T
all-rest Q [] T are = are
all-rest Q (s ∷ S) T are = all-rest Q S T are.1

-- Names.

-- the name of a row among these, which come after N others
abbrev pub name_in : ℕ → List TrieRow → TrieRow → ℕ
name_in N R r = N + position_or_len (same_row r) R

-- rows with one name are the same
pub name-same : (N : ℕ) (R : List TrieRow) (r s : TrieRow) → IsIn R r → IsIn R s → name_in N R r ≡ name_in N R s → same_row r s ≡ true
name-same N R r s first second names =
    let places : position_or_len (same_row r) R ≡ position_or_len (same_row s) R = omega (arith, names) in
    let there = get_or R (position_or_len (same_row r) R) r in
    let is : same_row r (get_or R (position_or_len (same_row r) R) r) ≡ true = (position-passes (same_row r) R first).1 r in
    let is' : same_row s (get_or R (position_or_len (same_row r) R) r) ≡ true = subst (λ i. same_row s (get_or R i r) ≡ true) (sym places) ((position-passes (same_row s) R second).1 r) in
    are-same r s (same-depth r there is ∙ sym (same-depth s there is')) (same-links r there is ∙ sym (same-links s there is'))

-- Rows below rows.

module _ (deepest : ℕ) (code : Bytes → ℕ) (R : List TrieRow) where
  -- the rows below the row are among these
  pub record HasBelow (r : TrieRow) : Type 0 where
    pub deep : r.depth ≤ deepest + 1
    pub lower : r.depth ≤ deepest → EachPart (IsPartIn R r.depth) (parts code r.depth r.entries)
    pub rest : r.depth ≡ deepest + 1 → IsRestIn R r.depth r.entries

  rest-in : (depth : ℕ) (e : Entry Bytes) (es : List (Entry Bytes)) → AreAll (IsIn R) (chain_rows depth es) → IsRestIn R depth (e ∷ es)
  rest-in depth e [] are = tt
  rest-in depth e (d ∷ es) are = are.0

  chain-below : (depth : ℕ) (E : List (Entry Bytes)) → depth ≡ deepest + 1 → AreAll (IsIn R) (chain_rows depth E) → AreAll HasBelow (chain_rows depth E)
  chain-below depth [] levels are = tt
  chain-below depth (e ∷ es) levels are =
      (record { deep = omega (arith, levels); lower = λ shallow. absurd (omega (arith, levels, shallow)); rest = λ _. rest-in depth e es are.1 }, chain-below depth es levels are.1)

  head-in : (left depth : ℕ) (P : List (Entry Bytes)) → AreAll (IsIn R) (of_two (rows_of code left (suc depth)) P) → IsPartIn R depth P
  unfolding rows_of
  head-in left depth [] are = tt
  head-in left depth (e ∷ []) are = tt
  head-in zero depth (e ∷ d ∷ es) are = are.0
  head-in (suc left) depth (e ∷ d ∷ es) are = are.0

  lower-in : (left depth : ℕ) (Ps : List (List (Entry Bytes))) → AreAll (IsIn R) (flat_map (of_two (rows_of code left (suc depth))) Ps) → EachPart (IsPartIn R depth) Ps
  lower-in left depth [] are = tt
  lower-in left depth (P ∷ Ps) are =
      let f : List (Entry Bytes) → List TrieRow = of_two (rows_of code left (suc depth)) in
      (head-in left depth P (all-first (IsIn R) (f P) (flat_map f Ps) are), lower-in left depth Ps (all-rest (IsIn R) (f P) (flat_map f Ps) are))

  pub flat-below : {X : Type 0} (f : X → List TrieRow) → ((x : X) → AreAll (IsIn R) (f x) → AreAll HasBelow (f x)) → (xs : List X) → AreAll (IsIn R) (flat_map f xs) → AreAll HasBelow (flat_map f xs)
  flat-below f each [] are = tt
  flat-below f each (x ∷ xs) are =
      all-front HasBelow (f x) (flat_map f xs) (each x (all-first (IsIn R) (f x) (flat_map f xs) are)) (flat-below f each xs (all-rest (IsIn R) (f x) (flat_map f xs) are))

  two-below : (f : List (Entry Bytes) → List TrieRow) → ((P : List (Entry Bytes)) → AreAll (IsIn R) (f P) → AreAll HasBelow (f P)) → (P : List (Entry Bytes)) → AreAll (IsIn R) (of_two f P) → AreAll HasBelow (of_two f P)
  two-below f each [] are = tt
  two-below f each (e ∷ []) are = tt
  two-below f each (e ∷ d ∷ es) are = each (e ∷ d ∷ es) are

  -- where all rows of a trie are among these, so are the rows below each
  pub rows-below : (left depth : ℕ) (E : List (Entry Bytes)) → depth + left ≡ deepest + 1 → AreAll (IsIn R) (rows_of code left depth E) → AreAll HasBelow (rows_of code left depth E)
  unfolding rows_of
  rows-below zero depth E levels are = chain-below depth E (omega (arith, levels)) are
  rows-below (suc left) depth E levels are = (
    record { deep = omega (arith, levels); lower = λ _. lower-in left depth (parts code depth E) are.1; rest = λ deep. absurd (omega (arith, levels, deep)) },
    flat-below (of_two (rows_of code left (suc depth))) (two-below (rows_of code left (suc depth)) (λ P. rows-below left (suc depth) P (omega (arith, levels)))) (parts code depth E) are.1,
  )

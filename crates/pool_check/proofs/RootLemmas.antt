-- Roots by the facts of their rows, and the roots of a space.
use Rattle.std.proofs.Common.{◌≡◌, ◌≢◌, ℕ, suc, ◌+◌, ◌<◌, Bool, true, false, ◌&&◌, ◌||◌, List, [], ◌∷◌, length, drop, get_or, refl, ap, sym, ◌∙◌, arith}
use Rattle.std.proofs.lemmas.List.{drop_more}
use Rattle.node_heap.specs.Forms.{Forms}
use Rattle.pool_text.specs.Rows.{Bytes}
use Rattle.pool_text.specs.Pool.{forms_in, row_count}
use Rattle.pool_text.specs.declared.pool.Pool.{Pool}
use Rattle.pool_check.specs.Kinds.{is_any_cell, is_name_cell, is_state, is_versions_map, is_history, is_of, are_of, space_kinds, batch_kinds, are_roots, roots_are_of_kind}
use Rattle.pool_check.specs.Roots.{roots_are_of}
use Rattle.pool_check.specs.declared.root.RootKind.{RootKind}
use Rattle.pool_check.specs.declared.root.RootKind.TheVariants.{Lines, Cells, CellMap, LinesMap, Names, NamedLines, State, Versions, History}
use Rattle.pool_check.specs.declared.kinds.RowFacts.{RowFacts}
use Rattle.pool_check.specs.Facts.{is_cell_pair, is_lines_pair, is_named_lines, is_named_state, facts_at, facts_are}
use Rattle.pool_check.proofs.FactLemmas.{and-false, vector-of, trie-of}

module _ (n : ℕ) (F : Forms Bytes) where
  pub root-is : (kind : RootKind) (l : ℕ) → facts_are kind (facts_at n F l) ≡ is_of n F kind l
  unfolding facts_at
  root-is Lines l = vector-of F (is_any_cell n F) l
  root-is Cells l = trie-of n F (is_any_cell n F) l
  root-is CellMap l = trie-of n F (is_cell_pair n F) l
  root-is LinesMap l = trie-of n F (is_lines_pair n F) l
  root-is Names l = trie-of n F (is_name_cell n F) l
  root-is NamedLines l = trie-of n F (is_named_lines n F) l
  root-is State l = refl
  root-is Versions l = trie-of n F (is_named_state n F) l
  root-is History l = vector-of F (is_state n F) l

  -- the next root is of its kind, and those after it are
  pub root-first : (kinds : List RootKind) (roots : List ℕ) (i : ℕ) (d : RootKind) → i < length kinds → i < length roots → (found : Bool) (row : RowFacts) → row ≡ facts_at n F (get_or roots i 0) → found ≡ facts_are (get_or kinds i d) row
      → are_of n F (drop i kinds) (drop i roots) ≡ (found && are_of n F (drop (i + 1) kinds) (drop (i + 1) roots))
  root-first kinds roots i d low low' found row row_is found_is =
      ap (λ ks. are_of n F ks (drop i roots)) (drop_more kinds i d low) ∙ ap (λ ls. are_of n F (get_or kinds i d ∷ drop (i + 1) kinds) ls) (drop_more roots i 0 low')
      ∙ ap (λ b. b && are_of n F (drop (i + 1) kinds) (drop (i + 1) roots)) (sym (found_is ∙ ap (facts_are (get_or kinds i d)) row_is ∙ root-is (get_or kinds i d) (get_or roots i 0)))

  -- other numbers of roots and of kinds
  pub other-many : (kinds : List RootKind) (roots : List ℕ) → length kinds ≢ length roots → are_of n F kinds roots ≡ false
  other-many [] [] other = absurd (other refl)
  other-many [] (root ∷ roots) other = refl
  other-many (kind ∷ kinds) [] other = refl
  other-many (kind ∷ kinds) (root ∷ roots) other =
      ap (λ b. is_of n F kind root && b) (other-many kinds roots (λ same. other (ap suc same))) ∙ and-false (is_of n F kind root)

  four-and : (a b c d : Bool) → (a && (b && (c && (d && true)))) ≡ (a && b && c && d)
  four-and true true true true = refl
  four-and true true true false = refl
  four-and true true false d = refl
  four-and true false c d = refl
  four-and false b c d = refl

  five-and : (a b c d e : Bool) → (a && (b && (c && (d && (e && true))))) ≡ (a && b && c && d && e)
  five-and true true true true true = refl
  five-and true true true true false = refl
  five-and true true true false e = refl
  five-and true true false d e = refl
  five-and true false c d e = refl
  five-and false b c d e = refl

  or-none : (b c : Bool) → c ≡ false → b ≡ (b || c)
  or-none true c none = refl
  or-none false c none = sym none

  none-or : (b c : Bool) → b ≡ false → c ≡ (b || c)
  none-or true c none = absurd (let never = none in cc)
  none-or false c none = refl

  -- the roots of a space outside a batch, and in one
  four-roots : (roots : List ℕ) → length roots ≢ 5 → are_of n F space_kinds roots ≡ are_roots n F roots
  unfolding are_roots
  four-roots roots other = or-none (are_of n F space_kinds roots) (are_of n F batch_kinds roots) (other-many batch_kinds roots (λ e. other (sym e)))

  five-roots : (roots : List ℕ) → length roots ≡ 5 → are_of n F batch_kinds roots ≡ are_roots n F roots
  unfolding are_roots
  five-roots roots many = none-or (are_of n F space_kinds roots) (are_of n F batch_kinds roots) (other-many space_kinds roots (λ e. omega (arith, e, many)))

  -- fewer roots, or more
  neither : (roots : List ℕ) → 4 ≢ length roots → 5 ≢ length roots → are_roots n F roots ≡ false
  unfolding are_roots
  neither roots no_four no_five = sym (none-or (are_of n F space_kinds roots) (are_of n F batch_kinds roots) (other-many space_kinds roots no_four)) ∙ other-many batch_kinds roots no_five

  -- the test of a space's roots, one after another
  abbrev pub root_by_root : List ℕ → Bool
  root_by_root (c ∷ v ∷ u ∷ r ∷ []) = is_state n F c && is_versions_map n F v && is_history n F u && is_history n F r
  root_by_root (c ∷ v ∷ u ∷ r ∷ b ∷ []) = is_state n F c && is_versions_map n F v && is_history n F u && is_history n F r && is_state n F b
  root_by_root _ = false

  pub roots-one_by_one : (roots : List ℕ) → are_roots n F roots ≡ root_by_root roots
  unfolding are_roots
  roots-one_by_one (c ∷ v ∷ u ∷ r ∷ []) = sym (four-roots (c ∷ v ∷ u ∷ r ∷ []) (λ e. omega (arith, e))) ∙ four-and (is_of n F State c) (is_of n F Versions v) (is_of n F History u) (is_of n F History r)
  roots-one_by_one (c ∷ v ∷ u ∷ r ∷ b ∷ []) = sym (five-roots (c ∷ v ∷ u ∷ r ∷ b ∷ []) refl) ∙ five-and (is_of n F State c) (is_of n F Versions v) (is_of n F History u) (is_of n F History r) (is_of n F State b)
  roots-one_by_one [] = refl
  roots-one_by_one (c ∷ []) = neither (c ∷ []) (λ e. omega (arith, e)) (λ e. omega (arith, e))
  roots-one_by_one (c ∷ v ∷ []) = neither (c ∷ v ∷ []) (λ e. omega (arith, e)) (λ e. omega (arith, e))
  roots-one_by_one (c ∷ v ∷ u ∷ []) = neither (c ∷ v ∷ u ∷ []) (λ e. omega (arith, e)) (λ e. omega (arith, e))
  roots-one_by_one (c ∷ v ∷ u ∷ r ∷ b ∷ x ∷ rest) = neither (c ∷ v ∷ u ∷ r ∷ b ∷ x ∷ rest) (λ e. omega (arith, e)) (λ e. omega (arith, e))

  -- roots of a space that are tested one by one pass the test
  pub roots-passed : (roots : List ℕ) → are_roots n F roots ≡ true → root_by_root roots ≡ true
  roots-passed roots passed = sym (roots-one_by_one roots) ∙ passed

pub roots-outside : (P : Pool) → length P.roots ≢ 5 → roots_are_of space_kinds P ≡ roots_are_of_kind P
unfolding roots_are_of roots_are_of_kind
roots-outside P other = four-roots (row_count P) (forms_in P) P.roots other

pub roots-in-batch : (P : Pool) → length P.roots ≡ 5 → roots_are_of batch_kinds P ≡ roots_are_of_kind P
unfolding roots_are_of roots_are_of_kind
roots-in-batch P many = five-roots (row_count P) (forms_in P) P.roots many

pub four-kinds : (P : Pool) (roots : List ℕ) (found : Bool) → roots ≡ P.roots → length P.roots ≡ 4 → found ≡ are_of (row_count P) (forms_in P) space_kinds roots → found ≡ roots_are_of_kind P
unfolding roots_are_of_kind
four-kinds P roots found same many is =
    is ∙ ap (are_of (row_count P) (forms_in P) space_kinds) same ∙ four-roots (row_count P) (forms_in P) P.roots (λ five. omega (arith, five, many))

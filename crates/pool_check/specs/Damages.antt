-- Damage: the first test that a pool fails.
use Rattle.std.specs.Prelude.{◌≡◌, ℕ, Bool, true, ◌&&◌, List, [], ◌∷◌, ◌++◌, Option, Some, None, IsSomeAnd, option_and_then, if◌then◌else◌}
use Rattle.std.specs.List.{range_with_len}
use Rattle.std.specs.Option.{option_or}
use Rattle.std.specs.Str.{bytes_eq}
use Rattle.pool_text.specs.Rows.{Bytes}
use Rattle.pool_text.specs.Rules.{Rules, present_rules, rules_of}
use Rattle.pool_text.specs.Pool.{order_in, row_count}
use Rattle.pool_text.specs.Document.{pool_in_bytes, bytes_damage}
use Rattle.pool_text.specs.declared.pool.Pool.{Pool}
use Rattle.pool_check.specs.Rows.{rows_in_range_by, links_lead_back, texts_are_lines}
use Rattle.pool_check.specs.Vectors.{vectors_stand}
use Rattle.pool_check.specs.Tries.{tries_stand_by}
use Rattle.pool_check.specs.Kinds.{roots_are_of_kind, undo_fits}
use Rattle.pool_check.specs.Roots.{roots_are_of}
use Rattle.pool_check.specs.declared.root.RootKind.{RootKind}
use Rattle.pool_text.specs.declared.damage.Damage.{Damage}
use Rattle.pool_text.specs.declared.damage.Damage.TheVariants.{Row, Link, Text, Vector, Trie, Kind, Order}

-- the rows stand in their order
unfoldable pub rows_in_order : Pool → Bool
rows_in_order P = bytes_eq (order_in P) (range_with_len 0 (row_count P))

-- the first of the tests that fails
abbrev pub first_failing : List (Bool × Damage) → Option Damage
first_failing [] = None
first_failing (t ∷ ts) = if t.0 then first_failing ts else Some t.1

module _ (rules : Rules) where
  -- the tests `Link` to `Trie`, which ask nothing of what the roots are
  abbrev pub row_tests : Pool → List (Bool × Damage)
  row_tests P = (links_lead_back P, Link) ∷ (texts_are_lines P, Text) ∷ (vectors_stand P, Vector) ∷ (tries_stand_by rules P, Trie) ∷ []

  -- the tests `Link` to `Kind`, which ask nothing of ranges and of the order
  abbrev pub open_tests : Pool → List (Bool × Damage)
  open_tests P = row_tests P ++ (roots_are_of_kind P && undo_fits P, Kind) ∷ []

  -- the tests of a pool in the order in which they are made
  abbrev pub tests_by : Pool → List (Bool × Damage)
  tests_by P = (rows_in_range_by rules P, Row) ∷ (open_tests P ++ (rows_in_order P, Order) ∷ [])

  -- the first of the tests `Link` to `Trie` that the pool fails, if any
  unfoldable pub row_damage : Pool → Option Damage
  row_damage P = first_failing (row_tests P)

  -- a pool that passes these
  pub record RowsPass (P : Pool) : Type 0 where
    pub lead_back : links_lead_back P ≡ true
    pub lines : texts_are_lines P ≡ true
    pub vectors : vectors_stand P ≡ true
    pub tries : tries_stand_by rules P ≡ true

  -- a pool whose rows are in range, pass these and stand in their order, whatever its roots are
  pub record HasValidRows (P : Pool) : Type 0 where
    pub in_range : rows_in_range_by rules P ≡ true
    pub passed : RowsPass P
    pub in_order : rows_in_order P ≡ true

  -- the first of the tests `Link` to `Order` that a pool fails whose roots have to be of these kinds, if any
  unfoldable pub damage_with_roots : List RootKind → Pool → Option Damage
  damage_with_roots kinds P = first_failing (row_tests P ++ (roots_are_of kinds P, Kind) ∷ (rows_in_order P, Order) ∷ [])

  -- the first of the tests `Link` to `Kind` that the pool fails, if any
  unfoldable pub open_damage : Pool → Option Damage
  open_damage P = first_failing (open_tests P)

  -- the first test that the pool fails, if any
  unfoldable pub damage_by : Pool → Option Damage
  damage_by P = first_failing (tests_by P)

  -- a pool that passes every test
  pub record IsValidBy (P : Pool) : Type 0 where
    pub in_range : rows_in_range_by rules P ≡ true
    pub lead_back : links_lead_back P ≡ true
    pub lines : texts_are_lines P ≡ true
    pub vectors : vectors_stand P ≡ true
    pub tries : tries_stand_by rules P ≡ true
    pub kinds : roots_are_of_kind P ≡ true
    pub fits : undo_fits P ≡ true
    pub in_order : rows_in_order P ≡ true

-- the first test that the pool fails, if any, by the rules by which pools are made
abbrev pub damage : Pool → Option Damage
damage P = damage_by present_rules P

-- a pool that passes every test by these rules
abbrev pub IsValid : Pool → Type 0
IsValid P = IsValidBy present_rules P

-- the first test that the pool fails by the rules of its own version, if any
abbrev pub own_damage : Pool → Option Damage
own_damage P = option_and_then (λ rules. damage_by rules P) (rules_of P.version)

-- a pool of a version that is read, which passes every test by its rules
abbrev pub IsValidByVersion : Pool → Type 0
IsValidByVersion P = IsSomeAnd (rules_of P.version) (λ rules. IsValidBy rules P)

-- the first of the tests that the bytes fail, if any, in a space of so many bits: one that the document is read by, or else one of
-- the pool of its rows, by the rules of its version
unfoldable pub document_damage : ℕ → Bytes → Option Damage
document_damage bits bytes = option_or (bytes_damage bits bytes) (option_and_then own_damage (pool_in_bytes bytes))

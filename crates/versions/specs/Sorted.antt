-- Finite sets and finite maps as lists: the keys of a set, and the entries of a map, by rising keys.
use Rattle.std.specs.Prelude.{◌≡◌, ℕ, Bool, not, List, [], ◌∷◌, ◌++◌, is_some, unwrap_or}
use Rattle.std.specs.Ordering.{eq_by_cmp}
use Rattle.std.specs.declared.cmp.Ordering.{Ordering}
use Rattle.std.specs.declared.cmp.Ordering.TheVariants.{Equal}
use Rattle.std.specs.BTreeSet.{insert_key}
use Rattle.std.specs.FinMap.{find, get, put}
use Rattle.std.specs.FinMap.Entries.{where_key}
use Rattle.std.specs.List.{filter, list_any}
use Rattle.versions.specs.Store.{Versions}

-- the keys of a version of a store of sets, which is held
abbrev pub keys_of : {K : Type 0} → Versions (List K) → ℕ → List K
keys_of m v = unwrap_or (get m v) []

-- the entries of a version of a store of maps, which is held
abbrev pub entries_of : {K V : Type 0} → Versions (List (K × V)) → ℕ → List (K × V)
entries_of m v = unwrap_or (get m v) []

module _ {K : Type 0} (cmp : K → K → Ordering) where
  -- whether a set has the key
  abbrev pub has : K → List K → Bool
  has key keys = list_any (eq_by_cmp cmp key) keys

  -- the set without the key
  abbrev pub remove_key : List K → K → List K
  remove_key keys key = filter (λ k. not (eq_by_cmp cmp key k)) keys

  -- the set of these keys
  abbrev pub sorted_keys : List K → List K
  sorted_keys [] = []
  sorted_keys (k ∷ ks) = insert_key cmp (sorted_keys ks) k

  -- the keys of a set that the other has too
  abbrev pub both : List K → List K → List K
  both keys others = filter (λ k. has k others) keys

  -- the keys of a set that the other lacks
  abbrev pub less : List K → List K → List K
  less keys others = filter (λ k. not (has k others)) keys

  -- the keys of a set, and those of the other that it lacks
  abbrev pub union : List K → List K → List K
  union keys others = sorted_keys (keys ++ less others keys)

  module _ {V : Type 0} where
    -- the map without the key
    abbrev pub remove_entry : List (K × V) → K → List (K × V)
    remove_entry es key = where_key cmp (λ k. not (eq_by_cmp cmp key k)) es

    -- the map of these entries, of which each takes the place of a later one with an equal key
    abbrev pub by_keys : List (K × V) → List (K × V)
    by_keys [] = []
    by_keys (e ∷ es) = put cmp e.0 e.1 (by_keys es)

    -- the entries of a map with keys that the other has too
    abbrev pub map_both : List (K × V) → List (K × V) → List (K × V)
    map_both es others = where_key cmp (λ k. is_some (find cmp k others)) es

    -- the entries of a map with keys that the other lacks
    abbrev pub map_less : List (K × V) → List (K × V) → List (K × V)
    map_less es others = where_key cmp (λ k. not (is_some (find cmp k others))) es

    -- the entries of a map, and those of the other with keys that it lacks
    abbrev pub map_union : List (K × V) → List (K × V) → List (K × V)
    map_union es others = by_keys (es ++ map_less others es)

    -- the keys are equal, and so are the values
    abbrev pub IsEqualEntry : (V → V → Ordering) → K × V → K × V → Type 0
    IsEqualEntry value_cmp e d = (cmp e.0 d.0 ≡ Equal) × (value_cmp e.1 d.1 ≡ Equal)

-- The store of sets that a document stands for.
use Rattle.std.specs.Prelude.{ℕ, List, map, Option, codes}
use Rattle.std.specs.declared.cmp.Ordering.{Ordering}
use Rattle.pool_text.specs.Rows.{Bytes}
use Rattle.pool_text.specs.declared.pool.Pool.{Pool}
use Rattle.pool_text.specs.declared.damage.Damage.{Damage}
use Rattle.pool_check.specs.declared.root.RootKind.TheVariants.{Cells}
use Rattle.pool_load.specs.Laws.{entries_in}
use Rattle.versions.specs.Store.{Versions}
use Rattle.versions.specs.Sorted.{sorted_keys}
use Rattle.versions_pool.specs.Stores.{store_damage, store_in, IsDocumentOf}

-- the format of such a document
abbrev pub sets_format : Bytes
sets_format = codes "naipselu-sets"

-- the first of all tests that the bytes fail, if any, where each root has to be a set of cells
abbrev pub sets_damage : Bytes → Option Damage
sets_damage bytes = store_damage sets_format Cells bytes

module _ {K : Type 0} (cmp : K → K → Ordering) (of_bytes : Bytes → K) where
  -- the keys of the set at a place, each read of its text, in rising order
  abbrev pub set_in : Pool → ℕ → List K
  set_in P place = sorted_keys cmp (map (λ e. of_bytes e.key) (entries_in P place))

  -- the store that the bytes stand for, where they fail no test
  abbrev pub sets_in : Bytes → Option (Versions (List K))
  sets_in bytes = store_in sets_format Cells set_in bytes

  -- the bytes are the compact text of a document of these sets
  abbrev pub IsSetsDocument : Versions (List K) → Bytes → Type 0
  IsSetsDocument sets bytes = IsDocumentOf sets_format Cells set_in sets bytes

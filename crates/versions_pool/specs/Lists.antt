-- The store of lists that a document stands for.
use Rattle.std.specs.Prelude.{ℕ, List, filter_map, Option, option_map, codes}
use Rattle.node_heap.specs.Forms.{value_of}
use Rattle.rrb_core.specs.Seq.{seq}
use Rattle.pool_text.specs.Rows.{Bytes}
use Rattle.pool_text.specs.Pool.{forms_in}
use Rattle.pool_text.specs.declared.pool.Pool.{Pool}
use Rattle.pool_text.specs.declared.damage.Damage.{Damage}
use Rattle.pool_check.specs.declared.root.RootKind.TheVariants.{Lines}
use Rattle.versions.specs.Store.{Versions}
use Rattle.versions_pool.specs.Stores.{store_damage, store_in, IsDocumentOf}

-- the format of such a document
abbrev pub lists_format : Bytes
lists_format = codes "naipselu-lists"

-- the first of all tests that the bytes fail, if any, where each root has to be a vector of cells
abbrev pub lists_damage : Bytes → Option Damage
lists_damage bytes = store_damage lists_format Lines bytes

module _ {T : Type 0} (of_bytes : Bytes → T) where
  -- the elements of the vector at a place, each read of its text
  abbrev pub list_in : Pool → ℕ → List T
  list_in P place = filter_map (λ k. option_map of_bytes (value_of (forms_in P k))) (seq (forms_in P) place)

  -- the store that the bytes stand for, where they fail no test
  abbrev pub lists_in : Bytes → Option (Versions (List T))
  lists_in bytes = store_in lists_format Lines list_in bytes

  -- the bytes are the compact text of a document of these lists
  abbrev pub IsListsDocument : Versions (List T) → Bytes → Type 0
  IsListsDocument lists bytes = IsDocumentOf lists_format Lines list_in lists bytes

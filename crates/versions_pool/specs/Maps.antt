-- The store of maps that a document stands for: the cells are plain texts, a pair's first one that of a key and its second that of a
-- value. No cell is both, so that a cell of the document is one of the store.
use Rattle.std.specs.Prelude.{◌≡◌, ℕ, true, List, ◌∷◌, Option, Some, None, is_some, option_map, option_and_then, if◌then◌else◌, codes}
use Rattle.std.specs.List.{filter_map}
use Rattle.std.specs.Option.{option_or}
use Rattle.std.specs.declared.cmp.Ordering.{Ordering}
use Rattle.node_heap.specs.Forms.{value_of, links_in}
use Rattle.champ_chain.specs.Entry.{Entry}
use Rattle.pool_text.specs.Rows.{Bytes}
use Rattle.pool_text.specs.Pool.{forms_in}
use Rattle.pool_text.specs.declared.pool.Pool.{Pool}
use Rattle.pool_text.specs.declared.damage.Damage.{Damage}
use Rattle.pool_text.specs.declared.damage.Damage.TheVariants.{Kind}
use Rattle.pool_check.specs.declared.root.RootKind.TheVariants.{CellMap}
use Rattle.pool_load.specs.Laws.{entries_in}
use Rattle.versions.specs.Store.{Versions}
use Rattle.versions.specs.Sorted.{by_keys}
use Rattle.versions_pool.specs.Saved.{Saved, saved_in_bytes}
use Rattle.versions_pool.specs.Apart.{are_apart}
use Rattle.versions_pool.specs.Stores.{store_damage, store_in, IsDocumentOf}

-- the format of such a document
abbrev pub maps_format : Bytes
maps_format = codes "naipselu-maps"

-- `Kind` where a cell is a key and a value
abbrev pub both_damage : Saved → Option Damage
both_damage s = if are_apart s.rows then None else Some Kind

-- the first of all tests that the bytes fail, if any, where each root has to be a map from cells to cells, and last no cell a key
-- and a value
abbrev pub maps_damage : Bytes → Option Damage
maps_damage bytes = option_or (store_damage maps_format CellMap bytes) (option_and_then both_damage (saved_in_bytes maps_format bytes))

-- the text of the second of these links
abbrev pub second_text : Pool → List ℕ → Option Bytes
second_text P (k ∷ v ∷ _) = value_of (forms_in P v)
second_text P _ = None

module _ {K V : Type 0} (cmp : K → K → Ordering) (of_key : Bytes → K) (of_value : Bytes → V) where
  -- the key and the value of an entry, each read of its text
  abbrev pub entry_read : Pool → Entry Bytes → Option (K × V)
  entry_read P e = option_map (λ text. (of_key e.key, of_value text)) (second_text P (links_in (forms_in P) e.link))

  -- the entries of the map at a place, by rising keys
  abbrev pub map_in : Pool → ℕ → List (K × V)
  map_in P place = by_keys cmp (filter_map (entry_read P) (entries_in P place))

  -- the store that the bytes stand for, where they fail no test
  abbrev pub maps_in : Bytes → Option (Versions (List (K × V)))
  maps_in bytes = if is_some (maps_damage bytes) then None else store_in maps_format CellMap map_in bytes

  -- the bytes are the compact text of a document of these maps
  pub record IsMapsDocument (maps : Versions (List (K × V))) (bytes : Bytes) : Type 0 where
    pub document : IsDocumentOf maps_format CellMap map_in maps bytes
    pub apart : are_apart document.saved.rows ≡ true

-- The store that a document stands for, whatever its values are: each version has the value that is read of the rows at its root.
use Rattle.std.specs.Prelude.{◌≡◌, ℕ, ◌≤◌, ◌^◌, true, List, length, map, replicate, Option, None, is_some, option_map, option_and_then, if◌then◌else◌}
use Rattle.std.specs.List.{list_all, zip}
use Rattle.std.specs.FinMap.{from_entries}
use Rattle.std.specs.Option.{option_or}
use Rattle.elem_core.specs.declared.codes.TheConstants.{CODE_BITS}
use Rattle.node_heap.specs.Forms.{Form}
use Rattle.pool_text.specs.Rows.{Bytes, is_in_range}
use Rattle.pool_text.specs.Rules.{present_rules}
use Rattle.pool_text.specs.declared.pool.Pool.{Pool}
use Rattle.pool_text.specs.declared.rules.TheConstants.{PRESENT_VERSION, MOST_HISTORY}
use Rattle.pool_text.specs.declared.damage.Damage.{Damage}
use Rattle.pool_check.specs.Damages.{damage_with_roots}
use Rattle.pool_check.specs.declared.root.RootKind.{RootKind}
use Rattle.versions.specs.Store.{Versions}
use Rattle.versions_pool.specs.Saved.{Saved, rise, saved_text, saved_in_bytes, bytes_damage}

-- the pool of these rows and roots
abbrev pub pool_with : List (Form Bytes) → List ℕ → Pool
pool_with rows roots = record { bits = CODE_BITS; version = PRESENT_VERSION; history = MOST_HISTORY; rows = rows; roots = roots }

-- the pool of a document
abbrev pub pool_of : Saved → Pool
pool_of s = pool_with s.rows s.roots

-- the first of the tests `Link` to `Order` that they fail, if any, where each root has to be of this kind
abbrev pub saved_damage : RootKind → Saved → Option Damage
saved_damage kind s = damage_with_roots present_rules (replicate (length s.roots) kind) (pool_of s)

module _ {V : Type 0} (read : Pool → ℕ → V) where
  -- the value of each version
  abbrev pub values_of : Saved → Versions V
  values_of s = from_entries (zip s.names (map (read (pool_of s)) s.roots))

  -- it says the names of these values and their rows, which are in range and fail no test
  pub record Says (kind : RootKind) (values : Versions V) (s : Saved) : Type 0 where
    pub rise : rise s.names ≡ true
    pub many : length s.names ≡ length s.roots
    pub few : length s.names ≤ 2 ^ 50
    pub in_range : list_all is_in_range s.rows ≡ true
    pub undamaged : saved_damage kind s ≡ None
    pub stands : values_of s ≡ values

module _ (format : Bytes) (kind : RootKind) where
  -- the first of all tests that the bytes fail, if any
  unfoldable pub store_damage : Bytes → Option Damage
  store_damage bytes = option_or (bytes_damage format bytes) (option_and_then (saved_damage kind) (saved_in_bytes format bytes))

  module _ {V : Type 0} (read : Pool → ℕ → V) where
    -- the store that the bytes stand for, where they fail no test
    unfoldable pub store_in : Bytes → Option (Versions V)
    store_in bytes = if is_some (store_damage bytes) then None else option_map (values_of read) (saved_in_bytes format bytes)

    -- the bytes are the compact text of a document that says so
    pub record IsDocumentOf (values : Versions V) (bytes : Bytes) : Type 0 where
      pub saved : Saved
      pub text : bytes ≡ saved_text format saved
      pub says : Says read kind values saved

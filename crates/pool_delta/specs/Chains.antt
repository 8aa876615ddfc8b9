-- Chains of documents: a whole one, and then partial ones, each of which goes on after the rows before it.
use Rattle.std.specs.Prelude.{◌≡◌, ◌≤◌, ℕ, ◌==◌, true, List, [], ◌∷◌, ◌++◌, length, Option, Some, None, option_map, option_and_then, if◌then◌else◌}
use Rattle.std.specs.List.{list_all}
use Rattle.std.specs.Option.{option_or}
use Rattle.elem_core.specs.declared.codes.TheConstants.{CODE_BITS}
use Rattle.pool_text.specs.Rows.{Bytes, is_in_range}
use Rattle.pool_text.specs.Rules.{present_rules}
use Rattle.pool_text.specs.Pool.{forms_in, row_count, settings_by, pool}
use Rattle.pool_text.specs.Document.{pool_in_bytes, present_bytes_damage}
use Rattle.pool_text.specs.declared.pool.Pool.{Pool}
use Rattle.pool_text.specs.declared.rules.TheConstants.{PRESENT_VERSION, MOST_HISTORY}
use Rattle.pool_text.specs.declared.damage.Damage.{Damage}
use Rattle.pool_text.specs.declared.damage.Damage.TheVariants.{Link}
use Rattle.pool_check.specs.Damages.{open_damage, damage}
use Rattle.pool_delta.specs.Parts.{Part, part_in_bytes, part_bytes_damage}

-- A chain is seen as a pool: all rows so far, and the roots, the bits and the history of its last document. Its rows needn't stand in
-- order, and not all of them are reached.

-- a chain: a pool of the version that is written, of four roots, whose rows are in range and pass the tests from `Link` to `Kind`
pub record IsChain (C : Pool) : Type 0 where
  pub version : C.version ≡ PRESENT_VERSION
  pub bits : C.bits ≤ CODE_BITS
  pub history : C.history ≤ MOST_HISTORY
  pub roots : length C.roots ≡ 4
  pub in_range : list_all is_in_range C.rows ≡ true
  pub passes : open_damage present_rules C ≡ None

-- the pool that a chain stands for: the rows that the last roots reach, in their order
abbrev pub chain_pool : Pool → Pool
chain_pool C = pool (row_count C) (forms_in C) C.roots (settings_by C.bits C.history)

-- the chain with a part behind it
abbrev pub with_part : Pool → Part → Pool
with_part C p = record C { history = p.history; rows = C.rows ++ p.rows; roots = p.roots }

-- The first document.

-- the first of the tests that the bytes fail as the first document of a chain, which has the version that is written
unfoldable pub start_damage : ℕ → Bytes → Option Damage
start_damage bits bytes = option_or (present_bytes_damage bits bytes) (option_and_then damage (pool_in_bytes bytes))

-- Those after it.

-- the first of the tests from `Link` on that the part fails after the chain: its rows go on where those before it ended
abbrev pub rows_damage : Pool → Part → Option Damage
rows_damage C p = if p.after == row_count C then open_damage present_rules (with_part C p) else Some Link

-- the first of the tests that the bytes fail as a partial document after the chain: one that it is read by, or else one of the rows
unfoldable pub more_damage : Pool → Bytes → Option Damage
more_damage C bytes = option_or (part_bytes_damage C.bits bytes) (option_and_then (rows_damage C) (part_in_bytes bytes))

-- the chain with the bytes as a partial document behind it
abbrev pub chain_with : Pool → Bytes → Option Pool
chain_with C bytes = option_map (with_part C) (part_in_bytes bytes)

-- Whole chains.

-- the chain with all these behind it
abbrev pub chain_with_all : Pool → List Bytes → Option Pool
chain_with_all C [] = Some C
chain_with_all C (bytes ∷ more) = option_and_then (λ D. chain_with_all D more) (chain_with C bytes)

-- the first damage among them
abbrev pub damage_with_all : Pool → List Bytes → Option Damage
damage_with_all C [] = None
damage_with_all C (bytes ∷ more) = option_or (more_damage C bytes) (option_and_then (λ D. damage_with_all D more) (chain_with C bytes))

-- the chain that begins with the first of the documents
abbrev pub chain_in : Bytes → List Bytes → Option Pool
chain_in first more = option_and_then (λ C. chain_with_all C more) (pool_in_bytes first)

-- the damage of the documents as a chain: the first failing test of the first failing document
abbrev pub chain_damage : ℕ → Bytes → List Bytes → Option Damage
chain_damage bits first more = option_or (start_damage bits first) (option_and_then (λ C. damage_with_all C more) (pool_in_bytes first))

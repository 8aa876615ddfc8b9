-- What a pool of rows passes by how it is made.
use Rattle.std.specs.Prelude.{◌≡◌, ℕ, ◌<◌, Bool, true, List, Some}
use Rattle.node_heap.specs.Links.{count, Reaches}
use Rattle.node_heap.specs.Forms.{Form, Forms, links_in}
use Rattle.pool_text.specs.Rows.{Bytes, is_in_range_to}
use Rattle.pool_text.specs.Rules.{Rules}
use Rattle.pool_text.specs.Pool.{Settings, pool}
use Rattle.pool_text.specs.Renaming.{IsRooted}
use Rattle.pool_text.specs.declared.pool.Pool.{Pool}
use Rattle.pool_check.specs.Rows.{is_line_or_node, rows_in_range_by, links_lead_back, texts_are_lines}
use Rattle.pool_check.specs.Damages.{rows_in_order}

-- each row that the roots reach passes the test
abbrev pub AllReachedPass : (Form Bytes → Bool) → Forms Bytes → List ℕ → Type 0
AllReachedPass test G roots = (r l : ℕ) (row : Form Bytes) → 0 < count r roots → Reaches (links_in G) r l → G l ≡ Some row → test row ≡ true

-- the pool passes the tests `Link` and `Order`, and the tests of single rows where the rows that the roots reach do
pub record PassesAsMade (G : Forms Bytes) (roots : List ℕ) (P : Pool) : Type 0 where
  pub lead_back : links_lead_back P ≡ true
  pub in_order : rows_in_order P ≡ true
  pub in_range : (rules : Rules) → AllReachedPass (is_in_range_to rules.deepest) G roots → rows_in_range_by rules P ≡ true
  pub lines : AllReachedPass is_line_or_node G roots → texts_are_lines P ≡ true

-- so does each pool of rooted rows
abbrev pub PoolsPassAsMade : Type 0
PoolsPassAsMade = (n : ℕ) (G : Forms Bytes) (roots : List ℕ) (settings : Settings) → IsRooted n G roots → PassesAsMade G roots (pool n G roots settings)

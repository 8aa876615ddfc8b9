-- What was found of the rows of a pool, so that rows behind them are tested alone.
use Rattle.std.specs.Prelude.{◌≡◌, ◌≤◌, true, List, [], ◌++◌, length, None}
use Rattle.std.specs.List.{list_all}
use Rattle.elem_core.specs.declared.codes.TheConstants.{CODE_BITS}
use Rattle.node_heap.specs.Forms.{Form}
use Rattle.champ_trie.specs.Trie.{code_by}
use Rattle.pool_text.specs.Rows.{Bytes, is_in_range}
use Rattle.pool_text.specs.Rules.{present_rules}
use Rattle.pool_text.specs.Pool.{forms_in, row_count}
use Rattle.pool_text.specs.declared.pool.Pool.{Pool}
use Rattle.pool_check.specs.Damages.{open_damage, RowsPass}
use Rattle.pool_check.specs.Shapes.{AreShapes}
use Rattle.pool_check.specs.Keeping.{AreKept}
use Rattle.pool_check.specs.Facts.{AreFacts, facts_in}
use Rattle.pool_check.specs.declared.tested.RowsFound.{RowsFound}

-- this was found of each row
pub record IsFound (P : Pool) (found : RowsFound) : Type 0 where
  pub shapes : AreShapes (forms_in P) found.shapes.items
  pub shape_count : length found.shapes.items ≡ row_count P
  pub kept : AreKept (row_count P) (forms_in P) (code_by present_rules.code_of P.bits) present_rules.deepest found.kept.items
  pub kept_count : length found.kept.items ≡ row_count P
  pub facts : AreFacts (facts_in P) found.facts.items
  pub fact_count : length found.facts.items ≡ row_count P

-- nothing was found
pub record IsNothing (found : RowsFound) : Type 0 where
  pub shapes : found.shapes.items ≡ []
  pub kept : found.kept.items ≡ []
  pub facts : found.facts.items ≡ []

-- the pool begins with the rows of one whose rows pass the tests `Link` to `Trie`, and this was found of these
pub record FollowsFound (P : Pool) (found : RowsFound) : Type 0 where
  pub first : Pool
  pub more : List (Form Bytes)
  pub rows : P.rows ≡ first.rows ++ more
  pub bits : P.bits ≡ first.bits
  pub pass : RowsPass present_rules first
  pub known : IsFound first found

-- the pool passes the tests `Link` to `Kind`, and this was found of its rows
pub record IsTested (P : Pool) (found : RowsFound) : Type 0 where
  pub bits : P.bits ≤ CODE_BITS
  pub in_range : list_all is_in_range P.rows ≡ true
  pub passes : open_damage present_rules P ≡ None
  pub known : IsFound P found

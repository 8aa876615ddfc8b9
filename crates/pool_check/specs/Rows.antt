-- The tests of single rows: ranges, links and texts.
use Rattle.std.specs.Prelude.{ℕ, suc, Bool, true, not, ◌&&◌, ◌==◌, nat_lt, nat_le, List, [], ◌∷◌, length, Some}
use Rattle.std.specs.List.{list_any, list_all}
use Rattle.elem_core.specs.declared.TheConstants.{MAX_LINE, NEWLINE}
use Rattle.node_heap.specs.Forms.{Form, cell, node, links_of}
use Rattle.pool_text.specs.Rows.{Bytes, is_in_range_to}
use Rattle.pool_text.specs.Rules.{Rules, present_rules}
use Rattle.pool_text.specs.Pool.{row_count}
use Rattle.pool_text.specs.declared.pool.Pool.{Pool}

-- every row is in range by the rules
unfoldable pub rows_in_range_by : Rules → Pool → Bool
rows_in_range_by rules P = list_all (is_in_range_to rules.deepest) P.rows

-- every row is in range
abbrev pub rows_in_range : Pool → Bool
rows_in_range P = rows_in_range_by present_rules P

-- every row from this place on has links to earlier places alone
abbrev pub rows_lead_back : {K : Type 0} → ℕ → List (Form K) → Bool
rows_lead_back place [] = true
rows_lead_back place (row ∷ rows) = list_all (λ k. nat_lt k place) (links_of (Some row)) && rows_lead_back (suc place) rows

-- every link of a row is smaller than the row's place, and every root than the number of rows
unfoldable pub links_lead_back : Pool → Bool
links_lead_back P = rows_lead_back 0 P.rows && list_all (λ k. nat_lt k (row_count P)) P.roots

-- whether the row is a cell of a line, or a node
abbrev pub is_line_or_node : Form Bytes → Bool
is_line_or_node (cell text) = not (list_any (λ b. b == NEWLINE) text) && nat_le (length text) MAX_LINE
is_line_or_node (node _ _) = true

-- every cell's text is a line
unfoldable pub texts_are_lines : Pool → Bool
texts_are_lines P = list_all is_line_or_node P.rows

-- The line cells of a valid pool are cells, and their texts are lines.
use Rattle.std.proofs.Common.{◌≡◌, ℕ, refl, true, Option, Some, None}
use Rattle.std.specs.List.{All}
use Rattle.std.proofs.lemmas.List.Elements.{All-map}
use Rattle.elem_core.specs.Cell.{IsCell}
use Rattle.node_heap.specs.Forms.{Form, cell, node}
use Rattle.rrb_core.proofs.LinkCounts.{all-counted}
use Rattle.pool_text.specs.Rows.{Bytes}
use Rattle.pool_text.specs.Rules.{Rules}
use Rattle.pool_text.specs.Pool.{forms_in}
use Rattle.pool_text.specs.declared.pool.Pool.{Pool}
use Rattle.pool_check.specs.Rows.{is_line_or_node, texts_are_lines}
use Rattle.pool_check.specs.Damages.{IsValidBy}
use Rattle.pool_check.proofs.TestLemmas.{not-both, all-at}
use Rattle.state_rows.proofs.ValidSpace.{line-passed}
use Rattle.pool_map.specs.Lines.{is_cell, text_in, line_cells, line_texts}
use Rattle.pool_map.proofs.MappedRows.{listed-cell}

-- a cell has its text
pub cell-text : (r : Option (Form Bytes)) → is_cell r ≡ true → r ≡ Some (cell (text_in r))
cell-text None is = absurd (not-both is)
cell-text (Some (cell text)) is = refl
cell-text (Some (node kind links)) is = absurd (not-both is)

module _ (rules : Rules) (P : Pool) (valid : IsValidBy rules P) where
  pub line-at : (l : ℕ) (text : Bytes) → forms_in P l ≡ Some (cell text) → IsCell text
  unfolding texts_are_lines
  line-at l text is = line-passed text (all-at is_line_or_node P.rows valid.lines l (cell text) is)

  pub texts-are : All IsCell (line_texts P)
  texts-are =
      All-map IsCell (λ l. text_in (forms_in P l)) (line_cells P)
      (all-counted (λ l. IsCell (text_in (forms_in P l))) (line_cells P) (λ l some. line-at l (text_in (forms_in P l)) (cell-text (forms_in P l) (listed-cell (λ t. t) P l some))))

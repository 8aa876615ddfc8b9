use Rattle.std.proofs.Common.{◌≡◌, ◌<◌, ℕ, Some, slice_get}
use Rattle.elem_core.specs.Cell.{IsCell}
use Rattle.node_heap.specs.Forms.{cell}
use Rattle.node_heap.specs.Heap.{row_at}
use Rattle.versions_pool.proofs.saving.texts_are_cells.Given as goal

abbrev pub invariant-loop-place : goal.invariant-loop-place
invariant-loop-place g l = (i k : ℕ) (x : g.row.T.Denot) → i < l.place → slice_get l.fn.listed i ≡ Some k → row_at l.fn.heap k ≡ Some (cell x) → IsCell (g.C.CellTexts.bytes_of x)

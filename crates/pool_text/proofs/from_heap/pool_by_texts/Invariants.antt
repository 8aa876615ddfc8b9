use Rattle.std.proofs.Common.{◌≡◌, map, take, option_map}
use Rattle.std.specs.List.{filter_map}
use Rattle.pool_text.specs.Rows.{row_form}
use Rattle.pool_text.specs.Pool.{place_in, relink, text_forms}
use Rattle.pool_text.proofs.from_heap.pool_by_texts.Given as goal

abbrev pub invariant-loop-place : goal.invariant-loop-place
invariant-loop-place g l = map row_form l.rows.items ≡ filter_map (λ k. option_map (relink (place_in l.order)) (text_forms g.C.CellTexts.bytes_of l.heap k)) (take l.place l.order)

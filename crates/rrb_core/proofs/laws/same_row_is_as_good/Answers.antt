use Rattle.node_heap.specs.Heap.{form_at}
use Rattle.rrb_core.proofs.SameRows.{form-same, row-same, thick-same}
use Rattle.rrb_core.proofs.laws.same_row_is_as_good.Goals as goal

pub returns-clause-good : goal.returns-clause-good
returns-clause-good g c h n l k xs same row = row-same h l k same row

pub returns-clause-thick : goal.returns-clause-thick
returns-clause-thick g c h n l k same thick = thick-same (form_at h) l k (form-same h l k same) n thick

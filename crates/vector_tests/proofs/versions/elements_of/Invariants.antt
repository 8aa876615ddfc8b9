use Rattle.std.specs.List.{All}
use Rattle.node_heap.specs.Heap.{form_at}
use Rattle.same_value.specs.Cells.{IsCellLink}
use Rattle.vector_tests.proofs.versions.elements_of.Given as goal

abbrev pub invariant-loop-index : goal.invariant-loop-index
invariant-loop-index g l = All (IsCellLink (form_at l.fn.heap)) l.links.items

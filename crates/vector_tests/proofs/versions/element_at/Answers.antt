use Rattle.vector_tests.proofs.VectorsLemmas.{element-cell}
use Rattle.vector_tests.proofs.versions.element_at.Goals as goal

pub get-requires : goal.get-requires
get-requires c = rw c.at.ensures c.requires.good

pub returns : goal.returns
returns c = element-cell c.args.heap.now c.args.root c.args.index c.get.result (rw c.at.ensures at c.get.ensures.value) c.requires

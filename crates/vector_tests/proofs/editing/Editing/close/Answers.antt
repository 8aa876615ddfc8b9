use Rattle.std.proofs.Common.{[], refl, arith}
use Rattle.node_heap.proofs.Counts.{test_same}
use Rattle.node_heap.proofs.BuildLemmas.{count-cons}
use Rattle.vector_tests.proofs.EditingLemmas.{root-held, hold-each}
use Rattle.vector_tests.proofs.editing.Editing.close.Goals as goal

pub release-requires : goal.release-requires
release-requires c = rw c.freeze.ensures (root-held c.self.inside.heap c.self.inside.vector c.self.inside.kept c.self.inside.cells.items c.self.invariant)

pub release-requires-2 : goal.release-requires-2
release-requires-2 c =
    let kept = c.self.inside.kept in
    let given = rw c.freeze.ensures at c.release.ensures.releases.holds kept in
    omega (
      arith,
      given,
      hold-each c.self.inside.heap c.self.inside.vector kept c.self.inside.cells.items kept c.self.invariant.holds,
      count-cons kept c.self.inside.vector [],
      count-cons kept kept [],
      test_same kept kept refl,
    )

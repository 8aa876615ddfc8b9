use Rattle.rrb_core.specs.Vector.{height_at}
use Rattle.rrb_core.proofs.Stays.{well-live}
use Rattle.vector_tests.proofs.same_root.gives_itself.Goals as goal

pub owners-owners-requires : goal.owners-owners-requires
owners-owners-requires c = well-live c.args.heap.now (height_at c.args.heap.now c.args.all) c.args.all c.requires.good.shape.well

pub owners-requires : goal.owners-requires
owners-requires c =
    let h = c.vector_after.new.heap in
    let root = c.in_ok-vector_after.field-0 in
    rw c.into_root-root.ensures (well-live h (height_at h root) root c.in_ok-vector_after.ensures.good.shape.well)

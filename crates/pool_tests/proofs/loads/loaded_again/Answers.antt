use Rattle.pool_load.proofs.LoadedRoots.{rows-of-loaded}
use Rattle.pool_tests.proofs.loads.loaded_again.Goals as goal

pub saved-requires : goal.saved-requires
saved-requires c =
    (c.args.document, rw c.deref.ensures.value (rows-of-loaded _ c.load.new.heap c.in_ok-roots.roots.items c.args.document c.in_ok-roots.ensures.loaded))

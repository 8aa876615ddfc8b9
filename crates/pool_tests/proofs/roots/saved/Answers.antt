use Rattle.pool_tests.proofs.roots.saved.Goals as goal

pub order-requires : goal.order-requires
order-requires g c = let loaded = c.requires in record { live = loaded.1.live }

pub pool_of-requires-clause-fits : goal.pool_of-requires-clause-fits
pool_of-requires-clause-fits g c = λ r l root down. c.loaded_roots_fit.ensures c.args.heap.now c.args.roots.now c.requires.0 r l c.requires.1 root down

use Rattle.rrb_core.proofs.Stays.{extended-same}
use Rattle.rrb_core.proofs.FilledLemmas.{filled-vector}
use Rattle.rrb_core.proofs.build.vector_of_spares.Goals as goal

pub returns-clause-items : goal.returns-clause-items
returns-clause-items g c = rw c.from_root.ensures (filled-vector c.row_of-root.ensures c.lowest_height-height.ensures.low c.lowest_height-height.ensures.lowest c.requires.short).1

pub returns-clause-good : goal.returns-clause-good
returns-clause-good g c = rw c.from_root.ensures (filled-vector c.row_of-root.ensures c.lowest_height-height.ensures.low c.lowest_height-height.ensures.lowest c.requires.short).0

pub returns-clause-vectors : goal.returns-clause-vectors
returns-clause-vectors g c = extended-same c.row_of-root.ensures.builds.extends

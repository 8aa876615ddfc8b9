use Rattle.space_state.proofs.Front.{asked}
use Rattle.std.proofs.Common.{[]}
use Rattle.space_state.proofs.space.Space.in_batch.Goals as goal

pub returns : goal.returns
returns c = asked c.self.inside.rows c.self.view_is c.self.invariant (c.in_batch.ensures [])

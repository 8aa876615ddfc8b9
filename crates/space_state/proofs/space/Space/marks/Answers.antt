use Rattle.space_state.proofs.Keeping.{versions-stand}
use Rattle.space_state.proofs.Front.{asked}
use Rattle.space_state.proofs.space.Space.marks.Goals as goal

pub marks-requires-clause-bits : goal.marks-requires-clause-bits
marks-requires-clause-bits c = rw c.versions.ensures c.self.invariant.1.bits

pub marks-requires-clause-versions : goal.marks-requires-clause-versions
marks-requires-clause-versions c = (c.self.invariant.0.versions, rw c.versions.ensures (versions-stand c.self.invariant.1))

pub returns : goal.returns
returns c = asked c.self.inside.rows c.self.view_is c.self.invariant (λ W K. c.marks.ensures W.versions (rw c.versions.ensures (versions-stand K)))

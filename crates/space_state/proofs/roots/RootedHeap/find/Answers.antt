use Rattle.space_state.proofs.Keeping.{current-stands}
use Rattle.space_state.proofs.roots.RootedHeap.find.Goals as goal

pub find_buffer-requires-clause-state : goal.find_buffer-requires-clause-state
find_buffer-requires-clause-state c = (c.requires.0.current, current-stands c.requires.1)

pub returns-clause-lines : goal.returns-clause-lines
returns-clause-lines c = λ W K. c.find_buffer.ensures.lines W.current (current-stands K)

pub returns-clause-alike : goal.returns-clause-alike
returns-clause-alike c = λ W K. c.find_buffer.ensures.alike W.current (current-stands K)

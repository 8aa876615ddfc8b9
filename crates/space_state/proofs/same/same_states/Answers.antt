use Rattle.space_state.proofs.SameContents.{as-state, state-tells}
use Rattle.space_state.proofs.same.same_states.Goals as goal

pub equal_state-requires-clause-first : goal.equal_state-requires-clause-first
equal_state-requires-clause-first c = as-state c.args.heap.now c.args.bits c.requires.bits c.args.one c.requires.one.0 c.requires.one.1

pub equal_state-requires-clause-second : goal.equal_state-requires-clause-second
equal_state-requires-clause-second c = as-state c.args.heap.now c.args.bits c.requires.bits c.args.other c.requires.other.0 c.requires.other.1

pub returns : goal.returns
returns c = λ s t first second.
    let told = state-tells c.args.heap.now c.args.bits c.requires.bits c.args.one c.args.other s t first second in
    (λ yes. told.0 (c.equal_state.ensures.equal.0 yes), λ same. c.equal_state.ensures.equal.1 (told.1 same))

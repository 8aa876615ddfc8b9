use Rattle.space_state.proofs.SameContents.{as-lines, lines-same}
use Rattle.space_state.proofs.same.same_lines.Goals as goal

pub equal_vec-requires-clause-first : goal.equal_vec-requires-clause-first
equal_vec-requires-clause-first c = as-lines c.args.heap.now c.requires.one.0 c.args.one c.requires.one.1 c.requires.one.2

pub equal_vec-requires-clause-second : goal.equal_vec-requires-clause-second
equal_vec-requires-clause-second c = as-lines c.args.heap.now c.requires.other.0 c.args.other c.requires.other.1 c.requires.other.2

pub returns : goal.returns
returns c = λ bits xs ys first second.
    let told = lines-same c.args.heap.now bits c.args.one c.args.other xs ys first second in
    (λ yes. told.0 (c.equal_vec.ensures.equal.0 yes), λ same. c.equal_vec.ensures.equal.1 (told.1 same))

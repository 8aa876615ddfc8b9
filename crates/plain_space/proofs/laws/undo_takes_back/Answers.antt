use Rattle.std.proofs.Common.{◌-◌, refl}
use Rattle.plain_space.specs.Workspace.{last_of}
use Rattle.plain_space.specs.Answer.{answer}
use Rattle.plain_space.proofs.LastOf.{last-one-more, seam, shorter, before-last}
use Rattle.plain_space.proofs.laws.undo_takes_back.Goals as goal

pub returns : goal.returns
unfolding answer
returns c = λ work next unbatched some.
    let kept = last-one-more work.history work.undo work.current some in
    let older = last_of (work.history - 1) work.undo in
    let less = shorter older work.current in
    let last = seam older work.current in
    let before = before-last older work.current in
    rw unbatched (rw kept (rw (less, last, before) refl))

use Rattle.std.proofs.Common.{refl}
use Rattle.std.specs.Fmt.{digits}
use Rattle.plain_space.specs.Edited.{edited}
use Rattle.plain_space.specs.Answer.{answer}
use Rattle.plain_space.specs.Session.{replies, from}
use Rattle.plain_space.proofs.Computing.{computing}
use Rattle.plain_space.proofs.worked.merge_steps.Goals as goal

pub returns : goal.returns
unfolding replies from answer edited digits
returns c = simp computing refl

use Rattle.std.proofs.Common.{refl}
use Rattle.std.specs.Fmt.{digits}
use Rattle.plain_space.specs.Edited.{edited}
use Rattle.plain_space.specs.Answer.{answer}
use Rattle.elem_core.specs.Codes.{text_code}
use Rattle.plain_space.specs.Cost.{cost}
use Rattle.plain_space.specs.Session.{replies, from}
use Rattle.plain_space.proofs.Computing.{computing}
use Rattle.plain_space.proofs.worked.cost.Goals as goal

pub returns : goal.returns
unfolding replies from answer edited digits cost text_code
returns c = record {
  buffers_alike = simp computing refl;
  buffers_apart = simp computing refl;
  names_alike = simp computing refl;
  names_apart = simp computing refl;
  merges = simp computing refl;
  states = simp computing refl;
  nothing = simp computing refl;
}

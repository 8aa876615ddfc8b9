use Rattle.std.proofs.Common.{refl}
use Rattle.plain_space.specs.Edited.{edited}
use Rattle.plain_space.specs.Answer.{answer}
use Rattle.plain_space.specs.Session.{from}
use Rattle.plain_space.proofs.Computing.{computing}
use Rattle.plain_space.proofs.worked.documents.Goals as goal

pub returns : goal.returns
unfolding from answer edited
returns c = record {
  outside = simp computing refl;
  in_batch = refl;
}

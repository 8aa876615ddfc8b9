use Rattle.std.proofs.Common.{refl}
use Rattle.plain_space.specs.Answer.{answer}
use Rattle.plain_space.proofs.laws.edits_in_batch.Goals as goal

pub returns : goal.returns
unfolding answer
returns c =
    record {
      edits = λ work change next batch made. rw (made, batch) refl;
      merges = λ work kind version state batch found. rw (found, batch) refl;
    }

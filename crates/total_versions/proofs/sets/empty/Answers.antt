use Rattle.std.proofs.Common.{[]}
use Rattle.total_versions.proofs.AnswerLemmas.{makes-memory}
use Rattle.total_versions.proofs.sets.empty.Goals as goal

pub returns : goal.returns
returns g c = rw c.told_memory.ensures (makes-memory c.args.sets.now c.empty.new.self ([]) tt c.empty.result c.empty.ensures.fresh c.empty.ensures.made c.empty.ensures.refused (λ z. z) (λ z. z))

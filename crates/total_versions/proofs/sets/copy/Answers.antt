use Rattle.std.proofs.Common.{refl}
use Rattle.versions.specs.Sorted.{keys_of}
use Rattle.total_versions.proofs.AnswerLemmas.{makes-memory, not-yes}
use Rattle.total_versions.proofs.sets.copy.Goals as goal

pub returns-then-not-holds : goal.returns-then-not-holds
returns-then-not-holds g c = (λ held. not-yes (c.holds.ensures.1 held) c.if-not-holds.true, refl)

pub returns : goal.returns
returns g c = rw c.told_memory.ensures (makes-memory c.args.sets.now c.copy.new.self (keys_of c.args.sets.now c.args.version) (c.holds.ensures.0 c.if-not-holds.false) c.copy.result c.copy.ensures.fresh c.copy.ensures.made c.copy.ensures.refused (λ z. z) (λ z. z))

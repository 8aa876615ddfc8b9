use Rattle.std.proofs.Common.{refl}
use Rattle.std.specs.BTreeSet.{insert_key}
use Rattle.versions.specs.Sorted.{keys_of}
use Rattle.total_versions.proofs.AnswerLemmas.{makes-memory, not-yes}
use Rattle.total_versions.proofs.sets.insert.Goals as goal

pub returns-then-not-holds : goal.returns-then-not-holds
returns-then-not-holds g c = (λ held. not-yes (c.holds.ensures.1 held) c.if-not-holds.true, refl)

pub returns : goal.returns
returns g c = rw c.told_memory.ensures (makes-memory c.args.sets.now c.insert.new.self (insert_key g.K.Ord.cmp (keys_of c.args.sets.now c.args.version) c.args.key) (c.holds.ensures.0 c.if-not-holds.false) c.insert.result c.insert.ensures.fresh c.insert.ensures.made c.insert.ensures.refused (λ z. z) (λ z. z))

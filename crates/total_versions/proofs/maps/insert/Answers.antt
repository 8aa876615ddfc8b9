use Rattle.std.proofs.Common.{refl}
use Rattle.std.specs.FinMap.{put}
use Rattle.versions.specs.Sorted.{entries_of}
use Rattle.total_versions.proofs.AnswerLemmas.{makes-memory, not-yes}
use Rattle.total_versions.proofs.maps.insert.Goals as goal

pub returns-then-not-holds : goal.returns-then-not-holds
returns-then-not-holds g c = (λ held. not-yes (c.holds.ensures.1 held) c.if-not-holds.true, refl)

pub returns : goal.returns
returns g c = rw c.told_memory.ensures (makes-memory c.args.maps.now c.insert.new.self (put g.K.Ord.cmp c.args.key c.args.value (entries_of c.args.maps.now c.args.version)) (c.holds.ensures.0 c.if-not-holds.false) c.insert.result c.insert.ensures.fresh c.insert.ensures.made c.insert.ensures.refused (λ z. z) (λ z. z))

use Rattle.std.proofs.Common.{refl}
use Rattle.versions.specs.Sorted.{entries_of, remove_entry}
use Rattle.total_versions.proofs.AnswerLemmas.{makes-memory, not-yes}
use Rattle.total_versions.proofs.maps.remove.Goals as goal

pub returns-then-not-holds : goal.returns-then-not-holds
returns-then-not-holds g c = (λ held. not-yes (c.holds.ensures.1 held) c.if-not-holds.true, refl)

pub returns : goal.returns
returns g c = rw c.told_memory.ensures (makes-memory c.args.maps.now c.remove.new.self (remove_entry g.K.Ord.cmp (entries_of c.args.maps.now c.args.version) (g.P.Probe.stands_for c.args.key.now)) (c.holds.ensures.0 c.if-not-holds.false) c.remove.result c.remove.ensures.fresh c.remove.ensures.made c.remove.ensures.refused (λ z. z) (λ z. z))

use Rattle.std.proofs.Common.{refl}
use Rattle.versions.specs.Sorted.{keys_of, remove_key}
use Rattle.total_versions.proofs.AnswerLemmas.{edits-memory, not-yes}
use Rattle.total_versions.proofs.sets.remove_here.Goals as goal

pub returns-then-not-holds : goal.returns-then-not-holds
returns-then-not-holds g c = (λ held. not-yes (c.holds.ensures.1 held) c.if-not-holds.true, refl)

pub returns : goal.returns
returns g c = rw c.told_memory_here.ensures (edits-memory c.args.sets.now c.remove_here.new.self c.args.version (remove_key g.K.Ord.cmp (keys_of c.args.sets.now c.args.version) (g.P.Probe.stands_for c.args.key.now)) (c.holds.ensures.0 c.if-not-holds.false) c.remove_here.result c.remove_here.ensures.made c.remove_here.ensures.refused (λ z. z) (λ z. z))

use Rattle.std.proofs.Common.{refl}
use Rattle.versions.specs.Sorted.{entries_of, map_both}
use Rattle.total_versions.proofs.AnswerLemmas.{makes-memory, not-yes}
use Rattle.total_versions.proofs.maps.both.Goals as goal

pub returns-then-not-holds : goal.returns-then-not-holds
returns-then-not-holds g c = (λ held. not-yes (c.holds.ensures.1 held.0) c.if-not-holds.true, refl)

pub returns-then-not-holds-2 : goal.returns-then-not-holds-2
returns-then-not-holds-2 g c = (λ held. not-yes (c.holds-2.ensures.1 held.1) c.if-not-holds-2.true, refl)

pub returns : goal.returns
returns g c = rw c.told_memory.ensures (makes-memory c.args.maps.now c.both.new.self (map_both g.K.Ord.cmp (entries_of c.args.maps.now c.args.first) (entries_of c.args.maps.now c.args.second)) (c.holds.ensures.0 c.if-not-holds.false, c.holds-2.ensures.0 c.if-not-holds-2.false) c.both.result c.both.ensures.fresh c.both.ensures.made c.both.ensures.refused (λ z. z) (λ z. z))

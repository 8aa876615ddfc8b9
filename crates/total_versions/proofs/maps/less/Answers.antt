use Rattle.std.proofs.Common.{refl}
use Rattle.versions.specs.Sorted.{entries_of, map_less}
use Rattle.total_versions.proofs.AnswerLemmas.{makes-memory, not-yes}
use Rattle.total_versions.proofs.maps.less.Goals as goal

pub returns-then-not-holds : goal.returns-then-not-holds
returns-then-not-holds g c = (λ held. not-yes (c.holds.ensures.1 held.0) c.if-not-holds.true, refl)

pub returns-then-not-holds-2 : goal.returns-then-not-holds-2
returns-then-not-holds-2 g c = (λ held. not-yes (c.holds-2.ensures.1 held.1) c.if-not-holds-2.true, refl)

pub returns : goal.returns
returns g c = rw c.told_memory.ensures (makes-memory c.args.maps.now c.less.new.self (map_less g.K.Ord.cmp (entries_of c.args.maps.now c.args.first) (entries_of c.args.maps.now c.args.second)) (c.holds.ensures.0 c.if-not-holds.false, c.holds-2.ensures.0 c.if-not-holds-2.false) c.less.result c.less.ensures.fresh c.less.ensures.made c.less.ensures.refused (λ z. z) (λ z. z))

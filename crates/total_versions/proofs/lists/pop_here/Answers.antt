use Rattle.std.proofs.Common.{refl, ◌-◌, length, take}
use Rattle.versions.specs.Store.{list_of}
use Rattle.total_versions.proofs.AnswerLemmas.{edits, never, not-yes}
use Rattle.total_versions.proofs.lists.pop_here.Goals as goal

pub returns-then-not-holds : goal.returns-then-not-holds
returns-then-not-holds g c = (λ held. not-yes (c.holds.ensures.1 held) c.if-not-holds.true, refl)

pub returns : goal.returns
returns g c = rw c.told_here.ensures (edits c.args.lists.now c.pop_here.new.self c.args.version (take (length (list_of c.args.lists.now c.args.version) - 1) (list_of c.args.lists.now c.args.version)) (c.holds.ensures.0 c.if-not-holds.false) c.pop_here.result c.pop_here.ensures.made c.pop_here.ensures.refused c.pop_here.ensures.range (never c.pop_here.ensures.no_long))

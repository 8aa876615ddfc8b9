use Rattle.std.proofs.Common.{refl}
use Rattle.std.specs.BTreeSet.{insert_key}
use Rattle.versions.specs.Sorted.{keys_of}
use Rattle.total_versions.proofs.AnswerLemmas.{edits-memory, not-yes}
use Rattle.total_versions.proofs.sets.insert_here.Goals as goal

pub returns-then-not-holds : goal.returns-then-not-holds
returns-then-not-holds g c = (λ held. not-yes (c.holds.ensures.1 held) c.if-not-holds.true, refl)

pub returns : goal.returns
returns g c = rw c.told_memory_here.ensures (edits-memory c.args.sets.now c.insert_here.new.self c.args.version (insert_key g.K.Ord.cmp (keys_of c.args.sets.now c.args.version) c.args.key) (c.holds.ensures.0 c.if-not-holds.false) c.insert_here.result c.insert_here.ensures.made c.insert_here.ensures.refused (λ z. z) (λ z. z))

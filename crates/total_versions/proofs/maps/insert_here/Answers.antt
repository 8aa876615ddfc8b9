use Rattle.std.proofs.Common.{refl}
use Rattle.std.specs.FinMap.{put}
use Rattle.versions.specs.Sorted.{entries_of}
use Rattle.total_versions.proofs.AnswerLemmas.{edits-memory, not-yes}
use Rattle.total_versions.proofs.maps.insert_here.Goals as goal

pub returns-then-not-holds : goal.returns-then-not-holds
returns-then-not-holds g c = (λ held. not-yes (c.holds.ensures.1 held) c.if-not-holds.true, refl)

pub returns : goal.returns
returns g c = rw c.told_memory_here.ensures (edits-memory c.args.maps.now c.insert_here.new.self c.args.version (put g.K.Ord.cmp c.args.key c.args.value (entries_of c.args.maps.now c.args.version)) (c.holds.ensures.0 c.if-not-holds.false) c.insert_here.result c.insert_here.ensures.made c.insert_here.ensures.refused (λ z. z) (λ z. z))

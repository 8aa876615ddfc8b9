use Rattle.std.proofs.Common.{◌∙◌}
use Rattle.versions.proofs.KeyedLemmas.{set-has}
use Rattle.champ_kinds.proofs.StayLemmas.{set-seen}
use Rattle.versions.proofs.keyed.has_key.Goals as goal

pub returns : goal.returns
returns g c = λ ks is. c.has.ensures is.entries (set-seen c.at.ensures is.set) ∙ set-has g.K.Ord.cmp g.met.K.Ord.total g.K.Element.code_of c.args.heap.now c.args.root (g.P.Probe.stands_for c.args.key.now) ks is

use Rattle.std.proofs.Common.{◌∙◌}
use Rattle.versions.proofs.KeyedLemmas.{set-count}
use Rattle.champ_kinds.proofs.StayLemmas.{set-seen}
use Rattle.versions.proofs.keyed.key_count.Goals as goal

pub returns : goal.returns
returns g c = λ ks is. c.len.ensures is.entries (set-seen c.at.ensures is.set) ∙ set-count g.K.Ord.cmp g.met.K.Ord.total g.K.Element.code_of c.args.heap.now c.args.root ks is

use Rattle.std.proofs.Common.{◌∙◌}
use Rattle.node_heap.specs.Heap.{form_at}
use Rattle.champ_kinds.specs.Kinds.{IsPair}
use Rattle.champ_kinds.proofs.StayLemmas.{map-seen}
use Rattle.champ_kinds.proofs.ZipLemmas.{zip-length}
use Rattle.champ_kinds.proofs.map.RootRef+Maps.len.Goals as goal

pub returns : goal.returns
returns g c = λ M here.
    let is = map-seen c.self.view_is here in
    c.count.ensures.number c.self.inside.bits is.entries is.rooted.trie ∙ zip-length (IsPair (form_at c.args.heap.now)) is.entries M is.pairs

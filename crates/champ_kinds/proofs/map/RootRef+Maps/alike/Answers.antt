use Rattle.std.proofs.Common.{◌∙◌, ap}
use Rattle.node_heap.specs.Heap.{form_at}
use Rattle.champ_kinds.specs.Root.{Root}
use Rattle.champ_kinds.specs.Binding.{alike_keys}
use Rattle.champ_kinds.proofs.PairLemmas.{alike-pairs}
use Rattle.champ_kinds.proofs.StayLemmas.{map-seen}
use Rattle.champ_kinds.proofs.map.RootRef+Maps.alike.Goals as goal

pub returns : goal.returns
returns g c = λ M here.
    let is = map-seen c.self.view_is here in
    let key = g.P.Probe.stands_for c.args.key.now in
    c.alike.ensures.number is.entries is.rooted.trie ∙ alike-pairs (form_at c.args.heap.now) g.T.Element.code_of c.self.inside.bits key is.entries M is.pairs
    ∙ ap (λ (r : Root). alike_keys g.T.Element.code_of r.bits key M) c.self.view_is

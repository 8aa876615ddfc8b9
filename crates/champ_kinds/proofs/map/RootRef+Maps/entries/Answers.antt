use Rattle.std.proofs.Common.{◌∙◌}
use Rattle.std.proofs.lemmas.List.{length-map}
use Rattle.node_heap.specs.Heap.{form_at}
use Rattle.champ_chain.proofs.SetLemmas.{same-length}
use Rattle.champ_kinds.specs.Kinds.{IsPair}
use Rattle.champ_kinds.proofs.StayLemmas.{map-seen}
use Rattle.champ_kinds.proofs.ZipLemmas.{zip-length}
use Rattle.champ_kinds.proofs.map.RootRef+Maps.entries.Goals as goal

pub returns-clause-number : goal.returns-clause-number
returns-clause-number g c = λ M here.
    let is = map-seen c.self.view_is here in
    same-length _ _ (c.entries.ensures.links c.self.inside.bits is.entries is.rooted.trie) ∙ length-map is.entries (λ e. e.link) ∙ zip-length (IsPair (form_at c.args.heap.now)) is.entries M is.pairs

use Rattle.std.proofs.Common.{◌∙◌}
use Rattle.std.proofs.lemmas.List.{length-map}
use Rattle.champ_chain.proofs.SetLemmas.{same-length}
use Rattle.champ_kinds.proofs.StayLemmas.{set-seen}
use Rattle.champ_kinds.proofs.set.RootRef+Sets.members.Goals as goal

pub returns-clause-number : goal.returns-clause-number
returns-clause-number g c = λ E here.
    let is = set-seen c.self.view_is here in
    same-length _ _ (c.entries.ensures.links c.self.inside.bits E is.rooted.trie) ∙ length-map E (λ e. e.link)

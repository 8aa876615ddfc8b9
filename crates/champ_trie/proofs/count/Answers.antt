use Rattle.std.proofs.Common.{◌≡◌, ◌∙◌, length, map, ℕ, List, refl}
use Rattle.std.proofs.lemmas.List.{length-map}
use Rattle.std.proofs.lemmas.Iterator.Consumers.{count_from_yields_List, YieldsList-from_first}
use Rattle.champ_chain.proofs.SetLemmas.{same-length}
use Rattle.champ_trie.proofs.count.Goals as goal

pub returns : goal.returns
returns g c =
    let all : c.count.result ≡ length c.entries.result = count_from_yields_List c.entries.result c.count.result c.count.ensures.ran (YieldsList-from_first (λ (x : ℕ). x) (λ (e : List ℕ). e) c.entries.result refl) in
    record { number = λ bits E canon. all ∙ same-length _ (map (λ e. e.link) E) (c.entries.ensures.links bits E canon) ∙ length-map E (λ e. e.link) }

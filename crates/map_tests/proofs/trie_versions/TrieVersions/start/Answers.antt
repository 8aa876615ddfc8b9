use Rattle.std.proofs.Common.{ℕ, List, [], ◌∷◌, ◌++◌, ◌≡◌, ap, subst}
use Rattle.std.specs.Prelude.{sum, IfOk}
use Rattle.map_tests.specs.Stands.{IsSomeTrie}
use Rattle.map_tests.proofs.StandLemmas.{first-held}
use Rattle.map_tests.proofs.trie_versions.TrieVersions.start.Goals as goal

pub invariant_of-result : goal.invariant_of-result
invariant_of-result g c =
    let made = c.no_entries-made in
    let list = subst (λ (had : List ℕ). IfOk made.result (λ r. c.kept.new.things.items ≡ had ++ r ∷ [])) c.new-roots.ensures.items c.kept.ensures.list in
    (search, first-held (IsSomeTrie g.T.Ord.cmp g.T.Element.code_of c.args.bits) c.new-heap.result made.new.heap c.kept.new.things.items made.result c.kept.ensures.ok made.ensures.good (ap sum c.new-heap.ensures.holds) made.ensures.count list)

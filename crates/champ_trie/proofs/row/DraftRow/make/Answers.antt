use Rattle.std.proofs.Common.{◌∷◌, [], subst}
use Rattle.node_heap.specs.Calls.{Builds}
use Rattle.node_heap.proofs.BuildLemmas.{Builds-node}
use Rattle.champ_trie.proofs.row.DraftRow.make.Goals as goal

pub returns-clause-builds : goal.returns-clause-builds
returns-clause-builds g c =
    subst (λ xs. Builds c.args.heap.now c.node.new.self xs (c.node.result ∷ []) 0 1) c.as_slice.ensures.value
    (Builds-node c.node.ensures.adds c.node.ensures.makes c.node.ensures.count c.node.ensures.graph c.node.ensures.extends)

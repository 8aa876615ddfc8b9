use Rattle.node_heap.specs.Heap.{form_at}
use Rattle.champ_trie.proofs.HoldLemmas.{row-same}
use Rattle.champ_trie.proofs.row.sets_of.Goals as goal

pub trie-row-requires : goal.trie-row-requires
trie-row-requires g c = let row = c.requires in (row.1, row.2, row.3, (row.0, row.4))

pub returns : goal.returns
returns g c = λ depth entries nodes links row.
    let same = row-same (form_at c.args.heap.now c.args.link) depth entries nodes c.trie-row.ensures.0 _ _ links _ row c.trie-row.ensures.1 in
    (same.0, same.1)

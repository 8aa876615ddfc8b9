use Rattle.std.proofs.Common.{◌∙◌}
use Rattle.node_heap.specs.Heap.{form_at}
use Rattle.champ_trie.proofs.HoldLemmas.{read-sets, read-place}
use Rattle.champ_trie.proofs.row.place_at.Goals as goal

pub trie-row-requires : goal.trie-row-requires
trie-row-requires g c = let row = c.requires.row in (row.1, row.2, row.3, (row.0, row.4.row))

pub place_among-requires-clause-sets : goal.place_among-requires-clause-sets
place_among-requires-clause-sets g c =
    let row = c.requires.row in
    let said = c.trie-row.ensures in
    read-sets (form_at c.args.heap.now) c.args.link row.0 row.1 row.2 said.0 _ _ row.3 _ row.4 said.1

pub returns : goal.returns
returns g c = record {
  place = λ depth entries nodes links row.
      let said = c.trie-row.ensures in
      c.place_among.ensures ∙ read-place (form_at c.args.heap.now) c.args.link depth entries nodes said.0 _ _ links _ c.args.position row said.1;
}

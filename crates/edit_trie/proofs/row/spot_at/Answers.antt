use Rattle.edit_trie.proofs.RowLemmas.{row-read, spot-read}
use Rattle.std.proofs.Common.{refl}
use Rattle.edit_trie.proofs.row.spot_at.Goals as goal

pub trie-entries-requires : goal.trie-entries-requires
trie-entries-requires g c = let row = c.requires.row in (row.1, row.2, row.3, (row.0, row.4.row))

pub returns-clause-spot : goal.returns-clause-spot
returns-clause-spot g c = λ depth e n ls is.
    let read = row-read c.args.heap.now c.args.row depth e n ls is c.trie-entries.ensures in
    spot-read c.spot_in.result read.0 read.1 refl c.spot_in.ensures

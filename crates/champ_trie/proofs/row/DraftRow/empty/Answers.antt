use Rattle.std.proofs.Common.{arith, ap, length}
use Rattle.champ_trie.proofs.BitLemmas.{rank-none, has-none}
use Rattle.champ_trie.proofs.row.DraftRow.empty.Goals as goal

pub returns-clause-sets : goal.returns-clause-sets
returns-clause-sets c = record {
  entries_small = omega arith;
  nodes_small = omega arith;
  apart = λ p low here. has-none p;
  count = omega (arith, rank-none 32, ap length c.new.ensures);
}

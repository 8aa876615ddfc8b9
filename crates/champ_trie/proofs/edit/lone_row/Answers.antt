use Rattle.std.proofs.Common.{arith, ap}
use Rattle.node_heap.specs.Links.{count}
use Rattle.champ_trie.proofs.edit.lone_row.Goals as goal

pub returns-clause-links : goal.returns-clause-links
returns-clause-links c = λ k. omega (arith, c.put.ensures.links k, ap (count k) c.empty-row.ensures.none)

use Rattle.std.proofs.Common.{arith}
use Rattle.champ_trie.proofs.BitLemmas.{count-rank, rank-le}
use Rattle.champ_trie.proofs.place.node_index.Goals as goal

pub overflow_add-result : goal.overflow_add-result
overflow_add-result c = omega (arith, count-rank c.args.entries c.ranges.entries.fits, rank-le c.args.entries 32, c.rank_of.ensures, rank-le c.args.nodes c.args.position, c.requires)

pub returns : goal.returns
returns c = omega (arith, count-rank c.args.entries c.ranges.entries.fits, c.rank_of.ensures)

use Rattle.champ_trie.proofs.BitLemmas.{index-rank}
use Rattle.champ_trie.proofs.place.rank_of.Goals as goal

pub returns : goal.returns
returns c = index-rank c.args.set c.args.position c.requires

use Rattle.pool_check.proofs.PoolLaws.{trie-roots-stand}
use Rattle.pool_check.proofs.laws.trie_roots_are_canonical.Goals as goal

pub returns : goal.returns
returns c = λ rules P l in_range pass h. trie-roots-stand rules P in_range pass l h

use Rattle.pool_check.proofs.TrieReadings.{trie-reads-the-same}
use Rattle.pool_check.proofs.laws.tries_read_the_same.Goals as goal

pub returns : goal.returns
returns g c f G H l image = trie-reads-the-same f G H l image _

use Rattle.pool_load.proofs.LoadedRoots.{trie-good}
use Rattle.pool_load.proofs.laws.loaded_tries_are_good.Goals as goal

pub returns : goal.returns
returns g c h roots P r l loaded root down test =
    trie-good g.T.Stored.bytes_of h roots P loaded r l root down g.T.Ord.cmp g.T.Element.code_of g.met.T.Stored.text_order g.met.T.Stored.text_codes test

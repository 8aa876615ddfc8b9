use Rattle.node_heap.specs.Heap.{form_at}
use Rattle.champ_chain.proofs.PartsLemmas.{found-chain}
use Rattle.champ_chain.proofs.find.Goals as goal

pub key_spot_of-requires : goal.key_spot_of-requires
key_spot_of-requires g c = (c.requires.1.entries, c.requires.1.rows, c.requires.1.rising)

pub returns-clause-entry : goal.returns-clause-entry
returns-clause-entry g c = λ E chain.
    found-chain g.T.Ord.cmp g.met.T.Ord.total (form_at c.args.heap.now) c.args.chain E (g.P.Probe.stands_for c.args.key.now) chain c.key_spot_of.result (c.key_spot_of.ensures.spot chain.entries chain.rows chain.rising)

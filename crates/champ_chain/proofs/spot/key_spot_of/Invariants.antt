use Rattle.std.proofs.Common.{List, Some}
use Rattle.node_heap.specs.Heap.{form_at}
use Rattle.champ_chain.specs.Entry.{Entry}
use Rattle.champ_chain.specs.Chain.{AreChainRows, IsRising}
use Rattle.champ_chain.proofs.SpotLemmas.{IsPassed}
use Rattle.champ_chain.proofs.spot.key_spot_of.Given as goal

abbrev pub invariant-loop-before : goal.invariant-loop-before
invariant-loop-before g l = (es : List (Entry g.row.T.Denot)) → AreChainRows (form_at l.heap) (Some l.fn.chain) es → IsRising g.T.Ord.cmp es → IsPassed g.T.Ord.cmp (form_at l.heap) (g.P.Probe.stands_for l.key) l.link l.before es

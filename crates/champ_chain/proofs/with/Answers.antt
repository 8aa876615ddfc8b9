use Rattle.std.proofs.Common.{arith}
use Rattle.node_heap.specs.Heap.{form_at}
use Rattle.node_heap.proofs.BuildLemmas.{Builds-Answered, Builds-MakesJust}
use Rattle.champ_chain.proofs.FrameLemmas.{key-kept, forms-same, keyed-same, KeepsChains-same}
use Rattle.node_heap.proofs.RoomLemmas.{KeepsToNeed-more, Builds-KeepsToNeed}
use Rattle.champ_chain.proofs.with.Goals as goal

pub added-requires-clause-keyed : goal.added-requires-clause-keyed
added-requires-clause-keyed g c = keyed-same c.args.heap.now c.reserve.new.self c.in_ok-reserve.ensures.rest.rows c.args.entry c.requires.keyed

pub added-requires-clause-chain : goal.added-requires-clause-chain
added-requires-clause-chain g c =
    let E = c.requires.chain.0 in
    let chain = c.requires.chain.1 in
    (E, KeepsChains-same c.args.heap.now c.reserve.new.self c.in_ok-reserve.ensures.rest.rows g.T.Ord.cmp c.args.chain E chain, omega (arith, c.length-number.ensures.number E chain, c.in_ok-reserve.ensures.spares.1))

pub returns-clause-answered : goal.returns-clause-answered
returns-clause-answered g c = λ E chain.
    Builds-Answered c.in_ok-reserve.ensures.rest (c.added.ensures.builds E (KeepsChains-same c.args.heap.now c.reserve.new.self c.in_ok-reserve.ensures.rest.rows g.T.Ord.cmp c.args.chain E chain))

pub returns-clause-chained : goal.returns-clause-chained
returns-clause-chained g c = λ E k chain is.
    let same = c.in_ok-reserve.ensures.rest.rows in
    c.added.ensures.chained E k (KeepsChains-same c.args.heap.now c.reserve.new.self same g.T.Ord.cmp c.args.chain E chain) (key-kept (form_at c.args.heap.now) (form_at c.reserve.new.self) (forms-same c.args.heap.now c.reserve.new.self same) c.args.entry k is)

pub returns-clause-made : goal.returns-clause-made
returns-clause-made g c =
    Builds-MakesJust c.in_ok-reserve.ensures.rest
    (c.added.ensures.builds c.requires.chain.0 (KeepsChains-same c.args.heap.now c.reserve.new.self c.in_ok-reserve.ensures.rest.rows g.T.Ord.cmp c.args.chain c.requires.chain.0 c.requires.chain.1))

pub returns-clause-chains : goal.returns-clause-chains
returns-clause-chains g c = λ cmp l E is. c.added.ensures.chains cmp l E (KeepsChains-same c.args.heap.now c.reserve.new.self c.in_ok-reserve.ensures.rest.rows cmp l E is)

pub returns-in_err-reserve-clause-chains : goal.returns-in_err-reserve-clause-chains
returns-in_err-reserve-clause-chains g c = KeepsChains-same c.args.heap.now c.reserve.new.self c.reserve.ensures.rest.rows

pub returns-clause-spares : goal.returns-clause-spares
returns-clause-spares g c = λ E chain.
    KeepsToNeed-more 0 _ (omega arith) (omega (arith, c.length-number.ensures.number E chain))
    (Builds-KeepsToNeed c.in_ok-reserve.ensures.greater c.in_ok-reserve.ensures.rest (c.added.ensures.builds E (KeepsChains-same c.args.heap.now c.reserve.new.self c.in_ok-reserve.ensures.rest.rows g.T.Ord.cmp c.args.chain E chain)))

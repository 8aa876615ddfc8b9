use Rattle.node_heap.proofs.BuildLemmas.{Builds-Answered, Builds-MakesJust}
use Rattle.champ_chain.proofs.FrameLemmas.{KeepsChains-same}
use Rattle.std.proofs.Common.{arith}
use Rattle.node_heap.proofs.RoomLemmas.{KeepsToNeed-refl, KeepsToNeed-more, Builds-KeepsToNeed}
use Rattle.champ_chain.proofs.without.Goals as goal

pub returns-clause-answered : goal.returns-clause-answered
returns-clause-answered g c = λ E chain.
    Builds-Answered c.in_ok-reserve.ensures.rest (c.removed.ensures.builds E (KeepsChains-same c.args.heap.now c.reserve.new.self c.in_ok-reserve.ensures.rest.rows g.T.Ord.cmp c.args.chain E chain))

pub returns-clause-removed : goal.returns-clause-removed
returns-clause-removed g c = λ E chain. c.removed.ensures.removed E (KeepsChains-same c.args.heap.now c.reserve.new.self c.in_ok-reserve.ensures.rest.rows g.T.Ord.cmp c.args.chain E chain)

pub returns-clause-made : goal.returns-clause-made
returns-clause-made g c =
    Builds-MakesJust c.in_ok-reserve.ensures.rest
    (c.removed.ensures.builds c.requires.chain.0 (KeepsChains-same c.args.heap.now c.reserve.new.self c.in_ok-reserve.ensures.rest.rows g.T.Ord.cmp c.args.chain c.requires.chain.0 c.requires.chain.1))

pub returns-clause-chains : goal.returns-clause-chains
returns-clause-chains g c = λ cmp l E is. c.removed.ensures.chains cmp l E (KeepsChains-same c.args.heap.now c.reserve.new.self c.in_ok-reserve.ensures.rest.rows cmp l E is)

pub returns-in_err-reserve-clause-chains : goal.returns-in_err-reserve-clause-chains
returns-in_err-reserve-clause-chains g c = KeepsChains-same c.args.heap.now c.reserve.new.self c.reserve.ensures.rest.rows

pub returns-then-is_none-clause-spares : goal.returns-then-is_none-clause-spares
returns-then-is_none-clause-spares g c = λ E chain. KeepsToNeed-refl c.args.heap.now 0 _

pub returns-clause-spares : goal.returns-clause-spares
returns-clause-spares g c = λ E chain.
    KeepsToNeed-more 0 _ (omega arith) (omega (arith, c.look_up-found.ensures.alike E chain))
    (Builds-KeepsToNeed c.in_ok-reserve.ensures.greater c.in_ok-reserve.ensures.rest (c.removed.ensures.builds E (KeepsChains-same c.args.heap.now c.reserve.new.self c.in_ok-reserve.ensures.rest.rows g.T.Ord.cmp c.args.chain E chain)))

use Rattle.std.proofs.Common.{arith, subst, ◌++◌, length}
use Rattle.node_heap.specs.Heap.{form_at}
use Rattle.champ_chain.specs.Chain.{IsEntryOrRows}
use Rattle.champ_chain.proofs.FrameLemmas.{KeepsChains-Extends}
use Rattle.champ_chain.proofs.SetLemmas.{same-length}
use Rattle.champ_chain.proofs.PartsLemmas.{before-le, take-before, some-left, chain-without}
use Rattle.node_heap.proofs.BuildLemmas.{Builds-more}
use Rattle.champ_chain.proofs.removed.Goals as goal

pub key_spot_of-spot-requires : goal.key_spot_of-spot-requires
key_spot_of-spot-requires g c = (c.requires.chain.1.entries, c.requires.chain.1.rows, c.requires.chain.1.rising)

pub closed-requires-clause-spare : goal.closed-requires-clause-spare
closed-requires-clause-spare g c =
    let chain = c.requires.chain.1 in
    let s = c.key_spot_of-spot.ensures.spot chain.entries chain.rows chain.rising in
    omega (arith, before-le g.T.Ord.cmp g.met.T.Ord.total (form_at c.args.heap.now) chain.entries (g.P.Probe.stands_for c.args.key.now) c.key_spot_of-spot.result s, same-length chain.entries c.requires.chain.0 chain.same, c.requires.chain.3)

pub closed-requires-clause-rows : goal.closed-requires-clause-rows
closed-requires-clause-rows g c =
    let chain = c.requires.chain.1 in
    let s = c.key_spot_of-spot.ensures.spot chain.entries chain.rows chain.rising in
    (chain.entries, chain.rows, before-le g.T.Ord.cmp g.met.T.Ord.total (form_at c.args.heap.now) chain.entries (g.P.Probe.stands_for c.args.key.now) c.key_spot_of-spot.result s)

pub closed-requires-clause-tail : goal.closed-requires-clause-tail
closed-requires-clause-tail g c =
    let chain = c.requires.chain.1 in
    let s = c.key_spot_of-spot.ensures.spot chain.entries chain.rows chain.rising in
    (s.parts.greater, s.rest, some-left g.T.Ord.cmp g.met.T.Ord.total (form_at c.args.heap.now) c.args.chain c.requires.chain.0 (g.P.Probe.stands_for c.args.key.now) chain c.key_spot_of-spot.result s)

pub returns-clause-builds : goal.returns-clause-builds
returns-clause-builds g c = λ E chain.
    let s = c.key_spot_of-spot.ensures.spot chain.entries chain.rows chain.rising in
    let le = before-le g.T.Ord.cmp g.met.T.Ord.total (form_at c.args.heap.now) chain.entries (g.P.Probe.stands_for c.args.key.now) c.key_spot_of-spot.result s in
    Builds-more 0 (length E) c.closed.ensures.builds (omega arith) (omega (arith, le, same-length chain.entries E chain.same))

pub returns-clause-removed : goal.returns-clause-removed
returns-clause-removed g c = λ E chain.
    let s = c.key_spot_of-spot.ensures.spot chain.entries chain.rows chain.rising in
    let key = g.P.Probe.stands_for c.args.key.now in
    let le = before-le g.T.Ord.cmp g.met.T.Ord.total (form_at c.args.heap.now) chain.entries key c.key_spot_of-spot.result s in
    chain-without g.T.Ord.cmp g.met.T.Ord.total (form_at c.args.heap.now) (form_at c.closed.new.heap) c.args.chain c.closed.result E key chain s.parts
    (subst (λ xs. IsEntryOrRows (form_at c.closed.new.heap) c.closed.result (xs ++ s.parts.greater)) (take-before g.T.Ord.cmp g.met.T.Ord.total (form_at c.args.heap.now) chain.entries key c.key_spot_of-spot.result s)
    (c.closed.ensures.rows chain.entries s.parts.greater chain.rows le s.rest))

pub returns-clause-chains : goal.returns-clause-chains
returns-clause-chains g c = KeepsChains-Extends c.args.heap.now c.closed.new.heap c.closed.ensures.builds.extends

use Rattle.std.proofs.Common.{arith, ◌∙◌, ap, Some}
use Rattle.std.specs.Int.{from_bool}
use Rattle.node_heap.specs.Heap.{form_at}
use Rattle.champ_chain.proofs.FrameLemmas.{rows-live}
use Rattle.champ_chain.proofs.SetLemmas.{same-length}
use Rattle.champ_chain.proofs.PartsLemmas.{found-chain, whole-length}
use Rattle.champ_chain.proofs.look_up.Goals as goal

pub key_spot_of-spot-requires : goal.key_spot_of-spot-requires
key_spot_of-spot-requires g c = (c.requires.1.entries, c.requires.1.rows, c.requires.1.rising)

pub rows_from-requires : goal.rows_from-requires
rows_from-requires g c =
    let s = c.key_spot_of-spot.ensures.spot c.requires.1.entries c.requires.1.rows c.requires.1.rising in
    (s.parts.greater, s.rest)

pub returns-clause-entry : goal.returns-clause-entry
returns-clause-entry g c = λ E chain.
    found-chain g.T.Ord.cmp g.met.T.Ord.total (form_at c.args.heap.now) c.args.chain E (g.P.Probe.stands_for c.args.key.now) chain c.key_spot_of-spot.result (c.key_spot_of-spot.ensures.spot chain.entries chain.rows chain.rising)

pub returns-clause-alike : goal.returns-clause-alike
returns-clause-alike g c = λ E chain.
    let s = c.key_spot_of-spot.ensures.spot chain.entries chain.rows chain.rising in
    let whole = whole-length g.T.Ord.cmp g.met.T.Ord.total (form_at c.args.heap.now) chain.entries (g.P.Probe.stands_for c.args.key.now) c.key_spot_of-spot.result s in
    omega (arith, whole, c.rows_from.ensures.number s.parts.greater s.rest, same-length chain.entries E chain.same, c.from.ensures ∙ ap from_bool c.is_some.ensures)

pub returns-clause-few : goal.returns-clause-few
returns-clause-few g c =
    let E = c.requires.0 in
    let chain = c.requires.1 in
    let graph = c.key_spot_of-spot.ensures.graph in
    omega (arith, returns-clause-alike g c E chain, same-length chain.entries E chain.same, rows-live c.args.heap.now graph chain.entries (Some c.args.chain) chain.rows, graph.few_rows)

pub overflow_add-result-2 : goal.overflow_add-result-2
overflow_add-result-2 g c =
    let s = c.key_spot_of-spot.ensures.spot c.requires.1.entries c.requires.1.rows c.requires.1.rising in
    let whole = whole-length g.T.Ord.cmp g.met.T.Ord.total (form_at c.args.heap.now) c.requires.1.entries (g.P.Probe.stands_for c.args.key.now) c.key_spot_of-spot.result s in
    let graph = c.key_spot_of-spot.ensures.graph in
    omega (arith, whole, c.rows_from.ensures.number s.parts.greater s.rest, c.from.ensures ∙ ap from_bool c.is_some.ensures, rows-live c.args.heap.now graph c.requires.1.entries (Some c.args.chain) c.requires.1.rows, graph.few_rows)

pub overflow_add-result : goal.overflow_add-result
overflow_add-result g c =
    let s = c.key_spot_of-spot.ensures.spot c.requires.1.entries c.requires.1.rows c.requires.1.rising in
    let whole = whole-length g.T.Ord.cmp g.met.T.Ord.total (form_at c.args.heap.now) c.requires.1.entries (g.P.Probe.stands_for c.args.key.now) c.key_spot_of-spot.result s in
    let graph = c.key_spot_of-spot.ensures.graph in
    omega (arith, whole, c.from.ensures ∙ ap from_bool c.is_some.ensures, rows-live c.args.heap.now graph c.requires.1.entries (Some c.args.chain) c.requires.1.rows, graph.few_rows)

use Rattle.std.proofs.Common.{arith, sym, Some}
use Rattle.node_heap.specs.Heap.{form_at}
use Rattle.champ_chain.proofs.FrameLemmas.{rows-live}
use Rattle.champ_chain.proofs.SpotLemmas.{first-row, entry-keyed, passed-none, passed-more, passed-less, spot-less, spot-equal, spot-greatest}
use Rattle.champ_chain.proofs.spot.key_spot_of.Goals as goal

pub row_of-row-requires : goal.row_of-row-requires
row_of-row-requires g c =
    let p = c.loop-before.invariant c.requires.0 c.requires.1 c.requires.2 in
    let at = first-row (form_at c.args.heap.now) c.loop-before.link p.left p.rows in
    (at.first.link, at.next, at.row)

pub key_of-requires : goal.key_of-requires
key_of-requires g c =
    let p = c.loop-before.invariant c.requires.0 c.requires.1 c.requires.2 in
    entry-keyed (form_at c.args.heap.now) c.loop-before.link c.row_of-row.result.entry c.row_of-row.result.next p.left p.rows c.row_of-row.ensures

pub loop-before-init : goal.loop-before-init
loop-before-init g c = λ es rows rising. passed-none g.T.Ord.cmp (form_at c.args.heap.now) (g.P.Probe.stands_for c.args.key.now) c.args.chain es rows

pub returns-in-Less-clause-spot : goal.returns-in-Less-clause-spot
returns-in-Less-clause-spot g c = λ es rows rising.
    spot-less g.T.Ord.cmp g.met.T.Ord.total (form_at c.args.heap.now) (g.P.Probe.stands_for c.args.key.now) c.loop-before.link c.loop-before.before es (c.loop-before.invariant es rows rising) rising
    c.row_of-row.result.entry c.row_of-row.result.next c.key_of.result.now c.row_of-row.ensures c.key_of.ensures (sym c.in-Less.ensures)

pub returns-in-Equal-clause-spot : goal.returns-in-Equal-clause-spot
returns-in-Equal-clause-spot g c = λ es rows rising.
    spot-equal g.T.Ord.cmp g.met.T.Ord.total (form_at c.args.heap.now) (g.P.Probe.stands_for c.args.key.now) c.loop-before.link c.loop-before.before es (c.loop-before.invariant es rows rising) rising
    c.row_of-row.result.entry c.row_of-row.result.next c.key_of.result.now c.row_of-row.ensures c.key_of.ensures (sym c.in-Equal.ensures)

pub returns-in-None-clause-spot : goal.returns-in-None-clause-spot
returns-in-None-clause-spot g c = λ es rows rising.
    spot-greatest g.T.Ord.cmp g.met.T.Ord.total (form_at c.args.heap.now) (g.P.Probe.stands_for c.args.key.now) c.loop-before.link c.loop-before.before es (c.loop-before.invariant es rows rising) rising
    c.row_of-row.result.entry c.row_of-row.result.next c.key_of.result.now c.row_of-row.ensures c.key_of.ensures (sym c.in-Greater.ensures) c.in-None.is

pub loop-before-preserved : goal.loop-before-preserved
loop-before-preserved g c = λ es rows rising.
    passed-more g.T.Ord.cmp g.met.T.Ord.total (form_at c.args.heap.now) (g.P.Probe.stands_for c.args.key.now) c.loop-before.link c.loop-before.before es (c.loop-before.invariant es rows rising) rising
    c.row_of-row.result.entry c.row_of-row.result.next c.key_of.result.now c.row_of-row.ensures c.key_of.ensures c.in-Some.next (sym c.in-Greater.ensures) c.in-Some.is

pub unreachable-requires : goal.unreachable-requires
unreachable-requires g c =
    let p = c.loop-before.invariant c.requires.0 c.requires.1 c.requires.2 in
    let less = passed-less g.T.Ord.cmp g.met.T.Ord.total (form_at c.args.heap.now) (g.P.Probe.stands_for c.args.key.now) c.loop-before.link c.loop-before.before c.requires.0 p in
    let fits = rows-live c.args.heap.now c.live-before-end.ensures.graph c.requires.0 (Some c.args.chain) c.requires.1 in
    omega (arith, less, fits, c.live-before-end.ensures.value, c.loop-before-test.false)

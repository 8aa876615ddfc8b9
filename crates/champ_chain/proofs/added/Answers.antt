use Rattle.std.proofs.Common.{arith, ◌+◌, subst, refl, Some, length}
use Rattle.std.specs.Prelude.{option_to_list}
use Rattle.node_heap.specs.Heap.{form_at}
use Rattle.node_heap.proofs.Frames.{Extends-trans}
use Rattle.champ_chain.specs.Entry.{entry, put}
use Rattle.champ_chain.specs.Chain.{IsChain}
use Rattle.champ_chain.proofs.FrameLemmas.{rows-kept, forms-kept, KeepsChains-Extends}
use Rattle.champ_chain.proofs.SetLemmas.{same-length}
use Rattle.champ_chain.proofs.SpotLemmas.{same-key}
use Rattle.champ_chain.proofs.CopyLemmas.{held-one, one_at-same}
use Rattle.champ_chain.proofs.PartsLemmas.{before-le}
use Rattle.champ_chain.proofs.WithLemmas.{tail-live, held-over, with-builds, with-rows}
use Rattle.node_heap.proofs.BuildLemmas.{count-one}
use Rattle.champ_chain.proofs.added.Goals as goal

pub key_spot_of-spot-requires : goal.key_spot_of-spot-requires
key_spot_of-spot-requires g c = (c.requires.chain.1.entries, c.requires.chain.1.rows, c.requires.chain.1.rising)

pub hold_tail-requires-clause-live : goal.hold_tail-requires-clause-live
hold_tail-requires-clause-live g c =
    let chain = c.requires.chain.1 in
    let s = c.key_spot_of-spot.ensures.spot chain.entries chain.rows chain.rising in
    tail-live c.args.heap.now c.key_spot_of-spot.result.rest s.parts.greater s.rest

pub row_over-made-requires-clause-held : goal.row_over-made-requires-clause-held
row_over-made-requires-clause-held g c =
    held-over c.args.heap.now c.hold_tail.new.heap c.args.entry (option_to_list c.key_spot_of-spot.result.rest) (λ k. held-one c.args.heap.now c.args.entry k c.requires.held) c.hold_tail.ensures.builds

pub copied_over-requires-clause-spare : goal.copied_over-requires-clause-spare
copied_over-requires-clause-spare g c =
    let chain = c.requires.chain.1 in
    let s = c.key_spot_of-spot.ensures.spot chain.entries chain.rows chain.rising in
    let le = before-le g.T.Ord.cmp g.met.T.Ord.total (form_at c.args.heap.now) chain.entries c.key_of.result.now c.key_spot_of-spot.result s in
    let held = c.hold_tail.ensures.builds in
    let made = c.row_over-made.ensures.builds in
    omega (arith, le, same-length chain.entries c.requires.chain.0 chain.same, c.requires.chain.2, held.makes.spare_nodes, held.few_nodes, made.makes.spare_nodes, made.few_nodes)

pub copied_over-requires-clause-held : goal.copied_over-requires-clause-held
copied_over-requires-clause-held g c =
    let made = c.row_over-made.result in
    let held = held-over c.args.heap.now c.hold_tail.new.heap c.args.entry (option_to_list c.key_spot_of-spot.result.rest) (λ k. held-one c.args.heap.now c.args.entry k c.requires.held) c.hold_tail.ensures.builds made in
    omega (arith, held, c.row_over-made.ensures.builds.holds made, count-one made made, one_at-same made)

pub copied_over-requires-clause-rows : goal.copied_over-requires-clause-rows
copied_over-requires-clause-rows g c =
    let chain = c.requires.chain.1 in
    let s = c.key_spot_of-spot.ensures.spot chain.entries chain.rows chain.rising in
    let more = Extends-trans c.hold_tail.ensures.builds.extends c.row_over-made.ensures.builds.extends in (
      chain.entries,
      rows-kept (form_at c.args.heap.now) (form_at c.row_over-made.new.heap) (forms-kept c.args.heap.now c.row_over-made.new.heap more) (Some c.args.chain) chain.entries chain.rows,
      before-le g.T.Ord.cmp g.met.T.Ord.total (form_at c.args.heap.now) chain.entries c.key_of.result.now c.key_spot_of-spot.result s,
    )

pub returns-clause-builds : goal.returns-clause-builds
returns-clause-builds g c = λ E chain.
    let s = c.key_spot_of-spot.ensures.spot chain.entries chain.rows chain.rising in
    let le = before-le g.T.Ord.cmp g.met.T.Ord.total (form_at c.args.heap.now) chain.entries c.key_of.result.now c.key_spot_of-spot.result s in
    with-builds c.args.heap.now c.hold_tail.new.heap c.row_over-made.new.heap c.copied_over.new.heap c.args.entry c.row_over-made.result c.copied_over.result c.key_spot_of-spot.result.before (length E + 1)
    (option_to_list c.key_spot_of-spot.result.rest) c.hold_tail.ensures.builds c.row_over-made.ensures.builds c.copied_over.ensures.builds (omega (arith, le, same-length chain.entries E chain.same))

pub returns-clause-chained : goal.returns-clause-chained
returns-clause-chained g c = λ E k chain is.
    let s = c.key_spot_of-spot.ensures.spot chain.entries chain.rows chain.rising in
    let le = before-le g.T.Ord.cmp g.met.T.Ord.total (form_at c.args.heap.now) chain.entries c.key_of.result.now c.key_spot_of-spot.result s in
    let more = Extends-trans c.hold_tail.ensures.builds.extends c.row_over-made.ensures.builds.extends in
    let same = same-key (form_at c.args.heap.now) c.args.entry c.args.entry c.key_of.result.now k refl c.key_of.ensures is in
    subst (λ j. IsChain g.T.Ord.cmp (form_at c.copied_over.new.heap) c.copied_over.result (put g.T.Ord.cmp E (entry j c.args.entry))) same
    (with-rows g.T.Ord.cmp g.met.T.Ord.total c.args.heap.now c.row_over-made.new.heap c.copied_over.new.heap c.args.chain c.args.entry c.row_over-made.result c.copied_over.result E c.key_of.result.now chain
    c.key_spot_of-spot.result s more c.key_of.ensures c.row_over-made.ensures.row c.copied_over.ensures.rows le)

pub returns-clause-chains : goal.returns-clause-chains
returns-clause-chains g c =
    KeepsChains-Extends c.args.heap.now c.copied_over.new.heap (Extends-trans c.hold_tail.ensures.builds.extends (Extends-trans c.row_over-made.ensures.builds.extends c.copied_over.ensures.builds.extends))

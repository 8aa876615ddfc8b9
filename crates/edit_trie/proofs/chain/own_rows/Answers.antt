use Rattle.std.proofs.Common.{arith, ◌≡◌, take, sym, subst}
use Rattle.std.proofs.lemmas.List.{length-take-le}
use Rattle.node_heap.specs.Heap.{row_at}
use Rattle.node_heap.specs.InPlace.{child_at}
use Rattle.node_heap.proofs.CallerLemmas.{OwnsChild, owns-child}
use Rattle.edit_trie.specs.Chains.{OwnsRows}
use Rattle.edit_trie.proofs.RowLemmas.{node-form}
use Rattle.edit_trie.proofs.ChainLemmas.{row-there, owns-none, owns-more}
use Rattle.edit_trie.proofs.chain.own_rows.Goals as goal

pub own_child-row-requires-clause-sole : goal.own_child-row-requires-clause-sole
own_child-row-requires-clause-sole g c = (c.loop-passed.invariant c.requires.rows.0 c.requires.rows.1 c.requires.rows.2).sole

pub own_child-row-requires-clause-index : goal.own_child-row-requires-clause-index
own_child-row-requires-clause-index g c =
    let es = c.requires.rows.0 in
    let inv = c.loop-passed.invariant es c.requires.rows.1 c.requires.rows.2 in
    (row-there c.args.heap.now c.loop-passed.heap c.args.first.row c.args.first.index c.loop-passed.slot.row c.loop-passed.slot.index c.loop-passed._passed es c.requires.index (omega (arith, c.loop-passed-test.true, c.requires.rows.2)) inv c.requires.rows.1).inside

pub own_child-row-requires-clause-node : goal.own_child-row-requires-clause-node
own_child-row-requires-clause-node g c =
    let es = c.requires.rows.0 in
    let inv = c.loop-passed.invariant es c.requires.rows.1 c.requires.rows.2 in
    let at = row-there c.args.heap.now c.loop-passed.heap c.args.first.row c.args.first.index c.loop-passed.slot.row c.loop-passed.slot.index c.loop-passed._passed es c.requires.index (omega (arith, c.loop-passed-test.true, c.requires.rows.2)) inv c.requires.rows.1 in
    node-form (row_at c.loop-passed.heap (child_at c.loop-passed.heap c.loop-passed.slot.row c.loop-passed.slot.index)) _ _ at.form

pub own_child-row-requires-clause-spare : goal.own_child-row-requires-clause-spare
own_child-row-requires-clause-spare g c =
    let es = c.requires.rows.0 in
    let inv = c.loop-passed.invariant es c.requires.rows.1 c.requires.rows.2 in
    omega (arith, inv.child.changes.trades.balance.spare_nodes, inv.child.changes.trades.nodes, length-take-le c.loop-passed._passed es (omega (arith, c.loop-passed-test.true, c.requires.rows.2)), c.loop-passed-test.true, c.requires.spare)

pub loop-passed-init : goal.loop-passed-init
loop-passed-init g c = λ es rows le. owns-none c.args.heap.now c.args.first.row c.args.first.index c.requires.graph c.requires.sole c.requires.index c.requires.keyless

pub loop-passed-preserved : goal.loop-passed-preserved
loop-passed-preserved g c = λ es rows le.
    let old = c.args.heap.now in
    let now = c.loop-passed.heap in
    let mid = c.own_child-row.new.self in
    let r = c.loop-passed.slot.row in
    let i = c.loop-passed.slot.index in
    let k = c.own_child-row.result in
    let inv = c.loop-passed.invariant es rows le in
    let at = row-there old now c.args.first.row c.args.first.index r i c.loop-passed._passed es c.requires.index (omega (arith, c.loop-passed-test.true, le)) inv rows in
    let did_own = c.own_child-row.ensures in
    let own : OwnsChild now mid r i k = owns-child at.inside did_own.same did_own.row did_own.sole did_own.fresh did_own.parent_head did_own.parent_links did_own.stays did_own.others did_own.owners did_own.changes did_own.makes in
    subst (λ xs. OwnsRows old mid c.args.first.row c.args.first.index xs k 1) (sym at.more)
    (owns-more old now mid c.args.first.row c.args.first.index r i k (take c.loop-passed._passed es) at.entry at.next c.requires.graph c.requires.index inv own at.form_old at.key_old)

pub returns : goal.returns
returns g c = λ es rows le.
    let all : c.loop-passed._passed ≡ c.args.number = omega arith in
    subst (λ n. OwnsRows c.args.heap.now c.loop-passed.heap c.args.first.row c.args.first.index (take n es) c.loop-passed.slot.row c.loop-passed.slot.index) all (c.loop-passed.invariant es rows le)

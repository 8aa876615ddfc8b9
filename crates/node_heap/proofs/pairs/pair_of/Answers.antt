use Rattle.std.proofs.Common.{◌≡◌, ◌≢◌, ℕ, ◌+◌, ◌-◌, ◌<◌, get_or, drop, length, ap, sym, ◌∙◌, arith}
use Rattle.std.proofs.lemmas.List.{drop_all, drop_more}
use Rattle.node_heap.specs.Links.{count}
use Rattle.node_heap.specs.Pairs.{paired}
use Rattle.node_heap.specs.declared.pairs.Pair.{Pair}
use Rattle.node_heap.proofs.Counts.{test_other}
use Rattle.node_heap.proofs.PairLemmas.{count-paired}
use Rattle.node_heap.proofs.pairs.pair_of.Goals as goal

pub loop-left-init : goal.loop-left-init
loop-left-init c = record { fits = omega arith; off = ap (λ ps. count c.args.place (paired ps)) (drop_all (length c.args.pairs.now) c.args.pairs.now (omega arith)) }

-- the pair at the index hasn't the row
pub loop-left-preserved : goal.loop-left-preserved
loop-left-preserved c =
    let place = c.args.place in
    let pairs = c.args.pairs.now in
    let i : ℕ = c.loop-left.left - 1 in
    let up : i + 1 ≡ c.loop-left.left = omega (arith, c.loop-left-test.true) in
    let lt : i < length pairs = omega (arith, up, c.loop-left.invariant.fits) in
    let read = c.pair.view_is ∙ c.index-pairs-left.is in
    let p : Pair = get_or pairs i c.index-pairs-left.result in
    let first = ap (λ ps. count place (paired ps)) (drop_more pairs i c.index-pairs-left.result lt) in
    let rest = ap (λ n. count place (paired (drop n pairs))) up in
    let before : p.before ≢ place = λ e. c.if-pair-place.false (ap (λ (q : Pair). q.before) read ∙ e) in
    let after : p.after ≢ place = λ e. c.if-pair-place-2.false (ap (λ (q : Pair). q.after) read ∙ e) in
    record {
      fits = omega (arith, lt);
      off = omega (arith, first, count-paired place p (drop (i + 1) pairs), rest, c.loop-left.invariant.off, test_other p.before place before, test_other p.after place after);
    }

-- no pair of all has the row
pub returns-clause-none : goal.returns-clause-none
returns-clause-none c =
    let none : c.loop-left.left ≡ 0 = omega (arith, c.loop-left-test.false) in
    ap (λ n. count c.args.place (paired (drop n c.args.pairs.now))) (sym none) ∙ c.loop-left.invariant.off

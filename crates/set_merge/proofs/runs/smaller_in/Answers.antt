use Rattle.std.proofs.Common.{◌≡◌, ◌≢◌, ◌-◌, ◌≤◌, ◌∙◌, sym, ap, subst, arith, refl, take, drop, length, true, false, not}
use Rattle.std.specs.Prelude.{◌==◌}
use Rattle.std.specs.List.{All}
use Rattle.std.specs.Ordering.{ordering_index}
use Rattle.std.specs.declared.cmp.Ordering.{Ordering}
use Rattle.std.specs.declared.cmp.Ordering.TheVariants.{Less, Equal, Greater}
use Rattle.std.proofs.lemmas.List.{take-append-drop}
use Rattle.std.proofs.lemmas.List.Elements.{All-take, All-nil}
use Rattle.node_heap.specs.Heap.{form_at}
use Rattle.champ_chain.specs.Entry.{Entry}
use Rattle.champ_chain.specs.Chain.{AreBelow, IsRising}
use Rattle.champ_chain.proofs.RisingLemmas.{below-push, rising-right}
use Rattle.champ_chain.proofs.SpotLemmas.{same-order}
use Rattle.set_merge.specs.Walk.{IsRun}
use Rattle.set_merge.proofs.CutLemmas.{not-less-rest}
use Rattle.set_merge.proofs.RunLemmas.{split-at, keyed, front-key, run-only}
use Rattle.set_merge.proofs.runs.smaller_in.Goals as goal

pub front_of-front-requires : goal.front_of-front-requires
front_of-front-requires g c =
    let r = c.requires.run in
    let k = c.requires.key in
    let s = split-at c.loop-passed.passed r.0 (omega (arith, c.loop-passed-test.true, r.2)) in
    (s.first, s.others, subst (IsRun (form_at c.args.heap.now) c.loop-passed.left) s.here (c.loop-passed.invariant r.0 k.0 r.1 k.1 r.2).0)

pub key_of-requires : goal.key_of-requires
key_of-requires g c =
    let F = form_at c.args.heap.now in
    let r = c.requires.run in
    let k = c.requires.key in
    let s = split-at c.loop-passed.passed r.0 (omega (arith, c.loop-passed-test.true, r.2)) in
    let run = subst (IsRun F c.loop-passed.left) s.here (c.loop-passed.invariant r.0 k.0 r.1 k.1 r.2).0 in
    keyed F c.front_of-front.result.entry s.first.key (front-key F c.loop-passed.left s.first s.others c.front_of-front.result.entry run (c.front_of-front.ensures.front s.first s.others run).0)

is-less : (r : Ordering) → not (ordering_index r == 0) ≡ false → r ≡ Less
is-less Less e = refl
is-less Equal e = absurd cc
is-less Greater e = absurd cc

pub returns-then-ne-clause-smaller : goal.returns-then-ne-clause-smaller
returns-then-ne-clause-smaller g c = λ es k rising is.
    let r = c.requires.run in
    let F = form_at c.args.heap.now in
    let passed = c.loop-passed.passed in
    let same : r.0 ≡ es = run-only F c.args.run.now r.0 es r.1.run rising.run in
    let fits : c.args.number ≤ length es = subst (λ xs. c.args.number ≤ length xs) same r.2 in
    let s = split-at passed es (omega (arith, c.loop-passed-test.true, fits)) in
    let kept = c.loop-passed.invariant es k rising is fits in
    let run = subst (IsRun F c.loop-passed.left) s.here kept.0 in
    let key = front-key F c.loop-passed.left s.first s.others c.front_of-front.result.entry run (c.front_of-front.ensures.front s.first s.others run).0 in
    let order = same-order g.T.Ord.cmp F c.front_of-front.result.entry c.args.entry c.key_of.result.now c.key_of-in-loop-passed.result.now s.first.key k c.key_of.ensures c.key_of-in-loop-passed.ensures key is in
    let from : g.T.Ord.cmp s.first.key k ≢ Less = λ less.
    let bad : true ≡ false = sym c.if-ne.true ∙ c.ne.ensures ∙ ap (λ o. not (ordering_index o == 0)) (c.cmp.ensures ∙ sym order ∙ less) in cc in
    let P = λ (e : Entry _). g.T.Ord.cmp e.key k ≢ Less in
    let whole = subst (IsRising g.T.Ord.cmp) (sym (take-append-drop passed es)) rising.rising in
    let left = subst (IsRising g.T.Ord.cmp) s.here (rising-right g.T.Ord.cmp g.met.T.Ord.total (take passed es) (drop passed es) whole) in
    (kept.1, All-take P (c.args.number - passed) (drop passed es) (subst (All P) (sym s.here) (not-less-rest g.T.Ord.cmp g.met.T.Ord.total k s.first s.others from left)))

pub loop-passed-preserved : goal.loop-passed-preserved
loop-passed-preserved g c = λ es k rising is fits.
    let F = form_at c.args.heap.now in
    let passed = c.loop-passed.passed in
    let s = split-at passed es (omega (arith, c.loop-passed-test.true, fits)) in
    let kept = c.loop-passed.invariant es k rising is fits in
    let run = subst (IsRun F c.loop-passed.left) s.here kept.0 in
    let front = c.front_of-front.ensures.front s.first s.others run in
    let key = front-key F c.loop-passed.left s.first s.others c.front_of-front.result.entry run front.0 in
    let order = same-order g.T.Ord.cmp F c.front_of-front.result.entry c.args.entry c.key_of.result.now c.key_of-in-loop-passed.result.now s.first.key k c.key_of.ensures c.key_of-in-loop-passed.ensures key is in
    let less : g.T.Ord.cmp s.first.key k ≡ Less = order ∙ sym c.cmp.ensures ∙ is-less c.cmp.result (sym c.ne.ensures ∙ c.if-ne.false) in
    (subst (IsRun F c.front_of-front.result.rest) (sym s.next) front.1, subst (AreBelow g.T.Ord.cmp k) (sym s.front) (below-push g.T.Ord.cmp g.met.T.Ord.total k (take passed es) s.first kept.1 less))

pub returns-clause-smaller : goal.returns-clause-smaller
returns-clause-smaller g c = λ es k rising is.
    let r = c.requires.run in
    let F = form_at c.args.heap.now in
    let same : r.0 ≡ es = run-only F c.args.run.now r.0 es r.1.run rising.run in
    let fits : c.args.number ≤ length es = subst (λ xs. c.args.number ≤ length xs) same r.2 in
    let all : c.loop-passed.passed ≡ c.args.number = omega arith in
    let kept = c.loop-passed.invariant es k rising is fits in
    let P = λ (e : Entry _). g.T.Ord.cmp e.key k ≢ Less in
    let none : c.args.number - c.args.number ≡ 0 = omega arith in
    (subst (λ n. AreBelow g.T.Ord.cmp k (take n es)) all kept.1, subst (λ n. All P (take n (drop c.args.number es))) (sym none) (All-nil P))

use Rattle.std.proofs.Common.{sym, subst, arith, IsSome, inl, inr}
use Rattle.std.proofs.lemmas.Bool.{cases_eq}
use Rattle.node_heap.specs.Heap.{row_at}
use Rattle.node_heap.proofs.Counts.{test_other}
use Rattle.node_heap.proofs.BuildLemmas.{count-one}
use Rattle.node_heap.proofs.heap.Heap.hold.Goals as goal

pub hold_all-requires-clause-live : goal.hold_all-requires-clause-live
hold_all-requires-clause-live g c l has = elim (cases_eq l c.args.link) as (λ _. IsSome (row_at c.args.self.now l)) [
  | inl same ↦ subst (λ j. IsSome (row_at c.args.self.now j)) (sym same) c.requires.live
  | inr other ↦ absurd (omega (arith, has, count-one l c.args.link, test_other l c.args.link other))
]

pub returns-clause-holds : goal.returns-clause-holds
returns-clause-holds g c k = omega (arith, c.hold_all.ensures.holds k, count-one k c.args.link)

pub returns-clause-owners : goal.returns-clause-owners
returns-clause-owners g c k = omega (arith, c.hold_all.ensures.owners k, count-one k c.args.link)

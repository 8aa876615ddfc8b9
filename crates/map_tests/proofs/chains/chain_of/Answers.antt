use Rattle.std.proofs.Common.{arith, ◌∷◌, []}
use Rattle.std.proofs.lemmas.Result.{IfOk-weaker}
use Rattle.node_heap.specs.Heap.{form_at}
use Rattle.node_heap.proofs.Frames.{Extends-trans}
use Rattle.node_heap.proofs.BuildLemmas.{count-cons, count-one}
use Rattle.champ_chain.specs.Entry.{entry, put}
use Rattle.champ_chain.proofs.FrameLemmas.{key-kept, forms-kept}
use Rattle.champ_chain.proofs.CopyLemmas.{one_at-same}
use Rattle.champ_chain.proofs.WithLemmas.{key-some, cell-key}
use Rattle.map_tests.proofs.chains.chain_of.Goals as goal

pub join-requires-clause-held : goal.join-requires-clause-held
join-requires-clause-held g c = λ l.
    omega (arith, c.cell-first.ensures.adds.holds l, c.cell-second.ensures.adds.holds l, c.cell-third.ensures.adds.holds l, count-cons l c.cell-first.result (c.cell-second.result ∷ []), count-one l c.cell-second.result)

pub join-requires-clause-apart : goal.join-requires-clause-apart
join-requires-clause-apart g c =
    let from_first = forms-kept c.cell-first.new.self c.cell-third.new.self (Extends-trans c.cell-second.ensures.extends c.cell-third.ensures.extends) in
    let from_second = forms-kept c.cell-second.new.self c.cell-third.new.self c.cell-third.ensures.extends in (
      c.args.first,
      c.args.second,
      key-kept (form_at c.cell-first.new.self) (form_at c.cell-third.new.self) from_first c.cell-first.result c.args.first (cell-key c.cell-first.new.self c.cell-first.result c.args.first c.cell-first.ensures.adds.here),
      key-kept (form_at c.cell-second.new.self) (form_at c.cell-third.new.self) from_second c.cell-second.result c.args.second (cell-key c.cell-second.new.self c.cell-second.result c.args.second c.cell-second.ensures.adds.here),
      c.requires.apart,
    )

pub with-requires-clause-held : goal.with-requires-clause-held
with-requires-clause-held g c =
    let third = c.cell-third.result in
    omega (
      arith,
      c.in_ok-two.ensures.answered.holds third,
      c.cell-first.ensures.adds.holds third,
      c.cell-second.ensures.adds.holds third,
      c.cell-third.ensures.adds.holds third,
      count-cons third c.cell-first.result (c.cell-second.result ∷ []),
      count-one third c.cell-second.result,
      one_at-same third,
    )

pub with-requires-clause-keyed : goal.with-requires-clause-keyed
with-requires-clause-keyed g c =
    key-some c.join.new.heap c.cell-third.result c.args.third
    (key-kept (form_at c.cell-third.new.self) (form_at c.join.new.heap) (forms-kept c.cell-third.new.self c.join.new.heap c.in_ok-two.ensures.answered.extends) c.cell-third.result c.args.third
    (cell-key c.cell-third.new.self c.cell-third.result c.args.third c.cell-third.ensures.adds.here))

pub with-requires-clause-chain : goal.with-requires-clause-chain
with-requires-clause-chain g c =
    let from_first = forms-kept c.cell-first.new.self c.cell-third.new.self (Extends-trans c.cell-second.ensures.extends c.cell-third.ensures.extends) in
    let from_second = forms-kept c.cell-second.new.self c.cell-third.new.self c.cell-third.ensures.extends in (
      entry c.args.first c.cell-first.result ∷ entry c.args.second c.cell-second.result ∷ [],
      c.in_ok-two.ensures.joined c.args.first c.args.second
          (key-kept (form_at c.cell-first.new.self) (form_at c.cell-third.new.self) from_first c.cell-first.result c.args.first (cell-key c.cell-first.new.self c.cell-first.result c.args.first c.cell-first.ensures.adds.here))
          (key-kept (form_at c.cell-second.new.self) (form_at c.cell-third.new.self) from_second c.cell-second.result c.args.second (cell-key c.cell-second.new.self c.cell-second.result c.args.second c.cell-second.ensures.adds.here)),
    )

pub returns-clause-chain : goal.returns-clause-chain
returns-clause-chain g c =
    let from_first = forms-kept c.cell-first.new.self c.cell-third.new.self (Extends-trans c.cell-second.ensures.extends c.cell-third.ensures.extends) in
    let from_second = forms-kept c.cell-second.new.self c.cell-third.new.self c.cell-third.ensures.extends in
    let two = entry c.args.first c.cell-first.result ∷ entry c.args.second c.cell-second.result ∷ [] in
    let chain = c.in_ok-two.ensures.joined c.args.first c.args.second
    (key-kept (form_at c.cell-first.new.self) (form_at c.cell-third.new.self) from_first c.cell-first.result c.args.first (cell-key c.cell-first.new.self c.cell-first.result c.args.first c.cell-first.ensures.adds.here))
    (key-kept (form_at c.cell-second.new.self) (form_at c.cell-third.new.self) from_second c.cell-second.result c.args.second (cell-key c.cell-second.new.self c.cell-second.result c.args.second c.cell-second.ensures.adds.here)) in
    let key = key-kept (form_at c.cell-third.new.self) (form_at c.join.new.heap) (forms-kept c.cell-third.new.self c.join.new.heap c.in_ok-two.ensures.answered.extends) c.cell-third.result c.args.third
    (cell-key c.cell-third.new.self c.cell-third.result c.args.third c.cell-third.ensures.adds.here) in
    IfOk-weaker c.with.result _ _ (λ l is. (put g.T.Ord.cmp two (entry c.args.third c.cell-third.result), is)) (c.with.ensures.chained two c.args.third chain key)

pub returns-clause-few : goal.returns-clause-few
returns-clause-few g c =
    let from_first = forms-kept c.cell-first.new.self c.cell-third.new.self (Extends-trans c.cell-second.ensures.extends c.cell-third.ensures.extends) in
    let from_second = forms-kept c.cell-second.new.self c.cell-third.new.self c.cell-third.ensures.extends in
    let two = entry c.args.first c.cell-first.result ∷ entry c.args.second c.cell-second.result ∷ [] in
    let chain = c.in_ok-two.ensures.joined c.args.first c.args.second
    (key-kept (form_at c.cell-first.new.self) (form_at c.cell-third.new.self) from_first c.cell-first.result c.args.first (cell-key c.cell-first.new.self c.cell-first.result c.args.first c.cell-first.ensures.adds.here))
    (key-kept (form_at c.cell-second.new.self) (form_at c.cell-third.new.self) from_second c.cell-second.result c.args.second (cell-key c.cell-second.new.self c.cell-second.result c.args.second c.cell-second.ensures.adds.here)) in
    let before = c.in_ok-two.ensures.answered.count in
    IfOk-weaker c.with.result _ _ (λ l is. let total = is.count in omega (arith, total, before, c.cell-first.ensures.count, c.cell-second.ensures.count, c.cell-third.ensures.count, c.in_ok-reserve.ensures.rest.count, c.requires.few)) (c.with.ensures.answered two chain)

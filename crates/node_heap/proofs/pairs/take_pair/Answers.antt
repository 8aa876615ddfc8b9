use Rattle.std.proofs.Common.{◌≡◌, ◌-◌, take, ap, sym, ◌∙◌, arith, length, slice_get}
use Rattle.std.proofs.lemmas.Option.{get_or_from_slice_get}
use Rattle.node_heap.proofs.OwnerLemmas.{remove-last}
use Rattle.node_heap.proofs.pairs.take_pair.Goals as goal

pub returns-clause-value : goal.returns-clause-value
returns-clause-value c =
    let items = c.args.pairs.now.items in
    let last : length items - 1 ≡ c.args.index = omega (arith, c.requires, c.if-index-count.false, c.len-count.ensures.value) in
    sym (get_or_from_slice_get items c.args.index c.in-Some.last c.in-Some.last (ap (λ k. slice_get items k) (sym last) ∙ sym c.in-Some.ensures.value))

pub returns-clause-items : goal.returns-clause-items
returns-clause-items c =
    let items = c.args.pairs.now.items in
    let last : length items - 1 ≡ c.args.index = omega (arith, c.requires, c.if-index-count.false, c.len-count.ensures.value) in
    c.in-Some.ensures.rest ∙ ap (λ k. take k items) last ∙ remove-last items c.args.index (omega (arith, c.requires, last))

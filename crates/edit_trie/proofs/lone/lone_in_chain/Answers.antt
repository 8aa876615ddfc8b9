use Rattle.std.proofs.Common.{refl, sym, ◌∙◌}
use Rattle.node_heap.specs.Heap.{form_at}
use Rattle.champ_chain.proofs.CallerLemmas.{first-row}
use Rattle.edit_trie.proofs.LoneLemmas.{some-of, none-of, has-second, first-key, second-row, third-more, left-second, left-first}
use Rattle.edit_trie.proofs.lone.lone_in_chain.Goals as goal

pub row_of-first-requires : goal.row_of-first-requires
row_of-first-requires g c =
    let at = first-row (form_at c.args.heap.now) c.args.chain c.requires.chain.1.entries c.requires.chain.1.rows in
    (at.first.link, at.next, at.row)

pub returns-in_err-first-clause-lone : goal.returns-in_err-first-clause-lone
returns-in_err-first-clause-lone g c = λ E chain there. absurd (has-second g.T.Ord.cmp g.met.T.Ord.total (form_at c.args.heap.now) c.args.chain E (g.P.Probe.stands_for c.args.key.now) chain c.row_of-first.result.entry c.row_of-first.result.next c.row_of-first.ensures c.in_err-first.was)

pub row_of-second-requires : goal.row_of-second-requires
row_of-second-requires g c =
    second-row g.T.Ord.cmp g.met.T.Ord.total (form_at c.args.heap.now) c.args.chain c.requires.chain.0 (g.P.Probe.stands_for c.args.key.now) c.requires.chain.1 c.row_of-first.result.entry c.row_of-first.result.next c.row_of-first.ensures c.in_ok-first.field-0 c.in_ok-first.was

pub returns-then-is_some-clause-lone : goal.returns-then-is_some-clause-lone
returns-then-is_some-clause-lone g c = λ E chain there.
    let third = some-of c.row_of-second.result.next (sym c.is_some.ensures ∙ c.if-is_some.true) in
    third-more g.T.Ord.cmp g.met.T.Ord.total (form_at c.args.heap.now) c.args.chain E (g.P.Probe.stands_for c.args.key.now) chain c.row_of-first.result.entry c.row_of-first.result.next c.row_of-first.ensures c.in_ok-first.field-0 c.in_ok-first.was
    c.row_of-second.result.entry c.row_of-second.result.next c.row_of-second.ensures third.0 third.1 there

pub key_of-requires : goal.key_of-requires
key_of-requires g c =
    rw (first-key g.T.Ord.cmp g.met.T.Ord.total (form_at c.args.heap.now) c.args.chain c.requires.chain.0 (g.P.Probe.stands_for c.args.key.now) c.requires.chain.1 c.row_of-first.result.entry c.row_of-first.result.next c.row_of-first.ensures) refl

pub returns-in-Equal-clause-lone : goal.returns-in-Equal-clause-lone
returns-in-Equal-clause-lone g c = λ E chain there.
    left-second g.T.Ord.cmp g.met.T.Ord.total (form_at c.args.heap.now) c.args.chain E (g.P.Probe.stands_for c.args.key.now) chain c.row_of-first.result.entry c.row_of-first.result.next c.row_of-first.ensures c.in_ok-first.field-0 c.in_ok-first.was
    c.row_of-second.result.entry c.row_of-second.result.next c.row_of-second.ensures (none-of c.row_of-second.result.next (sym c.is_some.ensures ∙ c.if-is_some.false)) there c.key_of.result.now c.key_of.ensures (sym c.order.ensures ∙ c.in-Equal.is)

pub returns-in_default : goal.returns-in_default
returns-in_default g c = record {
  graph = c.rows_form_a_graph.ensures;
  lone = λ E chain there.
      left-first g.T.Ord.cmp g.met.T.Ord.total (form_at c.args.heap.now) c.args.chain E (g.P.Probe.stands_for c.args.key.now) chain c.row_of-first.result.entry c.row_of-first.result.next c.row_of-first.ensures c.in_ok-first.field-0 c.in_ok-first.was
      c.row_of-second.result.entry c.row_of-second.result.next c.row_of-second.ensures (none-of c.row_of-second.result.next (sym c.is_some.ensures ∙ c.if-is_some.false)) there c.key_of.result.now c.key_of.ensures (λ e. c.in_default.not-Equal (c.order.ensures ∙ e));
}

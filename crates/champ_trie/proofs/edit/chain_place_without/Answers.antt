use Rattle.std.proofs.Common.{◌≡◌, ◌∙◌, sym, ap, Some}
use Rattle.std.specs.Prelude.{option_map}
use Rattle.node_heap.specs.Forms.{head_of, chain}
use Rattle.node_heap.specs.Reads.{kind_said}
use Rattle.node_heap.specs.Heap.{form_at}
use Rattle.champ_chain.specs.Entry.{others}
use Rattle.champ_trie.proofs.LeftLemmas.{chain-stands, entry-stands, chain-said}
use Rattle.champ_trie.proofs.edit.chain_place_without.Goals as goal

pub returns-in-Chain-clause-place : goal.returns-in-Chain-clause-place
returns-in-Chain-clause-place g c = λ E is.
    let head : head_of (form_at c.removed-left.new.heap c.removed-left.result) ≡ Some chain = sym c.kind.ensures ∙ ap (option_map kind_said) c.in-Some.is ∙ ap (λ k. Some (kind_said k)) c.in-Chain.is in
    chain-stands g.T.Ord.cmp c.removed-left.new.heap c.removed-left.result (others g.T.Ord.cmp (g.P.Probe.stands_for c.args.key.now) E) head (c.removed-left.ensures.removed E is)

pub returns-in_default-clause-place : goal.returns-in_default-clause-place
returns-in_default-clause-place g c = λ E is.
    let other : head_of (form_at c.removed-left.new.heap c.removed-left.result) ≡ Some chain → ⊥ = λ head.
    let said : Some (kind_said c.in-Some.kind) ≡ Some chain = sym (ap (option_map kind_said) c.in-Some.is) ∙ c.kind.ensures ∙ head in
    c.in_default.not-Chain (chain-said c.in-Some.kind (cc)) in
    entry-stands g.T.Ord.cmp c.removed-left.new.heap c.removed-left.result (others g.T.Ord.cmp (g.P.Probe.stands_for c.args.key.now) E) other (c.removed-left.ensures.removed E is)

pub returns-in-None-clause-place : goal.returns-in-None-clause-place
returns-in-None-clause-place g c = λ E is.
    let other : head_of (form_at c.removed-left.new.heap c.removed-left.result) ≡ Some chain → ⊥ = λ head. (let bad = sym (ap (option_map kind_said) c.in-None.is) ∙ c.kind.ensures ∙ head in cc) in
    entry-stands g.T.Ord.cmp c.removed-left.new.heap c.removed-left.result (others g.T.Ord.cmp (g.P.Probe.stands_for c.args.key.now) E) other (c.removed-left.ensures.removed E is)

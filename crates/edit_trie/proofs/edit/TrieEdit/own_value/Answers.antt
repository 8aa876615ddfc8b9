use Rattle.std.proofs.Common.{rules, ◌+◌, ◌<◌, refl, ap, subst, ◌∙◌, arith, Ok}
use Rattle.node_heap.specs.Heap.{holds_at}
use Rattle.node_heap.specs.Calls.{KeepsToNeed}
use Rattle.node_heap.specs.declared.owner.Owner.TheVariants.{Hold as by_hold}
use Rattle.champ_chain.proofs.CallerLemmas.{not-ok, err-not-ok}
use Rattle.champ_kinds.specs.Root.{Root}
use Rattle.champ_kinds.specs.Binding.{alike_keys}
use Rattle.champ_kinds.proofs.CallerLemmas.{map-seen, entries-seen}
use Rattle.edit_trie.specs.Edit.{OwnsPair}
use Rattle.edit_trie.specs.declared.own_pair.TheConstants.{OWN_NODES}
use Rattle.edit_trie.proofs.edit.TrieEdit.own_value.Goals as goal

pub own_by-requires-clause-owner : goal.own_by-requires-clause-owner
own_by-requires-clause-owner g c =
    let some : 0 < holds_at c.args.heap.now c.self.inside.root = omega (arith, c.requires.held, ap (λ (q : Root). holds_at c.args.heap.now q.root) c.self.view_is) in
    some

pub own_by-requires-clause-contents : goal.own_by-requires-clause-contents
own_by-requires-clause-contents g c = (c.requires.contents.0, map-seen c.self.view_is c.requires.contents.1)

pub returns-in_err-did-clause-none : goal.returns-in_err-did-clause-none
returns-in_err-did-clause-none g c = λ M here. (
  λ e. absurd (err-not-ok c.from_residual.result _ c.from_residual.ensures.0 e),
  λ none. let gone = (c.own_by.ensures.none M (map-seen c.self.view_is here)).1 none in absurd (let was = c.in_err-did.was in cc),
)

pub returns-in_err-did-clause-ample : goal.returns-in_err-did-clause-ample
returns-in_err-did-clause-ample g c = λ M here spares.
    let number = ap (λ (q : Root). alike_keys g.T.Element.code_of q.bits (g.P.Probe.stands_for c.args.key.now) M) c.self.view_is in
    absurd (not-ok c.own_by.result _ c.in_err-did.was (c.own_by.ensures.ample M (map-seen c.self.view_is here) (omega arith, omega (arith, number, spares.1))))

pub returns-in_default-clause-none : goal.returns-in_default-clause-none
returns-in_default-clause-none g c = λ M here. (λ e. (c.own_by.ensures.none M (map-seen c.self.view_is here)).0 (c.in_ok-did.was ∙ ap Ok c.in_default.is), λ none. refl)

pub returns-in_default-clause-nothing : goal.returns-in_default-clause-nothing
returns-in_default-clause-nothing g c = λ e. (c.own_by.ensures.nothing (c.in_ok-did.was ∙ ap Ok c.in_default.is), search rules)

pub returns-in_default-clause-spares : goal.returns-in_default-clause-spares
returns-in_default-clause-spares g c = λ M here.
    let did = c.in_ok-did.ensures.spares M (map-seen c.self.view_is here) in
    subst (λ (q : Root). KeepsToNeed c.args.heap.now c.own_by.new.heap 0 (OWN_NODES + alike_keys g.T.Element.code_of q.bits (g.P.Probe.stands_for c.args.key.now) M)) c.self.view_is did

pub returns-clause-owns : goal.returns-clause-owns
returns-clause-owns g c = λ M here.
    let did = rw c.in-Some.is at (c.in_ok-did.ensures.owns M (map-seen c.self.view_is here)) in
    subst (λ (q : Root). OwnsPair g.T.Ord.cmp g.T.Element.code_of (by_hold q.root) q.bits c.args.heap.now c.own_by.new.heap c.in-Some.did.0 M (g.P.Probe.stands_for c.args.key.now) c.in-Some.did.1) c.self.view_is did.0

pub returns-clause-entries : goal.returns-clause-entries
returns-clause-entries g c = λ E here. rw c.in-Some.is at (c.in_ok-did.ensures.entries E (entries-seen c.self.view_is here))

pub returns-clause-none : goal.returns-clause-none
returns-clause-none g c = λ M here. (
  λ e. absurd cc,
  λ none. let gone = (c.own_by.ensures.none M (map-seen c.self.view_is here)).1 none in absurd (let was = c.in_ok-did.was in let is = c.in-Some.is in cc),
)

pub returns-clause-spares : goal.returns-clause-spares
returns-clause-spares g c = λ M here.
    let did = c.in_ok-did.ensures.spares M (map-seen c.self.view_is here) in
    subst (λ (q : Root). KeepsToNeed c.args.heap.now c.own_by.new.heap 0 (OWN_NODES + alike_keys g.T.Element.code_of q.bits (g.P.Probe.stands_for c.args.key.now) M)) c.self.view_is did

use Rattle.std.proofs.Common.{◌+◌, [], refl, ap, sym, subst, ◌∙◌, Ok}
use Rattle.node_heap.specs.InPlace.{Changes}
use Rattle.node_heap.specs.declared.owner.Owner.TheVariants.{Child as by_place}
use Rattle.champ_chain.proofs.CallerLemmas.{not-ok, err-not-ok}
use Rattle.champ_kinds.specs.Binding.{alike_keys}
use Rattle.edit_trie.specs.declared.own_pair.TheConstants.{OWN_NODES}
use Rattle.edit_trie.specs.Edit.{by_bits, OwnsEntry, OwnsPair}
use Rattle.edit_trie.proofs.RootLemmas.{changes-none}
use Rattle.edit_trie.proofs.in_row.own_value_at.Goals as goal

pub own_by-requires-clause-owner : goal.own_by-requires-clause-owner
own_by-requires-clause-owner g c = (c.requires.child, c.requires.sole)

pub own_by-requires-clause-contents : goal.own_by-requires-clause-contents
own_by-requires-clause-contents g c = c.requires.contents

pub returns-in_err-did-clause-none : goal.returns-in_err-did-clause-none
returns-in_err-did-clause-none g c = λ M is. (
  λ e. absurd (err-not-ok c.from_residual.result _ c.from_residual.ensures.0 e),
  λ none. let gone = (c.own_by.ensures.none M is).1 none in absurd (let was = c.in_err-did.was in cc),
)

pub returns-in_err-did-clause-ample : goal.returns-in_err-did-clause-ample
returns-in_err-did-clause-ample g c = λ M is spares. absurd (not-ok c.own_by.result _ c.in_err-did.was (c.own_by.ensures.ample M is spares))

pub returns-in_default-clause-changes : goal.returns-in_default-clause-changes
returns-in_default-clause-changes g c = λ M is.
    let same = c.own_by.ensures.nothing (c.in_ok-did.was ∙ ap Ok c.in_default.is) in
    subst (λ h. Changes c.args.parent c.args.heap.now h [] [] 0 (OWN_NODES + alike_keys g.T.Element.code_of c.args.bits (g.P.Probe.stands_for c.args.key.now) M)) (sym same) (changes-none c.args.parent c.args.heap.now _ c.own_by.ensures.graph)

pub returns-in_default-clause-none : goal.returns-in_default-clause-none
returns-in_default-clause-none g c = λ M is. (λ e. (c.own_by.ensures.none M is).0 (c.in_ok-did.was ∙ ap Ok c.in_default.is), λ none. refl)

pub returns-in_default-clause-nothing : goal.returns-in_default-clause-nothing
returns-in_default-clause-nothing g c = λ e. c.own_by.ensures.nothing (c.in_ok-did.was ∙ ap Ok c.in_default.is)

pub returns-in_default-clause-spares : goal.returns-in_default-clause-spares
returns-in_default-clause-spares g c = λ M is. c.in_ok-did.ensures.spares M is

pub returns-clause-owns : goal.returns-clause-owns
returns-clause-owns g c = λ M is.
    let did = rw c.in-Some.is at (c.in_ok-did.ensures.owns M is) in (
      subst (λ l. OwnsPair g.T.Ord.cmp g.T.Element.code_of (by_place c.args.parent c.args.child) c.args.bits c.args.heap.now c.own_by.new.heap l M (g.P.Probe.stands_for c.args.key.now) c.in-Some.did.1) (sym did.1.1) did.0,
      did.2,
    )

pub returns-clause-entries : goal.returns-clause-entries
returns-clause-entries g c = λ E mine.
    let up = (rw c.in-Some.is at (c.in_ok-did.ensures.owns c.requires.contents.0 c.requires.contents.1)).1 in
    let did = rw c.in-Some.is at (c.in_ok-did.ensures.entries E mine) in
    subst (λ l. OwnsEntry g.T.Ord.cmp g.T.Element.code_of c.args.heap.now c.own_by.new.heap (by_bits c.args.bits l) E (g.P.Probe.stands_for c.args.key.now) c.in-Some.did.1) (sym up.1) did

pub returns-clause-changes : goal.returns-clause-changes
returns-clause-changes g c = λ M is.
    let did = rw c.in-Some.is at (c.in_ok-did.ensures.owns M is) in
    did.1.0

pub returns-clause-none : goal.returns-clause-none
returns-clause-none g c = λ M is. (
  λ e. absurd cc,
  λ none. let gone = (c.own_by.ensures.none M is).1 none in absurd (let was = c.in_ok-did.was in let is = c.in-Some.is in cc),
)

pub returns-clause-spares : goal.returns-clause-spares
returns-clause-spares g c = λ M is. c.in_ok-did.ensures.spares M is

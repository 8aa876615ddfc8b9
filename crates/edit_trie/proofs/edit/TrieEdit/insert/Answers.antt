use Rattle.std.proofs.Common.{rules, ◌+◌, ◌<◌, ◌∷◌, [], refl, ap, subst, arith}
use Rattle.node_heap.specs.Links.{count}
use Rattle.node_heap.specs.Heap.{holds_at}
use Rattle.node_heap.specs.Calls.{HasHolds, KeepsToNeed}
use Rattle.node_heap.specs.declared.owner.Owner.TheVariants.{Hold as by_hold}
use Rattle.node_heap.proofs.CallerLemmas.{test_same, count-link as count-cons}
use Rattle.champ_chain.proofs.CallerLemmas.{not-ok}
use Rattle.champ_kinds.specs.Root.{Root}
use Rattle.champ_kinds.specs.Binding.{alike_keys}
use Rattle.champ_kinds.specs.declared.map.TheConstants.{INSERT_NODES}
use Rattle.champ_kinds.proofs.CallerLemmas.{map-seen, entries-seen}
use Rattle.edit_trie.specs.Edit.{PutsValue}
use Rattle.edit_trie.proofs.edit.TrieEdit.insert.Goals as goal

pub insert_by-requires-clause-owner : goal.insert_by-requires-clause-owner
insert_by-requires-clause-owner g c =
    let root = c.self.inside.root in
    let some : 0 < holds_at c.args.heap.now root =
    omega (arith, c.requires.held root, ap (λ (q : Root). count root (q.root ∷ c.args.value ∷ [])) c.self.view_is, count-cons root root (c.args.value ∷ []), test_same root root refl) in
    some

pub insert_by-requires-clause-held : goal.insert_by-requires-clause-held
insert_by-requires-clause-held g c =
    let all : HasHolds c.args.heap.now (c.self.inside.root ∷ c.args.value ∷ []) = λ k. omega (arith, c.requires.held k, ap (λ (q : Root). count k (q.root ∷ c.args.value ∷ [])) c.self.view_is) in
    all

pub insert_by-requires-clause-apart : goal.insert_by-requires-clause-apart
insert_by-requires-clause-apart g c = tt

pub insert_by-requires-clause-contents : goal.insert_by-requires-clause-contents
insert_by-requires-clause-contents g c = (c.requires.contents.0, map-seen c.self.view_is c.requires.contents.1)

pub returns-in-Err-clause-ample : goal.returns-in-Err-clause-ample
returns-in-Err-clause-ample g c = λ M here spares.
    let number = ap (λ (q : Root). alike_keys g.T.Element.code_of q.bits c.args.key M) c.self.view_is in
    absurd (not-ok c.insert_by.result _ c.in-Err.is (c.insert_by.ensures.ample M (map-seen c.self.view_is here) (omega (arith, spares.0), omega (arith, number, spares.1))))

pub returns-in-Err-clause-refused : goal.returns-in-Err-clause-refused
returns-in-Err-clause-refused g c = (c.in-Err.ensures.refused.0, c.in-Err.ensures.refused.1, search rules)

pub returns-in-Ok-clause-value : goal.returns-in-Ok-clause-value
returns-in-Ok-clause-value g c = c.in-Ok.ensures.value

pub returns-in-Ok-clause-puts : goal.returns-in-Ok-clause-puts
returns-in-Ok-clause-puts g c = λ M here.
    let did = c.in-Ok.ensures.puts M (map-seen c.self.view_is here) in
    subst (λ (q : Root). PutsValue g.T.Ord.cmp g.T.Element.code_of (by_hold q.root) q.bits c.args.heap.now c.insert_by.new.heap c.in-Ok.did.0 M c.args.key c.args.value c.in-Ok.did.1) c.self.view_is did

pub returns-in-Ok-clause-entries : goal.returns-in-Ok-clause-entries
returns-in-Ok-clause-entries g c = λ E here. c.in-Ok.ensures.entries E (entries-seen c.self.view_is here)

pub returns-in-Ok-clause-spares : goal.returns-in-Ok-clause-spares
returns-in-Ok-clause-spares g c = λ M here.
    let did = c.in-Ok.ensures.spares M (map-seen c.self.view_is here) in
    subst (λ (q : Root). KeepsToNeed c.args.heap.now c.insert_by.new.heap 1 (INSERT_NODES + alike_keys g.T.Element.code_of q.bits c.args.key M)) c.self.view_is did

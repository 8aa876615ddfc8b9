use Rattle.std.proofs.Common.{ℕ, ◌+◌, ap, sym, subst, arith, []}
use Rattle.elem_core.specs.declared.codes.TheConstants.{LEVELS}
use Rattle.node_heap.specs.Heap.{form_at}
use Rattle.node_heap.specs.Calls.{Answered}
use Rattle.champ_chain.specs.Entry.{others}
use Rattle.champ_chain.proofs.WithLemmas.{not-ok}
use Rattle.champ_trie.specs.Trie.{IsTrieOf, code_by}
use Rattle.champ_trie.specs.Edit.{SharesBeside}
use Rattle.champ_trie.specs.Reach.{alike_to}
use Rattle.champ_kinds.specs.Root.{Root}
use Rattle.champ_kinds.proofs.StayLemmas.{set-seen, containers-extended}
use Rattle.champ_kinds.proofs.EditLemmas.{if-some, set-left}
use Rattle.node_heap.proofs.RoomLemmas.{KeepsToNeed-more}
use Rattle.champ_kinds.proofs.set.set_remove.Goals as goal

pub returns-in_err-without-clause-ample : goal.returns-in_err-without-clause-ample
returns-in_err-without-clause-ample g c = λ E here spares.
    let is = set-seen c.set.view_is here in
    let bits = ap (λ (r : Root). alike_to g.T.Element.code_of r.bits (g.P.Probe.stands_for c.args.key.now) E) c.set.view_is in
    absurd (not-ok c.without.result _ c.in_err-without.was (c.without.ensures.ample E is.rooted.trie (spares.0, omega (arith, spares.1, bits))))

pub returns-in-Some-clause-contents : goal.returns-in-Some-clause-contents
returns-in-Some-clause-contents g c = λ E here.
    let is = set-seen c.set.view_is here in
    let key = g.P.Probe.stands_for c.args.key.now in
    let left = if-some c.in_ok-without.field-0 c.in-Some.root (λ l. IsTrieOf g.T.Ord.cmp g.T.Element.code_of c.set.inside.bits c.without.new.heap l (others g.T.Ord.cmp key E)) c.in-Some.is
    (c.in_ok-without.ensures.entries E is.rooted.trie) in
    let done = if-some c.in_ok-without.field-0 c.in-Some.root (λ l. Answered c.args.heap.now c.without.new.heap [] l 0 (LEVELS + alike_to g.T.Element.code_of c.set.inside.bits key E)) c.in-Some.is
    (c.in_ok-without.ensures.answered E is.rooted.trie) in
    set-seen c.from_root.ensures (set-left g.T.Ord.cmp g.T.Element.code_of done.extends (record { root = c.set.inside.root; bits = c.set.inside.bits }) c.in-Some.root key E is left)

pub returns-in-Some-clause-containers : goal.returns-in-Some-clause-containers
returns-in-Some-clause-containers g c =
    let is = set-seen c.set.view_is c.requires.contents.1 in
    let key = g.P.Probe.stands_for c.args.key.now in
    let done = if-some c.in_ok-without.field-0 c.in-Some.root (λ l. Answered c.args.heap.now c.without.new.heap [] l 0 (LEVELS + alike_to g.T.Element.code_of c.set.inside.bits key c.requires.contents.0)) c.in-Some.is
    (c.in_ok-without.ensures.answered c.requires.contents.0 is.rooted.trie) in
    containers-extended _ _ done.extends

pub returns-in-Some-clause-shares : goal.returns-in-Some-clause-shares
returns-in-Some-clause-shares g c =
    let is = set-seen c.set.view_is c.requires.contents.1 in
    let F = form_at c.args.heap.now in
    let G = form_at c.without.new.heap in
    let code = λ (n : ℕ). code_by g.T.Element.code_of n (g.P.Probe.stands_for c.args.key.now) in
    let beside = if-some c.in_ok-without.field-0 c.in-Some.root (λ l. SharesBeside F G (code c.set.inside.bits) LEVELS 0 c.set.inside.root l) c.in-Some.is
    (c.in_ok-without.ensures.shares c.requires.contents.0 is.rooted.trie) in
    subst (λ (r : Root). SharesBeside F G (code c.args.set.bits) LEVELS 0 c.args.set.root r.root) (sym c.from_root.ensures)
    (subst (λ (r : Root). SharesBeside F G (code r.bits) LEVELS 0 r.root c.in-Some.root) c.set.view_is beside)

pub returns-in-None-clause-spares : goal.returns-in-None-clause-spares
returns-in-None-clause-spares g c = λ E here.
    let is = set-seen c.set.view_is here in
    let bits = ap (λ (r : Root). alike_to g.T.Element.code_of r.bits (g.P.Probe.stands_for c.args.key.now) E) c.set.view_is in
    KeepsToNeed-more 0 _ (omega arith) (omega (arith, bits)) (c.in_ok-without.ensures.spares E is.rooted.trie)

pub returns-in-Some-clause-spares : goal.returns-in-Some-clause-spares
returns-in-Some-clause-spares g c = λ E here.
    let is = set-seen c.set.view_is here in
    let bits = ap (λ (r : Root). alike_to g.T.Element.code_of r.bits (g.P.Probe.stands_for c.args.key.now) E) c.set.view_is in
    KeepsToNeed-more 0 _ (omega arith) (omega (arith, bits)) (c.in_ok-without.ensures.spares E is.rooted.trie)

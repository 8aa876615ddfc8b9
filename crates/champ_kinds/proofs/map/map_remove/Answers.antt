use Rattle.std.proofs.Common.{ℕ, ◌+◌, ◌∙◌, refl, ap, sym, subst, arith, [], Ok}
use Rattle.std.specs.Prelude.{IsErr}
use Rattle.elem_core.specs.declared.codes.TheConstants.{LEVELS}
use Rattle.node_heap.specs.Heap.{form_at}
use Rattle.node_heap.specs.Calls.{Answered}
use Rattle.champ_chain.specs.Entry.{others}
use Rattle.champ_chain.proofs.WithLemmas.{not-ok, err-not-ok}
use Rattle.champ_trie.specs.Trie.{IsTrieOf, code_by}
use Rattle.champ_trie.specs.Edit.{SharesBeside}
use Rattle.champ_trie.specs.Reach.{alike_to}
use Rattle.champ_kinds.specs.Root.{Root}
use Rattle.champ_kinds.specs.Binding.{alike_keys}
use Rattle.champ_kinds.proofs.PairLemmas.{alike-pairs, absent-map, absent-trie}
use Rattle.champ_kinds.proofs.StayLemmas.{map-seen, containers-extended}
use Rattle.champ_kinds.proofs.EditLemmas.{if-some, map-left}
use Rattle.node_heap.proofs.RoomLemmas.{KeepsToNeed-more}
use Rattle.champ_kinds.proofs.map.map_remove.Goals as goal

pub returns-in_err-without-clause-absent : goal.returns-in_err-without-clause-absent
returns-in_err-without-clause-absent g c = λ M here.
    let is = map-seen c.map.view_is here in
    let key = g.P.Probe.stands_for c.args.key.now in
    let absent = c.without.ensures.absent is.entries is.rooted.trie in (
      λ e. absurd (err-not-ok c.from_residual.result _ c.from_residual.ensures.0 e),
      λ none. absurd (err-not-ok c.without.result _ (subst IsErr (sym c.in_err-without.was) refl) (absent.1 (absent-trie (form_at c.args.heap.now) g.T.Ord.cmp key is.entries M is.pairs none))),
    )

pub returns-in_err-without-clause-ample : goal.returns-in_err-without-clause-ample
returns-in_err-without-clause-ample g c = λ M here spares.
    let is = map-seen c.map.view_is here in
    let key = g.P.Probe.stands_for c.args.key.now in
    let bits = ap (λ (r : Root). alike_keys g.T.Element.code_of r.bits key M) c.map.view_is in
    let alike = alike-pairs (form_at c.args.heap.now) g.T.Element.code_of c.map.inside.bits key is.entries M is.pairs in
    absurd (not-ok c.without.result _ c.in_err-without.was (c.without.ensures.ample is.entries is.rooted.trie (spares.0, omega (arith, spares.1, bits, alike))))

pub returns-in-None-clause-absent : goal.returns-in-None-clause-absent
returns-in-None-clause-absent g c = λ M here.
    let is = map-seen c.map.view_is here in
    let key = g.P.Probe.stands_for c.args.key.now in
    let absent = c.in_ok-without.ensures.absent is.entries is.rooted.trie in
    (λ _. absent-map (form_at c.args.heap.now) g.T.Ord.cmp key is.entries M is.pairs (absent.0 (ap Ok c.in-None.is)), λ _. refl)

pub returns-in-Some-clause-absent : goal.returns-in-Some-clause-absent
returns-in-Some-clause-absent g c = λ M here.
    let is = map-seen c.map.view_is here in
    let key = g.P.Probe.stands_for c.args.key.now in
    let absent = c.in_ok-without.ensures.absent is.entries is.rooted.trie in
    (λ e. cc, λ none. let gone = absent.1 (absent-trie (form_at c.args.heap.now) g.T.Ord.cmp key is.entries M is.pairs none) in let some = c.in-Some.is in cc)

pub returns-in-Some-clause-answered : goal.returns-in-Some-clause-answered
returns-in-Some-clause-answered g c = λ M here.
    let is = map-seen c.map.view_is here in
    let key = g.P.Probe.stands_for c.args.key.now in
    let bits = ap (λ (r : Root). alike_keys g.T.Element.code_of r.bits key M) c.map.view_is in
    let alike = alike-pairs (form_at c.args.heap.now) g.T.Element.code_of c.map.inside.bits key is.entries M is.pairs in
    let done = if-some c.in_ok-without.field-0 c.in-Some.root (λ l. Answered c.args.heap.now c.without.new.heap [] l 0 (LEVELS + alike_to g.T.Element.code_of c.map.inside.bits key is.entries)) c.in-Some.is
    (c.in_ok-without.ensures.answered is.entries is.rooted.trie) in
    subst (λ (r : Root). Answered c.args.heap.now c.without.new.heap [] r.root 0 (LEVELS + alike_keys g.T.Element.code_of c.args.map.bits key M)) (sym c.from_root.ensures)
    (subst (λ n. Answered c.args.heap.now c.without.new.heap [] c.in-Some.root 0 (LEVELS + n)) (alike ∙ bits) done)

pub returns-in-Some-clause-contents : goal.returns-in-Some-clause-contents
returns-in-Some-clause-contents g c = λ M here.
    let is = map-seen c.map.view_is here in
    let key = g.P.Probe.stands_for c.args.key.now in
    let left = if-some c.in_ok-without.field-0 c.in-Some.root (λ l. IsTrieOf g.T.Ord.cmp g.T.Element.code_of c.map.inside.bits c.without.new.heap l (others g.T.Ord.cmp key is.entries)) c.in-Some.is
    (c.in_ok-without.ensures.entries is.entries is.rooted.trie) in
    let done = if-some c.in_ok-without.field-0 c.in-Some.root (λ l. Answered c.args.heap.now c.without.new.heap [] l 0 (LEVELS + alike_to g.T.Element.code_of c.map.inside.bits key is.entries)) c.in-Some.is
    (c.in_ok-without.ensures.answered is.entries is.rooted.trie) in
    map-seen c.from_root.ensures (map-left g.T.Ord.cmp g.T.Element.code_of done.extends (record { root = c.map.inside.root; bits = c.map.inside.bits }) c.in-Some.root key M is left)

pub returns-in-Some-clause-containers : goal.returns-in-Some-clause-containers
returns-in-Some-clause-containers g c =
    let is = map-seen c.map.view_is c.requires.contents.1 in
    let key = g.P.Probe.stands_for c.args.key.now in
    let done = if-some c.in_ok-without.field-0 c.in-Some.root (λ l. Answered c.args.heap.now c.without.new.heap [] l 0 (LEVELS + alike_to g.T.Element.code_of c.map.inside.bits key is.entries)) c.in-Some.is
    (c.in_ok-without.ensures.answered is.entries is.rooted.trie) in
    containers-extended _ _ done.extends

pub returns-in-Some-clause-shares : goal.returns-in-Some-clause-shares
returns-in-Some-clause-shares g c =
    let is = map-seen c.map.view_is c.requires.contents.1 in
    let F = form_at c.args.heap.now in
    let G = form_at c.without.new.heap in
    let code = λ (n : ℕ). code_by g.T.Element.code_of n (g.P.Probe.stands_for c.args.key.now) in
    let beside = if-some c.in_ok-without.field-0 c.in-Some.root (λ l. SharesBeside F G (code c.map.inside.bits) LEVELS 0 c.map.inside.root l) c.in-Some.is
    (c.in_ok-without.ensures.shares is.entries is.rooted.trie) in
    subst (λ (r : Root). SharesBeside F G (code c.args.map.bits) LEVELS 0 c.args.map.root r.root) (sym c.from_root.ensures)
    (subst (λ (r : Root). SharesBeside F G (code r.bits) LEVELS 0 r.root c.in-Some.root) c.map.view_is beside)

pub returns-in-None-clause-spares : goal.returns-in-None-clause-spares
returns-in-None-clause-spares g c = λ M here.
    let is = map-seen c.map.view_is here in
    let key = g.P.Probe.stands_for c.args.key.now in
    let bits = ap (λ (r : Root). alike_keys g.T.Element.code_of r.bits key M) c.map.view_is in
    let alike = alike-pairs (form_at c.args.heap.now) g.T.Element.code_of c.map.inside.bits key is.entries M is.pairs in
    KeepsToNeed-more 0 _ (omega arith) (omega (arith, bits, alike)) (c.in_ok-without.ensures.spares is.entries is.rooted.trie)

pub returns-in-Some-clause-spares : goal.returns-in-Some-clause-spares
returns-in-Some-clause-spares g c = λ M here.
    let is = map-seen c.map.view_is here in
    let key = g.P.Probe.stands_for c.args.key.now in
    let bits = ap (λ (r : Root). alike_keys g.T.Element.code_of r.bits key M) c.map.view_is in
    let alike = alike-pairs (form_at c.args.heap.now) g.T.Element.code_of c.map.inside.bits key is.entries M is.pairs in
    KeepsToNeed-more 0 _ (omega arith) (omega (arith, bits, alike)) (c.in_ok-without.ensures.spares is.entries is.rooted.trie)

use Rattle.std.proofs.Common.{arith, ◌≡◌, ◌+◌, ◌≤◌, ◌∷◌, [], ◌∙◌, sym, ap, subst, refl, length, List}
use Rattle.std.specs.Ordering.{is_eq}
use Rattle.elem_core.specs.Codes.{masked_code}
use Rattle.node_heap.specs.Heap.{form_at}
use Rattle.champ_chain.specs.Entry.{Entry}
use Rattle.node_heap.proofs.BuildLemmas.{count-cons, count-one, Builds-refl, Builds-hold, Builds-both, Builds-more}
use Rattle.champ_chain.proofs.FrameLemmas.{forms-same, key-kept}
use Rattle.champ_chain.proofs.SpotLemmas.{same-key}
use Rattle.champ_trie.specs.Trie.{IsTrie, code_by}
use Rattle.champ_trie.specs.Edit.{chain_nodes}
use Rattle.champ_trie.proofs.WithLemmas.{not-equal, eq-apart, put-apart}
use Rattle.champ_trie.proofs.edit.beside.Goals as goal

pub returns-then-eq-clause-builds : goal.returns-then-eq-clause-builds
returns-then-eq-clause-builds g c = λ j is_j. (0, omega (arith, c.requires.depth), Builds-refl c.args.heap.now (c.args.entry ∷ []) 0 0 c.requires.graph)

pub node_of_two-requires-clause-keys : goal.node_of_two-requires-clause-keys
node_of_two-requires-clause-keys g c =
    let keeps = forms-same c.args.heap.now c.hold.new.self c.hold.ensures.rows in
    let first = key-kept (form_at c.args.heap.now) (form_at c.hold.new.self) keeps c.args.entry c.key_of.result.now c.key_of.ensures in
    let second = key-kept (form_at c.args.heap.now) (form_at c.hold.new.self) keeps c.args.old c.key_of-2.result.now c.key_of-2.ensures in
    let other = eq-apart c.cmp.result (not-equal c.cmp.result c.if-eq.ensures) in
    (c.key_of.result.now, c.key_of-2.result.now, first, second, λ same. other (c.cmp.ensures ∙ same))

pub returns-clause-builds : goal.returns-clause-builds
returns-clause-builds g c = λ j is_j.
    let key = same-key (form_at c.args.heap.now) c.args.old c.args.old c.key_of-3.result.now j refl c.key_of-3.ensures is_j in
    let old_code : c.masked-old_code.result ≡ code_by g.T.Element.code_of c.args.bits j = c.masked-old_code.ensures.kept ∙ ap (λ n. masked_code n c.args.bits) (c.code.ensures ∙ ap g.T.Element.code_of key) in
    let below = c.node_of_two.ensures.builds in
    let held = Builds-hold c.hold.ensures.holds c.hold.ensures.makes c.hold.ensures.count c.hold.ensures.graph c.hold.ensures.extends in
    let both = Builds-both (c.args.entry ∷ []) (c.node_of_two.result ∷ []) held below.2 (λ k. omega (arith, count-cons k c.args.entry (c.args.old ∷ []), count-one k c.args.entry)) (omega arith) in
    (below.0, omega (arith, below.1, ap (chain_nodes c.args.code) old_code), Builds-more 0 below.0 both (omega arith) (omega arith))

pub returns-clause-place : goal.returns-clause-place
returns-clause-place g c = λ j k is_j is_k left levels.
    let F = form_at c.args.heap.now in
    let G = form_at c.hold.new.self in
    let code = code_by g.T.Element.code_of c.args.bits in
    let keeps = forms-same c.args.heap.now c.hold.new.self c.hold.ensures.rows in
    let first = same-key F c.args.entry c.args.entry c.key_of.result.now k refl c.key_of.ensures is_k in
    let second = same-key F c.args.old c.args.old c.key_of-2.result.now j refl c.key_of-2.ensures is_j in
    let third = same-key F c.args.old c.args.old c.key_of-3.result.now j refl c.key_of-3.ensures is_j in
    let given = same-key F c.args.entry c.args.entry c.requires.key.0 k refl c.requires.key.1 is_k in
    let other = ap (λ x. is_eq (g.T.Ord.cmp x j)) (sym first) ∙ ap (λ x. is_eq (g.T.Ord.cmp c.key_of.result.now x)) (sym second) ∙ sym (ap is_eq c.cmp.ensures) ∙ not-equal c.cmp.result c.if-eq.ensures in
    let entry_code = c.requires.key.2 ∙ ap code given in
    let old_code = c.masked-old_code.ensures.kept ∙ ap (λ n. masked_code n c.args.bits) (c.code.ensures ∙ ap g.T.Element.code_of third) in
    subst (λ (P : List (Entry g.row.T.Denot)). (2 ≤ length P) × IsTrie g.T.Ord.cmp code (form_at c.node_of_two.new.heap) left (c.args.depth + 1) c.node_of_two.result P) (sym (put-apart g.T.Ord.cmp code j k c.args.old c.args.entry other)) (
      omega arith,
      c.node_of_two.ensures.trie code k j (key-kept F G keeps c.args.entry k is_k) (key-kept F G keeps c.args.old j is_j) entry_code old_code left (omega (arith, levels)),
    )

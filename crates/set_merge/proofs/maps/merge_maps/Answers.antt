use Rattle.std.proofs.Common.{arith, sym, subst}
use Rattle.node_heap.specs.Calls.{KeepsToNeed}
use Rattle.champ_chain.proofs.WithLemmas.{not-ok}
use Rattle.champ_kinds.specs.Laws.{KeepsContainers}
use Rattle.champ_kinds.proofs.StayLemmas.{containers-extended}
use Rattle.node_heap.proofs.Frames.{Extends-refl}
use Rattle.set_merge.proofs.KindLemmas.{first-trie, second-trie, roots-bits, need-as, apart-first, apart-second, roots-one, entries-answer, map-answer, bits-answer, answered-answer, same-answer, pairs-long}
use Rattle.set_merge.proofs.maps.merge_maps.Goals as goal

pub merge-requires-clause-bits : goal.merge-requires-clause-bits
merge-requires-clause-bits g c = roots-bits g.T.Ord.cmp g.T.Element.code_of c.args.heap.now c.args.a c.args.b c.requires.bits c.roots_of-roots.result c.roots_of-roots.ensures c.requires.first.1.entries c.requires.first.1.rooted

pub merge-requires-clause-first : goal.merge-requires-clause-first
merge-requires-clause-first g c = (c.requires.first.1.entries, first-trie g.T.Ord.cmp g.T.Element.code_of c.args.heap.now c.args.a c.args.b c.requires.bits c.roots_of-roots.result c.roots_of-roots.ensures c.requires.first.1.entries c.requires.first.1.rooted)

pub merge-requires-clause-second : goal.merge-requires-clause-second
merge-requires-clause-second g c = (c.requires.second.1.entries, second-trie g.T.Ord.cmp g.T.Element.code_of c.args.heap.now c.args.a c.args.b c.requires.bits c.roots_of-roots.result c.roots_of-roots.ensures c.requires.second.1.entries c.requires.second.1.rooted)

pub returns-clause-contents : goal.returns-clause-contents
returns-clause-contents g c = λ M N one two.
    map-answer g.T.Ord.cmp g.T.Element.code_of c.args.heap.now c.args.a c.args.b c.requires.bits c.roots_of-roots.result c.roots_of-roots.ensures c.merge.new.heap c.from_root.result _ c.bits.result c.from_root.ensures c.bits.ensures c.in_ok-root.ensures.answered.extends c.args.keeps M N one two
    (c.in_ok-root.ensures.entries one.entries two.entries (first-trie g.T.Ord.cmp g.T.Element.code_of c.args.heap.now c.args.a c.args.b c.requires.bits c.roots_of-roots.result c.roots_of-roots.ensures one.entries one.rooted) (second-trie g.T.Ord.cmp g.T.Element.code_of c.args.heap.now c.args.a c.args.b c.requires.bits c.roots_of-roots.result c.roots_of-roots.ensures two.entries two.rooted))

pub returns-clause-entries : goal.returns-clause-entries
returns-clause-entries g c = λ E D one two.
    entries-answer g.T.Ord.cmp g.T.Element.code_of c.args.heap.now c.args.a c.args.b c.requires.bits c.roots_of-roots.result c.roots_of-roots.ensures c.merge.new.heap c.from_root.result _ c.bits.result c.from_root.ensures c.bits.ensures c.args.keeps E D one (c.in_ok-root.ensures.entries E D (first-trie g.T.Ord.cmp g.T.Element.code_of c.args.heap.now c.args.a c.args.b c.requires.bits c.roots_of-roots.result c.roots_of-roots.ensures E one) (second-trie g.T.Ord.cmp g.T.Element.code_of c.args.heap.now c.args.a c.args.b c.requires.bits c.roots_of-roots.result c.roots_of-roots.ensures D two))

pub returns-clause-few_nodes : goal.returns-clause-few_nodes
returns-clause-few_nodes g c = λ M N one two.
    omega (arith, c.in_ok-root.ensures.few_nodes one.entries two.entries (first-trie g.T.Ord.cmp g.T.Element.code_of c.args.heap.now c.args.a c.args.b c.requires.bits c.roots_of-roots.result c.roots_of-roots.ensures one.entries one.rooted) (second-trie g.T.Ord.cmp g.T.Element.code_of c.args.heap.now c.args.a c.args.b c.requires.bits c.roots_of-roots.result c.roots_of-roots.ensures two.entries two.rooted), pairs-long M one, pairs-long N two)

pub returns-clause-apart : goal.returns-clause-apart
returns-clause-apart g c = λ rows others has back. c.in_ok-root.ensures.apart rows others (apart-first g.T.Ord.cmp g.T.Element.code_of c.args.heap.now c.args.a c.args.b c.requires.bits c.roots_of-roots.result c.roots_of-roots.ensures rows has) (apart-second g.T.Ord.cmp g.T.Element.code_of c.args.heap.now c.args.a c.args.b c.requires.bits c.roots_of-roots.result c.roots_of-roots.ensures others back)

pub returns-clause-same : goal.returns-clause-same
returns-clause-same g c = λ one so. same-answer g.T.Ord.cmp g.T.Element.code_of c.args.heap.now c.args.a c.args.b c.requires.bits c.roots_of-roots.result c.roots_of-roots.ensures c.merge.new.heap c.from_root.result _ c.bits.result c.from_root.ensures c.bits.ensures (c.in_ok-root.ensures.same (roots-one g.T.Ord.cmp g.T.Element.code_of c.args.heap.now c.args.a c.args.b c.requires.bits c.roots_of-roots.result c.roots_of-roots.ensures one) so)

pub returns-in_err-root-clause-same : goal.returns-in_err-root-clause-same
returns-in_err-root-clause-same g c = λ one so. absurd (let bad = (c.in_err-root.ensures.same (roots-one g.T.Ord.cmp g.T.Element.code_of c.args.heap.now c.args.a c.args.b c.requires.bits c.roots_of-roots.result c.roots_of-roots.ensures one) so).0 in cc)

pub returns-clause-bits : goal.returns-clause-bits
returns-clause-bits g c = bits-answer g.T.Ord.cmp g.T.Element.code_of c.args.heap.now c.args.a c.args.b c.requires.bits c.roots_of-roots.result c.roots_of-roots.ensures c.merge.new.heap c.from_root.result _ c.bits.result c.from_root.ensures c.bits.ensures

pub returns-clause-answered : goal.returns-clause-answered
returns-clause-answered g c = answered-answer g.T.Ord.cmp g.T.Element.code_of c.args.heap.now c.args.a c.args.b c.requires.bits c.roots_of-roots.result c.roots_of-roots.ensures c.merge.new.heap c.from_root.result _ c.bits.result c.from_root.ensures c.bits.ensures c.args.keeps c.in_ok-root.ensures.answered

pub returns-clause-containers : goal.returns-clause-containers
returns-clause-containers g c = containers-extended c.args.heap.now c.merge.new.heap c.in_ok-root.ensures.answered.extends

pub returns-clause-spares : goal.returns-clause-spares
returns-clause-spares g c = subst (λ n. KeepsToNeed c.args.heap.now c.merge.new.heap 0 n) (need-as g.T.Ord.cmp g.T.Element.code_of c.args.heap.now c.args.a c.args.b c.requires.bits c.roots_of-roots.result c.roots_of-roots.ensures c.args.keeps) c.in_ok-root.ensures.spares

pub returns-in_err-root-clause-containers : goal.returns-in_err-root-clause-containers
returns-in_err-root-clause-containers g c = subst (KeepsContainers c.args.heap.now) (sym c.in_err-root.ensures.refused) (containers-extended c.args.heap.now c.args.heap.now (Extends-refl c.args.heap.now))

pub returns-in_err-root-clause-ample : goal.returns-in_err-root-clause-ample
returns-in_err-root-clause-ample g c = λ spares.
    absurd (not-ok c.merge.result _ c.in_err-root.was (c.merge.ensures.ample (spares.0, omega (arith, spares.1, need-as g.T.Ord.cmp g.T.Element.code_of c.args.heap.now c.args.a c.args.b c.requires.bits c.roots_of-roots.result c.roots_of-roots.ensures c.args.keeps))))

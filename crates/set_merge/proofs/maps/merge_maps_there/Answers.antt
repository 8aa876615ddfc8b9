use Rattle.std.proofs.Common.{arith}
use Rattle.champ_kinds.proofs.StayLemmas.{containers-extended}
use Rattle.set_merge.proofs.KindLemmas.{first-trie, second-trie, roots-bits, need-as, roots-one, entries-answer, map-answer, bits-answer, answered-answer, same-there}
use Rattle.set_merge.proofs.maps.merge_maps_there.Goals as goal

pub merge_there-root-requires-clause-bits : goal.merge_there-root-requires-clause-bits
merge_there-root-requires-clause-bits g c = roots-bits g.T.Ord.cmp g.T.Element.code_of c.args.heap.now c.args.a c.args.b c.requires.bits c.roots_of-roots.result c.roots_of-roots.ensures c.requires.first.1.entries c.requires.first.1.rooted

pub merge_there-root-requires-clause-first : goal.merge_there-root-requires-clause-first
merge_there-root-requires-clause-first g c = (c.requires.first.1.entries, first-trie g.T.Ord.cmp g.T.Element.code_of c.args.heap.now c.args.a c.args.b c.requires.bits c.roots_of-roots.result c.roots_of-roots.ensures c.requires.first.1.entries c.requires.first.1.rooted)

pub merge_there-root-requires-clause-second : goal.merge_there-root-requires-clause-second
merge_there-root-requires-clause-second g c = (c.requires.second.1.entries, second-trie g.T.Ord.cmp g.T.Element.code_of c.args.heap.now c.args.a c.args.b c.requires.bits c.roots_of-roots.result c.roots_of-roots.ensures c.requires.second.1.entries c.requires.second.1.rooted)

pub returns-clause-contents : goal.returns-clause-contents
returns-clause-contents g c = λ M N one two.
    map-answer g.T.Ord.cmp g.T.Element.code_of c.args.heap.now c.args.a c.args.b c.requires.bits c.roots_of-roots.result c.roots_of-roots.ensures c.merge_there-root.new.heap c.from_root.result _ c.bits.result c.from_root.ensures c.bits.ensures c.merge_there-root.ensures.answered.extends c.args.keeps M N one two
    (c.merge_there-root.ensures.entries one.entries two.entries (first-trie g.T.Ord.cmp g.T.Element.code_of c.args.heap.now c.args.a c.args.b c.requires.bits c.roots_of-roots.result c.roots_of-roots.ensures one.entries one.rooted) (second-trie g.T.Ord.cmp g.T.Element.code_of c.args.heap.now c.args.a c.args.b c.requires.bits c.roots_of-roots.result c.roots_of-roots.ensures two.entries two.rooted))

pub returns-clause-bits : goal.returns-clause-bits
returns-clause-bits g c = bits-answer g.T.Ord.cmp g.T.Element.code_of c.args.heap.now c.args.a c.args.b c.requires.bits c.roots_of-roots.result c.roots_of-roots.ensures c.merge_there-root.new.heap c.from_root.result _ c.bits.result c.from_root.ensures c.bits.ensures

pub returns-clause-answered : goal.returns-clause-answered
returns-clause-answered g c = answered-answer g.T.Ord.cmp g.T.Element.code_of c.args.heap.now c.args.a c.args.b c.requires.bits c.roots_of-roots.result c.roots_of-roots.ensures c.merge_there-root.new.heap c.from_root.result _ c.bits.result c.from_root.ensures c.bits.ensures c.args.keeps c.merge_there-root.ensures.answered

pub returns-clause-containers : goal.returns-clause-containers
returns-clause-containers g c = containers-extended c.args.heap.now c.merge_there-root.new.heap c.merge_there-root.ensures.answered.extends

pub merge_there-root-requires-clause-ample : goal.merge_there-root-requires-clause-ample
merge_there-root-requires-clause-ample g c = (c.requires.ample.0, omega (arith, c.requires.ample.1, need-as g.T.Ord.cmp g.T.Element.code_of c.args.heap.now c.args.a c.args.b c.requires.bits c.roots_of-roots.result c.roots_of-roots.ensures c.args.keeps))

pub returns-clause-entries : goal.returns-clause-entries
returns-clause-entries g c = λ E D one two.
    entries-answer g.T.Ord.cmp g.T.Element.code_of c.args.heap.now c.args.a c.args.b c.requires.bits c.roots_of-roots.result c.roots_of-roots.ensures c.merge_there-root.new.heap c.from_root.result _ c.bits.result c.from_root.ensures c.bits.ensures c.args.keeps E D one (c.merge_there-root.ensures.entries E D (first-trie g.T.Ord.cmp g.T.Element.code_of c.args.heap.now c.args.a c.args.b c.requires.bits c.roots_of-roots.result c.roots_of-roots.ensures E one) (second-trie g.T.Ord.cmp g.T.Element.code_of c.args.heap.now c.args.a c.args.b c.requires.bits c.roots_of-roots.result c.roots_of-roots.ensures D two))

pub returns-clause-same : goal.returns-clause-same
returns-clause-same g c = λ one so. same-there g.T.Ord.cmp g.T.Element.code_of c.args.heap.now c.args.a c.args.b c.requires.bits c.roots_of-roots.result c.roots_of-roots.ensures c.merge_there-root.new.heap c.from_root.result _ c.bits.result c.from_root.ensures c.bits.ensures (c.merge_there-root.ensures.same (roots-one g.T.Ord.cmp g.T.Element.code_of c.args.heap.now c.args.a c.args.b c.requires.bits c.roots_of-roots.result c.roots_of-roots.ensures one) so)

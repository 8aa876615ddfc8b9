use Rattle.std.proofs.Common.{arith, ◌∙◌}
use Rattle.set_merge.specs.declared.keeps.TheConstants.{BOTH}
use Rattle.set_merge.proofs.KindLemmas.{first-trie, second-trie, roots-bits, need-as, apart-first, apart-second, pairs-long}
use Rattle.set_merge.proofs.maps.map_both_need.Goals as goal

pub need-requires-clause-bits : goal.need-requires-clause-bits
need-requires-clause-bits g c = roots-bits g.T.Ord.cmp g.T.Element.code_of c.args.heap.now c.args.a c.args.b c.requires.bits c.roots_of-roots.result c.roots_of-roots.ensures c.requires.first.1.entries c.requires.first.1.rooted

pub need-requires-clause-first : goal.need-requires-clause-first
need-requires-clause-first g c = (c.requires.first.1.entries, first-trie g.T.Ord.cmp g.T.Element.code_of c.args.heap.now c.args.a c.args.b c.requires.bits c.roots_of-roots.result c.roots_of-roots.ensures c.requires.first.1.entries c.requires.first.1.rooted)

pub need-requires-clause-second : goal.need-requires-clause-second
need-requires-clause-second g c = (c.requires.second.1.entries, second-trie g.T.Ord.cmp g.T.Element.code_of c.args.heap.now c.args.a c.args.b c.requires.bits c.roots_of-roots.result c.roots_of-roots.ensures c.requires.second.1.entries c.requires.second.1.rooted)

pub returns-clause-need : goal.returns-clause-need
returns-clause-need g c = c.need.ensures.rows ∙ need-as g.T.Ord.cmp g.T.Element.code_of c.args.heap.now c.args.a c.args.b c.requires.bits c.roots_of-roots.result c.roots_of-roots.ensures BOTH

pub returns-clause-apart : goal.returns-clause-apart
returns-clause-apart g c = λ rows others has back. omega (arith, c.need.ensures.apart rows others (apart-first g.T.Ord.cmp g.T.Element.code_of c.args.heap.now c.args.a c.args.b c.requires.bits c.roots_of-roots.result c.roots_of-roots.ensures rows has) (apart-second g.T.Ord.cmp g.T.Element.code_of c.args.heap.now c.args.a c.args.b c.requires.bits c.roots_of-roots.result c.roots_of-roots.ensures others back))

pub returns-clause-entries : goal.returns-clause-entries
returns-clause-entries g c = λ M N one two.
    omega (arith, c.need.ensures.entries one.entries two.entries (first-trie g.T.Ord.cmp g.T.Element.code_of c.args.heap.now c.args.a c.args.b c.requires.bits c.roots_of-roots.result c.roots_of-roots.ensures one.entries one.rooted) (second-trie g.T.Ord.cmp g.T.Element.code_of c.args.heap.now c.args.a c.args.b c.requires.bits c.roots_of-roots.result c.roots_of-roots.ensures two.entries two.rooted), pairs-long M one, pairs-long N two)

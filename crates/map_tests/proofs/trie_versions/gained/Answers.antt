use Rattle.std.proofs.Common.{arith}
use Rattle.std.proofs.lemmas.Result.{IfOk-weaker}
use Rattle.node_heap.proofs.Frames.{Extends-trans}
use Rattle.champ_chain.specs.Entry.{entry, put}
use Rattle.champ_chain.proofs.WithLemmas.{cell-key}
use Rattle.map_tests.proofs.StandLemmas.{tries-stay}
use Rattle.map_tests.proofs.trie_versions.gained.Goals as goal

pub with-requires-clause-trie : goal.with-requires-clause-trie
with-requires-clause-trie g c = tries-stay (Extends-trans {new = c.cell-entry.new.self} c.in_ok-reserve.ensures.extends c.cell-entry.ensures.extends) g.T.Ord.cmp g.T.Element.code_of c.args.bits c.args.root c.requires.good

pub returns-clause-good : goal.returns-clause-good
returns-clause-good g c =
    let key = cell-key c.cell-entry.new.self c.cell-entry.result c.args.value c.cell-entry.ensures.adds.here in
    let E = tries-stay (Extends-trans {new = c.cell-entry.new.self} c.in_ok-reserve.ensures.extends c.cell-entry.ensures.extends) g.T.Ord.cmp g.T.Element.code_of c.args.bits c.args.root c.requires.good in
    IfOk-weaker c.with.result _ _ (λ l is. (put g.T.Ord.cmp E.0 (entry c.args.value c.cell-entry.result), is)) (c.with.ensures.entries E.0 c.args.value E.1 key)

pub returns-clause-count : goal.returns-clause-count
returns-clause-count g c =
    let key = cell-key c.cell-entry.new.self c.cell-entry.result c.args.value c.cell-entry.ensures.adds.here in
    let E = tries-stay (Extends-trans {new = c.cell-entry.new.self} c.in_ok-reserve.ensures.extends c.cell-entry.ensures.extends) g.T.Ord.cmp g.T.Element.code_of c.args.bits c.args.root c.requires.good in
    IfOk-weaker c.with.result _ _ (λ l is. let total = is.count in omega (arith, total, c.cell-entry.ensures.count, c.in_ok-reserve.ensures.rest.count)) (c.with.ensures.answered E.0 c.args.value E.1 key)

pub returns-clause-others : goal.returns-clause-others
returns-clause-others g c =
    let key = cell-key c.cell-entry.new.self c.cell-entry.result c.args.value c.cell-entry.ensures.adds.here in
    let before = Extends-trans {new = c.cell-entry.new.self} c.in_ok-reserve.ensures.extends c.cell-entry.ensures.extends in
    let E = tries-stay before g.T.Ord.cmp g.T.Element.code_of c.args.bits c.args.root c.requires.good in
    IfOk-weaker c.with.result _ _ (λ l is r there. let made = is in tries-stay made.extends g.T.Ord.cmp g.T.Element.code_of c.args.bits r (tries-stay before g.T.Ord.cmp g.T.Element.code_of c.args.bits r there)) (c.with.ensures.answered E.0 c.args.value E.1 key)

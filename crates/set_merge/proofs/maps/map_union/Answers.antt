use Rattle.std.proofs.Common.{arith, subst, refl}
use Rattle.std.specs.Prelude.{IfOk}
use Rattle.champ_kinds.specs.Kinds.{HasEntries, IsMapOf}
use Rattle.set_merge.proofs.KindLemmas.{on-ok, union-is, map-union-is}
use Rattle.set_merge.proofs.maps.map_union.Goals as goal

pub returns-clause-contents : goal.returns-clause-contents
returns-clause-contents g c = λ M N one two.
    subst (λ X. IfOk c.merge_maps.result (λ made. IsMapOf g.T.Ord.cmp g.T.Element.code_of c.merge_maps.new.heap made X)) (map-union-is g.T.Ord.cmp M N) (c.merge_maps.ensures.contents M N one two)

pub returns-clause-entries : goal.returns-clause-entries
returns-clause-entries g c = λ E D one two.
    subst (λ X. IfOk c.merge_maps.result (λ made. HasEntries g.T.Ord.cmp g.T.Element.code_of c.merge_maps.new.heap made X)) (union-is g.T.Ord.cmp E D) (c.merge_maps.ensures.entries E D one two)

pub returns-clause-apart : goal.returns-clause-apart
returns-clause-apart g c = λ rows others has back. on-ok c.merge_maps.result (λ few. omega (arith, few)) (c.merge_maps.ensures.apart rows others has back)

pub returns-clause-same : goal.returns-clause-same
returns-clause-same g c = λ one. c.merge_maps.ensures.same one refl

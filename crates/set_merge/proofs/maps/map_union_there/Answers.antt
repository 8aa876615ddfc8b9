use Rattle.std.proofs.Common.{subst, refl}
use Rattle.champ_kinds.specs.Kinds.{HasEntries, IsMapOf}
use Rattle.set_merge.proofs.KindLemmas.{union-is, map-union-is}
use Rattle.set_merge.proofs.maps.map_union_there.Goals as goal

pub returns-clause-contents : goal.returns-clause-contents
returns-clause-contents g c = λ M N one two.
    subst (λ X. IsMapOf g.T.Ord.cmp g.T.Element.code_of c.merge_maps_there.new.heap c.merge_maps_there.result X) (map-union-is g.T.Ord.cmp M N) (c.merge_maps_there.ensures.contents M N one two)

pub returns-clause-entries : goal.returns-clause-entries
returns-clause-entries g c = λ E D one two.
    subst (λ X. HasEntries g.T.Ord.cmp g.T.Element.code_of c.merge_maps_there.new.heap c.merge_maps_there.result X) (union-is g.T.Ord.cmp E D) (c.merge_maps_there.ensures.entries E D one two)

pub returns-clause-same : goal.returns-clause-same
returns-clause-same g c = λ one. c.merge_maps_there.ensures.same one refl

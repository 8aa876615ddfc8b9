use Rattle.std.proofs.Common.{subst, refl}
use Rattle.champ_kinds.specs.Kinds.{IsSetOf}
use Rattle.set_merge.proofs.KindLemmas.{both-is}
use Rattle.set_merge.proofs.sets.set_both_there.Goals as goal

pub returns-clause-contents : goal.returns-clause-contents
returns-clause-contents g c = λ E D one two.
    subst (λ X. IsSetOf g.T.Ord.cmp g.T.Element.code_of c.merge_sets_there.new.heap c.merge_sets_there.result X) (both-is g.T.Ord.cmp E D) (c.merge_sets_there.ensures.contents E D one two)

pub returns-clause-same : goal.returns-clause-same
returns-clause-same g c = λ one. c.merge_sets_there.ensures.same one refl

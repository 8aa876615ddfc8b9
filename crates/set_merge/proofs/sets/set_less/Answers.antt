use Rattle.std.proofs.Common.{arith, subst}
use Rattle.std.specs.Prelude.{IfOk}
use Rattle.champ_kinds.specs.Kinds.{IsSetOf}
use Rattle.set_merge.proofs.KindLemmas.{on-ok, less-is}
use Rattle.set_merge.proofs.sets.set_less.Goals as goal

pub returns-clause-contents : goal.returns-clause-contents
returns-clause-contents g c = λ E D one two.
    subst (λ X. IfOk c.merge_sets.result (λ made. IsSetOf g.T.Ord.cmp g.T.Element.code_of c.merge_sets.new.heap made X)) (less-is g.T.Ord.cmp E D) (c.merge_sets.ensures.contents E D one two)

pub returns-clause-apart : goal.returns-clause-apart
returns-clause-apart g c = λ rows others has back. on-ok c.merge_sets.result (λ few. omega (arith, few)) (c.merge_sets.ensures.apart rows others has back)

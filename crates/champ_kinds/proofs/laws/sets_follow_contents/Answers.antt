use Rattle.champ_kinds.proofs.LawLemmas.{root-one_set, set-any_order, equal-sets, one-set, similar-sets}
use Rattle.champ_kinds.proofs.laws.sets_follow_contents.Goals as goal

pub returns-clause-one : goal.returns-clause-one
returns-clause-one g c = root-one_set g.T.Ord.cmp g.T.Element.code_of g.met.T.Ord.total g.met.T.Element.equal_codes

pub returns-clause-order : goal.returns-clause-order
returns-clause-order g c = set-any_order g.T.Ord.cmp g.T.Element.code_of g.met.T.Ord.total g.met.T.Element.equal_codes

pub returns-clause-equal : goal.returns-clause-equal
returns-clause-equal g c = equal-sets g.T.Ord.cmp g.T.Element.code_of g.met.T.Ord.total g.met.T.Element.equal_codes

pub returns-clause-only : goal.returns-clause-only
returns-clause-only g c = one-set g.T.Ord.cmp g.T.Element.code_of g.met.T.Ord.total g.met.T.Element.equal_codes

pub returns-clause-similar : goal.returns-clause-similar
returns-clause-similar g c = similar-sets g.T.Ord.cmp g.T.Element.code_of g.met.T.Ord.total g.met.T.Element.equal_codes

use Rattle.edit_trie.proofs.LawLemmas.{edits-keep-values, cuts-keep-values, cuts-keep-held, pair-changes-bind, pair-changes-keep-values}
use Rattle.edit_trie.proofs.laws.edits_keep_values.Goals as goal

pub returns-clause-edits : goal.returns-clause-edits
returns-clause-edits g c = edits-keep-values g.T.Ord.cmp g.T.Element.code_of

pub returns-clause-cuts : goal.returns-clause-cuts
returns-clause-cuts g c = cuts-keep-values g.T.Ord.cmp g.T.Element.code_of

pub returns-clause-cuts_held : goal.returns-clause-cuts_held
returns-clause-cuts_held g c = cuts-keep-held g.T.Ord.cmp g.T.Element.code_of

pub returns-clause-pairs : goal.returns-clause-pairs
returns-clause-pairs g c = pair-changes-bind g.T.Ord.cmp g.T.Element.code_of g.met.T.Ord.total

pub returns-clause-pair_values : goal.returns-clause-pair_values
returns-clause-pair_values g c = pair-changes-keep-values g.T.Ord.cmp g.T.Element.code_of g.met.T.Ord.total

use Rattle.std.proofs.Common.{◌∙◌}
use Rattle.champ_chain.proofs.SetLemmas.{same-length}
use Rattle.champ_chain.proofs.length.Goals as goal

pub rows_from-requires : goal.rows_from-requires
rows_from-requires g c = (c.requires.1.entries, c.requires.1.rows)

pub returns-clause-number : goal.returns-clause-number
returns-clause-number g c = λ E chain. c.rows_from.ensures.number chain.entries chain.rows ∙ same-length chain.entries E chain.same

use Rattle.ewig_shell.proofs.StandsLemmas.{documents-stand}
use Rattle.ewig_shell.proofs.laws.documents_stand.Goals as goal

pub returns : goal.returns
returns c = documents-stand c.pools_are_carried.ensures c.carried_is_one.ensures c.carried_is_valid.ensures

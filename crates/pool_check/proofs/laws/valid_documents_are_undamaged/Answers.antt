use Rattle.pool_check.proofs.DocumentLaw.{valid-document}
use Rattle.pool_check.proofs.laws.valid_documents_are_undamaged.Goals as goal

pub returns : goal.returns
returns c P bytes read within four valid = valid-document P bytes read within four valid

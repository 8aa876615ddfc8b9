use Rattle.pool_check.proofs.DocumentLaw.{undamaged-stands}
use Rattle.pool_check.proofs.laws.undamaged_documents_stand.Goals as goal

pub returns : goal.returns
returns c bits bytes whole = undamaged-stands bits bytes whole

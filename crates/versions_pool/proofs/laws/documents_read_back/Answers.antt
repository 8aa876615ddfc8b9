use Rattle.versions_pool.proofs.SavedBack.{documents-back}
use Rattle.versions_pool.proofs.laws.documents_read_back.Goals as goal

pub returns : goal.returns
returns c = documents-back

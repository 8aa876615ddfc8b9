use Rattle.pool_text.proofs.DocumentBack.{document-back}
use Rattle.pool_text.proofs.laws.documents_are_exact.Goals as goal

pub returns : goal.returns
returns c bits d P whole is now = document-back d P is now

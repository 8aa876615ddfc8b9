use Rattle.ewig_shell.proofs.StandsLemmas.{old-documents-kept}
use Rattle.ewig_shell.proofs.laws.old_documents_are_kept.Goals as goal

pub returns : goal.returns
returns c = old-documents-kept c.carried_is_kept.ensures

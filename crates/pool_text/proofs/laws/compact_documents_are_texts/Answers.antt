use Rattle.pool_text.proofs.DocumentBack.{compact-stays}
use Rattle.pool_text.proofs.laws.compact_documents_are_texts.Goals as goal

pub returns : goal.returns
returns c bits bytes P whole is now compact = compact-stays bytes P is now compact

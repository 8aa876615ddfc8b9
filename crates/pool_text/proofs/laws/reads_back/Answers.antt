use Rattle.pool_text.proofs.ReadBack.{reads-back}
use Rattle.pool_text.proofs.laws.reads_back.Goals as goal

pub returns : goal.returns
returns c P within four range = reads-back P within four range

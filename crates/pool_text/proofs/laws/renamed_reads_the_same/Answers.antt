use Rattle.pool_text.proofs.Renamed.{reads-the-same}
use Rattle.pool_text.proofs.laws.renamed_reads_the_same.Goals as goal

pub returns : goal.returns
returns g c f G H l image = reads-the-same f G H l image

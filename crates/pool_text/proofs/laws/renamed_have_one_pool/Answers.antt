use Rattle.pool_text.proofs.OnePool.{one-pool}
use Rattle.pool_text.proofs.laws.renamed_have_one_pool.Goals as goal

pub returns : goal.returns
returns c n m f b G H roots settings rooted rooted' image back = one-pool n m f b G H roots rooted rooted' image back settings

use Rattle.pool_text.proofs.PoolRows.{pool-length, pool-renamed, pool-back, place-back}
use Rattle.pool_text.proofs.Ordered.{pool-roots, pool-ordered}
use Rattle.pool_text.proofs.laws.pools_are_renamed.Goals as goal

pub returns : goal.returns
returns c n G roots settings rooted = record {
  many = pool-length n G roots rooted settings;
  tops = pool-roots n G roots rooted settings;
  renamed = pool-renamed n G roots rooted settings;
  back = pool-back n G roots rooted settings;
  same = place-back n G roots rooted;
  in_order = pool-ordered n G roots rooted settings;
}

use Rattle.pool_load.proofs.Released.{next-held, one-released}
use Rattle.pool_load.proofs.loading.release_all.Goals as goal

pub release-requires : goal.release-requires
release-requires g c = next-held c.args.links.now c.loop-link.link-index c.link-item.result c.loop-link.invariant c.loop-link-test.true c.link-item.is c.requires.held

pub loop-link-preserved : goal.loop-link-preserved
loop-link-preserved g c =
    one-released c.args.links.now c.loop-link.link-index c.link-item.result c.loop-link.invariant c.loop-link-test.true c.link-item.is c.release.ensures.releases c.release.ensures.graph c.requires.reached

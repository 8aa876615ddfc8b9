use Rattle.versions.specs.Bound.{map_at}
use Rattle.versions.proofs.MadeLemmas.{held-at, at-held}
use Rattle.versions.proofs.maps.Maps.holds.Goals as goal

pub returns : goal.returns
returns g c =
    let heap = c.self.inside.heap in
    let roots = c.self.inside.roots.slots in (
      λ kept. at-held (map_at g.K.Ord.cmp) heap roots c.args.version c.args.self.now c.self.view_is (c.is_kept.ensures.0 kept),
      λ held. c.is_kept.ensures.1 (held-at (map_at g.K.Ord.cmp) heap roots c.args.version c.args.self.now c.self.view_is held),
    )

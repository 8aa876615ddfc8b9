use Rattle.versions.specs.Keyed.{keys_at}
use Rattle.versions.proofs.MadeLemmas.{held-at, at-held}
use Rattle.versions.proofs.sets.Sets.holds.Goals as goal

pub returns : goal.returns
returns g c =
    let heap = c.self.inside.heap in
    let roots = c.self.inside.roots.slots in (
      λ kept. at-held (keys_at g.K.Ord.cmp) heap roots c.args.version c.args.self.now c.self.view_is (c.is_kept.ensures.0 kept),
      λ held. c.is_kept.ensures.1 (held-at (keys_at g.K.Ord.cmp) heap roots c.args.version c.args.self.now c.self.view_is held),
    )

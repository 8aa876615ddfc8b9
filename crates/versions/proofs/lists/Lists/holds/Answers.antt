use Rattle.versions.specs.Rooted.{list_at}
use Rattle.versions.proofs.MadeLemmas.{held-at, at-held}
use Rattle.versions.proofs.lists.Lists.holds.Goals as goal

pub returns : goal.returns
returns g c =
    let heap = c.self.inside.heap in
    let roots = c.self.inside.roots.slots in (
      λ yes. at-held list_at heap roots c.args.version c.args.self.now c.self.view_is (c.is_kept.ensures.0 yes),
      λ held. c.is_kept.ensures.1 (held-at list_at heap roots c.args.version c.args.self.now c.self.view_is held),
    )

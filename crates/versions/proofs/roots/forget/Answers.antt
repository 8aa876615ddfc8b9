use Rattle.std.proofs.Common.{sym, subst, arith}
use Rattle.std.specs.Prelude.{IsSome}
use Rattle.versions.specs.Roots.{root_of, ForgetsRoot}
use Rattle.versions.proofs.RootLemmas.{sum-has}
use Rattle.versions.proofs.roots.forget.Goals as goal

pub remove-root-requires : goal.remove-root-requires
remove-root-requires g c = subst (λ v. IsSome (root_of c.args.roots.now.slots v)) (sym c.version.view_is) c.requires.held

pub release-requires : goal.release-requires
release-requires g c = omega (arith, c.requires.holds.holds c.remove-root.result, sum-has c.remove-root.result c.version.inside.number c.args.roots.now.slots c.remove-root.ensures.value)

pub returns : goal.returns
returns g c =
    let took = c.remove-root.ensures in
    subst (ForgetsRoot c.args.heap.now c.release.new.self c.args.roots.now.slots c.remove-root.new.self.slots) c.version.view_is (record {
      root = c.remove-root.result;
      was = took.value;
      drops = record { free = took.updates.changed; others = took.updates.others; count = took.len };
      releases = c.release.ensures.releases;
      keeps = c.release.ensures.keeps;
    })

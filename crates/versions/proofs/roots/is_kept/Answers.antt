use Rattle.std.proofs.Common.{sym, subst}
use Rattle.std.specs.Prelude.{IsSome}
use Rattle.versions.specs.Roots.{root_of}
use Rattle.versions.proofs.roots.is_kept.Goals as goal

pub returns : goal.returns
returns c = (
  λ yes. subst (λ v. IsSome (root_of c.args.roots.now.slots v)) c.version.view_is (c.contains.ensures.0 yes),
  λ held. c.contains.ensures.1 (subst (λ v. IsSome (root_of c.args.roots.now.slots v)) (sym c.version.view_is) held),
)

use Rattle.std.proofs.Common.{sym, subst, ap, ◌∙◌}
use Rattle.std.specs.Prelude.{IsSome, option_copied}
use Rattle.versions.specs.Roots.{root_of}
use Rattle.versions.proofs.roots.root_of.Goals as goal

pub unreachable-requires : goal.unreachable-requires
unreachable-requires c =
    let roots = c.args.roots.now.slots in
    let none = ap (root_of roots) (sym c.version.view_is) ∙ sym c.get.ensures ∙ ap option_copied c.in-None.is in
    let gone = subst IsSome none c.requires in
    cc

pub returns : goal.returns
returns c = ap (root_of c.args.roots.now.slots) (sym c.version.view_is) ∙ sym c.get.ensures ∙ ap option_copied c.in-Some.is

use Rattle.std.proofs.Common.{◌<◌, length, sym, subst, arith}
use Rattle.champ_kinds.specs.Root.{Root}
use Rattle.champ_kinds.specs.Stands.{IsSomeSet}
use Rattle.map_tests.proofs.set_versions.set_at.Goals as goal

pub returns-clause-good : goal.returns-clause-good
returns-clause-good g c =
    let inside : c.args.turn < length c.args.sets.now.items = omega arith in
    subst (λ (r : Root). IsSomeSet g.T.Ord.cmp g.T.Element.code_of c.args.heap.now r) (sym c.index.ensures) (c.requires.are c.args.turn c.index.result.now inside)

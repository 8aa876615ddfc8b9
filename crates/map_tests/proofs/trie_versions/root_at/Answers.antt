use Rattle.std.proofs.Common.{◌<◌, ℕ, length, sym, subst, arith}
use Rattle.map_tests.specs.Stands.{IsSomeTrie}
use Rattle.map_tests.proofs.trie_versions.root_at.Goals as goal

pub returns-clause-good : goal.returns-clause-good
returns-clause-good g c =
    let inside : c.args.turn < length c.args.roots.now.items = omega arith in
    subst (λ (l : ℕ). IsSomeTrie g.T.Ord.cmp g.T.Element.code_of c.args.bits c.args.heap.now l) (sym c.index.ensures) (c.requires.are c.args.turn c.index.result.now inside)

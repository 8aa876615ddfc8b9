use Rattle.versions.specs.Sorted.{keys_of}
use Rattle.versions.specs.Keyed.{keys_at}
use Rattle.versions.proofs.KeyedLemmas.{set-kind}
use Rattle.versions.proofs.MadeLemmas.{held-at}
use Rattle.versions.proofs.StoreLemmas.{root-value}
use Rattle.versions.proofs.sets.Sets.same.Goals as goal

pub root_of-left-requires : goal.root_of-left-requires
root_of-left-requires g c = held-at (keys_at g.K.Ord.cmp) c.self.inside.heap c.self.inside.roots.slots c.args.left c.args.self.now c.self.view_is c.requires.left

pub same_sets-requires-clause-left : goal.same_sets-requires-clause-left
same_sets-requires-clause-left g c = (keys_of c.args.self.now c.args.left, root-value (set-kind g.K.Ord.cmp g.met.K.Ord.total g.K.Element.code_of) c.self.invariant c.self.view_is c.args.left c.root_of-left.result c.root_of-left.ensures)

pub root_of-right-requires : goal.root_of-right-requires
root_of-right-requires g c = held-at (keys_at g.K.Ord.cmp) c.self.inside.heap c.self.inside.roots.slots c.args.right c.args.self.now c.self.view_is c.requires.right

pub same_sets-requires-clause-right : goal.same_sets-requires-clause-right
same_sets-requires-clause-right g c = (keys_of c.args.self.now c.args.right, root-value (set-kind g.K.Ord.cmp g.met.K.Ord.total g.K.Element.code_of) c.self.invariant c.self.view_is c.args.right c.root_of-right.result c.root_of-right.ensures)

pub returns : goal.returns
returns g c =
    let value = root-value (set-kind g.K.Ord.cmp g.met.K.Ord.total g.K.Element.code_of) c.self.invariant c.self.view_is in
    c.same_sets.ensures _ _ (value c.args.left c.root_of-left.result c.root_of-left.ensures) (value c.args.right c.root_of-right.result c.root_of-right.ensures)

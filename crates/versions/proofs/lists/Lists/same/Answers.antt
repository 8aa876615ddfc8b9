use Rattle.std.proofs.Common.{sym, subst}
use Rattle.same_value.specs.Cells.{IsLines, IsSameLines}
use Rattle.versions.specs.Store.{list_of}
use Rattle.versions.specs.Rooted.{list_at}
use Rattle.versions.proofs.SameLemmas.{list-lines, lines-lists, lists-lines}
use Rattle.versions.proofs.ListLemmas.{seen-list}
use Rattle.versions.proofs.MadeLemmas.{held-at}
use Rattle.versions.proofs.lists.Lists.same.Goals as goal

pub root_of-left-requires : goal.root_of-left-requires
root_of-left-requires g c = held-at list_at c.self.inside.heap c.self.inside.roots.slots c.args.left c.args.self.now c.self.view_is c.requires.left

pub root_of-right-requires : goal.root_of-right-requires
root_of-right-requires g c = held-at list_at c.self.inside.heap c.self.inside.roots.slots c.args.right c.args.self.now c.self.view_is c.requires.right

pub equal_vec-requires-clause-first : goal.equal_vec-requires-clause-first
equal_vec-requires-clause-first g c =
    let xs = seen-list c.self.inside.heap c.self.inside.roots.slots c.args.left c.root_of-left.result c.self.invariant c.self.view_is c.root_of-left.ensures in
    subst (IsLines c.self.inside.heap) (sym c.at.ensures) (list-lines c.self.inside.heap c.root_of-left.result (list_of c.args.self.now c.args.left) xs)

pub equal_vec-requires-clause-second : goal.equal_vec-requires-clause-second
equal_vec-requires-clause-second g c =
    let ys = seen-list c.self.inside.heap c.self.inside.roots.slots c.args.right c.root_of-right.result c.self.invariant c.self.view_is c.root_of-right.ensures in
    subst (IsLines c.self.inside.heap) (sym c.at-2.ensures) (list-lines c.self.inside.heap c.root_of-right.result (list_of c.args.self.now c.args.right) ys)

pub returns : goal.returns
returns g c =
    let xs = seen-list c.self.inside.heap c.self.inside.roots.slots c.args.left c.root_of-left.result c.self.invariant c.self.view_is c.root_of-left.ensures in
    let ys = seen-list c.self.inside.heap c.self.inside.roots.slots c.args.right c.root_of-right.result c.self.invariant c.self.view_is c.root_of-right.ensures in
    let cmp = g.T.Ord.cmp in
    let l = c.root_of-left.result in
    let r = c.root_of-right.result in (
      λ yes. lines-lists cmp c.self.inside.heap l r (list_of c.args.self.now c.args.left) (list_of c.args.self.now c.args.right) xs ys (subst (λ v. IsSameLines cmp c.self.inside.heap v r) c.at.ensures (subst (IsSameLines cmp c.self.inside.heap c.at.result) c.at-2.ensures (c.equal_vec.ensures.equal.0 yes))),
      λ alike. c.equal_vec.ensures.equal.1 (subst (λ v. IsSameLines cmp c.self.inside.heap v c.at-2.result) (sym c.at.ensures) (subst (IsSameLines cmp c.self.inside.heap l) (sym c.at-2.ensures) (lists-lines cmp c.self.inside.heap l r (list_of c.args.self.now c.args.left) (list_of c.args.self.now c.args.right) xs ys alike))),
    )

use Rattle.std.proofs.Common.{◌+◌, ◌<◌, ◌^◌, length, refl, arith}
use Rattle.versions.specs.declared.faults.Fault.TheVariants.{Long, Range, Memory}
use Rattle.versions.specs.Store.{list_of}
use Rattle.versions.specs.Rooted.{IsListOf, list_at}
use Rattle.versions.proofs.ListLemmas.{list-length, list-kind, seen-list, lists-stay}
use Rattle.versions.proofs.CallLemmas.{on-err, err-is, inside-by}
use Rattle.versions.proofs.MadeLemmas.{held-at, still-seen, adds-version, roots-stay}
use Rattle.versions.proofs.lists.Lists.concat.Goals as goal

pub root_of-left-requires : goal.root_of-left-requires
root_of-left-requires g c = held-at list_at c.self.inside.heap c.self.inside.roots.slots c.args.left c.args.self.now c.self.view_is c.requires.left

pub root_of-right-requires : goal.root_of-right-requires
root_of-right-requires g c = held-at list_at c.self.inside.heap c.self.inside.roots.slots c.args.right c.args.self.now c.self.view_is c.requires.right

pub is_long-requires-clause-left : goal.is_long-requires-clause-left
is_long-requires-clause-left g c =
    let xs = seen-list c.self.inside.heap c.self.inside.roots.slots c.args.left c.root_of-left.result c.self.invariant c.self.view_is c.root_of-left.ensures in
    xs.good

pub is_long-requires-clause-right : goal.is_long-requires-clause-right
is_long-requires-clause-right g c =
    let ys = seen-list c.self.inside.heap c.self.inside.roots.slots c.args.right c.root_of-right.result c.self.invariant c.self.view_is c.root_of-right.ensures in
    ys.good

pub returns-then-is_long-clause-long : goal.returns-then-is_long-clause-long
returns-then-is_long-clause-long g c =
    let xs = seen-list c.self.inside.heap c.self.inside.roots.slots c.args.left c.root_of-left.result c.self.invariant c.self.view_is c.root_of-left.ensures in
    let ys = seen-list c.self.inside.heap c.self.inside.roots.slots c.args.right c.root_of-right.result c.self.invariant c.self.view_is c.root_of-right.ensures in
    let test = c.is_long.ensures (list_of c.args.self.now c.args.left) (list_of c.args.self.now c.args.right) xs ys in
    (λ _. test.0 c.if-is_long.true, λ _. refl)

pub returns-in_err-reserve-clause-long : goal.returns-in_err-reserve-clause-long
returns-in_err-reserve-clause-long g c =
    let xs = seen-list c.self.inside.heap c.self.inside.roots.slots c.args.left c.root_of-left.result c.self.invariant c.self.view_is c.root_of-left.ensures in
    let ys = seen-list c.self.inside.heap c.self.inside.roots.slots c.args.right c.root_of-right.result c.self.invariant c.self.view_is c.root_of-right.ensures in
    let test = c.is_long.ensures (list_of c.args.self.now c.args.left) (list_of c.args.self.now c.args.right) xs ys in
    let short : length (list_of c.args.self.now c.args.left) + length (list_of c.args.self.now c.args.right) < 2 ^ 32 = inside-by (2 ^ 32) (length (list_of c.args.self.now c.args.left) + length (list_of c.args.self.now c.args.right)) c.is_long.result test.1 c.if-is_long.false in
    (λ e. absurd (let bad = err-is c.from_residual.result Memory Long c.from_residual.ensures.1 e in cc), λ long. absurd (omega (arith, long, short)))

pub returns-in_err-reserve-clause-no_range : goal.returns-in_err-reserve-clause-no_range
returns-in_err-reserve-clause-no_range g c = λ e. let bad = err-is c.from_residual.result Memory Range c.from_residual.ensures.1 e in cc

pub returns-in_err-reserve-clause-refused : goal.returns-in_err-reserve-clause-refused
returns-in_err-reserve-clause-refused g c = on-err c.from_residual.result _ (still-seen IsListOf list_at list-kind c.self.invariant c.self.view_is c.reserve.ensures.keeps)

pub joined-root-requires-clause-left : goal.joined-root-requires-clause-left
joined-root-requires-clause-left g c =
    let xs = seen-list c.self.inside.heap c.self.inside.roots.slots c.args.left c.root_of-left.result c.self.invariant c.self.view_is c.root_of-left.ensures in
    let kept_left = lists-stay c.self.inside.heap c.reserve.new.heap c.reserve.ensures.keeps.extends c.root_of-left.result (list_of c.args.self.now c.args.left) xs in
    kept_left.good

pub joined-root-requires-clause-right : goal.joined-root-requires-clause-right
joined-root-requires-clause-right g c =
    let ys = seen-list c.self.inside.heap c.self.inside.roots.slots c.args.right c.root_of-right.result c.self.invariant c.self.view_is c.root_of-right.ensures in
    let kept_right = lists-stay c.self.inside.heap c.reserve.new.heap c.reserve.ensures.keeps.extends c.root_of-right.result (list_of c.args.self.now c.args.right) ys in
    kept_right.good

pub joined-root-requires-clause-short : goal.joined-root-requires-clause-short
joined-root-requires-clause-short g c =
    let xs = seen-list c.self.inside.heap c.self.inside.roots.slots c.args.left c.root_of-left.result c.self.invariant c.self.view_is c.root_of-left.ensures in
    let ys = seen-list c.self.inside.heap c.self.inside.roots.slots c.args.right c.root_of-right.result c.self.invariant c.self.view_is c.root_of-right.ensures in
    let kept_left = lists-stay c.self.inside.heap c.reserve.new.heap c.reserve.ensures.keeps.extends c.root_of-left.result (list_of c.args.self.now c.args.left) xs in
    let kept_right = lists-stay c.self.inside.heap c.reserve.new.heap c.reserve.ensures.keeps.extends c.root_of-right.result (list_of c.args.self.now c.args.right) ys in
    let test = c.is_long.ensures (list_of c.args.self.now c.args.left) (list_of c.args.self.now c.args.right) xs ys in
    let short : length (list_of c.args.self.now c.args.left) + length (list_of c.args.self.now c.args.right) < 2 ^ 32 = inside-by (2 ^ 32) (length (list_of c.args.self.now c.args.left) + length (list_of c.args.self.now c.args.right)) c.is_long.result test.1 c.if-is_long.false in
    omega (arith, short, list-length c.reserve.new.heap c.root_of-left.result (list_of c.args.self.now c.args.left) kept_left, list-length c.reserve.new.heap c.root_of-right.result (list_of c.args.self.now c.args.right) kept_right)

pub invariant_of-self-2 : goal.invariant_of-self-2
invariant_of-self-2 g c =
    let xs = seen-list c.self.inside.heap c.self.inside.roots.slots c.args.left c.root_of-left.result c.self.invariant c.self.view_is c.root_of-left.ensures in
    let ys = seen-list c.self.inside.heap c.self.inside.roots.slots c.args.right c.root_of-right.result c.self.invariant c.self.view_is c.root_of-right.ensures in
    let kept_left = lists-stay c.self.inside.heap c.reserve.new.heap c.reserve.ensures.keeps.extends c.root_of-left.result (list_of c.args.self.now c.args.left) xs in
    let kept_right = lists-stay c.self.inside.heap c.reserve.new.heap c.reserve.ensures.keeps.extends c.root_of-right.result (list_of c.args.self.now c.args.right) ys in
    let added = adds-version IsListOf list_at list-kind c.self.invariant c.self.view_is c.reserve.ensures.keeps (c.joined-root.ensures.makes (list_of c.args.self.now c.args.left) (list_of c.args.self.now c.args.right) kept_left kept_right) c.keep.ensures in
    added.stands

pub returns-clause-fresh : goal.returns-clause-fresh
returns-clause-fresh g c =
    let xs = seen-list c.self.inside.heap c.self.inside.roots.slots c.args.left c.root_of-left.result c.self.invariant c.self.view_is c.root_of-left.ensures in
    let ys = seen-list c.self.inside.heap c.self.inside.roots.slots c.args.right c.root_of-right.result c.self.invariant c.self.view_is c.root_of-right.ensures in
    let kept_left = lists-stay c.self.inside.heap c.reserve.new.heap c.reserve.ensures.keeps.extends c.root_of-left.result (list_of c.args.self.now c.args.left) xs in
    let kept_right = lists-stay c.self.inside.heap c.reserve.new.heap c.reserve.ensures.keeps.extends c.root_of-right.result (list_of c.args.self.now c.args.right) ys in
    let added = adds-version IsListOf list_at list-kind c.self.invariant c.self.view_is c.reserve.ensures.keeps (c.joined-root.ensures.makes (list_of c.args.self.now c.args.left) (list_of c.args.self.now c.args.right) kept_left kept_right) c.keep.ensures in
    added.fresh

pub returns-clause-made : goal.returns-clause-made
returns-clause-made g c =
    let xs = seen-list c.self.inside.heap c.self.inside.roots.slots c.args.left c.root_of-left.result c.self.invariant c.self.view_is c.root_of-left.ensures in
    let ys = seen-list c.self.inside.heap c.self.inside.roots.slots c.args.right c.root_of-right.result c.self.invariant c.self.view_is c.root_of-right.ensures in
    let kept_left = lists-stay c.self.inside.heap c.reserve.new.heap c.reserve.ensures.keeps.extends c.root_of-left.result (list_of c.args.self.now c.args.left) xs in
    let kept_right = lists-stay c.self.inside.heap c.reserve.new.heap c.reserve.ensures.keeps.extends c.root_of-right.result (list_of c.args.self.now c.args.right) ys in
    let added = adds-version IsListOf list_at list-kind c.self.invariant c.self.view_is c.reserve.ensures.keeps (c.joined-root.ensures.makes (list_of c.args.self.now c.args.left) (list_of c.args.self.now c.args.right) kept_left kept_right) c.keep.ensures in
    added.made

pub returns-clause-long : goal.returns-clause-long
returns-clause-long g c =
    let xs = seen-list c.self.inside.heap c.self.inside.roots.slots c.args.left c.root_of-left.result c.self.invariant c.self.view_is c.root_of-left.ensures in
    let ys = seen-list c.self.inside.heap c.self.inside.roots.slots c.args.right c.root_of-right.result c.self.invariant c.self.view_is c.root_of-right.ensures in
    let test = c.is_long.ensures (list_of c.args.self.now c.args.left) (list_of c.args.self.now c.args.right) xs ys in
    let short : length (list_of c.args.self.now c.args.left) + length (list_of c.args.self.now c.args.right) < 2 ^ 32 = inside-by (2 ^ 32) (length (list_of c.args.self.now c.args.left) + length (list_of c.args.self.now c.args.right)) c.is_long.result test.1 c.if-is_long.false in
    (λ e. absurd (let bad = e in cc), λ long. absurd (omega (arith, long, short)))

pub invariant_of-self : goal.invariant_of-self
invariant_of-self g c = roots-stay IsListOf list_at list-kind c.self.inside.heap c.reserve.new.heap c.self.inside.roots.slots c.reserve.new.roots.slots c.self.invariant c.reserve.ensures.keeps

use Rattle.std.proofs.Common.{refl, arith}
use Rattle.versions.specs.declared.faults.Fault.TheVariants.{Long, Range, Memory}
use Rattle.versions.specs.Store.{list_of}
use Rattle.versions.specs.Rooted.{IsListOf, list_at}
use Rattle.versions.proofs.ListLemmas.{list-length, list-kind, seen-list, lists-stay}
use Rattle.versions.proofs.CallLemmas.{on-err, err-is}
use Rattle.versions.proofs.MadeLemmas.{held-at, still-seen, adds-version, roots-stay}
use Rattle.versions.proofs.lists.Lists.slice.Goals as goal

pub root_of-root-requires : goal.root_of-root-requires
root_of-root-requires g c = held-at list_at c.self.inside.heap c.self.inside.roots.slots c.args.version c.args.self.now c.self.view_is c.requires

pub is_part-requires : goal.is_part-requires
is_part-requires g c =
    let list = seen-list c.self.inside.heap c.self.inside.roots.slots c.args.version c.root_of-root.result c.self.invariant c.self.view_is c.root_of-root.ensures in
    list.good

pub returns-then-not-is_part-clause-range : goal.returns-then-not-is_part-clause-range
returns-then-not-is_part-clause-range g c =
    let list = seen-list c.self.inside.heap c.self.inside.roots.slots c.args.version c.root_of-root.result c.self.invariant c.self.view_is c.root_of-root.ensures in
    let test = c.is_part.ensures (list_of c.args.self.now c.args.version) list in
    (λ _. λ inside. let yes = test.1 inside in let ends = c.if-not-is_part.true in cc, λ _. refl)

pub returns-in_err-reserve-clause-range : goal.returns-in_err-reserve-clause-range
returns-in_err-reserve-clause-range g c =
    let list = seen-list c.self.inside.heap c.self.inside.roots.slots c.args.version c.root_of-root.result c.self.invariant c.self.view_is c.root_of-root.ensures in
    let test = c.is_part.ensures (list_of c.args.self.now c.args.version) list in
    let part = test.0 c.if-not-is_part.false in
    (λ e. absurd (let bad = err-is c.from_residual.result Memory Range c.from_residual.ensures.1 e in cc), λ off. absurd (off part))

pub returns-in_err-reserve-clause-no_long : goal.returns-in_err-reserve-clause-no_long
returns-in_err-reserve-clause-no_long g c = λ e. let bad = err-is c.from_residual.result Memory Long c.from_residual.ensures.1 e in cc

pub returns-in_err-reserve-clause-refused : goal.returns-in_err-reserve-clause-refused
returns-in_err-reserve-clause-refused g c = on-err c.from_residual.result _ (still-seen IsListOf list_at list-kind c.self.invariant c.self.view_is c.reserve.ensures.keeps)

pub sliced-root-requires-clause-good : goal.sliced-root-requires-clause-good
sliced-root-requires-clause-good g c =
    let list = seen-list c.self.inside.heap c.self.inside.roots.slots c.args.version c.root_of-root.result c.self.invariant c.self.view_is c.root_of-root.ensures in
    let kept = lists-stay c.self.inside.heap c.reserve.new.heap c.reserve.ensures.keeps.extends c.root_of-root.result (list_of c.args.self.now c.args.version) list in
    kept.good

pub sliced-root-requires-clause-order : goal.sliced-root-requires-clause-order
sliced-root-requires-clause-order g c =
    let list = seen-list c.self.inside.heap c.self.inside.roots.slots c.args.version c.root_of-root.result c.self.invariant c.self.view_is c.root_of-root.ensures in
    let test = c.is_part.ensures (list_of c.args.self.now c.args.version) list in
    let part = test.0 c.if-not-is_part.false in
    part.0

pub sliced-root-requires-clause-inside : goal.sliced-root-requires-clause-inside
sliced-root-requires-clause-inside g c =
    let list = seen-list c.self.inside.heap c.self.inside.roots.slots c.args.version c.root_of-root.result c.self.invariant c.self.view_is c.root_of-root.ensures in
    let kept = lists-stay c.self.inside.heap c.reserve.new.heap c.reserve.ensures.keeps.extends c.root_of-root.result (list_of c.args.self.now c.args.version) list in
    let test = c.is_part.ensures (list_of c.args.self.now c.args.version) list in
    let part = test.0 c.if-not-is_part.false in
    omega (arith, part.1, list-length c.reserve.new.heap c.root_of-root.result (list_of c.args.self.now c.args.version) kept)

pub invariant_of-self-2 : goal.invariant_of-self-2
invariant_of-self-2 g c =
    let list = seen-list c.self.inside.heap c.self.inside.roots.slots c.args.version c.root_of-root.result c.self.invariant c.self.view_is c.root_of-root.ensures in
    let kept = lists-stay c.self.inside.heap c.reserve.new.heap c.reserve.ensures.keeps.extends c.root_of-root.result (list_of c.args.self.now c.args.version) list in
    let added = adds-version IsListOf list_at list-kind c.self.invariant c.self.view_is c.reserve.ensures.keeps (c.sliced-root.ensures.makes (list_of c.args.self.now c.args.version) kept) c.keep.ensures in
    added.stands

pub returns-clause-fresh : goal.returns-clause-fresh
returns-clause-fresh g c =
    let list = seen-list c.self.inside.heap c.self.inside.roots.slots c.args.version c.root_of-root.result c.self.invariant c.self.view_is c.root_of-root.ensures in
    let kept = lists-stay c.self.inside.heap c.reserve.new.heap c.reserve.ensures.keeps.extends c.root_of-root.result (list_of c.args.self.now c.args.version) list in
    let added = adds-version IsListOf list_at list-kind c.self.invariant c.self.view_is c.reserve.ensures.keeps (c.sliced-root.ensures.makes (list_of c.args.self.now c.args.version) kept) c.keep.ensures in
    added.fresh

pub returns-clause-made : goal.returns-clause-made
returns-clause-made g c =
    let list = seen-list c.self.inside.heap c.self.inside.roots.slots c.args.version c.root_of-root.result c.self.invariant c.self.view_is c.root_of-root.ensures in
    let kept = lists-stay c.self.inside.heap c.reserve.new.heap c.reserve.ensures.keeps.extends c.root_of-root.result (list_of c.args.self.now c.args.version) list in
    let added = adds-version IsListOf list_at list-kind c.self.invariant c.self.view_is c.reserve.ensures.keeps (c.sliced-root.ensures.makes (list_of c.args.self.now c.args.version) kept) c.keep.ensures in
    added.made

pub returns-clause-range : goal.returns-clause-range
returns-clause-range g c =
    let list = seen-list c.self.inside.heap c.self.inside.roots.slots c.args.version c.root_of-root.result c.self.invariant c.self.view_is c.root_of-root.ensures in
    let test = c.is_part.ensures (list_of c.args.self.now c.args.version) list in
    let part = test.0 c.if-not-is_part.false in
    (λ e. absurd (let bad = e in cc), λ off. absurd (off part))

pub invariant_of-self : goal.invariant_of-self
invariant_of-self g c = roots-stay IsListOf list_at list-kind c.self.inside.heap c.reserve.new.heap c.self.inside.roots.slots c.reserve.new.roots.slots c.self.invariant c.reserve.ensures.keeps

use Rattle.std.proofs.Common.{refl, arith}
use Rattle.versions.specs.declared.faults.Fault.TheVariants.{Long, Range, Memory}
use Rattle.versions.specs.Store.{list_of}
use Rattle.versions.specs.Rooted.{IsListOf, list_at}
use Rattle.versions.proofs.MadeLemmas.{held-at, held-still, held-once, still-seen, puts-version, roots-stay, room-made}
use Rattle.versions.proofs.CallLemmas.{on-err, err-is, empty-at, at-empty, some-at, good-at}
use Rattle.versions.proofs.ListLemmas.{list-kind, seen-list, lists-stay}
use Rattle.versions.proofs.lists.Lists.pop_here.Goals as goal

pub root_of-root-requires : goal.root_of-root-requires
root_of-root-requires g c = held-at list_at c.self.inside.heap c.self.inside.roots.slots c.args.version c.args.self.now c.self.view_is c.requires

pub is_empty-requires : goal.is_empty-requires
is_empty-requires g c =
    let list = seen-list c.self.inside.heap c.self.inside.roots.slots c.args.version c.root_of-root.result c.self.invariant c.self.view_is c.root_of-root.ensures in
    good-at c.self.inside.heap c.root_of-root.result c.at.result (list_of c.args.self.now c.args.version) c.at.ensures list

pub returns-then-is_empty-clause-range : goal.returns-then-is_empty-clause-range
returns-then-is_empty-clause-range g c =
    let list = seen-list c.self.inside.heap c.self.inside.roots.slots c.args.version c.root_of-root.result c.self.invariant c.self.view_is c.root_of-root.ensures in
    (λ _. empty-at c.self.inside.heap c.root_of-root.result c.at.result (list_of c.args.self.now c.args.version) c.at.ensures list (c.is_empty.ensures.0 c.if-is_empty.true), λ _. refl)

pub returns-in_err-reserve-clause-refused : goal.returns-in_err-reserve-clause-refused
returns-in_err-reserve-clause-refused g c = on-err c.from_residual.result _ (still-seen IsListOf list_at list-kind c.self.invariant c.self.view_is (room-made c.self.invariant.holds c.reserve.ensures.rest c.reserve.ensures.extends))

pub popped_here-root-requires-clause-spares : goal.popped_here-root-requires-clause-spares
popped_here-root-requires-clause-spares g c = c.in_ok-reserve.ensures.spares

pub popped_here-root-requires-clause-few : goal.popped_here-root-requires-clause-few
popped_here-root-requires-clause-few g c = omega (arith, c.reserve.ensures.rest.count, c.self.invariant.holds.count, c.self.invariant.holds.few)

pub popped_here-root-requires-clause-good : goal.popped_here-root-requires-clause-good
popped_here-root-requires-clause-good g c =
    let list = seen-list c.self.inside.heap c.self.inside.roots.slots c.args.version c.root_of-root.result c.self.invariant c.self.view_is c.root_of-root.ensures in
    let kept = lists-stay c.self.inside.heap c.reserve.new.self c.reserve.ensures.extends c.root_of-root.result (list_of c.args.self.now c.args.version) list in
    kept.good

pub popped_here-root-requires-clause-held : goal.popped_here-root-requires-clause-held
popped_here-root-requires-clause-held g c =
    held-once (room-made c.self.invariant.holds c.reserve.ensures.rest c.reserve.ensures.extends) c.args.version c.root_of-root.result c.root_of-root.ensures

pub popped_here-root-requires-clause-some : goal.popped_here-root-requires-clause-some
popped_here-root-requires-clause-some g c =
    let list = seen-list c.self.inside.heap c.self.inside.roots.slots c.args.version c.root_of-root.result c.self.invariant c.self.view_is c.root_of-root.ensures in
    let kept = lists-stay c.self.inside.heap c.reserve.new.self c.reserve.ensures.extends c.root_of-root.result (list_of c.args.self.now c.args.version) list in
    some-at c.self.inside.heap c.root_of-root.result c.at.result (list_of c.args.self.now c.args.version) c.at.ensures list c.reserve.new.self kept c.is_empty.result c.is_empty.ensures.1 c.if-is_empty.false

pub put-requires-clause-held : goal.put-requires-clause-held
put-requires-clause-held g c = held-still (room-made c.self.invariant.holds c.reserve.ensures.rest c.reserve.ensures.extends) c.args.version c.root_of-root.result c.root_of-root.ensures

pub put-requires-clause-few : goal.put-requires-clause-few
put-requires-clause-few g c = c.self.invariant.holds.few

pub invariant_of-self-2 : goal.invariant_of-self-2
invariant_of-self-2 g c =
    let list = seen-list c.self.inside.heap c.self.inside.roots.slots c.args.version c.root_of-root.result c.self.invariant c.self.view_is c.root_of-root.ensures in
    let kept = lists-stay c.self.inside.heap c.reserve.new.self c.reserve.ensures.extends c.root_of-root.result (list_of c.args.self.now c.args.version) list in
    let done = puts-version IsListOf list_at list-kind c.self.invariant c.self.view_is (room-made c.self.invariant.holds c.reserve.ensures.rest c.reserve.ensures.extends) c.root_of-root.ensures (c.popped_here-root.ensures.edits (list_of c.args.self.now c.args.version) kept) c.put.ensures in
    done.stands

pub returns-clause-made : goal.returns-clause-made
returns-clause-made g c =
    let list = seen-list c.self.inside.heap c.self.inside.roots.slots c.args.version c.root_of-root.result c.self.invariant c.self.view_is c.root_of-root.ensures in
    let kept = lists-stay c.self.inside.heap c.reserve.new.self c.reserve.ensures.extends c.root_of-root.result (list_of c.args.self.now c.args.version) list in
    let done = puts-version IsListOf list_at list-kind c.self.invariant c.self.view_is (room-made c.self.invariant.holds c.reserve.ensures.rest c.reserve.ensures.extends) c.root_of-root.ensures (c.popped_here-root.ensures.edits (list_of c.args.self.now c.args.version) kept) c.put.ensures in
    done.made

pub returns-clause-range : goal.returns-clause-range
returns-clause-range g c =
    let list = seen-list c.self.inside.heap c.self.inside.roots.slots c.args.version c.root_of-root.result c.self.invariant c.self.view_is c.root_of-root.ensures in
    (λ e. absurd (let bad = e in cc), λ none. absurd (let yes = c.is_empty.ensures.1 (at-empty c.self.inside.heap c.root_of-root.result c.at.result (list_of c.args.self.now c.args.version) c.at.ensures list none) in let ends = c.if-is_empty.false in cc))

pub returns-in_err-reserve-clause-range : goal.returns-in_err-reserve-clause-range
returns-in_err-reserve-clause-range g c =
    let list = seen-list c.self.inside.heap c.self.inside.roots.slots c.args.version c.root_of-root.result c.self.invariant c.self.view_is c.root_of-root.ensures in
    (λ e. absurd (let bad = err-is c.from_residual.result Memory Range c.from_residual.ensures.1 e in cc), λ none. absurd (let yes = c.is_empty.ensures.1 (at-empty c.self.inside.heap c.root_of-root.result c.at.result (list_of c.args.self.now c.args.version) c.at.ensures list none) in let ends = c.if-is_empty.false in cc))

pub returns-in_err-reserve-clause-no_long : goal.returns-in_err-reserve-clause-no_long
returns-in_err-reserve-clause-no_long g c = λ e. let bad = err-is c.from_residual.result Memory Long c.from_residual.ensures.1 e in cc

pub invariant_of-self : goal.invariant_of-self
invariant_of-self g c = roots-stay IsListOf list_at list-kind c.self.inside.heap c.reserve.new.self c.self.inside.roots.slots c.self.inside.roots.slots c.self.invariant (room-made c.self.invariant.holds c.reserve.ensures.rest c.reserve.ensures.extends)

use Rattle.std.proofs.Common.{◌∙◌, sym, refl, ◌<◌, arith}
use Rattle.std.specs.Prelude.{length}
use Rattle.versions.specs.Store.{list_of}
use Rattle.versions.specs.Rooted.{IsListOf, list_at}
use Rattle.versions.proofs.MadeLemmas.{held-at, held-still, held-once, still-seen, puts-version, roots-stay, room-made}
use Rattle.versions.proofs.CallLemmas.{on-ok, inside-by, good-at, length-at}
use Rattle.versions.proofs.ListLemmas.{list-kind, seen-list, lists-stay}
use Rattle.versions.proofs.lists.Lists.set_here.Goals as goal

pub root_of-root-requires : goal.root_of-root-requires
root_of-root-requires g c = held-at list_at c.self.inside.heap c.self.inside.roots.slots c.args.version c.args.self.now c.self.view_is c.requires

pub is_past-requires : goal.is_past-requires
is_past-requires g c =
    let list = seen-list c.self.inside.heap c.self.inside.roots.slots c.args.version c.root_of-root.result c.self.invariant c.self.view_is c.root_of-root.ensures in
    good-at c.self.inside.heap c.root_of-root.result c.at.result (list_of c.args.self.now c.args.version) c.at.ensures list

pub returns-then-is_past-clause-range : goal.returns-then-is_past-clause-range
returns-then-is_past-clause-range g c =
    let list = seen-list c.self.inside.heap c.self.inside.roots.slots c.args.version c.root_of-root.result c.self.invariant c.self.view_is c.root_of-root.ensures in
    let old = length-at c.self.inside.heap c.root_of-root.result c.at.result (list_of c.args.self.now c.args.version) c.at.ensures list in
    (λ _. omega (arith, old, c.is_past.ensures.0 c.if-is_past.true), λ _. refl)

pub returns-then-is_err-clause-range : goal.returns-then-is_err-clause-range
returns-then-is_err-clause-range g c =
    let list = seen-list c.self.inside.heap c.self.inside.roots.slots c.args.version c.root_of-root.result c.self.invariant c.self.view_is c.root_of-root.ensures in
    let old = length-at c.self.inside.heap c.root_of-root.result c.at.result (list_of c.args.self.now c.args.version) c.at.ensures list in
    let inside : c.args.index < length (list_of c.args.self.now c.args.version) = inside-by (length (list_of c.args.self.now c.args.version)) c.args.index c.is_past.result (λ past. c.is_past.ensures.1 (omega (arith, old, past))) c.if-is_past.false in
    (λ e. absurd (let bad = e in cc), λ low. absurd (omega (arith, inside, low)))

pub returns-then-is_err-clause-refused : goal.returns-then-is_err-clause-refused
returns-then-is_err-clause-refused g c = still-seen IsListOf list_at list-kind c.self.invariant c.self.view_is (room-made c.self.invariant.holds c.reserve.ensures.rest c.reserve.ensures.extends)

pub changed_here-root-requires-clause-spares : goal.changed_here-root-requires-clause-spares
changed_here-root-requires-clause-spares g c = on-ok c.reserve.result _ (sym c.is_err.ensures.value ∙ c.if-is_err.false) c.reserve.ensures.spares

pub changed_here-root-requires-clause-few : goal.changed_here-root-requires-clause-few
changed_here-root-requires-clause-few g c = omega (arith, c.reserve.ensures.rest.count, c.self.invariant.holds.count, c.self.invariant.holds.few)

pub changed_here-root-requires-clause-good : goal.changed_here-root-requires-clause-good
changed_here-root-requires-clause-good g c =
    let list = seen-list c.self.inside.heap c.self.inside.roots.slots c.args.version c.root_of-root.result c.self.invariant c.self.view_is c.root_of-root.ensures in
    let kept = lists-stay c.self.inside.heap c.reserve.new.self c.reserve.ensures.extends c.root_of-root.result (list_of c.args.self.now c.args.version) list in
    kept.good

pub changed_here-root-requires-clause-held : goal.changed_here-root-requires-clause-held
changed_here-root-requires-clause-held g c =
    held-once (room-made c.self.invariant.holds c.reserve.ensures.rest c.reserve.ensures.extends) c.args.version c.root_of-root.result c.root_of-root.ensures

pub changed_here-root-requires-clause-inside : goal.changed_here-root-requires-clause-inside
changed_here-root-requires-clause-inside g c =
    let list = seen-list c.self.inside.heap c.self.inside.roots.slots c.args.version c.root_of-root.result c.self.invariant c.self.view_is c.root_of-root.ensures in
    let kept = lists-stay c.self.inside.heap c.reserve.new.self c.reserve.ensures.extends c.root_of-root.result (list_of c.args.self.now c.args.version) list in
    let old = length-at c.self.inside.heap c.root_of-root.result c.at.result (list_of c.args.self.now c.args.version) c.at.ensures list in
    let new = length-at c.reserve.new.self c.root_of-root.result c.root_of-root.result (list_of c.args.self.now c.args.version) refl kept in
    let inside : c.args.index < length (list_of c.args.self.now c.args.version) = inside-by (length (list_of c.args.self.now c.args.version)) c.args.index c.is_past.result (λ past. c.is_past.ensures.1 (omega (arith, old, past))) c.if-is_past.false in
    omega (arith, inside, new)

pub put-requires-clause-held : goal.put-requires-clause-held
put-requires-clause-held g c = held-still (room-made c.self.invariant.holds c.reserve.ensures.rest c.reserve.ensures.extends) c.args.version c.root_of-root.result c.root_of-root.ensures

pub put-requires-clause-few : goal.put-requires-clause-few
put-requires-clause-few g c = c.self.invariant.holds.few

pub invariant_of-self-2 : goal.invariant_of-self-2
invariant_of-self-2 g c =
    let list = seen-list c.self.inside.heap c.self.inside.roots.slots c.args.version c.root_of-root.result c.self.invariant c.self.view_is c.root_of-root.ensures in
    let kept = lists-stay c.self.inside.heap c.reserve.new.self c.reserve.ensures.extends c.root_of-root.result (list_of c.args.self.now c.args.version) list in
    let done = puts-version IsListOf list_at list-kind c.self.invariant c.self.view_is (room-made c.self.invariant.holds c.reserve.ensures.rest c.reserve.ensures.extends) c.root_of-root.ensures (c.changed_here-root.ensures.edits (list_of c.args.self.now c.args.version) kept) c.put.ensures in
    done.stands

pub returns-clause-made : goal.returns-clause-made
returns-clause-made g c =
    let list = seen-list c.self.inside.heap c.self.inside.roots.slots c.args.version c.root_of-root.result c.self.invariant c.self.view_is c.root_of-root.ensures in
    let kept = lists-stay c.self.inside.heap c.reserve.new.self c.reserve.ensures.extends c.root_of-root.result (list_of c.args.self.now c.args.version) list in
    let done = puts-version IsListOf list_at list-kind c.self.invariant c.self.view_is (room-made c.self.invariant.holds c.reserve.ensures.rest c.reserve.ensures.extends) c.root_of-root.ensures (c.changed_here-root.ensures.edits (list_of c.args.self.now c.args.version) kept) c.put.ensures in
    done.made

pub returns-clause-range : goal.returns-clause-range
returns-clause-range g c =
    let list = seen-list c.self.inside.heap c.self.inside.roots.slots c.args.version c.root_of-root.result c.self.invariant c.self.view_is c.root_of-root.ensures in
    let old = length-at c.self.inside.heap c.root_of-root.result c.at.result (list_of c.args.self.now c.args.version) c.at.ensures list in
    let inside : c.args.index < length (list_of c.args.self.now c.args.version) = inside-by (length (list_of c.args.self.now c.args.version)) c.args.index c.is_past.result (λ past. c.is_past.ensures.1 (omega (arith, old, past))) c.if-is_past.false in
    (λ e. absurd e, λ low. absurd (omega (arith, inside, low)))

pub invariant_of-self : goal.invariant_of-self
invariant_of-self g c = roots-stay IsListOf list_at list-kind c.self.inside.heap c.reserve.new.self c.self.inside.roots.slots c.self.inside.roots.slots c.self.invariant (room-made c.self.invariant.holds c.reserve.ensures.rest c.reserve.ensures.extends)

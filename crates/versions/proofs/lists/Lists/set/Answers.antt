use Rattle.std.proofs.Common.{◌∙◌, sym, refl, ◌<◌, arith}
use Rattle.std.specs.Prelude.{length}
use Rattle.versions.specs.Store.{list_of}
use Rattle.versions.specs.Rooted.{IsListOf, list_at}
use Rattle.versions.specs.Roots.{HasRoom}
use Rattle.versions.proofs.CallLemmas.{on-ok, inside-by, good-at, length-at}
use Rattle.versions.proofs.ListLemmas.{list-kind, seen-list, lists-stay}
use Rattle.versions.proofs.MadeLemmas.{held-at, still-seen, adds-version, roots-stay}
use Rattle.versions.proofs.lists.Lists.set.Goals as goal

pub root_of-root-requires : goal.root_of-root-requires
root_of-root-requires g c = held-at list_at c.self.inside.heap c.self.inside.roots.slots c.args.version c.args.self.now c.self.view_is c.requires

pub is_past-requires : goal.is_past-requires
is_past-requires g c =
    let list = seen-list c.self.inside.heap c.self.inside.roots.slots c.args.version c.root_of-root.result c.self.invariant c.self.view_is c.root_of-root.ensures in
    good-at c.self.inside.heap c.root_of-root.result c.at.result (list_of c.args.self.now c.args.version) c.at.ensures list

pub returns-then-is_past-clause-range : goal.returns-then-is_past-clause-range
returns-then-is_past-clause-range g c =
    let list = seen-list c.self.inside.heap c.self.inside.roots.slots c.args.version c.root_of-root.result c.self.invariant c.self.view_is c.root_of-root.ensures in
    let old = length-at c.self.inside.heap c.root_of-root.result c.at.result (list_of c.args.self.now c.args.version) c.at.ensures list in
    (λ _. omega (arith, old, c.is_past.ensures.0 c.if-is_past.true), λ _. refl)

pub returns-then-is_err-clause-range : goal.returns-then-is_err-clause-range
returns-then-is_err-clause-range g c =
    let list = seen-list c.self.inside.heap c.self.inside.roots.slots c.args.version c.root_of-root.result c.self.invariant c.self.view_is c.root_of-root.ensures in
    let old = length-at c.self.inside.heap c.root_of-root.result c.at.result (list_of c.args.self.now c.args.version) c.at.ensures list in
    let inside : c.args.index < length (list_of c.args.self.now c.args.version) = inside-by (length (list_of c.args.self.now c.args.version)) c.args.index c.is_past.result (λ past. c.is_past.ensures.1 (omega (arith, old, past))) c.if-is_past.false in
    (λ e. absurd (let bad = e in cc), λ low. absurd (omega (arith, inside, low)))

pub returns-then-is_err-clause-refused : goal.returns-then-is_err-clause-refused
returns-then-is_err-clause-refused g c = still-seen IsListOf list_at list-kind c.self.invariant c.self.view_is c.reserve.ensures.keeps

pub changed-root-requires-clause-spares : goal.changed-root-requires-clause-spares
changed-root-requires-clause-spares g c =
    let room : HasRoom c.reserve.new.heap c.reserve.new.roots 1 8 = on-ok c.reserve.result _ (sym c.is_err.ensures.value ∙ c.if-is_err.false) c.reserve.ensures.room in
    room.spares

pub changed-root-requires-clause-few : goal.changed-root-requires-clause-few
changed-root-requires-clause-few g c = on-ok c.reserve.result _ (sym c.is_err.ensures.value ∙ c.if-is_err.false) c.reserve.ensures.few

pub changed-root-requires-clause-good : goal.changed-root-requires-clause-good
changed-root-requires-clause-good g c =
    let list = seen-list c.self.inside.heap c.self.inside.roots.slots c.args.version c.root_of-root.result c.self.invariant c.self.view_is c.root_of-root.ensures in
    let kept = lists-stay c.self.inside.heap c.reserve.new.heap c.reserve.ensures.keeps.extends c.root_of-root.result (list_of c.args.self.now c.args.version) list in
    kept.good

pub changed-root-requires-clause-inside : goal.changed-root-requires-clause-inside
changed-root-requires-clause-inside g c =
    let list = seen-list c.self.inside.heap c.self.inside.roots.slots c.args.version c.root_of-root.result c.self.invariant c.self.view_is c.root_of-root.ensures in
    let kept = lists-stay c.self.inside.heap c.reserve.new.heap c.reserve.ensures.keeps.extends c.root_of-root.result (list_of c.args.self.now c.args.version) list in
    let old = length-at c.self.inside.heap c.root_of-root.result c.at.result (list_of c.args.self.now c.args.version) c.at.ensures list in
    let new = length-at c.reserve.new.heap c.root_of-root.result c.root_of-root.result (list_of c.args.self.now c.args.version) refl kept in
    let inside : c.args.index < length (list_of c.args.self.now c.args.version) = inside-by (length (list_of c.args.self.now c.args.version)) c.args.index c.is_past.result (λ past. c.is_past.ensures.1 (omega (arith, old, past))) c.if-is_past.false in
    omega (arith, inside, new)

pub keep-requires-clause-room : goal.keep-requires-clause-room
keep-requires-clause-room g c =
    let room : HasRoom c.reserve.new.heap c.reserve.new.roots 1 8 = on-ok c.reserve.result _ (sym c.is_err.ensures.value ∙ c.if-is_err.false) c.reserve.ensures.room in
    room.root

pub keep-requires-clause-few : goal.keep-requires-clause-few
keep-requires-clause-few g c =
    let room : HasRoom c.reserve.new.heap c.reserve.new.roots 1 8 = on-ok c.reserve.result _ (sym c.is_err.ensures.value ∙ c.if-is_err.false) c.reserve.ensures.room in
    room.number

pub invariant_of-self-2 : goal.invariant_of-self-2
invariant_of-self-2 g c =
    let list = seen-list c.self.inside.heap c.self.inside.roots.slots c.args.version c.root_of-root.result c.self.invariant c.self.view_is c.root_of-root.ensures in
    let kept = lists-stay c.self.inside.heap c.reserve.new.heap c.reserve.ensures.keeps.extends c.root_of-root.result (list_of c.args.self.now c.args.version) list in
    let added = adds-version IsListOf list_at list-kind c.self.invariant c.self.view_is c.reserve.ensures.keeps (c.changed-root.ensures.makes (list_of c.args.self.now c.args.version) kept) c.keep.ensures in
    added.stands

pub returns-clause-fresh : goal.returns-clause-fresh
returns-clause-fresh g c =
    let list = seen-list c.self.inside.heap c.self.inside.roots.slots c.args.version c.root_of-root.result c.self.invariant c.self.view_is c.root_of-root.ensures in
    let kept = lists-stay c.self.inside.heap c.reserve.new.heap c.reserve.ensures.keeps.extends c.root_of-root.result (list_of c.args.self.now c.args.version) list in
    let added = adds-version IsListOf list_at list-kind c.self.invariant c.self.view_is c.reserve.ensures.keeps (c.changed-root.ensures.makes (list_of c.args.self.now c.args.version) kept) c.keep.ensures in
    added.fresh

pub returns-clause-made : goal.returns-clause-made
returns-clause-made g c =
    let list = seen-list c.self.inside.heap c.self.inside.roots.slots c.args.version c.root_of-root.result c.self.invariant c.self.view_is c.root_of-root.ensures in
    let kept = lists-stay c.self.inside.heap c.reserve.new.heap c.reserve.ensures.keeps.extends c.root_of-root.result (list_of c.args.self.now c.args.version) list in
    let added = adds-version IsListOf list_at list-kind c.self.invariant c.self.view_is c.reserve.ensures.keeps (c.changed-root.ensures.makes (list_of c.args.self.now c.args.version) kept) c.keep.ensures in
    added.made

pub returns-clause-range : goal.returns-clause-range
returns-clause-range g c =
    let list = seen-list c.self.inside.heap c.self.inside.roots.slots c.args.version c.root_of-root.result c.self.invariant c.self.view_is c.root_of-root.ensures in
    let old = length-at c.self.inside.heap c.root_of-root.result c.at.result (list_of c.args.self.now c.args.version) c.at.ensures list in
    let inside : c.args.index < length (list_of c.args.self.now c.args.version) = inside-by (length (list_of c.args.self.now c.args.version)) c.args.index c.is_past.result (λ past. c.is_past.ensures.1 (omega (arith, old, past))) c.if-is_past.false in
    (λ e. absurd e, λ low. absurd (omega (arith, inside, low)))

pub invariant_of-self : goal.invariant_of-self
invariant_of-self g c = roots-stay IsListOf list_at list-kind c.self.inside.heap c.reserve.new.heap c.self.inside.roots.slots c.reserve.new.roots.slots c.self.invariant c.reserve.ensures.keeps

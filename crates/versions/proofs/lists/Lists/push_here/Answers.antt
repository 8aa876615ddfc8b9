use Rattle.std.proofs.Common.{◌∙◌, sym, refl, arith}
use Rattle.versions.specs.Store.{list_of}
use Rattle.versions.specs.Rooted.{IsListOf, list_at}
use Rattle.versions.proofs.MadeLemmas.{held-at, held-still, held-once, still-seen, puts-version, roots-stay, room-made}
use Rattle.versions.proofs.CallLemmas.{on-ok, good-at, length-at}
use Rattle.versions.proofs.ListLemmas.{list-kind, seen-list, lists-stay}
use Rattle.versions.proofs.lists.Lists.push_here.Goals as goal

pub root_of-root-requires : goal.root_of-root-requires
root_of-root-requires g c = held-at list_at c.self.inside.heap c.self.inside.roots.slots c.args.version c.args.self.now c.self.view_is c.requires

pub is_longest-requires : goal.is_longest-requires
is_longest-requires g c =
    let list = seen-list c.self.inside.heap c.self.inside.roots.slots c.args.version c.root_of-root.result c.self.invariant c.self.view_is c.root_of-root.ensures in
    good-at c.self.inside.heap c.root_of-root.result c.at.result (list_of c.args.self.now c.args.version) c.at.ensures list

pub returns-then-is_longest-clause-long : goal.returns-then-is_longest-clause-long
returns-then-is_longest-clause-long g c =
    let list = seen-list c.self.inside.heap c.self.inside.roots.slots c.args.version c.root_of-root.result c.self.invariant c.self.view_is c.root_of-root.ensures in
    let old = length-at c.self.inside.heap c.root_of-root.result c.at.result (list_of c.args.self.now c.args.version) c.at.ensures list in
    (λ _. sym old ∙ c.is_longest.ensures.0 c.if-is_longest.true, λ _. refl)

pub returns-then-is_err-clause-long : goal.returns-then-is_err-clause-long
returns-then-is_err-clause-long g c =
    let list = seen-list c.self.inside.heap c.self.inside.roots.slots c.args.version c.root_of-root.result c.self.invariant c.self.view_is c.root_of-root.ensures in
    let old = length-at c.self.inside.heap c.root_of-root.result c.at.result (list_of c.args.self.now c.args.version) c.at.ensures list in
    (λ e. absurd (let bad = e in cc), λ len. absurd (let yes = c.is_longest.ensures.1 (old ∙ len) in let ends = c.if-is_longest.false in cc))

pub returns-then-is_err-clause-refused : goal.returns-then-is_err-clause-refused
returns-then-is_err-clause-refused g c = still-seen IsListOf list_at list-kind c.self.invariant c.self.view_is (room-made c.self.invariant.holds c.reserve.ensures.rest c.reserve.ensures.extends)

pub pushed_here-root-requires-clause-spares : goal.pushed_here-root-requires-clause-spares
pushed_here-root-requires-clause-spares g c = on-ok c.reserve.result _ (sym c.is_err.ensures.value ∙ c.if-is_err.false) c.reserve.ensures.spares

pub pushed_here-root-requires-clause-few : goal.pushed_here-root-requires-clause-few
pushed_here-root-requires-clause-few g c = omega (arith, c.reserve.ensures.rest.count, c.self.invariant.holds.count, c.self.invariant.holds.few)

pub pushed_here-root-requires-clause-good : goal.pushed_here-root-requires-clause-good
pushed_here-root-requires-clause-good g c =
    let list = seen-list c.self.inside.heap c.self.inside.roots.slots c.args.version c.root_of-root.result c.self.invariant c.self.view_is c.root_of-root.ensures in
    let kept = lists-stay c.self.inside.heap c.reserve.new.self c.reserve.ensures.extends c.root_of-root.result (list_of c.args.self.now c.args.version) list in
    kept.good

pub pushed_here-root-requires-clause-held : goal.pushed_here-root-requires-clause-held
pushed_here-root-requires-clause-held g c =
    held-once (room-made c.self.invariant.holds c.reserve.ensures.rest c.reserve.ensures.extends) c.args.version c.root_of-root.result c.root_of-root.ensures

pub pushed_here-root-requires-clause-short : goal.pushed_here-root-requires-clause-short
pushed_here-root-requires-clause-short g c =
    let list = seen-list c.self.inside.heap c.self.inside.roots.slots c.args.version c.root_of-root.result c.self.invariant c.self.view_is c.root_of-root.ensures in
    let kept = lists-stay c.self.inside.heap c.reserve.new.self c.reserve.ensures.extends c.root_of-root.result (list_of c.args.self.now c.args.version) list in
    let old = length-at c.self.inside.heap c.root_of-root.result c.at.result (list_of c.args.self.now c.args.version) c.at.ensures list in
    let new = length-at c.reserve.new.self c.root_of-root.result c.root_of-root.result (list_of c.args.self.now c.args.version) refl kept in
    λ len. let yes = c.is_longest.ensures.1 (old ∙ sym new ∙ len) in let ends = c.if-is_longest.false in cc

pub put-requires-clause-held : goal.put-requires-clause-held
put-requires-clause-held g c = held-still (room-made c.self.invariant.holds c.reserve.ensures.rest c.reserve.ensures.extends) c.args.version c.root_of-root.result c.root_of-root.ensures

pub put-requires-clause-few : goal.put-requires-clause-few
put-requires-clause-few g c = c.self.invariant.holds.few

pub invariant_of-self-2 : goal.invariant_of-self-2
invariant_of-self-2 g c =
    let list = seen-list c.self.inside.heap c.self.inside.roots.slots c.args.version c.root_of-root.result c.self.invariant c.self.view_is c.root_of-root.ensures in
    let kept = lists-stay c.self.inside.heap c.reserve.new.self c.reserve.ensures.extends c.root_of-root.result (list_of c.args.self.now c.args.version) list in
    let done = puts-version IsListOf list_at list-kind c.self.invariant c.self.view_is (room-made c.self.invariant.holds c.reserve.ensures.rest c.reserve.ensures.extends) c.root_of-root.ensures (c.pushed_here-root.ensures.edits (list_of c.args.self.now c.args.version) kept) c.put.ensures in
    done.stands

pub returns-clause-made : goal.returns-clause-made
returns-clause-made g c =
    let list = seen-list c.self.inside.heap c.self.inside.roots.slots c.args.version c.root_of-root.result c.self.invariant c.self.view_is c.root_of-root.ensures in
    let kept = lists-stay c.self.inside.heap c.reserve.new.self c.reserve.ensures.extends c.root_of-root.result (list_of c.args.self.now c.args.version) list in
    let done = puts-version IsListOf list_at list-kind c.self.invariant c.self.view_is (room-made c.self.invariant.holds c.reserve.ensures.rest c.reserve.ensures.extends) c.root_of-root.ensures (c.pushed_here-root.ensures.edits (list_of c.args.self.now c.args.version) kept) c.put.ensures in
    done.made

pub returns-clause-long : goal.returns-clause-long
returns-clause-long g c =
    let list = seen-list c.self.inside.heap c.self.inside.roots.slots c.args.version c.root_of-root.result c.self.invariant c.self.view_is c.root_of-root.ensures in
    let old = length-at c.self.inside.heap c.root_of-root.result c.at.result (list_of c.args.self.now c.args.version) c.at.ensures list in
    (λ e. absurd e, λ len. absurd (let yes = c.is_longest.ensures.1 (old ∙ len) in let ends = c.if-is_longest.false in cc))

pub invariant_of-self : goal.invariant_of-self
invariant_of-self g c = roots-stay IsListOf list_at list-kind c.self.inside.heap c.reserve.new.self c.self.inside.roots.slots c.self.inside.roots.slots c.self.invariant (room-made c.self.invariant.holds c.reserve.ensures.rest c.reserve.ensures.extends)

use Rattle.std.proofs.Common.{◌∙◌, sym, refl, ◌≤◌, arith}
use Rattle.std.specs.Prelude.{length}
use Rattle.versions.specs.Store.{list_of}
use Rattle.versions.specs.Rooted.{IsListOf, list_at}
use Rattle.versions.specs.Roots.{HasRoom}
use Rattle.versions.proofs.CallLemmas.{on-ok, good-at, length-at}
use Rattle.versions.proofs.ListLemmas.{list-kind, seen-list, lists-stay}
use Rattle.versions.proofs.MadeLemmas.{held-at, still-seen, adds-version, roots-stay}
use Rattle.versions.proofs.lists.Lists.insert.Goals as goal

pub root_of-root-requires : goal.root_of-root-requires
root_of-root-requires g c = held-at list_at c.self.inside.heap c.self.inside.roots.slots c.args.version c.args.self.now c.self.view_is c.requires

pub len-requires : goal.len-requires
len-requires g c =
    let list = seen-list c.self.inside.heap c.self.inside.roots.slots c.args.version c.root_of-root.result c.self.invariant c.self.view_is c.root_of-root.ensures in
    good-at c.self.inside.heap c.root_of-root.result c.at-vector.result (list_of c.args.self.now c.args.version) c.at-vector.ensures list

pub is_longest-requires : goal.is_longest-requires
is_longest-requires g c =
    let list = seen-list c.self.inside.heap c.self.inside.roots.slots c.args.version c.root_of-root.result c.self.invariant c.self.view_is c.root_of-root.ensures in
    good-at c.self.inside.heap c.root_of-root.result c.at-vector.result (list_of c.args.self.now c.args.version) c.at-vector.ensures list

pub returns-then-index-len-clause-range : goal.returns-then-index-len-clause-range
returns-then-index-len-clause-range g c =
    let list = seen-list c.self.inside.heap c.self.inside.roots.slots c.args.version c.root_of-root.result c.self.invariant c.self.view_is c.root_of-root.ensures in
    let old = length-at c.self.inside.heap c.root_of-root.result c.at-vector.result (list_of c.args.self.now c.args.version) c.at-vector.ensures list in
    (λ _. omega (arith, old, c.len.ensures.value, c.if-index-len.true), λ _. refl)

pub returns-then-index-len-clause-long : goal.returns-then-index-len-clause-long
returns-then-index-len-clause-long g c =
    let list = seen-list c.self.inside.heap c.self.inside.roots.slots c.args.version c.root_of-root.result c.self.invariant c.self.view_is c.root_of-root.ensures in
    let old = length-at c.self.inside.heap c.root_of-root.result c.at-vector.result (list_of c.args.self.now c.args.version) c.at-vector.ensures list in
    (λ e. absurd (let bad = e in cc), λ full. absurd (omega (arith, full.0, old, c.len.ensures.value, c.if-index-len.true)))

pub returns-then-is_longest-clause-range : goal.returns-then-is_longest-clause-range
returns-then-is_longest-clause-range g c =
    let list = seen-list c.self.inside.heap c.self.inside.roots.slots c.args.version c.root_of-root.result c.self.invariant c.self.view_is c.root_of-root.ensures in
    let old = length-at c.self.inside.heap c.root_of-root.result c.at-vector.result (list_of c.args.self.now c.args.version) c.at-vector.ensures list in
    let near : c.args.index ≤ length (list_of c.args.self.now c.args.version) = omega (arith, old, c.len.ensures.value, c.if-index-len.false) in
    (λ e. absurd (let bad = e in cc), λ far. absurd (omega (arith, far, near)))

pub returns-then-is_longest-clause-long : goal.returns-then-is_longest-clause-long
returns-then-is_longest-clause-long g c =
    let list = seen-list c.self.inside.heap c.self.inside.roots.slots c.args.version c.root_of-root.result c.self.invariant c.self.view_is c.root_of-root.ensures in
    let old = length-at c.self.inside.heap c.root_of-root.result c.at-vector.result (list_of c.args.self.now c.args.version) c.at-vector.ensures list in
    let near : c.args.index ≤ length (list_of c.args.self.now c.args.version) = omega (arith, old, c.len.ensures.value, c.if-index-len.false) in
    (λ _. (near, sym old ∙ c.is_longest.ensures.0 c.if-is_longest.true), λ _. refl)

pub returns-then-is_err-clause-range : goal.returns-then-is_err-clause-range
returns-then-is_err-clause-range g c =
    let list = seen-list c.self.inside.heap c.self.inside.roots.slots c.args.version c.root_of-root.result c.self.invariant c.self.view_is c.root_of-root.ensures in
    let old = length-at c.self.inside.heap c.root_of-root.result c.at-vector.result (list_of c.args.self.now c.args.version) c.at-vector.ensures list in
    let near : c.args.index ≤ length (list_of c.args.self.now c.args.version) = omega (arith, old, c.len.ensures.value, c.if-index-len.false) in
    (λ e. absurd (let bad = e in cc), λ far. absurd (omega (arith, far, near)))

pub returns-then-is_err-clause-long : goal.returns-then-is_err-clause-long
returns-then-is_err-clause-long g c =
    let list = seen-list c.self.inside.heap c.self.inside.roots.slots c.args.version c.root_of-root.result c.self.invariant c.self.view_is c.root_of-root.ensures in
    let old = length-at c.self.inside.heap c.root_of-root.result c.at-vector.result (list_of c.args.self.now c.args.version) c.at-vector.ensures list in
    (λ e. absurd (let bad = e in cc), λ full. absurd (let yes = c.is_longest.ensures.1 (old ∙ full.1) in let ends = c.if-is_longest.false in cc))

pub returns-then-is_err-clause-refused : goal.returns-then-is_err-clause-refused
returns-then-is_err-clause-refused g c = still-seen IsListOf list_at list-kind c.self.invariant c.self.view_is c.reserve.ensures.keeps

pub inserted-root-requires-clause-spares : goal.inserted-root-requires-clause-spares
inserted-root-requires-clause-spares g c =
    let room : HasRoom c.reserve.new.heap c.reserve.new.roots 1 17 = on-ok c.reserve.result _ (sym c.is_err.ensures.value ∙ c.if-is_err.false) c.reserve.ensures.room in
    room.spares

pub inserted-root-requires-clause-few : goal.inserted-root-requires-clause-few
inserted-root-requires-clause-few g c = on-ok c.reserve.result _ (sym c.is_err.ensures.value ∙ c.if-is_err.false) c.reserve.ensures.few

pub inserted-root-requires-clause-good : goal.inserted-root-requires-clause-good
inserted-root-requires-clause-good g c =
    let list = seen-list c.self.inside.heap c.self.inside.roots.slots c.args.version c.root_of-root.result c.self.invariant c.self.view_is c.root_of-root.ensures in
    let kept = lists-stay c.self.inside.heap c.reserve.new.heap c.reserve.ensures.keeps.extends c.root_of-root.result (list_of c.args.self.now c.args.version) list in
    kept.good

pub inserted-root-requires-clause-inside : goal.inserted-root-requires-clause-inside
inserted-root-requires-clause-inside g c =
    let list = seen-list c.self.inside.heap c.self.inside.roots.slots c.args.version c.root_of-root.result c.self.invariant c.self.view_is c.root_of-root.ensures in
    let kept = lists-stay c.self.inside.heap c.reserve.new.heap c.reserve.ensures.keeps.extends c.root_of-root.result (list_of c.args.self.now c.args.version) list in
    let old = length-at c.self.inside.heap c.root_of-root.result c.at-vector.result (list_of c.args.self.now c.args.version) c.at-vector.ensures list in
    let new = length-at c.reserve.new.heap c.root_of-root.result c.root_of-root.result (list_of c.args.self.now c.args.version) refl kept in
    let near : c.args.index ≤ length (list_of c.args.self.now c.args.version) = omega (arith, old, c.len.ensures.value, c.if-index-len.false) in
    omega (arith, near, new)

pub inserted-root-requires-clause-short : goal.inserted-root-requires-clause-short
inserted-root-requires-clause-short g c =
    let list = seen-list c.self.inside.heap c.self.inside.roots.slots c.args.version c.root_of-root.result c.self.invariant c.self.view_is c.root_of-root.ensures in
    let kept = lists-stay c.self.inside.heap c.reserve.new.heap c.reserve.ensures.keeps.extends c.root_of-root.result (list_of c.args.self.now c.args.version) list in
    let old = length-at c.self.inside.heap c.root_of-root.result c.at-vector.result (list_of c.args.self.now c.args.version) c.at-vector.ensures list in
    let new = length-at c.reserve.new.heap c.root_of-root.result c.root_of-root.result (list_of c.args.self.now c.args.version) refl kept in
    λ len. let yes = c.is_longest.ensures.1 (old ∙ sym new ∙ len) in let ends = c.if-is_longest.false in cc

pub keep-requires-clause-room : goal.keep-requires-clause-room
keep-requires-clause-room g c =
    let room : HasRoom c.reserve.new.heap c.reserve.new.roots 1 17 = on-ok c.reserve.result _ (sym c.is_err.ensures.value ∙ c.if-is_err.false) c.reserve.ensures.room in
    room.root

pub keep-requires-clause-few : goal.keep-requires-clause-few
keep-requires-clause-few g c =
    let room : HasRoom c.reserve.new.heap c.reserve.new.roots 1 17 = on-ok c.reserve.result _ (sym c.is_err.ensures.value ∙ c.if-is_err.false) c.reserve.ensures.room in
    room.number

pub invariant_of-self-2 : goal.invariant_of-self-2
invariant_of-self-2 g c =
    let list = seen-list c.self.inside.heap c.self.inside.roots.slots c.args.version c.root_of-root.result c.self.invariant c.self.view_is c.root_of-root.ensures in
    let kept = lists-stay c.self.inside.heap c.reserve.new.heap c.reserve.ensures.keeps.extends c.root_of-root.result (list_of c.args.self.now c.args.version) list in
    let added = adds-version IsListOf list_at list-kind c.self.invariant c.self.view_is c.reserve.ensures.keeps (c.inserted-root.ensures.makes (list_of c.args.self.now c.args.version) kept) c.keep.ensures in
    added.stands

pub returns-clause-fresh : goal.returns-clause-fresh
returns-clause-fresh g c =
    let list = seen-list c.self.inside.heap c.self.inside.roots.slots c.args.version c.root_of-root.result c.self.invariant c.self.view_is c.root_of-root.ensures in
    let kept = lists-stay c.self.inside.heap c.reserve.new.heap c.reserve.ensures.keeps.extends c.root_of-root.result (list_of c.args.self.now c.args.version) list in
    let added = adds-version IsListOf list_at list-kind c.self.invariant c.self.view_is c.reserve.ensures.keeps (c.inserted-root.ensures.makes (list_of c.args.self.now c.args.version) kept) c.keep.ensures in
    added.fresh

pub returns-clause-made : goal.returns-clause-made
returns-clause-made g c =
    let list = seen-list c.self.inside.heap c.self.inside.roots.slots c.args.version c.root_of-root.result c.self.invariant c.self.view_is c.root_of-root.ensures in
    let kept = lists-stay c.self.inside.heap c.reserve.new.heap c.reserve.ensures.keeps.extends c.root_of-root.result (list_of c.args.self.now c.args.version) list in
    let added = adds-version IsListOf list_at list-kind c.self.invariant c.self.view_is c.reserve.ensures.keeps (c.inserted-root.ensures.makes (list_of c.args.self.now c.args.version) kept) c.keep.ensures in
    added.made

pub returns-clause-range : goal.returns-clause-range
returns-clause-range g c =
    let list = seen-list c.self.inside.heap c.self.inside.roots.slots c.args.version c.root_of-root.result c.self.invariant c.self.view_is c.root_of-root.ensures in
    let old = length-at c.self.inside.heap c.root_of-root.result c.at-vector.result (list_of c.args.self.now c.args.version) c.at-vector.ensures list in
    let near : c.args.index ≤ length (list_of c.args.self.now c.args.version) = omega (arith, old, c.len.ensures.value, c.if-index-len.false) in
    (λ e. absurd e, λ far. absurd (omega (arith, far, near)))

pub returns-clause-long : goal.returns-clause-long
returns-clause-long g c =
    let list = seen-list c.self.inside.heap c.self.inside.roots.slots c.args.version c.root_of-root.result c.self.invariant c.self.view_is c.root_of-root.ensures in
    let old = length-at c.self.inside.heap c.root_of-root.result c.at-vector.result (list_of c.args.self.now c.args.version) c.at-vector.ensures list in
    (λ e. absurd e, λ full. absurd (let yes = c.is_longest.ensures.1 (old ∙ full.1) in let ends = c.if-is_longest.false in cc))

pub invariant_of-self : goal.invariant_of-self
invariant_of-self g c = roots-stay IsListOf list_at list-kind c.self.inside.heap c.reserve.new.heap c.self.inside.roots.slots c.reserve.new.roots.slots c.self.invariant c.reserve.ensures.keeps

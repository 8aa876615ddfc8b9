use Rattle.std.proofs.Common.{◌≡◌, ◌+◌, ◌<◌, ◌≤◌, inl, inr, arith, length}
use Rattle.std.specs.Prelude.{◌^◌}
use Rattle.std.proofs.lemmas.Bool.{cases_lt}
use Rattle.node_heap.specs.declared.owner.Owner.TheVariants.{Hold as by_hold}
use Rattle.rrb_core.specs.Vector.{elements, height_at}
use Rattle.rrb_core.proofs.CallerLemmas.{extended-same}
use Rattle.edit_vec.specs.Edit.{PushesElement}
use Rattle.versions.proofs.MakingLemmas.{length-kept}
use Rattle.versions.proofs.EditLemmas.{push-both, pushed-here, made-one}
use Rattle.versions.proofs.in_place.pushed_here.Goals as goal

pub push_held-requires-clause-good : goal.push_held-requires-clause-good
push_held-requires-clause-good g c = rw c.from_root.ensures (extended-same c.cell-cell.ensures.extends c.args.root c.requires.good).0

pub push_held-requires-clause-held : goal.push_held-requires-clause-held
push_held-requires-clause-held g c =
    let made = c.cell-cell.ensures in
    rw c.from_root.ensures (push-both c.args.heap.now c.cell-cell.new.self c.args.root c.cell-cell.result c.args.element made.adds made.extends made.count c.requires.held)

pub push_held-requires-clause-few : goal.push_held-requires-clause-few
push_held-requires-clause-few g c = omega (arith, c.cell-cell.ensures.count, c.requires.few)

pub push_held-requires-clause-short : goal.push_held-requires-clause-short
push_held-requires-clause-short g c =
    let n = length (elements c.args.heap.now c.args.root) in
    let kept : length (elements c.cell-cell.new.self c.args.root) ≡ n = length-kept c.args.heap.now c.cell-cell.new.self c.args.root c.cell-cell.ensures.extends c.requires.good in
    let most : n < 2 ^ 32 = c.requires.good.shape.short in
    let room : length (elements c.cell-cell.new.self c.args.root) + 1 < 2 ^ 32 = elim (cases_lt (n + 1) (2 ^ 32)) as (λ _. length (elements c.cell-cell.new.self c.args.root) + 1 < 2 ^ 32) [
      | inl low ↦ omega (arith, kept, low)
      | inr high ↦ absurd (c.requires.short (omega (arith, high, most)))
    ] in
    rw c.from_root.ensures room

pub push_held-requires-clause-spare : goal.push_held-requires-clause-spare
push_held-requires-clause-spare g c = (omega arith, omega (arith, c.cell-cell.ensures.makes.spare_nodes, c.requires.spares.1))

pub returns-clause-edits : goal.returns-clause-edits
returns-clause-edits g c = λ xs is.
    let made = c.cell-cell.ensures in
    rw c.into_root.ensures
    (pushed-here c.args.heap.now c.cell-cell.new.self c.args.root c.cell-cell.result c.args.element made.adds made.extends made.count c.requires.held
    c.push_held.new.heap c.push_held.result xs made.graph (rw c.from_root.ensures at c.push_held.ensures.pushes) is)

pub returns-clause-made : goal.returns-clause-made
returns-clause-made g c =
    let mid = c.cell-cell.new.self in
    let first = made-one c.args.heap.now.made mid.made 1 c.cell-cell.ensures.makes.made in
    let pushes : PushesElement (by_hold c.args.root) mid c.push_held.new.heap c.push_held.result c.cell-cell.result = rw c.from_root.ensures at c.push_held.ensures.pushes in
    let few : c.push_held.new.heap.made ≤ mid.made + (0 + (height_at mid c.args.root + 2)) = pushes.edits.trades.made in
    let low : height_at mid c.args.root ≤ 7 = (extended-same c.cell-cell.ensures.extends c.args.root c.requires.good).0.shape.low in
    let all : c.push_held.new.heap.made ≤ c.args.heap.now.made + 10 = omega (arith, first, few, low) in
    all

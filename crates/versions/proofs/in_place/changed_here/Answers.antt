use Rattle.std.proofs.Common.{◌≡◌, ◌+◌, ◌≤◌, Err, ap, arith, length}
use Rattle.node_heap.specs.Heap.{holds_at, one_at}
use Rattle.rrb_core.specs.declared.replace.SetFault.{SetFault}
use Rattle.rrb_core.specs.declared.replace.SetFault.TheVariants.{Range, Memory}
use Rattle.rrb_core.specs.Vector.{height_at}
use Rattle.rrb_core.proofs.CallerLemmas.{extended-same}
use Rattle.versions.proofs.ListLemmas.{list-length}
use Rattle.versions.proofs.MakingLemmas.{length-kept}
use Rattle.versions.proofs.EditLemmas.{here-both, set-given, set-here, made-one}
use Rattle.versions.proofs.in_place.changed_here.Goals as goal

pub opened-edit-requires-clause-good : goal.opened-edit-requires-clause-good
opened-edit-requires-clause-good g c = (extended-same c.cell-cell.ensures.extends c.args.root c.requires.good).0

pub opened-edit-requires-clause-held : goal.opened-edit-requires-clause-held
opened-edit-requires-clause-held g c =
    let first : holds_at c.cell-cell.new.self c.args.root + 0 ≡ holds_at c.args.heap.now c.args.root + one_at c.cell-cell.result c.args.root = c.cell-cell.ensures.adds.holds c.args.root in
    omega (arith, first, c.requires.held)

pub set-requires-clause-good : goal.set-requires-clause-good
set-requires-clause-good g c = c.opened-edit.ensures.vector.0

pub set-requires-clause-held : goal.set-requires-clause-held
set-requires-clause-held g c =
    let made = c.cell-cell.ensures in
    let opening = c.opened-edit.ensures in
    here-both c.args.heap.now c.cell-cell.new.self c.opened-edit.new.heap c.args.root c.cell-cell.result c.opened-edit.result c.args.element made.adds made.extends made.count c.requires.held opening.extends opening.vector opening.edits

pub set-requires-clause-few : goal.set-requires-clause-few
set-requires-clause-few g c = omega (arith, c.cell-cell.ensures.count, c.opened-edit.ensures.edits.trades.total, c.requires.few)

pub release-requires : goal.release-requires
release-requires g c =
    let made = c.cell-cell.ensures in
    let opening = c.opened-edit.ensures in
    set-given c.args.heap.now c.cell-cell.new.self c.opened-edit.new.heap c.args.root c.cell-cell.result c.opened-edit.result c.args.element made.adds made.extends made.count c.requires.held opening.extends opening.vector opening.edits
    c.set.new.heap c.set.new.self c.args.index c.in-Ok.given c.in-Ok.ensures.sets

pub unreachable-requires : goal.unreachable-requires
unreachable-requires g c = by_fault c.in-Err.field-0 c.in-Err.is
  where
    by_fault : (fault : SetFault) → c.set.result ≡ Err fault → ⊥
    by_fault Range is =
        let kept = length-kept c.args.heap.now c.cell-cell.new.self c.args.root c.cell-cell.ensures.extends c.requires.good in
        absurd (omega (arith, kept, ap length c.opened-edit.ensures.vector.1, c.set.ensures.range.0 is, c.requires.inside))
    by_fault Memory is =
        let trades = c.opened-edit.ensures.edits.trades in
        c.set.ensures.ample (omega arith, omega (arith, c.cell-cell.ensures.makes.spare_nodes, c.requires.spares.1, trades.balance.spare_nodes, trades.nodes)) is

pub returns-clause-edits : goal.returns-clause-edits
returns-clause-edits g c = λ xs is.
    let made = c.cell-cell.ensures in
    let opening = c.opened-edit.ensures in
    rw c.into_root.ensures (rw c.freeze.ensures
    (set-here c.args.heap.now c.cell-cell.new.self c.opened-edit.new.heap c.args.root c.cell-cell.result c.opened-edit.result c.args.element made.adds made.extends made.count c.requires.held opening.extends opening.vector opening.edits
    c.set.new.heap c.release.new.self c.set.new.self c.args.index c.in-Ok.given c.in-Ok.ensures.sets c.release.ensures.releases c.release.ensures.keeps xs (omega (arith, c.requires.inside, list-length c.args.heap.now c.args.root xs is)) is))

pub returns-clause-made : goal.returns-clause-made
returns-clause-made g c =
    let mid = c.cell-cell.new.self in
    let own = c.opened-edit.new.heap in
    let first = made-one c.args.heap.now.made mid.made 1 c.cell-cell.ensures.makes.made in
    let owns : own.made ≤ mid.made + (0 + 1) = c.opened-edit.ensures.edits.trades.made in
    let few : c.set.new.heap.made ≤ own.made + (0 + (height_at own c.opened-edit.result + 1)) = c.in-Ok.ensures.sets.edits.trades.made in
    let low : height_at own c.opened-edit.result ≤ 7 = c.opened-edit.ensures.vector.0.shape.low in
    let all : c.release.new.self.made ≤ c.args.heap.now.made + 10 = omega (arith, first, owns, few, low, c.release.ensures.releases.made) in
    all

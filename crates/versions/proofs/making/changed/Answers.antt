use Rattle.std.proofs.Common.{◌≡◌, ◌+◌, ◌≤◌, Err, ap, sym, subst, arith, length}
use Rattle.std.specs.Prelude.{slice_set}
use Rattle.rrb_core.specs.declared.replace.SetFault.{SetFault}
use Rattle.rrb_core.specs.declared.replace.SetFault.TheVariants.{Range, Memory}
use Rattle.node_heap.specs.Heap.{node_count}
use Rattle.rrb_core.specs.Vector.{elements, height_at}
use Rattle.rrb_core.proofs.CallerLemmas.{extended-same}
use Rattle.versions.specs.Rooted.{value_at, IsListOf}
use Rattle.versions.proofs.ListLemmas.{lists-stay}
use Rattle.versions.proofs.MakingLemmas.{spent-list, cell-value, length-kept, cells-set}
use Rattle.versions.proofs.making.changed.Goals as goal

pub set-requires-clause-good : goal.set-requires-clause-good
set-requires-clause-good g c = rw c.at.ensures (extended-same c.cell-cell.ensures.extends c.args.root c.requires.good).0

pub unreachable-requires : goal.unreachable-requires
unreachable-requires g c = by_fault c.in-Err.field-0 c.in-Err.is
  where
    by_fault : (fault : SetFault) → c.set.result ≡ Err fault → ⊥
    by_fault Range is = let kept = length-kept c.args.heap.now c.cell-cell.new.self c.args.root c.cell-cell.ensures.extends c.requires.good in let seen = ap (λ v. length (elements c.cell-cell.new.self v)) c.at.ensures in absurd (omega (arith, kept, seen, c.set.ensures.range.0 is, c.requires.inside))
    by_fault Memory is = c.set.ensures.ample (omega arith, omega (arith, c.cell-cell.ensures.makes.spare_nodes, c.requires.spares.1)) is

pub returns-clause-makes : goal.returns-clause-makes
returns-clause-makes g c = λ xs is.
    let old = c.args.heap.now in
    let mid = c.cell-cell.new.self in
    let made = c.in-Ok.ensures in
    let at : IsListOf mid c.at.result xs = subst (λ l. IsListOf mid l xs) (sym c.at.ensures) (lists-stay old mid c.cell-cell.ensures.extends c.args.root xs is) in
    let zs = elements mid c.at.result in
    rw c.into_root.ensures
    (spent-list old mid c.set.new.heap c.cell-cell.result c.in-Ok.vector _ c.args.element (slice_set zs c.args.index c.cell-cell.result) (slice_set xs c.args.index c.args.element) c.cell-cell.ensures.adds c.cell-cell.ensures.extends c.cell-cell.ensures.count made.answered made.good made.items
    (cells-set (value_at mid) zs xs c.args.index c.cell-cell.result c.args.element at.cells (cell-value old mid c.cell-cell.result c.args.element c.cell-cell.ensures.adds)))

pub returns-clause-nodes : goal.returns-clause-nodes
returns-clause-nodes g c =
    let mid = c.cell-cell.new.self in
    let first : node_count mid ≡ node_count c.args.heap.now + 0 = c.cell-cell.ensures.makes.nodes in
    let few : node_count c.set.new.heap ≤ node_count mid + (height_at mid c.at.result + 1) = c.in-Ok.ensures.answered.nodes in
    let low : height_at mid c.at.result ≤ 7 = rw c.at.ensures (extended-same c.cell-cell.ensures.extends c.args.root c.requires.good).0.shape.low in
    let all : node_count c.set.new.heap ≤ node_count c.args.heap.now + 8 = omega (arith, first, few, low) in
    all

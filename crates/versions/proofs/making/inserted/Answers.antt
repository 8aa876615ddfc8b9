use Rattle.std.proofs.Common.{◌≡◌, ◌+◌, ◌*◌, ◌≤◌, Err, ap, sym, subst, arith, length}
use Rattle.std.specs.Prelude.{insert}
use Rattle.rrb_join.specs.declared.inserting.InsertFault.{InsertFault}
use Rattle.rrb_join.specs.declared.inserting.InsertFault.TheVariants.{Range, Long, Memory}
use Rattle.node_heap.specs.Heap.{node_count}
use Rattle.rrb_core.specs.Vector.{elements, height_at}
use Rattle.rrb_core.proofs.CallerLemmas.{extended-same}
use Rattle.versions.specs.Rooted.{value_at, IsListOf}
use Rattle.versions.proofs.ListLemmas.{lists-stay}
use Rattle.versions.proofs.MakingLemmas.{spent-list, cell-value, length-kept, cells-inserted}
use Rattle.versions.proofs.making.inserted.Goals as goal

pub insert-requires-clause-good : goal.insert-requires-clause-good
insert-requires-clause-good g c = rw c.at.ensures (extended-same c.cell-cell.ensures.extends c.args.root c.requires.good).0

pub unreachable-requires : goal.unreachable-requires
unreachable-requires g c = by_fault c.in-Err.field-0 c.in-Err.is
  where
    by_fault : (fault : InsertFault) → c.insert.result ≡ Err fault → ⊥
    by_fault Range is = let kept = length-kept c.args.heap.now c.cell-cell.new.self c.args.root c.cell-cell.ensures.extends c.requires.good in let seen = ap (λ v. length (elements c.cell-cell.new.self v)) c.at.ensures in absurd (omega (arith, kept, seen, c.insert.ensures.range.0 is, c.requires.inside))
    by_fault Long is = let kept = length-kept c.args.heap.now c.cell-cell.new.self c.args.root c.cell-cell.ensures.extends c.requires.good in let seen = ap (λ v. length (elements c.cell-cell.new.self v)) c.at.ensures in c.requires.short (omega (arith, kept, seen, (c.insert.ensures.long.0 is).1))
    by_fault Memory is = c.insert.ensures.ample (omega arith, omega (arith, c.cell-cell.ensures.makes.spare_nodes, c.requires.spares.1)) is

pub returns-clause-makes : goal.returns-clause-makes
returns-clause-makes g c = λ xs is.
    let old = c.args.heap.now in
    let mid = c.cell-cell.new.self in
    let made = c.in-Ok.ensures in
    let at : IsListOf mid c.at.result xs = subst (λ l. IsListOf mid l xs) (sym c.at.ensures) (lists-stay old mid c.cell-cell.ensures.extends c.args.root xs is) in
    let zs = elements mid c.at.result in
    rw c.into_root.ensures
    (spent-list old mid c.insert.new.heap c.cell-cell.result c.in-Ok.vector _ c.args.element (insert zs c.args.index c.cell-cell.result) (insert xs c.args.index c.args.element) c.cell-cell.ensures.adds c.cell-cell.ensures.extends c.cell-cell.ensures.count made.answered made.good made.items
    (cells-inserted (value_at mid) zs xs c.args.index c.cell-cell.result c.args.element at.cells (cell-value old mid c.cell-cell.result c.args.element c.cell-cell.ensures.adds)))

pub returns-clause-nodes : goal.returns-clause-nodes
returns-clause-nodes g c =
    let mid = c.cell-cell.new.self in
    let first : node_count mid ≡ node_count c.args.heap.now + 0 = c.cell-cell.ensures.makes.nodes in
    let few : node_count c.insert.new.heap ≤ node_count mid + (2 * height_at mid c.at.result + 3) = c.in-Ok.ensures.answered.nodes in
    let low : height_at mid c.at.result ≤ 7 = rw c.at.ensures (extended-same c.cell-cell.ensures.extends c.args.root c.requires.good).0.shape.low in
    let all : node_count c.insert.new.heap ≤ node_count c.args.heap.now + 17 = omega (arith, first, few, low) in
    all

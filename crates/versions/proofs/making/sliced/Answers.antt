use Rattle.std.proofs.Common.{◌≡◌, ◌+◌, ◌*◌, ◌≤◌, Err, ap, ◌∙◌, arith, length, take, drop}
use Rattle.rrb_join.specs.declared.cutting.SliceFault.{SliceFault}
use Rattle.rrb_join.specs.declared.cutting.SliceFault.TheVariants.{Range, Memory}
use Rattle.node_heap.specs.Heap.{node_count}
use Rattle.rrb_core.specs.Vector.{elements, height_at}
use Rattle.versions.specs.Rooted.{value_at}
use Rattle.versions.proofs.MakingLemmas.{answered-list, cells-taken, cells-dropped}
use Rattle.versions.proofs.making.sliced.Goals as goal

pub unreachable-requires : goal.unreachable-requires
unreachable-requires g c = by_fault c.in-Err.field-0 c.in-Err.is
  where
    by_fault : (fault : SliceFault) → c.slice.result ≡ Err fault → ⊥
    by_fault Range is = let seen = ap (λ v. length (elements c.args.heap.now v)) c.at.ensures in c.slice.ensures.range.0 is (c.requires.order, omega (arith, c.requires.inside, seen))
    by_fault Memory is = c.slice.ensures.ample (omega arith, omega (arith, c.requires.spares.1)) is

pub returns-clause-makes : goal.returns-clause-makes
returns-clause-makes g c = λ xs is.
    let old = c.args.heap.now in
    let made = c.in-Ok.ensures in
    let zs = elements old c.args.root in
    rw c.into_root.ensures (answered-list old c.slice.new.heap c.in-Ok.vector _ (drop c.args.from (take c.args.to zs)) (drop c.args.from (take c.args.to xs)) made.answered made.good (made.items ∙ ap (λ v. drop c.args.from (take c.args.to (elements old v))) c.at.ensures) (cells-dropped (value_at old) (take c.args.to zs) (take c.args.to xs) c.args.from (cells-taken (value_at old) zs xs c.args.to is.cells)))

pub returns-clause-nodes : goal.returns-clause-nodes
returns-clause-nodes g c =
    let old = c.args.heap.now in
    let few : node_count c.slice.new.heap ≤ node_count old + (3 * height_at old c.at.result + 2) = c.in-Ok.ensures.answered.nodes in
    let low : height_at old c.at.result ≤ 7 = rw c.at.ensures c.requires.good.shape.low in
    let all : node_count c.slice.new.heap ≤ node_count old + 25 = omega (arith, few, low) in
    all

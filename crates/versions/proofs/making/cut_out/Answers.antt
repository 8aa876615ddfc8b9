use Rattle.std.proofs.Common.{◌≡◌, ◌+◌, ◌*◌, ◌≤◌, ◌++◌, Err, ap, ◌∙◌, arith, length, take, drop, suc, subst}
use Rattle.rrb_join.specs.declared.cutting.SliceFault.{SliceFault}
use Rattle.rrb_join.specs.declared.cutting.SliceFault.TheVariants.{Range, Memory}
use Rattle.node_heap.specs.Heap.{node_count}
use Rattle.rrb_core.specs.Vector.{elements, height_at}
use Rattle.versions.specs.Roots.{Makes}
use Rattle.versions.specs.Rooted.{value_at, IsListOf}
use Rattle.versions.proofs.MakingLemmas.{answered-list, cells-taken, cells-dropped, cells-both}
use Rattle.versions.proofs.making.cut_out.Goals as goal

pub unreachable-requires : goal.unreachable-requires
unreachable-requires g c = by_fault c.in-Err.field-0 c.in-Err.is
  where
    by_fault : (fault : SliceFault) → c.erase.result ≡ Err fault → ⊥
    by_fault Range is =
        let seen = ap (λ v. length (elements c.args.heap.now v)) c.at.ensures in
        c.erase.ensures.range.0 is (omega arith, omega (arith, c.requires.inside, seen))
    by_fault Memory is = c.erase.ensures.ample (omega arith, omega (arith, c.requires.spares.1)) is

pub returns-clause-makes : goal.returns-clause-makes
returns-clause-makes g c = λ xs is.
    let old = c.args.heap.now in
    let made = c.in-Ok.ensures in
    let zs = elements old c.args.root in
    let n = c.args.index in
    let next : n + 1 ≡ suc n = omega arith in
    rw c.into_root.ensures (subst (λ j. Makes IsListOf old c.erase.new.heap c.in-Ok.vector (take n xs ++ drop j xs)) next
    (answered-list old c.erase.new.heap c.in-Ok.vector _ (take n zs ++ drop (n + 1) zs) (take n xs ++ drop (n + 1) xs) made.answered made.good (made.items ∙ ap (λ v. take n (elements old v) ++ drop (n + 1) (elements old v)) c.at.ensures)
    (cells-both (value_at old) (take n zs) (drop (n + 1) zs) (take n xs) (drop (n + 1) xs) (cells-taken (value_at old) zs xs n is.cells) (cells-dropped (value_at old) zs xs (n + 1) is.cells))))

pub returns-clause-nodes : goal.returns-clause-nodes
returns-clause-nodes g c =
    let old = c.args.heap.now in
    let few : node_count c.erase.new.heap ≤ node_count old + (5 * height_at old c.at.result + 5) = c.in-Ok.ensures.answered.nodes in
    let low : height_at old c.at.result ≤ 7 = rw c.at.ensures c.requires.good.shape.low in
    let all : node_count c.erase.new.heap ≤ node_count old + 42 = omega (arith, few, low) in
    all

use Rattle.std.proofs.Common.{◌≡◌, ◌+◌, ◌*◌, ◌≤◌, ◌++◌, Err, ap, ◌∙◌, arith, length, max}
use Rattle.std.proofs.Math.Nat.{max-le}
use Rattle.rrb_join.specs.declared.joining.JoinFault.{JoinFault}
use Rattle.rrb_join.specs.declared.joining.JoinFault.TheVariants.{Long, Memory}
use Rattle.node_heap.specs.Heap.{node_count}
use Rattle.rrb_core.specs.Vector.{elements, height_at}
use Rattle.versions.specs.Rooted.{value_at}
use Rattle.versions.proofs.MakingLemmas.{answered-list, cells-both}
use Rattle.versions.proofs.making.joined.Goals as goal

pub unreachable-requires : goal.unreachable-requires
unreachable-requires g c = by_fault c.in-Err.field-0 c.in-Err.is
  where
    by_fault : (fault : JoinFault) → c.concat.result ≡ Err fault → ⊥
    by_fault Long is = absurd (omega (arith, c.concat.ensures.long.0 is, c.requires.short, ap (λ v. length (elements c.args.heap.now v)) c.at.ensures, ap (λ v. length (elements c.args.heap.now v)) c.at-2.ensures))
    by_fault Memory is = c.concat.ensures.ample (omega arith, omega (arith, c.requires.spares.1)) is

pub returns-clause-makes : goal.returns-clause-makes
returns-clause-makes g c = λ xs ys is are.
    let old = c.args.heap.now in
    let made = c.in-Ok.ensures in
    rw c.into_root.ensures (answered-list old c.concat.new.heap c.in-Ok.vector _ (elements old c.args.left ++ elements old c.args.right) (xs ++ ys) made.answered made.good (made.items ∙ (λ i. elements old (c.at.ensures i) ++ elements old (c.at-2.ensures i))) (cells-both (value_at old) (elements old c.args.left) (elements old c.args.right) xs ys is.cells are.cells))

pub returns-clause-nodes : goal.returns-clause-nodes
returns-clause-nodes g c =
    let old = c.args.heap.now in
    let few : node_count c.concat.new.heap ≤ node_count old + (2 * max (height_at old c.at.result) (height_at old c.at-2.result) + 3) = c.in-Ok.ensures.answered.nodes in
    let left : height_at old c.at.result ≤ 7 = rw c.at.ensures c.requires.left.shape.low in
    let right : height_at old c.at-2.result ≤ 7 = rw c.at-2.ensures c.requires.right.shape.low in
    let both : max (height_at old c.at.result) (height_at old c.at-2.result) ≤ 7 = max-le left right in
    let all : node_count c.concat.new.heap ≤ node_count old + 17 = omega (arith, few, both) in
    all

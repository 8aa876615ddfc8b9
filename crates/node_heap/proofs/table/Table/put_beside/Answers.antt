use Rattle.std.proofs.Common.{◌≢◌, ℕ, ◌%◌, ◌≡◌, refl, ap, arith, length}
use Rattle.node_heap.proofs.Placed.{node-links, puts-node, IsTable-node}
use Rattle.node_heap.proofs.table.Table.put_beside.Goals as goal

odd-place : (k : ℕ) → k % 8 ≡ 5 → k % 2 ≢ 0
odd-place k is none = omega (arith, is, none)

pub put_beside-requires-clause-large : goal.put_beside-requires-clause-large
put_beside-requires-clause-large g c = omega (arith, c.if-place-eq5.true)

pub put_beside-requires-clause-position : goal.put_beside-requires-clause-position
put_beside-requires-clause-position g c = omega (arith, c.requires.index, ap length (node-links c.self.inside.cells.items c.self.inside.nodes c.self.view_is c.args.place (odd-place _ c.if-place-eq5.true)))

pub invariant_of-self : goal.invariant_of-self
invariant_of-self g c = IsTable-node c.self.invariant _ (omega (arith, c.put_beside.ensures.len, c.put_beside.ensures.spares))

pub returns-then-place-eq5-clause-puts : goal.returns-then-place-eq5-clause-puts
returns-then-place-eq5-clause-puts g c =
    let put = c.put_beside.ensures in
    let i = c.self.inside in
    rw (node-links c.self.inside.cells.items c.self.inside.nodes c.self.view_is c.args.place (odd-place _ c.if-place-eq5.true))
    (rw (← c.self.view_is) (puts-node i.cells.items i.nodes.slots c.put_beside.new.self.slots c.put_beside.result _ refl put.was put.now put.others put.low put.len))

use Rattle.std.proofs.Common.{arith}
use Rattle.node_heap.proofs.Frames.{Unchanged-refl, KeepsHeld-Unchanged, KeepsTrees-Unchanged}
use Rattle.node_heap.proofs.Stored.{IsGraph-stored, Unchanged-stored, IsHeap-reserved}
use Rattle.node_heap.proofs.Owners.{KeepsOwners-Unchanged}
use Rattle.node_heap.proofs.heap.Heap.reserve.Goals as goal

pub returns-then-nodes-old_nodes-clause-rest : goal.returns-then-nodes-old_nodes-clause-rest
returns-then-nodes-old_nodes-clause-rest g c = Unchanged-refl _ (rw (← c.self.view_is) (IsGraph-stored _ _ _ _ c.self.invariant))

pub returns-then-nodes-old_nodes-clause-owners : goal.returns-then-nodes-old_nodes-clause-owners
returns-then-nodes-old_nodes-clause-owners g c = KeepsOwners-Unchanged _ _ (returns-then-nodes-old_nodes-clause-rest g c)

pub returns-then-nodes-old_nodes-clause-keeps : goal.returns-then-nodes-old_nodes-clause-keeps
returns-then-nodes-old_nodes-clause-keeps g c = KeepsHeld-Unchanged _ _ (rw (← c.self.view_is) (IsGraph-stored _ _ _ _ c.self.invariant)) (returns-then-nodes-old_nodes-clause-rest g c)

pub returns-then-spare_cells-ge-ROWS-clause-rest : goal.returns-then-spare_cells-ge-ROWS-clause-rest
returns-then-spare_cells-ge-ROWS-clause-rest g c = Unchanged-refl _ (rw (← c.self.view_is) (IsGraph-stored _ _ _ _ c.self.invariant))

pub returns-then-spare_cells-ge-ROWS-clause-owners : goal.returns-then-spare_cells-ge-ROWS-clause-owners
returns-then-spare_cells-ge-ROWS-clause-owners g c = KeepsOwners-Unchanged _ _ (returns-then-spare_cells-ge-ROWS-clause-rest g c)

pub returns-then-spare_cells-ge-ROWS-clause-keeps : goal.returns-then-spare_cells-ge-ROWS-clause-keeps
returns-then-spare_cells-ge-ROWS-clause-keeps g c = KeepsHeld-Unchanged _ _ (rw (← c.self.view_is) (IsGraph-stored _ _ _ _ c.self.invariant)) (returns-then-spare_cells-ge-ROWS-clause-rest g c)

pub returns-then-len-spare_cells-ge-ROWS-clause-rest : goal.returns-then-len-spare_cells-ge-ROWS-clause-rest
returns-then-len-spare_cells-ge-ROWS-clause-rest g c = Unchanged-refl _ (rw (← c.self.view_is) (IsGraph-stored _ _ _ _ c.self.invariant))

pub returns-then-len-spare_cells-ge-ROWS-clause-owners : goal.returns-then-len-spare_cells-ge-ROWS-clause-owners
returns-then-len-spare_cells-ge-ROWS-clause-owners g c = KeepsOwners-Unchanged _ _ (returns-then-len-spare_cells-ge-ROWS-clause-rest g c)

pub returns-then-len-spare_cells-ge-ROWS-clause-keeps : goal.returns-then-len-spare_cells-ge-ROWS-clause-keeps
returns-then-len-spare_cells-ge-ROWS-clause-keeps g c = KeepsHeld-Unchanged _ _ (rw (← c.self.view_is) (IsGraph-stored _ _ _ _ c.self.invariant)) (returns-then-len-spare_cells-ge-ROWS-clause-rest g c)

pub invariant_of-self : goal.invariant_of-self
invariant_of-self g c = rw c.in_err-reserve.ensures.refused c.self.invariant

pub returns-in_err-reserve-clause-rest : goal.returns-in_err-reserve-clause-rest
returns-in_err-reserve-clause-rest g c =
    rw (← c.self.view_is, c.in_err-reserve.ensures.refused) (Unchanged-refl _ (IsGraph-stored _ _ _ _ c.self.invariant))

pub returns-in_err-reserve-clause-owners : goal.returns-in_err-reserve-clause-owners
returns-in_err-reserve-clause-owners g c = KeepsOwners-Unchanged _ _ (returns-in_err-reserve-clause-rest g c)

pub returns-in_err-reserve-clause-keeps : goal.returns-in_err-reserve-clause-keeps
returns-in_err-reserve-clause-keeps g c = KeepsHeld-Unchanged _ _ (rw (← c.self.view_is) (IsGraph-stored _ _ _ _ c.self.invariant)) (returns-in_err-reserve-clause-rest g c)

pub returns-in_err-reserve-clause-trees : goal.returns-in_err-reserve-clause-trees
returns-in_err-reserve-clause-trees g c = KeepsTrees-Unchanged _ _ (returns-in_err-reserve-clause-rest g c)

pub invariant_of-self-2 : goal.invariant_of-self-2
invariant_of-self-2 g c =
    let done = c.in_ok-reserve.ensures in
    IsHeap-reserved c.self.inside.table.slots _ _ _ _ _ _ c.reserve.ensures.slots c.self.invariant
    (omega (arith, c.len.ensures, c.if-len-spare_cells-ge-ROWS.false, done.cells, done.nodes))

pub returns-clause-rest : goal.returns-clause-rest
returns-clause-rest g c =
    let done = c.in_ok-reserve.ensures in
    rw (← c.self.view_is) (Unchanged-stored c.self.inside.table.slots _ _ _ _ _ _ c.reserve.ensures.slots (invariant_of-self-2 g c)
    (omega (arith, done.cells, c.spare_cells-old_cells.ensures, c.max-spare_cells.ensures)) (omega (arith, done.nodes, c.spare_nodes-old_nodes.ensures, c.max-spare_nodes.ensures)))

pub returns-clause-owners : goal.returns-clause-owners
returns-clause-owners g c = KeepsOwners-Unchanged _ _ (returns-clause-rest g c)

pub returns-clause-keeps : goal.returns-clause-keeps
returns-clause-keeps g c = KeepsHeld-Unchanged _ _ (rw (← c.self.view_is) (IsGraph-stored _ _ _ _ c.self.invariant)) (returns-clause-rest g c)

pub returns-clause-trees : goal.returns-clause-trees
returns-clause-trees g c = KeepsTrees-Unchanged _ _ (returns-clause-rest g c)

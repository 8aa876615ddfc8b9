-- What changes nothing, and what is spare once a row was released.
use Rattle.std.proofs.Common.{ℕ, [], arith}
use Rattle.node_heap.specs.Heap.{Heap, IsGraph}
use Rattle.node_heap.specs.Calls.{KeepsToNeed, Releases}
use Rattle.node_heap.specs.InPlace.{Changes}
use Rattle.node_heap.proofs.CallerLemmas.{Unchanged-refl, Changes-more, Changes-Unchanged}

-- where nothing changes, that is a change of nothing
pub changes-none : {T : Type 0} (first : ℕ) (h : Heap T) (n : ℕ) → IsGraph h → Changes first h h [] [] 0 n
changes-none first h n graph = Changes-more 0 n (Changes-Unchanged first graph (Unchanged-refl h graph)) (omega arith) (omega arith)

-- what was released is spare then
pub released-need : {T : Type 0} {old mid new : Heap T} {cells nodes link : ℕ} → KeepsToNeed old mid cells nodes → Releases mid new link → KeepsToNeed old new cells nodes
released-need need rel = record { few_cells = omega (arith, need.few_cells, rel.cells); few_nodes = omega (arith, need.few_nodes, rel.nodes) }

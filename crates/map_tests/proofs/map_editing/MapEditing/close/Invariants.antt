use Rattle.std.proofs.Common.{length}
use Rattle.node_heap.specs.Calls.{HasHolds}
use Rattle.map_tests.proofs.HeldLemmas.{roots}
use Rattle.map_tests.proofs.map_editing.MapEditing.close.Given as goal

-- those that are left are held
abbrev pub invariant-loop-map : goal.invariant-loop-map
invariant-loop-map g l = HasHolds l.heap (roots l.maps.items)

-- each turn gives up one
abbrev pub decreases-loop-map : goal.decreases-loop-map
decreases-loop-map g l = length l.maps.items

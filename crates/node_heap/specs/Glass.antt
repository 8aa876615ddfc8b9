-- What a glass shows.
use Rattle.node_heap.specs.Heap.{Heap}
use Rattle.node_heap.specs.declared.glass.Glass.{Glass}

-- the heap that it lends
abbrev pub lent : {T : Type 0} → Glass T → Heap T
lent glass = glass.heap.now

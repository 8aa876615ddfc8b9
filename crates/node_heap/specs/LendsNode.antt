-- What the nodes of a table end as, where the owners of one are lent.
use Rattle.std.specs.Prelude.{ℕ, slice_set}
use Rattle.std.specs.Borrow.{Lends, Fml, MutBor, usize}
use Rattle.node_heap.specs.Nodes.{Nodes, RoomsOf, node_at, owned_by}
use Rattle.node_heap.specs.declared.row.Head.{Head}
use Rattle.node_heap.specs.contracts.nodes.Nodes as nodes
use Rattle.node_heap.specs.contracts.rows.Rows as rows
use Rattle.node_heap.specs.contracts.tries.Tries as tries

-- the node at the index has as many owners as r says last
abbrev pub LendsRowOwners : MutBor (RoomsOf Head) → ℕ → MutBor ℕ → Fml
LendsRowOwners lent index r = Lends rows.the_row usize lent r (λ n. record lent.now { slots = slice_set lent.now.slots index (owned_by n (node_at lent.now.slots index)) })

abbrev pub LendsTrieOwners : MutBor (RoomsOf Head) → ℕ → MutBor ℕ → Fml
LendsTrieOwners lent index r = Lends tries.the_row usize lent r (λ n. record lent.now { slots = slice_set lent.now.slots index (owned_by n (node_at lent.now.slots index)) })

abbrev pub LendsNodeOwners : MutBor Nodes → ℕ → MutBor ℕ → Fml
LendsNodeOwners lent index r = Lends nodes.the_row usize lent r (λ n. record lent.now { slots = slice_set lent.now.slots index (owned_by n (node_at lent.now.slots index)) })

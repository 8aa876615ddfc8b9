use Rattle.std.proofs.Common.{◌≡◌, length, map}
use Rattle.node_heap.specs.Heap.{form_at}
use Rattle.champ_trie.specs.Stack.{rows_on, next_first, walk_left, IsStack}
use Rattle.champ_trie.specs.declared.walk.TheConstants.{LAYERS}
use Rattle.champ_trie.proofs.walk.EntriesIterator.next.Given as goal

abbrev pub invariant-loop-self : goal.invariant-loop-self
invariant-loop-self g l =
    record {
      stack : IsStack (form_at l.self-inside.heap.now) LAYERS (map (λ r. r.now) l.self-inside.rows.items);
      left : l.fn.self ≡ walk_left l.self-inside.heap.now l.self-inside.own.now (map (λ r. r.now) l.self-inside.rows.items);
    }

abbrev pub decreases-loop-self : goal.decreases-loop-self
decreases-loop-self g l = length (rows_on l.self-inside.heap.now (next_first (map (λ r. r.now) l.self-inside.rows.items)))

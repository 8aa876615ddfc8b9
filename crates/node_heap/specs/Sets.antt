-- What lies of the head of a trie's row with its links.
use Rattle.node_heap.specs.declared.row.Head.{Head}
use Rattle.node_heap.specs.declared.row.Head.TheVariants as head
use Rattle.node_heap.specs.declared.sets.Sets.{Sets}
use Rattle.node_heap.specs.declared.sets.Sets.TheVariants.{Trie, Odd}

abbrev pub sets_said : Head → Sets
sets_said head.Leaf = Odd
sets_said (head.Inner _ _) = Odd
sets_said (head.Trie depth entries nodes) = Trie depth entries nodes
sets_said head.Chain = Odd
sets_said head.Pair = Odd
sets_said head.State = Odd

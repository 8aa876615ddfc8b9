-- What the calls say that read a part of a head.
use Rattle.std.specs.Prelude.{◌≡◌, ℕ, List, [], Option, Some, None}
use Rattle.node_heap.specs.Forms.{Row, Form, head_of, sums_of, node, leaf, inner, trie, chain, pair, state}
use Rattle.node_heap.specs.Forms.{Kind as Told}
use Rattle.node_heap.specs.declared.row.Head.{Head}
use Rattle.node_heap.specs.declared.row.Kind.{Kind}
use Rattle.node_heap.specs.declared.row.Kind.TheVariants.{Leaf, Inner, Trie, Chain, Pair, State}

-- the kind that the call says
abbrev pub kind_said : Kind → Told
kind_said Leaf = leaf
kind_said (Inner height) = inner height
kind_said (Trie depth entries nodes) = trie depth entries nodes
kind_said Chain = chain
kind_said Pair = pair
kind_said State = state

abbrev pub sums_or : Option Head → List ℕ
sums_or None = []
sums_or (Some head) = sums_of head

-- the sums of a row
abbrev pub sums_in : {T : Type 0} → Option (Row T) → List ℕ
sums_in r = sums_or (head_of r)

-- the form is that of a row of a trie, with these sets and links
abbrev pub IsTrieForm : {K : Type 0} → Option (Form K) → ℕ → ℕ → List ℕ → Type 0
IsTrieForm form entries nodes links = (depth : ℕ) × (form ≡ Some (node (trie depth entries nodes) links))

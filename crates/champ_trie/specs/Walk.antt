-- The walk over the entries of a trie.
use Rattle.std.specs.Prelude.{ℕ, zero, suc, ◌+◌, List, [], ◌∷◌, ◌++◌, take, drop, Option, Some, None}
use Rattle.std.specs.List.{flat_map}
use Rattle.elem_core.specs.declared.codes.TheConstants.{LEVELS}
use Rattle.node_heap.specs.Links.{Links, Reaches}
use Rattle.node_heap.specs.Forms.{Form, Forms, Kind, cell, node, leaf, inner, trie, chain, pair, state, links_of, Tree, Trees, cut, tree_cell, tree_node, no_trees, tree_then}
use Rattle.node_heap.specs.Heap.{Heap, form_at, live_count}
use Rattle.champ_trie.specs.Bits.{rank}

-- how many links of a row of this kind are entries, which come first: as many as a trie row's set of entries has, and one in a
-- chain row
abbrev pub entries_first : Kind → ℕ
entries_first leaf = 0
entries_first (inner _) = 0
entries_first (trie _ entries _) = rank entries 32
entries_first chain = 1
entries_first pair = 0
entries_first state = 0

abbrev mutual
  -- the trees of the entries of a trie with this tree, in the order of the walk: those of the root, and then those of the rows
  -- below it in turn
  pub tree_entries : {K : Type 0} → Tree K → List (Tree K)
  tree_entries cut = []
  tree_entries (tree_cell x) = []
  tree_entries (tree_node kind ts) = entries_among (entries_first kind) ts

  -- the same of the trees of a row's links, of which the first so many are entries
  pub entries_among : {K : Type 0} → ℕ → Trees K → List (Tree K)
  entries_among n no_trees = []
  entries_among zero (tree_then t ts) = tree_entries t ++ entries_among zero ts
  entries_among (suc n) (tree_then t ts) = t ∷ entries_among n ts

module _ {K : Type 0} where
  -- how many links of a row are entries, and none of a cell
  abbrev pub entry_count : Option (Form K) → ℕ
  entry_count None = 0
  entry_count (Some (cell _)) = 0
  entry_count (Some (node kind _)) = entries_first kind

  -- a row's entries, and the rows below it
  abbrev pub own_entries : Option (Form K) → List ℕ
  own_entries r = take (entry_count r) (links_of r)

  abbrev pub rows_below : Option (Form K) → List ℕ
  rows_below r = drop (entry_count r) (links_of r)

  -- the trie and chain rows right below a trie or chain row
  abbrev pub row_links : Forms K → Links
  row_links F l = rows_below (F l)

  -- the root reaches this trie or chain row through trie and chain rows
  abbrev pub ReachesRow : Forms K → ℕ → ℕ → Type 0
  ReachesRow F root l = Reaches (row_links F) root l

  -- a row, and then those below it in turn, each before the rows below it, down to so many
  unfoldable pub rows_from : ℕ → Forms K → ℕ → List ℕ
  rows_from zero F l = []
  rows_from (suc n) F l = l ∷ flat_map (rows_from n F) (rows_below (F l))

  -- the entries of these rows in turn
  abbrev pub entries_of : Forms K → List ℕ → List ℕ
  entries_of F rows = flat_map (λ l. own_entries (F l)) rows

module _ {T : Type 0} where
  -- more than the rows of any way down from a root: trie rows, and then at most all rows in one chain
  abbrev pub depth_of : Heap T → ℕ
  depth_of h = LEVELS + 1 + live_count h

  -- the links of the entries of a trie in the order of the walk: those of each row, and then those of the rows below it
  abbrev pub walk : Heap T → ℕ → List ℕ
  walk h root = entries_of (form_at h) (rows_from (depth_of h) (form_at h) root)

-- What a link names: rows, forms, which are rows without their sums, and what they unfold to.
use Rattle.std.specs.Prelude.{◌≡◌, ℕ, List, [], ◌∷◌, Option, Some, None, option_map}
use Rattle.node_heap.specs.Links.{Links, SameBelow}
use Rattle.node_heap.specs.declared.row.Head.{Head}
use Rattle.node_heap.specs.declared.row.Head.TheVariants.{Leaf, Inner, Trie, Chain, Pair, State}

-- a cell with a value, or a node with a head and links
pub data RowOf (H K : Type 0) : Type 0 where
  cell : K → RowOf H K
  node : H → List ℕ → RowOf H K

-- a head without its sums: an inner row has a height, a trie row a depth, its entries and its nodes
pub data Kind : Type 0 where
  leaf : Kind
  inner : ℕ → Kind
  trie : ℕ → ℕ → ℕ → Kind
  chain : Kind
  pair : Kind
  state : Kind

abbrev pub Row : Type 0 → Type 0
Row T = RowOf Head T

abbrev pub Form : Type 0 → Type 0
Form K = RowOf Kind K

-- the row that each link names
abbrev pub Rows : Type 0 → Type 0
Rows T = ℕ → Option (Row T)

-- the form that each link names
abbrev pub Forms : Type 0 → Type 0
Forms K = ℕ → Option (Form K)

module _ {H K : Type 0} where
  -- a cell has no links
  abbrev pub links_of : Option (RowOf H K) → List ℕ
  links_of None = []
  links_of (Some (cell _)) = []
  links_of (Some (node _ links)) = links

  abbrev pub value_of : Option (RowOf H K) → Option K
  value_of None = None
  value_of (Some (cell x)) = Some x
  value_of (Some (node _ _)) = None

  -- of a form this is its kind
  abbrev pub head_of : Option (RowOf H K) → Option H
  head_of None = None
  head_of (Some (cell _)) = None
  head_of (Some (node head _)) = Some head

  -- the links of each row
  abbrev pub links_in : (ℕ → Option (RowOf H K)) → Links
  links_in G l = links_of (G l)

  -- 1 for a cell, and else 0
  abbrev pub is_cell : Option (RowOf H K) → ℕ
  is_cell None = 0
  is_cell (Some (cell _)) = 1
  is_cell (Some (node _ _)) = 0

  -- 1 for a node, and else 0
  abbrev pub is_node : Option (RowOf H K) → ℕ
  is_node None = 0
  is_node (Some (cell _)) = 0
  is_node (Some (node _ _)) = 1

abbrev pub kind_of : Head → Kind
kind_of Leaf = leaf
kind_of (Inner height _) = inner height
kind_of (Trie depth entries nodes) = trie depth entries nodes
kind_of Chain = chain
kind_of Pair = pair
kind_of State = state

-- the sums of an inner row
abbrev pub sums_of : Head → List ℕ
sums_of Leaf = []
sums_of (Inner _ sums) = sums
sums_of (Trie _ _ _) = []
sums_of Chain = []
sums_of Pair = []
sums_of State = []

-- a row without its sums
abbrev pub form_of : {T : Type 0} → Row T → Form T
form_of (cell x) = cell x
form_of (node head links) = node (kind_of head) links

-- the forms of rows
abbrev pub forms_of : {T : Type 0} → Rows T → Forms T
forms_of G l = option_map form_of (G l)

mutual
  -- what a link unfolds to: a cell's value, or a kind with the trees of the links; below a depth it is cut
  pub data Tree (K : Type 0) : Type 0 where
    cut : Tree K
    tree_cell : K → Tree K
    tree_node : Kind → Trees K → Tree K

  pub data Trees (K : Type 0) : Type 0 where
    no_trees : Trees K
    tree_then : Tree K → Trees K → Trees K

abbrev pub trees_of : {K : Type 0} → List (Tree K) → Trees K
trees_of [] = no_trees
trees_of (t ∷ ts) = tree_then t (trees_of ts)

mutual
  -- the link unfolds to the tree
  pub data IsTree {K : Type 0} (G : Forms K) : ℕ → Tree K → Type 0 where
    is_cell_tree : (l : ℕ) (x : K) → G l ≡ Some (cell x) → IsTree G l (tree_cell x)
    is_node_tree : (l : ℕ) (kind : Kind) (links : List ℕ) (ts : Trees K) → G l ≡ Some (node kind links) → AreTrees G links ts → IsTree G l (tree_node kind ts)

  -- the links unfold to the trees, one by one
  pub data AreTrees {K : Type 0} (G : Forms K) : List ℕ → Trees K → Type 0 where
    are_none : AreTrees G [] no_trees
    are_then : (k : ℕ) (t : Tree K) (ks : List ℕ) (ts : Trees K) → IsTree G k t → AreTrees G ks ts → AreTrees G (k ∷ ks) (tree_then t ts)

mutual
  -- the trees are equal but for the values of their cells, which are similar
  pub data SimilarTree {K : Type 0} (Similar : K → K → Type 0) : Tree K → Tree K → Type 0 where
    similar_cut : SimilarTree Similar cut cut
    similar_cell : (x y : K) → Similar x y → SimilarTree Similar (tree_cell x) (tree_cell y)
    similar_node : (kind : Kind) (ts us : Trees K) → SimilarTrees Similar ts us → SimilarTree Similar (tree_node kind ts) (tree_node kind us)

  -- so many trees on both sides, similar one by one
  pub data SimilarTrees {K : Type 0} (Similar : K → K → Type 0) : Trees K → Trees K → Type 0 where
    similar_none : SimilarTrees Similar no_trees no_trees
    similar_then : (t u : Tree K) (ts us : Trees K) → SimilarTree Similar t u → SimilarTrees Similar ts us → SimilarTrees Similar (tree_then t ts) (tree_then u us)

-- what a link unfolds to depends on the rows alone that it reaches
abbrev pub TreesFollowReached : Type 0 → Type 0
TreesFollowReached K = (G G' : Forms K) (l : ℕ) (t : Tree K) → SameBelow (links_in G) G G' l → IsTree G l t → IsTree G' l t

-- a link unfolds to one tree and to no other
pub record HasOneTree {K : Type 0} (G : Forms K) (l : ℕ) : Type 0 where
  pub tree : Tree K
  pub unfolds : IsTree G l tree
  pub only : (t : Tree K) → IsTree G l t → t ≡ tree

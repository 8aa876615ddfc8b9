-- The test of the roots' kinds.
use Rattle.std.specs.Prelude.{ℕ, zero, suc, Bool, true, false, ◌&&◌, ◌||◌, ◌==◌, nat_le, List, [], ◌∷◌, length, Option, Some}
use Rattle.std.specs.List.{list_all}
use Rattle.elem_core.specs.Naming.{is_name}
use Rattle.node_heap.specs.Forms.{Form, Forms, cell, node, leaf, inner, trie, pair, state, links_in}
use Rattle.rrb_core.specs.Seq.{height_in}
use Rattle.pool_text.specs.Rows.{Bytes}
use Rattle.pool_text.specs.Pool.{forms_in, row_count}
use Rattle.pool_text.specs.declared.pool.Pool.{Pool}
use Rattle.pool_check.specs.declared.root.RootKind.{RootKind}
use Rattle.pool_check.specs.declared.root.RootKind.TheVariants.{Lines, Cells, CellMap, LinesMap, Names, NamedLines, State, Versions, History}
use Rattle.pool_check.specs.Vectors.{length_at}
use Rattle.pool_check.specs.Tries.{entries_below}

-- the test holds of both links of a pair, or of a state
abbrev pub both_pass : (ℕ → Bool) → (ℕ → Bool) → List ℕ → Bool
both_pass p q (k ∷ m ∷ []) = p k && q m
both_pass p q _ = false

module _ {K : Type 0} where
  -- whether the row is a leaf, or an inner row of two links or more
  abbrev pub is_vector_root : Option (Form K) → Bool
  is_vector_root (Some (node leaf _)) = true
  is_vector_root (Some (node (inner _) links)) = nat_le 2 (length links)
  is_vector_root _ = false

  abbrev pub is_trie_root : Option (Form K) → Bool
  is_trie_root (Some (node (trie depth _ _) _)) = depth == 0
  is_trie_root _ = false

  abbrev pub is_pair_of : (ℕ → Bool) → (ℕ → Bool) → Option (Form K) → Bool
  is_pair_of p q (Some (node pair links)) = both_pass p q links
  is_pair_of p q _ = false

  abbrev pub is_state_of : (ℕ → Bool) → (ℕ → Bool) → Option (Form K) → Bool
  is_state_of p q (Some (node state links)) = both_pass p q links
  is_state_of p q _ = false

  abbrev pub is_cell_of : (K → Bool) → Option (Form K) → Bool
  is_cell_of p (Some (cell x)) = p x
  is_cell_of p _ = false

  -- the test holds of each element below a row of this height
  unfoldable pub elements_pass : Forms K → (ℕ → Bool) → ℕ → ℕ → Bool
  elements_pass F test zero l = list_all test (links_in F l)
  elements_pass F test (suc n) l = list_all (elements_pass F test n) (links_in F l)

  -- whether the link is the root of a vector of such elements
  abbrev pub is_vector_of : Forms K → (ℕ → Bool) → ℕ → Bool
  is_vector_of F test l = is_vector_root (F l) && elements_pass F test (height_in F l) l

-- what the roots of a space are
abbrev pub space_kinds : List RootKind
space_kinds = State ∷ Versions ∷ History ∷ History ∷ []

-- in a batch a further state stands behind them
abbrev pub batch_kinds : List RootKind
batch_kinds = State ∷ Versions ∷ History ∷ History ∷ State ∷ []

module _ (n : ℕ) (F : Forms Bytes) where
  -- whether the link is the root of a trie of such entries
  abbrev pub is_trie_of : (ℕ → Bool) → ℕ → Bool
  is_trie_of test l = is_trie_root (F l) && list_all (λ e. test e.link) (entries_below n F l)

  abbrev pub is_any_cell : ℕ → Bool
  is_any_cell l = is_cell_of (λ _. true) (F l)

  abbrev pub is_name_cell : ℕ → Bool
  is_name_cell l = is_cell_of is_name (F l)

  abbrev pub is_lines_vector : ℕ → Bool
  is_lines_vector = is_vector_of F (λ k. is_cell_of (λ _. true) (F k))

  -- a set of cells, a map from cells to cells, and one from cells to vectors of cells
  abbrev pub is_cell_set : ℕ → Bool
  is_cell_set = is_trie_of is_any_cell

  abbrev pub is_cell_map : ℕ → Bool
  is_cell_map = is_trie_of (λ e. is_pair_of is_any_cell is_any_cell (F e))

  abbrev pub is_lines_map : ℕ → Bool
  is_lines_map = is_trie_of (λ e. is_pair_of is_any_cell is_lines_vector (F e))

  abbrev pub is_buffer_map : ℕ → Bool
  is_buffer_map = is_trie_of (λ e. is_pair_of is_name_cell is_lines_vector (F e))

  abbrev pub is_stars_set : ℕ → Bool
  is_stars_set = is_trie_of is_name_cell

  abbrev pub is_state : ℕ → Bool
  is_state l = is_state_of is_buffer_map is_stars_set (F l)

  abbrev pub is_versions_map : ℕ → Bool
  is_versions_map = is_trie_of (λ e. is_pair_of is_name_cell is_state (F e))

  abbrev pub is_history : ℕ → Bool
  is_history = is_vector_of F is_state

  -- whether the link is the root of what the kind says
  abbrev pub is_of : RootKind → ℕ → Bool
  is_of Lines = is_lines_vector
  is_of Cells = is_cell_set
  is_of CellMap = is_cell_map
  is_of LinesMap = is_lines_map
  is_of Names = is_stars_set
  is_of NamedLines = is_buffer_map
  is_of State = is_state
  is_of Versions = is_versions_map
  is_of History = is_history

  -- whether there are as many roots as kinds, each of its own
  abbrev pub are_of : List RootKind → List ℕ → Bool
  are_of [] [] = true
  are_of (kind ∷ kinds) (root ∷ roots) = is_of kind root && are_of kinds roots
  are_of _ _ = false

  -- the roots are those of a space, or of one in a batch
  unfoldable pub are_roots : List ℕ → Bool
  are_roots roots = are_of space_kinds roots || are_of batch_kinds roots

-- a space's roots are of their kinds
unfoldable pub roots_are_of_kind : Pool → Bool
roots_are_of_kind P = are_roots (row_count P) (forms_in P) P.roots

-- the third root, which is undo, has no more elements than so many
abbrev pub undo_is_within : Forms Bytes → ℕ → List ℕ → Bool
undo_is_within F most (c ∷ v ∷ u ∷ rest) = nat_le (length_at F (height_in F u) u) most
undo_is_within F most _ = false

-- undo has no more states than the pool's history says
unfoldable pub undo_fits : Pool → Bool
undo_fits P = undo_is_within (forms_in P) P.history P.roots

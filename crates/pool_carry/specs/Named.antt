-- Named places of a pool, what keeps them, and what keeps all that a pool is.
use Rattle.std.specs.Prelude.{◌≡◌, ◌↔◌, ℕ, List, [], ◌∷◌, Option, Some, None, is_some, option_and_then, slice_get}
use Rattle.std.specs.Ordering.{nat_cmp}
use Rattle.std.specs.Cmp.Lexicographic.{slice_cmp}
use Rattle.node_heap.specs.Forms.{Form, Forms, node, leaf, inner, pair, state}
use Rattle.rrb_core.specs.Seq.{seq}
use Rattle.champ_chain.specs.Entry.{link_with}
use Rattle.pool_text.specs.Rows.{Bytes}
use Rattle.pool_text.specs.Rules.{Rules}
use Rattle.pool_text.specs.Pool.{forms_in, row_count}
use Rattle.pool_text.specs.declared.pool.Pool.{Pool}
use Rattle.pool_check.specs.Tries.{entries_below}
use Rattle.plain_space.specs.Workspace.{Workspace}
use Rattle.state_rows.specs.Standing.{StandsForBy}

-- whose state
pub data Origin : Type 0 where
  current : Origin
  version : Bytes → Origin
  undo : ℕ → Origin
  redo : ℕ → Origin

-- a row or a cell, named by how one comes to it; from the root of a vector child numbers lead down
pub data NamedSpot : Type 0 where
  state_row : Origin → NamedSpot
  buffer_cell : Origin → Bytes → NamedSpot
  star_cell : Origin → Bytes → NamedSpot
  vector_row : Origin → Bytes → List ℕ → NamedSpot
  version_cell : Bytes → NamedSpot
  undo_row : List ℕ → NamedSpot
  redo_row : List ℕ → NamedSpot

-- the first and the second link of a pair or a state
abbrev pub first_link : Option (Form Bytes) → Option ℕ
first_link (Some (node pair (k ∷ v ∷ []))) = Some k
first_link (Some (node state (k ∷ v ∷ []))) = Some k
first_link _ = None

abbrev pub second_link : Option (Form Bytes) → Option ℕ
second_link (Some (node pair (k ∷ v ∷ []))) = Some v
second_link (Some (node state (k ∷ v ∷ []))) = Some v
second_link _ = None

-- the children of a vector row
abbrev pub children : Option (Form Bytes) → List ℕ
children (Some (node leaf links)) = links
children (Some (node (inner _) links)) = links
children _ = []

-- n is more than the rows of any way down
module _ (n : ℕ) (F : Forms Bytes) where
  -- the link of the entry with this key in a trie
  abbrev pub entry_of : Bytes → ℕ → Option ℕ
  entry_of key root = link_with (slice_cmp nat_cmp) key (entries_below n F root)

  -- the key cell of the pair with this key in a map, and its value
  abbrev pub key_cell_of : Bytes → ℕ → Option ℕ
  key_cell_of key root = option_and_then (λ l. first_link (F l)) (entry_of key root)

  abbrev pub value_of_key : Bytes → ℕ → Option ℕ
  value_of_key key root = option_and_then (λ l. second_link (F l)) (entry_of key root)

  -- down the children of a vector
  abbrev pub down : List ℕ → ℕ → Option ℕ
  down [] l = Some l
  down (i ∷ is) l = option_and_then (down is) (slice_get (children (F l)) i)

  module _ (roots : List ℕ) where
    abbrev pub state_at : Origin → Option ℕ
    state_at current = slice_get roots 0
    state_at (version v) = option_and_then (value_of_key v) (slice_get roots 1)
    state_at (undo i) = option_and_then (λ u. slice_get (seq F u) i) (slice_get roots 2)
    state_at (redo i) = option_and_then (λ r. slice_get (seq F r) i) (slice_get roots 3)

    abbrev pub buffers_at : Origin → Option ℕ
    buffers_at o = option_and_then (λ s. first_link (F s)) (state_at o)

    abbrev pub stars_at : Origin → Option ℕ
    stars_at o = option_and_then (λ s. second_link (F s)) (state_at o)

    -- the row or cell at the spot, if there is one
    abbrev pub found : NamedSpot → Option ℕ
    found (state_row o) = state_at o
    found (buffer_cell o b) = option_and_then (key_cell_of b) (buffers_at o)
    found (star_cell o s) = option_and_then (entry_of s) (stars_at o)
    found (vector_row o b path) = option_and_then (down path) (option_and_then (value_of_key b) (buffers_at o))
    found (version_cell v) = option_and_then (key_cell_of v) (slice_get roots 1)
    found (undo_row path) = option_and_then (down path) (slice_get roots 2)
    found (redo_row path) = option_and_then (down path) (slice_get roots 3)

-- the place of a pool's row or cell at the spot, if there is one
unfoldable pub found_in : Pool → NamedSpot → Option ℕ
found_in P s = found (row_count P) (forms_in P) P.roots s

-- the same spots are there in both pools, and two of them are one place in the one pool exactly where they are one in the other
pub record KeepsIdentities (P Q : Pool) : Type 0 where
  pub there : (s : NamedSpot) → is_some (found_in P s) ≡ is_some (found_in Q s)
  pub same : (s t : NamedSpot) → (found_in P s ≡ found_in P t) ↔ (found_in Q s ≡ found_in Q t)

-- Q, by its rules, is what P was by its own: with the same workspace, and nothing merged or split.
pub record IsKept (from to : Rules) (P Q : Pool) : Type 0 where
  -- all names, lines, stars, versions, undo and redo
  pub workspace : Workspace
  -- the old pool stood for them by the old rules
  pub was : StandsForBy from P workspace
  -- the new one stands for the same by the new rules
  pub now : StandsForBy to Q workspace
  -- and what was one place is one, and what was apart is apart
  pub identities : KeepsIdentities P Q

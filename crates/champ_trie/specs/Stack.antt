-- The rows that wait while a trie is walked.
use Rattle.std.specs.Prelude.{◌≡◌, ℕ, zero, suc, ◌≤◌, List, [], ◌∷◌, ◌++◌, length, Option, Some, None, option_to_list}
use Rattle.std.specs.List.{All, flat_map}
use Rattle.node_heap.specs.Forms.{Form, Forms, cell, node, leaf, inner, trie, chain, pair, state}
use Rattle.node_heap.specs.Heap.{Heap, form_at}
use Rattle.champ_chain.specs.Entry.{Entry}
use Rattle.champ_chain.specs.Chain.{AreChainRows}
use Rattle.champ_trie.specs.Trie.{AreSets}
use Rattle.champ_trie.specs.Walk.{rows_below, rows_from, entries_of, depth_of}

module _ {K : Type 0} where
  -- a trie row or a chain row
  abbrev pub IsWalkRow : Option (Form K) → Type 0
  IsWalkRow None = ⊥
  IsWalkRow (Some (cell _)) = ⊥
  IsWalkRow (Some (node leaf _)) = ⊥
  IsWalkRow (Some (node (inner _) _)) = ⊥
  IsWalkRow (Some (node (trie _ entries nodes) links)) = AreSets entries nodes links
  IsWalkRow (Some (node chain links)) = 1 ≤ length links
  IsWalkRow (Some (node pair _)) = ⊥
  IsWalkRow (Some (node state _)) = ⊥

  -- the rest of a chain, if there is one
  pub record IsChainRest (F : Forms K) (rows : List ℕ) : Type 0 where
    pub next : Option ℕ
    pub entries : List (Entry K)
    pub list : rows ≡ option_to_list next
    pub chain : AreChainRows F next entries

  -- rows with so many layers of rows from them on, below which chains go on
  unfoldable pub IsLayer : Forms K → ℕ → List ℕ → Type 0
  IsLayer F zero rows = IsChainRest F rows
  IsLayer F (suc n) rows = All (λ l. IsWalkRow (F l) × IsLayer F n (rows_below (F l))) rows

  -- lists of rows, each with fewer layers than the one before it
  unfoldable pub IsStack : Forms K → ℕ → List (List ℕ) → Type 0
  IsStack F n [] = Unit {0}
  IsStack F zero (rows ∷ stack) = ⊥
  IsStack F (suc n) (rows ∷ stack) = (m : ℕ) × (m ≤ n) × (1 ≤ length rows) × IsLayer F m rows × IsStack F n stack

-- the rows of the last list first
abbrev pub next_first : List (List ℕ) → List ℕ
next_first [] = []
next_first (rows ∷ stack) = next_first stack ++ rows

-- the lists with these rows last, if there are any
abbrev pub stacked : List (List ℕ) → List ℕ → List (List ℕ)
stacked stack [] = stack
stacked stack (l ∷ ls) = stack ++ (l ∷ ls) ∷ []

module _ {T : Type 0} where
  -- the rows from a list of rows on
  abbrev pub rows_on : Heap T → List ℕ → List ℕ
  rows_on h rows = flat_map (rows_from (depth_of h) (form_at h)) rows

  -- these entries, and then those of the rows that wait
  abbrev pub walk_left : Heap T → List ℕ → List (List ℕ) → List ℕ
  walk_left h own stack = own ++ entries_of (form_at h) (rows_on h (next_first stack))

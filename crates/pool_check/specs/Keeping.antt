-- What is kept of a row for the test of the trie rows and chain rows above it, so that no row is looked at twice.
use Rattle.std.specs.Prelude.{◌≡◌, ℕ, ◌+◌, ◌*◌, ◌%◌, ◌^◌, ◌<◌, ◌≤◌, Bool, true, ◌&&◌, ◌==◌, List, [], ◌∷◌, ◌++◌, map, take, drop, length, slice_get, Option, Some, None, option_map, option_and_then, nat_eq, if◌then◌else◌}
use lib.Pointwise.{pointwise}
use Rattle.elem_core.specs.Codes.{digit_at}
use Rattle.node_heap.specs.Links.{LeadsDown}
use Rattle.node_heap.specs.Forms.{Form, Forms, node, trie, chain, pair, links_in}
use Rattle.champ_chain.specs.Entry.{key_of, key_at}
use Rattle.champ_trie.specs.Bits.{rank}
use Rattle.pool_text.specs.Rows.{Bytes, row_form}
use Rattle.pool_text.specs.declared.row.Row.{Row}
use Rattle.pool_check.specs.Tries.{entries_below, positions, all_same, is_sub_node, is_canonical}
use Rattle.pool_check.specs.declared.trie_row.KeptRow.{KeptRow}
use Rattle.pool_check.specs.declared.trie_row.KeptRow.TheVariants.{Entry as At, Node, Chain, Other}
use Rattle.pool_check.specs.declared.trie_row.Part.{Part}
use Rattle.pool_check.specs.declared.trie_row.Part.TheVariants.{Entries, Nodes}

-- the form of the row at each place
abbrev pub forms_at : List Row → Forms Bytes
forms_at rows place = slice_get (map row_form rows) place

-- the codes of the links, if each has one
abbrev pub codes_by : (ℕ → Option ℕ) → List ℕ → Option (List ℕ)
codes_by code_of [] = Some []
codes_by code_of (k ∷ ks) = option_and_then (λ c. option_map (λ cs. c ∷ cs) (codes_by code_of ks)) (code_of k)

-- whether the codes have the positions of the set as their digits at the depth, one by one
unfoldable pub digits_are : ℕ → ℕ → List ℕ → Bool
digits_are depth set codes = pointwise (λ p c. nat_eq (digit_at c depth) p) (positions set) codes

-- whether they have the positions of both sets, and all agree above the depth
unfoldable pub codes_stand : ℕ → ℕ → ℕ → List ℕ → Bool
codes_stand depth entries nodes codes =
    digits_are depth entries (take (rank entries 32) codes) && digits_are depth nodes (drop (rank entries 32) codes)
    && all_same (map (λ c. c % 2 ^ (5 * depth)) codes)

-- the code that is kept of an entry
abbrev pub code_of_entry : KeptRow → Option ℕ
code_of_entry (At _ c) = Some c
code_of_entry _ = None

-- the code that is kept of a sub-node of a trie row of this depth
abbrev pub code_of_node : ℕ → ℕ → KeptRow → Option ℕ
code_of_node deepest depth (Node own c) = if own == depth + 1 then Some c else None
code_of_node deepest depth (Chain _ c two) = if (depth == deepest) && two then Some c else None
code_of_node deepest depth _ = None

-- what is kept of a trie row over keys of these codes
abbrev pub kept_node : ℕ → List ℕ → KeptRow
kept_node depth [] = Other
kept_node depth (c ∷ _) = Node depth c

-- the place of the key's cell of the entry at a place: a pair's first link, or a cell's own place
abbrev pub cell_of : ℕ → Option (Form Bytes) → ℕ
cell_of l (Some (node pair (k ∷ _))) = k
cell_of l _ = l

module _ (code : Bytes → ℕ) where
  -- what is kept of an entry with this key, whose cell is at the place
  abbrev pub kept_entry : ℕ → Option Bytes → KeptRow
  kept_entry cell None = Other
  kept_entry cell (Some key) = At cell (code key)

  -- what is kept of a chain row whose first key is this one
  abbrev pub kept_chain : Bool → ℕ → Option Bytes → KeptRow
  kept_chain two cell None = Other
  kept_chain two cell (Some key) = Chain cell (code key) two

-- n is more than the rows of any way down
module _ (n : ℕ) (F : Forms Bytes) (code : Bytes → ℕ) where
  abbrev pub codes_below : ℕ → List ℕ
  codes_below l = map (λ e. code e.key) (entries_below n F l)

  -- what is kept of the row at a place
  abbrev pub kept_of : ℕ → Option (Form Bytes) → KeptRow
  kept_of l (Some (node (trie depth _ _) _)) = kept_node depth (codes_below l)
  kept_of l (Some (node chain [])) = Other
  kept_of l (Some (node chain (k ∷ ks))) = kept_chain code (length ks == 1) (cell_of k (F k)) (key_at F k)
  kept_of l r = kept_entry code (cell_of l r) (key_of F r)

  module _ (deepest : ℕ) where
    -- the code of the first key at a link, if it names an entry, or a sub-node of a trie row of this depth
    abbrev pub code_at : Part → ℕ → ℕ → Option ℕ
    code_at Entries depth l = option_map code (key_at F l)
    code_at Nodes depth l = if is_sub_node deepest depth (F l) then slice_get (codes_below l) 0 else None

    -- the same for the links of a trie row, of which the first so many are entries
    abbrev pub codes_in : ℕ → ℕ → List ℕ → Option (List ℕ)
    codes_in depth own links =
        option_and_then (λ cs. option_map (λ ds. cs ++ ds) (codes_by (code_at Nodes depth) (drop own links))) (codes_by (code_at Entries depth) (take own links))

    -- what is kept of the row at a place, if it is canonical
    unfoldable pub canonical_kept : ℕ → Option KeptRow
    canonical_kept l = if is_canonical n F code deepest l (F l) then Some (kept_of l (F l)) else None

    -- this is what is kept of the first rows, all of which are canonical
    pub record AreKept (known : List KeptRow) : Type 0 where
      pub falls : LeadsDown (λ l. l) (links_in F)
      pub low : length known ≤ n
      pub canonical : (k : ℕ) → k < length known → is_canonical n F code deepest k (F k) ≡ true
      pub kept : (k : ℕ) → k < length known → slice_get known k ≡ Some (kept_of k (F k))

-- The form of a pool's row.
use Rattle.std.specs.Prelude.{ℕ, ◌^◌, Bool, true, ◌&&◌, ◌==◌, nat_lt, nat_le, List, [], ◌∷◌, length}
use Rattle.elem_core.specs.declared.codes.TheConstants.{DEEPEST}
use Rattle.node_heap.specs.Forms.{Form, cell, node, leaf, inner, trie, chain, pair, state}
use Rattle.node_heap.specs.declared.row.TheConstants.{MOST_HEIGHT}
use Rattle.pool_text.specs.declared.row.Row.{Row}
use Rattle.pool_text.specs.declared.row.Row.TheVariants.{Cell, Leaf, Inner, Trie, Chain, Pair, State}

-- a text, as its bytes
abbrev pub Bytes : Type 0
Bytes = List ℕ

-- a row's form, which is the row of a heap without its sums
abbrev pub row_form : Row → Form Bytes
row_form (Cell text) = cell text
row_form (Leaf links) = node leaf links
row_form (Inner height links) = node (inner height) links
row_form (Trie depth entries nodes links) = node (trie depth entries nodes) links
row_form (Chain links) = node chain links
row_form (Pair k v) = node pair (k ∷ v ∷ [])
row_form (State buffers stars) = node state (buffers ∷ stars ∷ [])

-- whether the number lies between the two, both included
abbrev pub is_between : ℕ → ℕ → ℕ → Bool
is_between least most n = nat_le least n && nat_le n most

-- whether the row's numbers and its count of links are in range, where tries go so deep
abbrev pub is_in_range_to : {K : Type 0} → ℕ → Form K → Bool
is_in_range_to deepest (cell _) = true
is_in_range_to deepest (node leaf links) = nat_le (length links) 32
is_in_range_to deepest (node (inner height) links) = is_between 1 MOST_HEIGHT height && is_between 1 32 (length links)
is_in_range_to deepest (node (trie depth entries nodes) links) = nat_le depth deepest && nat_lt entries (2 ^ 32) && nat_lt nodes (2 ^ 32) && nat_le (length links) 32
is_in_range_to deepest (node chain links) = is_between 1 2 (length links)
is_in_range_to deepest (node pair links) = length links == 2
is_in_range_to deepest (node state links) = length links == 2

-- the same where tries go as deep as codes have digits
abbrev pub is_in_range : {K : Type 0} → Form K → Bool
is_in_range row = is_in_range_to DEEPEST row

-- The test of trie rows and chain rows.
use Rattle.std.specs.Prelude.{ℕ, ◌+◌, ◌*◌, ◌%◌, ◌^◌, Bool, true, false, not, ◌&&◌, ◌||◌, ◌==◌, nat_le, List, [], ◌∷◌, map, take, drop, length, Option, Some, None, is_some, option_map, nat_eq}
use Rattle.std.specs.List.{filter, list_all, range_with_len, filter_map}
use Rattle.std.specs.Ordering.{nat_cmp, is_lt}
use Rattle.std.specs.Cmp.Lexicographic.{slice_cmp}
use lib.Pointwise.{pointwise}
use Rattle.elem_core.specs.Codes.{digit_at}
use Rattle.node_heap.specs.Forms.{Form, Forms, node, trie, chain, links_in}
use Rattle.champ_chain.specs.Entry.{Entry, entry, key_at}
use Rattle.champ_trie.specs.Bits.{has, rank}
use Rattle.champ_trie.specs.Trie.{code_by}
use Rattle.champ_trie.specs.Walk.{rows_from, entries_of}
use Rattle.pool_text.specs.Rows.{Bytes}
use Rattle.pool_text.specs.Rules.{Rules, present_rules}
use Rattle.pool_text.specs.Pool.{forms_in, row_count}
use Rattle.pool_text.specs.declared.pool.Pool.{Pool}

-- the numbers are all the same
abbrev pub all_same : List ℕ → Bool
all_same [] = true
all_same (x ∷ xs) = list_all (nat_eq x) xs

-- the positions of the set, rising
abbrev pub positions : ℕ → List ℕ
positions set = filter (has set) (range_with_len 0 32)

-- no position is in both sets
abbrev pub are_apart : ℕ → ℕ → Bool
are_apart entries nodes = list_all (λ p. not (has entries p && has nodes p)) (range_with_len 0 32)

-- the entry that a link names, if it names one
abbrev pub entry_at : Forms Bytes → ℕ → Option (Entry Bytes)
entry_at F l = option_map (λ key. entry key l) (key_at F l)

-- the test holds of the entry, and not where there is none
abbrev pub entry_passes : (Entry Bytes → Bool) → Option (Entry Bytes) → Bool
entry_passes test None = false
entry_passes test (Some e) = test e

-- the key of a chain row's own entry
abbrev pub first_key : Forms Bytes → List ℕ → Option Bytes
first_key F [] = None
first_key F (k ∷ _) = key_at F k

-- whether the first key is smaller than the second, in byte order
abbrev pub is_before : Option Bytes → Option Bytes → Bool
is_before (Some a) (Some b) = is_lt (slice_cmp nat_cmp a b)
is_before _ _ = false

-- whether a row may stand under a trie row of this depth: a trie row one deeper, or under the deepest a chain row of two links
abbrev pub is_sub_node : ℕ → ℕ → Option (Form Bytes) → Bool
is_sub_node deepest depth (Some (node (trie d _ _) _)) = d == depth + 1
is_sub_node deepest depth (Some (node chain links)) = (depth == deepest) && (length links == 2)
is_sub_node deepest depth _ = false

abbrev pub is_chain_row : Option (Form Bytes) → Bool
is_chain_row (Some (node chain _)) = true
is_chain_row _ = false

-- n is more than the rows of any way down
module _ (n : ℕ) (F : Forms Bytes) where
  -- the entries in and below a trie row or a chain row, in the order of the walk
  unfoldable pub entries_below : ℕ → List (Entry Bytes)
  entries_below l = filter_map (entry_at F) (entries_of F (rows_from n F l))

  module _ (code : Bytes → ℕ) where
    -- the entry's key has the position as its digit at the depth
    abbrev pub has_digit : ℕ → ℕ → Entry Bytes → Bool
    has_digit depth p e = nat_eq (digit_at (code e.key) depth) p

    -- the link names an entry whose key has the position as its digit at the depth
    abbrev pub is_entry_at : ℕ → ℕ → ℕ → Bool
    is_entry_at depth p l = entry_passes (has_digit depth p) (entry_at F l)

    -- all keys below the row agree on their digits above the depth
    abbrev pub agree_above : ℕ → ℕ → Bool
    agree_above depth l = all_same (map (λ e. code e.key % 2 ^ (5 * depth)) (entries_below l))

    -- a chain row's entry, and then the chain of greater keys with the same code, if there is one
    abbrev pub are_chained : ℕ → List ℕ → Bool
    are_chained l (k ∷ []) = is_some (key_at F k)
    are_chained l (k ∷ m ∷ []) = is_chain_row (F m) && is_before (key_at F k) (first_key F (links_in F m)) && all_same (map (λ e. code e.key) (entries_below l))
    are_chained l _ = false

    module _ (deepest : ℕ) where
      -- the link names a sub-node, and all keys below it have the position as their digit at the depth
      abbrev pub is_node_at : ℕ → ℕ → ℕ → Bool
      is_node_at depth p l = is_sub_node deepest depth (F l) && list_all (has_digit depth p) (entries_below l)

      -- the links of a trie row of these sets: an entry for each position of the first, then a sub-node for each of the second;
      -- so there are as many links as positions, and at the deepest only a code's last digits are positions
      unfoldable pub are_branches : ℕ → ℕ → ℕ → List ℕ → Bool
      are_branches depth entries nodes links =
          are_apart entries nodes && pointwise (is_entry_at depth) (positions entries) (take (rank entries 32) links)
          && pointwise (is_node_at depth) (positions nodes) (drop (rank entries 32) links)

      -- whether the row at the place, where it is a trie row or a chain row, is canonical
      abbrev pub is_canonical : ℕ → Option (Form Bytes) → Bool
      is_canonical l (Some (node (trie depth entries nodes) links)) =
          are_branches depth entries nodes links && agree_above depth l && ((depth == 0) || nat_le 2 (length (entries_below l)))
      is_canonical l (Some (node chain links)) = are_chained l links
      is_canonical l _ = true

-- every trie row and every chain row is canonical by the rules
unfoldable pub tries_stand_by : Rules → Pool → Bool
tries_stand_by rules P =
    list_all (λ l. is_canonical (row_count P) (forms_in P) (code_by rules.code_of P.bits) rules.deepest l (forms_in P l)) (range_with_len 0 (row_count P))

-- every trie row and every chain row is canonical
abbrev pub tries_stand : Pool → Bool
tries_stand P = tries_stand_by present_rules P

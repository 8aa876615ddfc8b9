-- Pools that pass every test, and pools that fail one.
use Rattle.std.specs.Prelude.{ℕ, List, [], ◌∷◌, ◌++◌, replicate}
use Rattle.node_heap.specs.Forms.{cell, node, leaf, inner, trie, chain, pair, state}
use Rattle.pool_text.specs.declared.pool.Pool.{Pool}
use Rattle.pool_text.specs.declared.rules.TheConstants.{MOST_HISTORY}

-- an undo that has one state in all its places; of its rows of 32 links to the row before, only those over this leaf have others
abbrev pub history_over : List ℕ → Pool
history_over last = record {
  bits = 64;
  version = 3;
  history = MOST_HISTORY;
  roots = 1 ∷ 0 ∷ 14 ∷ 15 ∷ [];
  rows =
      node (trie 0 0 0) [] ∷ node state (0 ∷ 0 ∷ []) ∷ node leaf (replicate 32 1) ∷ node (inner 1) (replicate 32 2)
      ∷ node (inner 2) (replicate 32 3) ∷ node (inner 3) (replicate 32 4) ∷ node (inner 4) (replicate 32 5) ∷ node (inner 5) (replicate 32 6)
      ∷ node leaf last ∷ node (inner 1) (replicate 31 2 ++ 8 ∷ []) ∷ node (inner 2) (replicate 31 3 ++ 9 ∷ []) ∷ node (inner 3) (replicate 31 4 ++ 10 ∷ [])
      ∷ node (inner 4) (replicate 31 5 ++ 11 ∷ []) ∷ node (inner 5) (replicate 31 6 ++ 12 ∷ []) ∷ node (inner 6) (7 ∷ 7 ∷ 7 ∷ 13 ∷ []) ∷ node leaf [] ∷ [];
}

-- an undo of 2^32 - 1 places
abbrev pub full_history : Pool
full_history = history_over (replicate 31 1)

-- the same, of which undo may keep one less
abbrev pub long_history : Pool
long_history = record full_history { history = 4294967294 }

-- one state to undo, and as many as undo may keep
abbrev pub one_undone : ℕ → Pool
one_undone most = record { bits = 64; version = 3; history = most; roots = 1 ∷ 0 ∷ 2 ∷ 3 ∷ []; rows = node (trie 0 0 0) [] ∷ node state (0 ∷ 0 ∷ []) ∷ node leaf (1 ∷ []) ∷ node leaf [] ∷ [] }

-- an undo of 2^32 places
abbrev pub overfull_history : Pool
overfull_history = history_over (replicate 32 1)

-- two names in a chain, by five bits
abbrev pub chained : Pool
chained = record { bits = 5; version = 3; history = MOST_HISTORY; roots = 22 ∷ 23 ∷ 24 ∷ 25 ∷ []; rows = cell (65 ∷ []) ∷ node leaf [] ∷ node pair (0 ∷ 1 ∷ []) ∷ cell (97 ∷ []) ∷ node leaf [] ∷ node pair (3 ∷ 4 ∷ []) ∷ node chain (5 ∷ []) ∷ node chain (2 ∷ 6 ∷ []) ∷ node (trie 12 0 1) (7 ∷ []) ∷ node (trie 11 0 1) (8 ∷ []) ∷ node (trie 10 0 1) (9 ∷ []) ∷ node (trie 9 0 1) (10 ∷ []) ∷ node (trie 8 0 1) (11 ∷ []) ∷ node (trie 7 0 1) (12 ∷ []) ∷ node (trie 6 0 1) (13 ∷ []) ∷ node (trie 5 0 1) (14 ∷ []) ∷ node (trie 4 0 1) (15 ∷ []) ∷ node (trie 3 0 1) (16 ∷ []) ∷ node (trie 2 0 1) (17 ∷ []) ∷ node (trie 1 0 1) (18 ∷ []) ∷ node (trie 0 0 4096) (19 ∷ []) ∷ node (trie 0 0 0) [] ∷ node state (20 ∷ 21 ∷ []) ∷ node (trie 0 0 0) [] ∷ node leaf [] ∷ node leaf [] ∷ [] }

-- the same in a document of the first version, where the chain stands below fewer trie rows
abbrev pub old_chained : Pool
old_chained = record { bits = 5; version = 1; history = MOST_HISTORY; roots = 16 ∷ 17 ∷ 18 ∷ 19 ∷ []; rows = cell (65 ∷ []) ∷ node leaf [] ∷ node pair (0 ∷ 1 ∷ []) ∷ cell (97 ∷ []) ∷ node leaf [] ∷ node pair (3 ∷ 4 ∷ []) ∷ node chain (5 ∷ []) ∷ node chain (2 ∷ 6 ∷ []) ∷ node (trie 6 0 1) (7 ∷ []) ∷ node (trie 5 0 1) (8 ∷ []) ∷ node (trie 4 0 1) (9 ∷ []) ∷ node (trie 3 0 1) (10 ∷ []) ∷ node (trie 2 0 1) (11 ∷ []) ∷ node (trie 1 0 1) (12 ∷ []) ∷ node (trie 0 0 4096) (13 ∷ []) ∷ node (trie 0 0 0) [] ∷ node state (14 ∷ 15 ∷ []) ∷ node (trie 0 0 0) [] ∷ node leaf [] ∷ node leaf [] ∷ [] }

-- a link to the row itself
abbrev pub forward_link : Pool
forward_link = record { bits = 64; version = 3; history = MOST_HISTORY; roots = 0 ∷ 0 ∷ 0 ∷ 0 ∷ []; rows = node leaf (0 ∷ []) ∷ [] }

-- a cell with a newline
abbrev pub broken_text : Pool
broken_text = record { bits = 64; version = 3; history = MOST_HISTORY; roots = 2 ∷ 3 ∷ 4 ∷ 5 ∷ []; rows = node (trie 0 0 0) [] ∷ node (trie 0 0 0) [] ∷ node state (0 ∷ 1 ∷ []) ∷ node (trie 0 0 0) [] ∷ node leaf [] ∷ node leaf [] ∷ cell (120 ∷ 10 ∷ 121 ∷ []) ∷ [] }

-- an inner row over an empty leaf
abbrev pub empty_leaf_below : Pool
empty_leaf_below = record { bits = 64; version = 3; history = MOST_HISTORY; roots = 2 ∷ 3 ∷ 4 ∷ 5 ∷ []; rows = node (trie 0 0 0) [] ∷ node (trie 0 0 0) [] ∷ node state (0 ∷ 1 ∷ []) ∷ node (trie 0 0 0) [] ∷ node leaf [] ∷ node (inner 1) (4 ∷ []) ∷ [] }

-- a sub-node with one entry
abbrev pub lone_below : Pool
lone_below = record { bits = 64; version = 3; history = MOST_HISTORY; roots = 1 ∷ 1 ∷ 1 ∷ 1 ∷ []; rows = cell (97 ∷ []) ∷ node (trie 1 16 0) (0 ∷ []) ∷ [] }

-- a trie row for a state
abbrev pub trie_for_state : Pool
trie_for_state = record { bits = 64; version = 3; history = MOST_HISTORY; roots = 3 ∷ 3 ∷ 4 ∷ 5 ∷ []; rows = node (trie 0 0 0) [] ∷ node (trie 0 0 0) [] ∷ node state (0 ∷ 1 ∷ []) ∷ node (trie 0 0 0) [] ∷ node leaf [] ∷ node leaf [] ∷ [] }

-- a row that nothing reaches
abbrev pub loose_row : Pool
loose_row = record { bits = 64; version = 3; history = MOST_HISTORY; roots = 2 ∷ 3 ∷ 4 ∷ 5 ∷ []; rows = node (trie 0 0 0) [] ∷ node (trie 0 0 0) [] ∷ node state (0 ∷ 1 ∷ []) ∷ node (trie 0 0 0) [] ∷ node leaf [] ∷ node leaf [] ∷ cell (122 ∷ []) ∷ [] }

-- undo after redo
abbrev pub turned_roots : Pool
turned_roots = record { bits = 64; version = 3; history = MOST_HISTORY; roots = 2 ∷ 3 ∷ 5 ∷ 4 ∷ []; rows = node (trie 0 0 0) [] ∷ node (trie 0 0 0) [] ∷ node state (0 ∷ 1 ∷ []) ∷ node (trie 0 0 0) [] ∷ node leaf [] ∷ node leaf [] ∷ [] }

-- a root past the last row
abbrev pub root_past_end : Pool
root_past_end = record { bits = 64; version = 3; history = MOST_HISTORY; roots = 2 ∷ 3 ∷ 4 ∷ 6 ∷ []; rows = node (trie 0 0 0) [] ∷ node (trie 0 0 0) [] ∷ node state (0 ∷ 1 ∷ []) ∷ node (trie 0 0 0) [] ∷ node leaf [] ∷ node leaf [] ∷ [] }

-- one position in both sets
abbrev pub two_at_one : Pool
two_at_one = record { bits = 64; version = 3; history = MOST_HISTORY; roots = 2 ∷ 3 ∷ 4 ∷ 5 ∷ []; rows = node (trie 0 0 0) [] ∷ node (trie 0 0 0) [] ∷ node state (0 ∷ 1 ∷ []) ∷ node (trie 0 1 1) [] ∷ node leaf [] ∷ node leaf [] ∷ [] }

-- an entry at a position that is not its digit
abbrev pub wrong_position : Pool
wrong_position = record { bits = 64; version = 3; history = MOST_HISTORY; roots = 7 ∷ 8 ∷ 9 ∷ 10 ∷ []; rows = cell (97 ∷ []) ∷ cell (120 ∷ []) ∷ cell (120 ∷ []) ∷ node leaf (1 ∷ 2 ∷ []) ∷ node pair (0 ∷ 3 ∷ []) ∷ node (trie 0 8192 0) (4 ∷ []) ∷ node (trie 0 0 0) [] ∷ node state (5 ∷ 6 ∷ []) ∷ node (trie 0 0 0) [] ∷ node leaf [] ∷ node leaf [] ∷ [] }

-- the second line before the first
abbrev pub turned_lines : Pool
turned_lines = record { bits = 64; version = 3; history = MOST_HISTORY; roots = 7 ∷ 8 ∷ 9 ∷ 10 ∷ []; rows = cell (97 ∷ []) ∷ cell (120 ∷ []) ∷ cell (120 ∷ []) ∷ node leaf (2 ∷ 1 ∷ []) ∷ node pair (0 ∷ 3 ∷ []) ∷ node (trie 0 4096 0) (4 ∷ []) ∷ node (trie 0 0 0) [] ∷ node state (5 ∷ 6 ∷ []) ∷ node (trie 0 0 0) [] ∷ node leaf [] ∷ node leaf [] ∷ [] }

-- the greater key first in a chain
abbrev pub turned_chain : Pool
turned_chain = record { bits = 5; version = 3; history = MOST_HISTORY; roots = 22 ∷ 23 ∷ 24 ∷ 25 ∷ []; rows = cell (97 ∷ []) ∷ node leaf [] ∷ node pair (0 ∷ 1 ∷ []) ∷ cell (65 ∷ []) ∷ node leaf [] ∷ node pair (3 ∷ 4 ∷ []) ∷ node chain (5 ∷ []) ∷ node chain (2 ∷ 6 ∷ []) ∷ node (trie 12 0 1) (7 ∷ []) ∷ node (trie 11 0 1) (8 ∷ []) ∷ node (trie 10 0 1) (9 ∷ []) ∷ node (trie 9 0 1) (10 ∷ []) ∷ node (trie 8 0 1) (11 ∷ []) ∷ node (trie 7 0 1) (12 ∷ []) ∷ node (trie 6 0 1) (13 ∷ []) ∷ node (trie 5 0 1) (14 ∷ []) ∷ node (trie 4 0 1) (15 ∷ []) ∷ node (trie 3 0 1) (16 ∷ []) ∷ node (trie 2 0 1) (17 ∷ []) ∷ node (trie 1 0 1) (18 ∷ []) ∷ node (trie 0 0 4096) (19 ∷ []) ∷ node (trie 0 0 0) [] ∷ node state (20 ∷ 21 ∷ []) ∷ node (trie 0 0 0) [] ∷ node leaf [] ∷ node leaf [] ∷ [] }

-- an inner row of height 8
abbrev pub tall_row : Pool
tall_row = record { bits = 64; version = 3; history = MOST_HISTORY; roots = 2 ∷ 3 ∷ 4 ∷ 5 ∷ []; rows = node (trie 0 0 0) [] ∷ node (trie 0 0 0) [] ∷ node state (0 ∷ 1 ∷ []) ∷ node (trie 0 0 0) [] ∷ node leaf [] ∷ node (inner 8) (4 ∷ []) ∷ [] }

-- a pair of three links
abbrev pub long_pair : Pool
long_pair = record { bits = 64; version = 3; history = MOST_HISTORY; roots = 2 ∷ 3 ∷ 4 ∷ 5 ∷ []; rows = node (trie 0 0 0) [] ∷ node (trie 0 0 0) [] ∷ node state (0 ∷ 1 ∷ []) ∷ node (trie 0 0 0) [] ∷ node leaf [] ∷ node pair (0 ∷ 1 ∷ 2 ∷ []) ∷ [] }

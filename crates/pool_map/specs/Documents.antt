-- Pools, and what they are with their lines changed.
use Rattle.std.specs.Prelude.{ℕ, List, [], ◌∷◌, replicate}
use Rattle.node_heap.specs.Forms.{cell, node, leaf, inner, trie, pair, state}
use Rattle.pool_text.specs.declared.pool.Pool.{Pool}
use Rattle.pool_text.specs.declared.rules.TheConstants.{MOST_HISTORY}

-- two equal lines of different identity, each with two spaces before it
abbrev pub indented_two_cells : Pool
indented_two_cells = record { bits = 64; version = 3; history = MOST_HISTORY; roots = 7 ∷ 8 ∷ 9 ∷ 10 ∷ []; rows = cell (97 ∷ []) ∷ cell (32 ∷ 32 ∷ 120 ∷ []) ∷ cell (32 ∷ 32 ∷ 120 ∷ []) ∷ node leaf (1 ∷ 2 ∷ []) ∷ node pair (0 ∷ 3 ∷ []) ∷ node (trie 0 4096 0) (4 ∷ []) ∷ node (trie 0 0 0) [] ∷ node state (5 ∷ 6 ∷ []) ∷ node (trie 0 0 0) [] ∷ node leaf [] ∷ node leaf [] ∷ [] }

-- one cell that is a key and a line, and with a space before the line
abbrev pub key_and_line : Pool
key_and_line = record { bits = 64; version = 3; history = MOST_HISTORY; roots = 5 ∷ 6 ∷ 7 ∷ 8 ∷ []; rows = cell (97 ∷ []) ∷ node leaf (0 ∷ []) ∷ node pair (0 ∷ 1 ∷ []) ∷ node (trie 0 4096 0) (2 ∷ []) ∷ node (trie 0 0 0) [] ∷ node state (3 ∷ 4 ∷ []) ∷ node (trie 0 0 0) [] ∷ node leaf [] ∷ node leaf [] ∷ [] }

abbrev pub indented_key_and_line : Pool
indented_key_and_line = record { bits = 64; version = 3; history = MOST_HISTORY; roots = 6 ∷ 7 ∷ 8 ∷ 9 ∷ []; rows = cell (97 ∷ []) ∷ cell (32 ∷ 97 ∷ []) ∷ node leaf (1 ∷ []) ∷ node pair (0 ∷ 2 ∷ []) ∷ node (trie 0 4096 0) (3 ∷ []) ∷ node (trie 0 0 0) [] ∷ node state (4 ∷ 5 ∷ []) ∷ node (trie 0 0 0) [] ∷ node leaf [] ∷ node leaf [] ∷ [] }

-- one line at a hundred places
abbrev pub hundred_of : List ℕ → Pool
hundred_of text = record {
  bits = 64;
  version = 3;
  history = MOST_HISTORY;
  roots = 8 ∷ 9 ∷ 10 ∷ 11 ∷ [];
  rows =
      cell (97 ∷ []) ∷ cell text ∷ node leaf (replicate 32 1) ∷ node leaf (replicate 4 1) ∷ node (inner 1) (2 ∷ 2 ∷ 2 ∷ 3 ∷ []) ∷ node pair (0 ∷ 4 ∷ []) ∷ node (trie 0 4096 0) (5 ∷ []) ∷ node (trie 0 0 0) [] ∷ node state (6 ∷ 7 ∷ [])
      ∷ node (trie 0 0 0) [] ∷ node leaf [] ∷ node leaf [] ∷ [];
}

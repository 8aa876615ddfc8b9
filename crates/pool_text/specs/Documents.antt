-- Pools of small spaces, of the version that is made, and some of the first version.
use Rattle.std.specs.Prelude.{[], ◌∷◌}
use Rattle.node_heap.specs.Forms.{cell, node, leaf, trie, pair, state}
use Rattle.pool_text.specs.declared.pool.Pool.{Pool}
use Rattle.pool_text.specs.declared.rules.TheConstants.{MOST_HISTORY}

-- the start space
abbrev pub start_pool : Pool
start_pool = record { bits = 64; version = 3; history = MOST_HISTORY; roots = 2 ∷ 3 ∷ 4 ∷ 5 ∷ []; rows = node (trie 0 0 0) [] ∷ node (trie 0 0 0) [] ∷ node state (0 ∷ 1 ∷ []) ∷ node (trie 0 0 0) [] ∷ node leaf [] ∷ node leaf [] ∷ [] }

-- two equal cells of different identity
abbrev pub two_cells : Pool
two_cells = record { bits = 64; version = 3; history = MOST_HISTORY; roots = 7 ∷ 8 ∷ 9 ∷ 10 ∷ []; rows = cell (97 ∷ []) ∷ cell (120 ∷ []) ∷ cell (120 ∷ []) ∷ node leaf (1 ∷ 2 ∷ []) ∷ node pair (0 ∷ 3 ∷ []) ∷ node (trie 0 4096 0) (4 ∷ []) ∷ node (trie 0 0 0) [] ∷ node state (5 ∷ 6 ∷ []) ∷ node (trie 0 0 0) [] ∷ node leaf [] ∷ node leaf [] ∷ [] }

-- one empty trie row and one empty leaf in all their places
abbrev pub shared_empties : Pool
shared_empties = record { bits = 64; version = 3; history = MOST_HISTORY; roots = 1 ∷ 0 ∷ 2 ∷ 2 ∷ []; rows = node (trie 0 0 0) [] ∷ node state (0 ∷ 0 ∷ []) ∷ node leaf [] ∷ [] }

-- two names in a sub-node
abbrev pub sub_node : Pool
sub_node = record { bits = 64; version = 3; history = MOST_HISTORY; roots = 9 ∷ 10 ∷ 11 ∷ 12 ∷ []; rows = cell (97 ∷ []) ∷ node leaf [] ∷ node pair (0 ∷ 1 ∷ []) ∷ cell (65 ∷ []) ∷ node leaf [] ∷ node pair (3 ∷ 4 ∷ []) ∷ node (trie 1 8388624 0) (2 ∷ 5 ∷ []) ∷ node (trie 0 0 4096) (6 ∷ []) ∷ node (trie 0 0 0) [] ∷ node state (7 ∷ 8 ∷ []) ∷ node (trie 0 0 0) [] ∷ node leaf [] ∷ node leaf [] ∷ [] }

-- one line in both places of a leaf
abbrev pub one_line_twice : Pool
one_line_twice = record { bits = 64; version = 3; history = MOST_HISTORY; roots = 6 ∷ 7 ∷ 8 ∷ 9 ∷ []; rows = cell (97 ∷ []) ∷ cell (120 ∷ []) ∷ node leaf (1 ∷ 1 ∷ []) ∷ node pair (0 ∷ 2 ∷ []) ∷ node (trie 0 4096 0) (3 ∷ []) ∷ node (trie 0 0 0) [] ∷ node state (4 ∷ 5 ∷ []) ∷ node (trie 0 0 0) [] ∷ node leaf [] ∷ node leaf [] ∷ [] }

-- the start space in a document of the first version
abbrev pub old_start_pool : Pool
old_start_pool = record { bits = 32; version = 1; history = MOST_HISTORY; roots = 2 ∷ 3 ∷ 4 ∷ 5 ∷ []; rows = node (trie 0 0 0) [] ∷ node (trie 0 0 0) [] ∷ node state (0 ∷ 1 ∷ []) ∷ node (trie 0 0 0) [] ∷ node leaf [] ∷ node leaf [] ∷ [] }

-- two equal cells of different identity in one
abbrev pub old_two_cells : Pool
old_two_cells = record { bits = 32; version = 1; history = MOST_HISTORY; roots = 7 ∷ 8 ∷ 9 ∷ 10 ∷ []; rows = cell (97 ∷ []) ∷ cell (120 ∷ []) ∷ cell (120 ∷ []) ∷ node leaf (1 ∷ 2 ∷ []) ∷ node pair (0 ∷ 3 ∷ []) ∷ node (trie 0 4096 0) (4 ∷ []) ∷ node (trie 0 0 0) [] ∷ node state (5 ∷ 6 ∷ []) ∷ node (trie 0 0 0) [] ∷ node leaf [] ∷ node leaf [] ∷ [] }

-- two names in a sub-node in one, at other positions
abbrev pub old_sub_node : Pool
old_sub_node = record { bits = 32; version = 1; history = MOST_HISTORY; roots = 9 ∷ 10 ∷ 11 ∷ 12 ∷ []; rows = cell (97 ∷ []) ∷ node leaf [] ∷ node pair (0 ∷ 1 ∷ []) ∷ cell (65 ∷ []) ∷ node leaf [] ∷ node pair (3 ∷ 4 ∷ []) ∷ node (trie 1 4194816 0) (2 ∷ 5 ∷ []) ∷ node (trie 0 0 4096) (6 ∷ []) ∷ node (trie 0 0 0) [] ∷ node state (7 ∷ 8 ∷ []) ∷ node (trie 0 0 0) [] ∷ node leaf [] ∷ node leaf [] ∷ [] }

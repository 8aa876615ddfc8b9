-- Pools, and what they are carried to by today's rules. Both codes of a text agree in their low five bits, so only below depth 0 do
-- tries differ.
use Rattle.std.specs.Prelude.{[], ◌∷◌}
use Rattle.node_heap.specs.Forms.{cell, node, leaf, trie, chain, pair, state}
use Rattle.pool_text.specs.declared.pool.Pool.{Pool}
use Rattle.pool_text.specs.declared.rules.TheConstants.{MOST_HISTORY}

-- the start space: its three empty trie rows are one
abbrev pub carried_start : Pool
carried_start = record { bits = 64; version = 3; history = MOST_HISTORY; roots = 1 ∷ 0 ∷ 2 ∷ 3 ∷ []; rows = node (trie 0 0 0) [] ∷ node state (0 ∷ 0 ∷ []) ∷ node leaf [] ∷ node leaf [] ∷ [] }

-- two equal cells stay two
abbrev pub carried_two_cells : Pool
carried_two_cells = record { bits = 64; version = 3; history = MOST_HISTORY; roots = 7 ∷ 6 ∷ 8 ∷ 9 ∷ []; rows = cell (97 ∷ []) ∷ cell (120 ∷ []) ∷ cell (120 ∷ []) ∷ node leaf (1 ∷ 2 ∷ []) ∷ node pair (0 ∷ 3 ∷ []) ∷ node (trie 0 4096 0) (4 ∷ []) ∷ node (trie 0 0 0) [] ∷ node state (5 ∷ 6 ∷ []) ∷ node leaf [] ∷ node leaf [] ∷ [] }

-- two names in a sub-node, at other positions
abbrev pub carried_sub_node : Pool
carried_sub_node = record { bits = 64; version = 3; history = MOST_HISTORY; roots = 9 ∷ 8 ∷ 10 ∷ 11 ∷ []; rows = cell (97 ∷ []) ∷ node leaf [] ∷ node pair (0 ∷ 1 ∷ []) ∷ cell (65 ∷ []) ∷ node leaf [] ∷ node pair (3 ∷ 4 ∷ []) ∷ node (trie 1 8388624 0) (2 ∷ 5 ∷ []) ∷ node (trie 0 0 4096) (6 ∷ []) ∷ node (trie 0 0 0) [] ∷ node state (7 ∷ 8 ∷ []) ∷ node leaf [] ∷ node leaf [] ∷ [] }

-- two names in a chain, by five bits, below more trie rows
abbrev pub carried_chained : Pool
carried_chained = record { bits = 5; version = 3; history = MOST_HISTORY; roots = 22 ∷ 21 ∷ 23 ∷ 24 ∷ []; rows = cell (65 ∷ []) ∷ node leaf [] ∷ node pair (0 ∷ 1 ∷ []) ∷ cell (97 ∷ []) ∷ node leaf [] ∷ node pair (3 ∷ 4 ∷ []) ∷ node chain (5 ∷ []) ∷ node chain (2 ∷ 6 ∷ []) ∷ node (trie 12 0 1) (7 ∷ []) ∷ node (trie 11 0 1) (8 ∷ []) ∷ node (trie 10 0 1) (9 ∷ []) ∷ node (trie 9 0 1) (10 ∷ []) ∷ node (trie 8 0 1) (11 ∷ []) ∷ node (trie 7 0 1) (12 ∷ []) ∷ node (trie 6 0 1) (13 ∷ []) ∷ node (trie 5 0 1) (14 ∷ []) ∷ node (trie 4 0 1) (15 ∷ []) ∷ node (trie 3 0 1) (16 ∷ []) ∷ node (trie 2 0 1) (17 ∷ []) ∷ node (trie 1 0 1) (18 ∷ []) ∷ node (trie 0 0 4096) (19 ∷ []) ∷ node (trie 0 0 0) [] ∷ node state (20 ∷ 21 ∷ []) ∷ node leaf [] ∷ node leaf [] ∷ [] }

-- by seven bits: `A` and `ba` have one code by the first rules, and `a` and `ba` by today's
abbrev pub seven_bits : Pool
seven_bits = record { bits = 7; version = 1; history = MOST_HISTORY; roots = 19 ∷ 20 ∷ 21 ∷ 22 ∷ []; rows = cell (97 ∷ []) ∷ node leaf [] ∷ node pair (0 ∷ 1 ∷ []) ∷ cell (65 ∷ []) ∷ node leaf [] ∷ node pair (3 ∷ 4 ∷ []) ∷ cell (98 ∷ 97 ∷ []) ∷ node leaf [] ∷ node pair (6 ∷ 7 ∷ []) ∷ node chain (8 ∷ []) ∷ node chain (5 ∷ 9 ∷ []) ∷ node (trie 6 0 1) (10 ∷ []) ∷ node (trie 5 0 1) (11 ∷ []) ∷ node (trie 4 0 1) (12 ∷ []) ∷ node (trie 3 0 1) (13 ∷ []) ∷ node (trie 2 0 1) (14 ∷ []) ∷ node (trie 1 2 4) (2 ∷ 15 ∷ []) ∷ node (trie 0 0 4096) (16 ∷ []) ∷ node (trie 0 0 0) [] ∷ node state (17 ∷ 18 ∷ []) ∷ node (trie 0 0 0) [] ∷ node leaf [] ∷ node leaf [] ∷ [] }

abbrev pub carried_seven_bits : Pool
carried_seven_bits = record { bits = 7; version = 3; history = MOST_HISTORY; roots = 25 ∷ 24 ∷ 26 ∷ 27 ∷ []; rows = cell (65 ∷ []) ∷ node leaf [] ∷ node pair (0 ∷ 1 ∷ []) ∷ cell (97 ∷ []) ∷ node leaf [] ∷ node pair (3 ∷ 4 ∷ []) ∷ cell (98 ∷ 97 ∷ []) ∷ node leaf [] ∷ node pair (6 ∷ 7 ∷ []) ∷ node chain (8 ∷ []) ∷ node chain (5 ∷ 9 ∷ []) ∷ node (trie 12 0 1) (10 ∷ []) ∷ node (trie 11 0 1) (11 ∷ []) ∷ node (trie 10 0 1) (12 ∷ []) ∷ node (trie 9 0 1) (13 ∷ []) ∷ node (trie 8 0 1) (14 ∷ []) ∷ node (trie 7 0 1) (15 ∷ []) ∷ node (trie 6 0 1) (16 ∷ []) ∷ node (trie 5 0 1) (17 ∷ []) ∷ node (trie 4 0 1) (18 ∷ []) ∷ node (trie 3 0 1) (19 ∷ []) ∷ node (trie 2 0 1) (20 ∷ []) ∷ node (trie 1 8 1) (2 ∷ 21 ∷ []) ∷ node (trie 0 0 4096) (22 ∷ []) ∷ node (trie 0 0 0) [] ∷ node state (23 ∷ 24 ∷ []) ∷ node leaf [] ∷ node leaf [] ∷ [] }

-- by no bits, with a star that has the name of a buffer
abbrev pub no_bits : Pool
no_bits = record { bits = 0; version = 1; history = MOST_HISTORY; roots = 17 ∷ 18 ∷ 19 ∷ 20 ∷ []; rows = cell (97 ∷ []) ∷ node leaf [] ∷ node pair (0 ∷ 1 ∷ []) ∷ cell (98 ∷ []) ∷ node leaf [] ∷ node pair (3 ∷ 4 ∷ []) ∷ node chain (5 ∷ []) ∷ node chain (2 ∷ 6 ∷ []) ∷ node (trie 6 0 1) (7 ∷ []) ∷ node (trie 5 0 1) (8 ∷ []) ∷ node (trie 4 0 1) (9 ∷ []) ∷ node (trie 3 0 1) (10 ∷ []) ∷ node (trie 2 0 1) (11 ∷ []) ∷ node (trie 1 0 1) (12 ∷ []) ∷ node (trie 0 0 1) (13 ∷ []) ∷ cell (97 ∷ []) ∷ node (trie 0 1 0) (15 ∷ []) ∷ node state (14 ∷ 16 ∷ []) ∷ node (trie 0 0 0) [] ∷ node leaf [] ∷ node leaf [] ∷ [] }

abbrev pub carried_no_bits : Pool
carried_no_bits = record { bits = 0; version = 3; history = MOST_HISTORY; roots = 23 ∷ 24 ∷ 25 ∷ 26 ∷ []; rows = cell (97 ∷ []) ∷ node leaf [] ∷ node pair (0 ∷ 1 ∷ []) ∷ cell (98 ∷ []) ∷ node leaf [] ∷ node pair (3 ∷ 4 ∷ []) ∷ node chain (5 ∷ []) ∷ node chain (2 ∷ 6 ∷ []) ∷ node (trie 12 0 1) (7 ∷ []) ∷ node (trie 11 0 1) (8 ∷ []) ∷ node (trie 10 0 1) (9 ∷ []) ∷ node (trie 9 0 1) (10 ∷ []) ∷ node (trie 8 0 1) (11 ∷ []) ∷ node (trie 7 0 1) (12 ∷ []) ∷ node (trie 6 0 1) (13 ∷ []) ∷ node (trie 5 0 1) (14 ∷ []) ∷ node (trie 4 0 1) (15 ∷ []) ∷ node (trie 3 0 1) (16 ∷ []) ∷ node (trie 2 0 1) (17 ∷ []) ∷ node (trie 1 0 1) (18 ∷ []) ∷ node (trie 0 0 1) (19 ∷ []) ∷ cell (97 ∷ []) ∷ node (trie 0 1 0) (21 ∷ []) ∷ node state (20 ∷ 22 ∷ []) ∷ node (trie 0 0 0) [] ∷ node leaf [] ∷ node leaf [] ∷ [] }

-- tries that are equal and apart, and one that two states share
abbrev pub equal_tries : Pool
equal_tries = record { bits = 32; version = 1; history = MOST_HISTORY; roots = 9 ∷ 10 ∷ 20 ∷ 21 ∷ []; rows = cell (97 ∷ []) ∷ node leaf [] ∷ node pair (0 ∷ 1 ∷ []) ∷ cell (65 ∷ []) ∷ node leaf [] ∷ node pair (3 ∷ 4 ∷ []) ∷ node (trie 1 4194816 0) (2 ∷ 5 ∷ []) ∷ node (trie 0 0 4096) (6 ∷ []) ∷ node (trie 0 0 0) [] ∷ node state (7 ∷ 8 ∷ []) ∷ node (trie 0 0 0) [] ∷ node (trie 1 4194816 0) (2 ∷ 5 ∷ []) ∷ node (trie 0 0 4096) (11 ∷ []) ∷ node (trie 0 0 0) [] ∷ node state (12 ∷ 13 ∷ []) ∷ node (trie 0 4096 0) (2 ∷ []) ∷ node (trie 0 0 0) [] ∷ node state (15 ∷ 16 ∷ []) ∷ node (trie 0 0 0) [] ∷ node state (15 ∷ 18 ∷ []) ∷ node leaf (14 ∷ 17 ∷ 19 ∷ []) ∷ node leaf [] ∷ [] }

abbrev pub carried_equal_tries : Pool
carried_equal_tries = record { bits = 64; version = 3; history = MOST_HISTORY; roots = 9 ∷ 8 ∷ 14 ∷ 15 ∷ []; rows = cell (97 ∷ []) ∷ node leaf [] ∷ node pair (0 ∷ 1 ∷ []) ∷ cell (65 ∷ []) ∷ node leaf [] ∷ node pair (3 ∷ 4 ∷ []) ∷ node (trie 1 8388624 0) (2 ∷ 5 ∷ []) ∷ node (trie 0 0 4096) (6 ∷ []) ∷ node (trie 0 0 0) [] ∷ node state (7 ∷ 8 ∷ []) ∷ node state (7 ∷ 8 ∷ []) ∷ node (trie 0 4096 0) (2 ∷ []) ∷ node state (11 ∷ 8 ∷ []) ∷ node state (11 ∷ 8 ∷ []) ∷ node leaf (10 ∷ 12 ∷ 13 ∷ []) ∷ node leaf [] ∷ [] }

-- Partial documents of small pools.
use Rattle.std.specs.Prelude.{[], ◌∷◌}
use Rattle.node_heap.specs.Forms.{cell, node, leaf, trie, pair, state}
use Rattle.pool_text.specs.declared.rules.TheConstants.{MOST_HISTORY}
use Rattle.pool_delta.specs.Parts.{Part}

-- what a buffer of two equal lines has more than the start space
abbrev pub two_cells_more : Part
two_cells_more = record { after = 6; bits = 64; history = MOST_HISTORY; roots = 12 ∷ 1 ∷ 4 ∷ 5 ∷ []; rows = cell (97 ∷ []) ∷ cell (120 ∷ []) ∷ cell (120 ∷ []) ∷ node leaf (7 ∷ 8 ∷ []) ∷ node pair (6 ∷ 9 ∷ []) ∷ node (trie 0 4096 0) (10 ∷ []) ∷ node state (11 ∷ 0 ∷ []) ∷ [] }

-- what it has more than itself
abbrev pub two_cells_again : Part
two_cells_again = record { after = 11; bits = 64; history = MOST_HISTORY; roots = 7 ∷ 8 ∷ 9 ∷ 10 ∷ []; rows = [] }

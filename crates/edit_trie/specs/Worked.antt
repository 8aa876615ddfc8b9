-- The paths of edits, worked out on small tries, whose keys are numbers.
use Rattle.std.specs.Prelude.{◌≡◌, ℕ, [], ◌∷◌, Some, None, ◌==◌, if◌then◌else◌}
use Rattle.std.specs.Ordering.{nat_cmp}
use Rattle.node_heap.specs.Forms.{Forms, cell, node, trie, chain, pair}
use Rattle.edit_trie.specs.Path.{edit_rows, pair_rows}

-- the pairs 11, 12 and 13 of the keys 1, 2 and 3
abbrev pub at_pairs : Forms ℕ
at_pairs l =
    if l == 21 then Some (cell 1)
    else if l == 22 then Some (cell 2)
    else if l == 23 then Some (cell 3)
    else if l == 11 then Some (node pair (21 ∷ 90 ∷ []))
    else if l == 12 then Some (node pair (22 ∷ 91 ∷ []))
    else if l == 13 then Some (node pair (23 ∷ 92 ∷ []))
    else None

-- a root 1 of depth 1, at whose digits 1 and 2 the pairs 11 and 12 stand
abbrev pub flat : Forms ℕ
flat l = if l == 1 then Some (node (trie 1 6 0) (11 ∷ 12 ∷ [])) else at_pairs l

-- at whose digit 1 a row of the next depth stands, with the pairs at its digits 1 and 2
abbrev pub deep : Forms ℕ
deep l =
    if l == 1 then Some (node (trie 1 0 2) (3 ∷ []))
    else if l == 3 then Some (node (trie 2 6 0) (11 ∷ 12 ∷ []))
    else at_pairs l

-- at whose digit 1 a chain of the keys 1 and 3 stands
abbrev pub chained : Forms ℕ
chained l =
    if l == 1 then Some (node (trie 1 0 2) (5 ∷ []))
    else if l == 5 then Some (node chain (11 ∷ 6 ∷ []))
    else if l == 6 then Some (node chain (13 ∷ []))
    else at_pairs l

-- the path of an edit ends at the row where the digit leads to an entry; that to the pair of a key has the pair, where it is the key's
abbrev pub EditAtRow : Type 0
EditAtRow = edit_rows nat_cmp flat 1 9 2 1 32 1 ≡ 1 ∷ []

abbrev pub PairAtRow : Type 0
PairAtRow = pair_rows nat_cmp flat 1 9 2 1 32 1 ≡ 1 ∷ 11 ∷ []

abbrev pub PairOfOther : Type 0
PairOfOther = pair_rows nat_cmp flat 7 9 2 1 32 1 ≡ 1 ∷ []

-- it goes down where the digit leads to a row
abbrev pub EditBelow : Type 0
EditBelow = edit_rows nat_cmp deep 2 9 2 1 2080 1 ≡ 1 ∷ 3 ∷ []

abbrev pub PairBelow : Type 0
PairBelow = pair_rows nat_cmp deep 2 9 2 1 2080 1 ≡ 1 ∷ 3 ∷ 12 ∷ []

-- in a chain it has the rows of smaller keys; that to the pair besides the key's own row
abbrev pub EditFirst : Type 0
EditFirst = edit_rows nat_cmp chained 1 9 1 1 32 1 ≡ 1 ∷ []

abbrev pub EditBetween : Type 0
EditBetween = edit_rows nat_cmp chained 2 9 1 1 32 1 ≡ 1 ∷ 5 ∷ []

abbrev pub EditLast : Type 0
EditLast = edit_rows nat_cmp chained 9 9 1 1 32 1 ≡ 1 ∷ 5 ∷ 6 ∷ []

abbrev pub PairFirst : Type 0
PairFirst = pair_rows nat_cmp chained 1 9 1 1 32 1 ≡ 1 ∷ 5 ∷ 11 ∷ []

abbrev pub PairLast : Type 0
PairLast = pair_rows nat_cmp chained 3 9 1 1 32 1 ≡ 1 ∷ 5 ∷ 6 ∷ 13 ∷ []

-- A carried pool that computes: all entries of a trie are split at once by the digits of their codes.
use Rattle.std.specs.Prelude.{ℕ, zero, suc, ◌+◌, ◌*◌, ◌==◌, ◌&&◌, Bool, nat_eq, nat_le, List, [], ◌∷◌, ◌++◌, map, length, fold, Option, Some, slice_get, slice_index, if◌then◌else◌}
use Rattle.std.specs.List.{filter, flat_map, list_any, range_with_len, position_or_len}
use Rattle.std.specs.Ordering.{nat_cmp, is_lt}
use Rattle.std.specs.Cmp.Lexicographic.{slice_cmp}
use lib.Pointwise.{pointwise}
use Rattle.node_heap.specs.Forms.{Form, node, leaf, trie, chain}
use Rattle.champ_chain.specs.Entry.{Entry}
use Rattle.champ_trie.specs.Trie.{part, code_by}
use Rattle.pool_text.specs.Rows.{Bytes}
use Rattle.pool_text.specs.Rules.{Rules}
use Rattle.pool_text.specs.Pool.{forms_in, row_count, relink, settings_by, pool}
use Rattle.pool_text.specs.declared.pool.Pool.{Pool}
use Rattle.pool_text.specs.declared.rules.TheConstants.{MOST_HISTORY}
use Rattle.pool_check.specs.Tries.{entries_below}
use Rattle.pool_check.specs.Kinds.{is_trie_root}
use Rattle.pool_carry.specs.Carried.{is_of_trie}

-- The rows of a canonical trie.

-- A row of a trie, told by its depth and its entries, in rising order of their keys. Past the deepest depth it is a chain row.
pub record TrieRow : Type 0 where
  pub depth : ℕ
  pub entries : List (Entry Bytes)

abbrev pub trie_row : ℕ → List (Entry Bytes) → TrieRow
trie_row d E = record { depth = d; entries = E }

-- two are the same where their depths and the links of their entries are
abbrev pub same_row : TrieRow → TrieRow → Bool
same_row r s = (r.depth == s.depth) && pointwise nat_eq (map (λ (e : Entry Bytes). e.link) r.entries) (map (λ (e : Entry Bytes). e.link) s.entries)

-- the rows with every repeat but the first left out
abbrev pub with_row : List TrieRow → TrieRow → List TrieRow
with_row R r = if list_any (same_row r) R then R else R ++ r ∷ []

abbrev pub first_rows : List TrieRow → List TrieRow
first_rows R = fold with_row [] R

-- the entries in rising order of their keys
abbrev pub with_entry : List (Entry Bytes) → Entry Bytes → List (Entry Bytes)
with_entry [] e = e ∷ []
with_entry (d ∷ es) e = if is_lt (slice_cmp nat_cmp e.key d.key) then e ∷ d ∷ es else d ∷ with_entry es e

abbrev pub by_key : List (Entry Bytes) → List (Entry Bytes)
by_key E = fold with_entry [] E

-- what f gives of two entries or more, and nothing of fewer
abbrev pub of_two : {X : Type 0} → (List (Entry Bytes) → List X) → List (Entry Bytes) → List X
of_two f [] = []
of_two f (e ∷ []) = []
of_two f (e ∷ d ∷ es) = f (e ∷ d ∷ es)

-- the link of a single entry, and nothing of any other number of them
abbrev pub single : List (Entry Bytes) → List ℕ
single [] = []
single (e ∷ []) = e.link ∷ []
single (e ∷ d ∷ es) = []

abbrev pub chain_rows : ℕ → List (Entry Bytes) → List TrieRow
chain_rows depth [] = []
chain_rows depth (e ∷ es) = trie_row depth (e ∷ es) ∷ chain_rows depth es

module _ (code : Bytes → ℕ) where
  -- the entries by the digits of their codes at the depth, rising
  abbrev pub parts : ℕ → List (Entry Bytes) → List (List (Entry Bytes))
  parts depth E = map (λ p. part (slice_cmp nat_cmp) code depth p E) (range_with_len 0 32)

  -- the row of these entries at the depth and all rows below it, with so many levels of trie rows left
  unfoldable pub rows_of : ℕ → ℕ → List (Entry Bytes) → List TrieRow
  rows_of zero depth E = chain_rows depth E
  rows_of (suc left) depth E = trie_row depth E ∷ flat_map (of_two (rows_of left (suc depth))) (parts depth E)

-- the number whose bits, from the lowest on, are these
abbrev pub number_of : List ℕ → ℕ
number_of [] = 0
number_of (b ∷ bs) = b + 2 * number_of bs

abbrev pub one_if_two : List (Entry Bytes) → List ℕ
one_if_two E = of_two (λ _. 0 ∷ []) E

module _ (deepest : ℕ) (code : Bytes → ℕ) (name : TrieRow → ℕ) where
  -- the trie row of these parts: its entries are those that stand alone, its nodes are of two or more
  abbrev pub trie_form : ℕ → List (List (Entry Bytes)) → Form Bytes
  trie_form depth Ps =
      node (trie depth (number_of (map (λ P. length (single P)) Ps)) (number_of (map (λ P. length (one_if_two P)) Ps)))
      (flat_map single Ps ++ flat_map (of_two (λ P. name (trie_row (suc depth) P) ∷ [])) Ps)

  -- the rest of a chain, if any
  abbrev pub chain_rest : ℕ → List (Entry Bytes) → List ℕ
  chain_rest depth [] = []
  chain_rest depth (e ∷ es) = name (trie_row depth (e ∷ es)) ∷ []

  abbrev pub chain_form : ℕ → List (Entry Bytes) → Form Bytes
  chain_form depth [] = node chain []
  chain_form depth (e ∷ es) = node chain (e.link ∷ chain_rest depth es)

  -- the form of a row of a trie, the rows below it under their names
  abbrev pub form_of_row : TrieRow → Form Bytes
  form_of_row r = if nat_le r.depth deepest then trie_form r.depth (parts code r.depth r.entries) else chain_form r.depth r.entries

-- The pool.

module _ (rules : Rules) (bits : ℕ) (P : Pool) where
  abbrev pub new_code : Bytes → ℕ
  new_code = code_by rules.code_of bits

  -- the first row of the new trie of the entries below a trie row of the pool
  abbrev pub top_row : ℕ → TrieRow
  top_row l = trie_row 0 (by_key (entries_below (row_count P) (forms_in P) l))

  -- the places of the trie rows of depth 0
  abbrev pub trie_roots : List ℕ
  trie_roots = filter (λ l. is_trie_root (forms_in P l)) (range_with_len 0 (row_count P))

  -- the rows of all new tries, each once
  unfoldable pub new_rows : List TrieRow
  new_rows = first_rows (flat_map (λ l. rows_of new_code (suc rules.deepest) 0 (top_row l).entries) trie_roots)

  module _ (R : List TrieRow) where
    -- the name of a row of the new tries: these come after the pool's own rows
    abbrev pub name_of : TrieRow → ℕ
    name_of r = row_count P + position_or_len (same_row r) R

    -- a trie row of depth 0 has the new trie for an image, and every other row itself
    abbrev pub image_of : ℕ → Option (Form Bytes) → ℕ
    image_of l (Some (node (trie zero _ _) _)) = name_of (top_row l)
    image_of l _ = l

    abbrev pub images : List ℕ
    images = map (λ l. image_of l (forms_in P l)) (range_with_len 0 (row_count P))

    -- a row with the images of its links; in the place of an old row of a trie stands a row that nothing links to
    abbrev pub own_row : List ℕ → Form Bytes → Form Bytes
    own_row fs row = if is_of_trie (Some row) then node leaf [] else relink (slice_index fs) row

    -- the rows by their names: the pool's own, and then those of the new tries
    abbrev pub rows_with : List ℕ → List (Form Bytes)
    rows_with fs = map (own_row fs) P.rows ++ map (form_of_row rules.deepest new_code name_of) R

  -- the pool of these rows from the images of the roots
  abbrev pub carried_by : List ℕ → List (Form Bytes) → Pool
  carried_by fs rows = pool (length rows) (slice_get rows) (map (slice_index fs) P.roots) (settings_by bits MOST_HISTORY)

  abbrev pub carried_from : List TrieRow → List ℕ → Pool
  carried_from R fs = carried_by fs (rows_with R fs)

  abbrev pub carried_with : List TrieRow → Pool
  carried_with R = carried_from R (images R)

  -- the pool, carried over to these rules and so many code bits
  unfoldable pub carried : Pool
  carried = carried_with new_rows

-- The path of an edit, the rows that it must be able to write, from the root down, over forms.
use Rattle.std.specs.Prelude.{◌≡◌, ℕ, zero, suc, ◌+◌, ◌≤◌, List, [], ◌∷◌, Option, Some, None, option_to_list, length, take}
use Rattle.std.specs.Ordering.{match_ordering}
use Rattle.std.specs.declared.cmp.Ordering.{Ordering}
use Rattle.std.specs.declared.cmp.Ordering.TheVariants.{Greater}
use Rattle.elem_core.specs.Codes.{digit_at}
use Rattle.elem_core.specs.declared.codes.TheConstants.{LEVELS}
use Rattle.node_heap.specs.Forms.{Forms, Form, cell, node, leaf, inner, trie, chain, pair, state}
use Rattle.node_heap.specs.Heap.{Heap, form_at, live_count}
use Rattle.node_heap.specs.Owner.{KeepsAlone, alone}
use Rattle.champ_chain.specs.Entry.{key_at}
use Rattle.champ_trie.specs.Trie.{place_of, code_by}
use Rattle.champ_trie.specs.declared.place.Place.{Place}
use Rattle.champ_trie.specs.declared.place.Place.TheVariants.{Entry as At, Node, Empty}

-- the rows on from a place: none where nothing stands, and else what is said of an entry or of a node
abbrev pub rows_from_place : (ℕ → List ℕ) → (ℕ → List ℕ) → Place → List ℕ
rows_from_place at_entry at_node Empty = []
rows_from_place at_entry at_node (At x) = at_entry x
rows_from_place at_entry at_node (Node l) = at_node l

module _ {K : Type 0} where
  -- what stands at a position of a trie row; nothing in another row
  abbrev pub place_in : Option (Form K) → ℕ → Place
  place_in None p = Empty
  place_in (Some (cell x)) p = Empty
  place_in (Some (node leaf links)) p = Empty
  place_in (Some (node (inner height) links)) p = Empty
  place_in (Some (node (trie depth entries nodes) links)) p = place_of entries nodes links p
  place_in (Some (node chain links)) p = Empty
  place_in (Some (node pair links)) p = Empty
  place_in (Some (node state links)) p = Empty

  -- a chain row's entry, and the row after it
  abbrev pub entry_in : Option (Form K) → Option ℕ
  entry_in None = None
  entry_in (Some (cell x)) = None
  entry_in (Some (node kind [])) = None
  entry_in (Some (node kind (x ∷ links))) = Some x

  abbrev pub next_in : Option (Form K) → Option ℕ
  next_in None = None
  next_in (Some (cell x)) = None
  next_in (Some (node kind [])) = None
  next_in (Some (node kind (x ∷ []))) = None
  next_in (Some (node kind (x ∷ l ∷ links))) = Some l

  -- the trie rows to which the digits of a code lead, with so many levels of them left; then those that are said of the entry, or of
  -- the chain, to which they lead
  unfoldable pub rows_to : (ℕ → List ℕ) → (ℕ → List ℕ) → Forms K → ℕ → ℕ → ℕ → ℕ → List ℕ
  rows_to at_entry at_chain F zero depth c l = at_chain l
  rows_to at_entry at_chain F (suc left) depth c l =
      l ∷ rows_from_place at_entry (λ k. rows_to at_entry at_chain F left (suc depth) c k) (place_in (F l) (digit_at c depth))

  -- all rows of a chain from a link on, so many at most
  unfoldable pub rows_on : Forms K → ℕ → Option ℕ → List ℕ
  rows_on F zero o = []
  rows_on F (suc n) None = []
  rows_on F (suc n) (Some l) = l ∷ rows_on F n (next_in (F l))

  -- the rows over a key: the trie rows to which the digits of its code lead, and all rows of the chain to which they lead
  abbrev pub way_rows : Forms K → ℕ → ℕ → ℕ → ℕ → ℕ → List ℕ
  way_rows F most left depth c l = rows_to (λ _. []) (λ k. rows_on F most (Some k)) F left depth c l

  module _ (cmp : K → K → Ordering) (F : Forms K) (key : K) where
    -- how the key of an entry stands to this one; what names no entry is not before it
    abbrev pub order_of : Option K → Ordering
    order_of None = Greater
    order_of (Some k) = cmp k key

    abbrev pub order_in : Option ℕ → Ordering
    order_in None = Greater
    order_in (Some x) = order_of (key_at F x)

    -- of the first so many rows of a chain those with smaller keys, and then those that are said of the key's own row
    unfoldable pub chain_rows : (ℕ → List ℕ) → ℕ → Option ℕ → List ℕ
    chain_rows own zero o = []
    chain_rows own (suc n) None = []
    chain_rows own (suc n) (Some l) = match_ordering (order_in (entry_in (F l))) (l ∷ chain_rows own n (next_in (F l))) (own l) []

    -- an entry, if it is that of the key
    abbrev pub own_entry : ℕ → List ℕ
    own_entry x = match_ordering (order_of (key_at F x)) [] (x ∷ []) []

    -- a chain row and its entry
    abbrev pub row_and_entry : ℕ → List ℕ
    row_and_entry l = l ∷ option_to_list (entry_in (F l))

    -- the path of an insertion and of a removal: the trie rows to which the digits lead, and then the chain rows with smaller keys
    abbrev pub edit_rows : ℕ → ℕ → ℕ → ℕ → ℕ → List ℕ
    edit_rows most left depth c l = rows_to (λ _. []) (λ k. chain_rows (λ _. []) most (Some k)) F left depth c l

    -- that to the pair of a key, if it is there: besides, its chain row, if any, and the pair
    abbrev pub pair_rows : ℕ → ℕ → ℕ → ℕ → ℕ → List ℕ
    pair_rows most left depth c l = rows_to own_entry (λ k. chain_rows row_and_entry most (Some k)) F left depth c l

module _ {T : Type 0} (cmp : T → T → Ordering) (code : T → ℕ) (h : Heap T) (bits : ℕ) (key : T) (root : ℕ) where
  -- these paths from a root down, by so many bits of the codes; a chain has no more rows than the heap
  abbrev pub edit_path : List ℕ
  edit_path = edit_rows cmp (form_at h) key (live_count h) LEVELS 0 (code_by code bits key) root

  abbrev pub pair_path : List ℕ
  pair_path = pair_rows cmp (form_at h) key (live_count h) LEVELS 0 (code_by code bits key) root

  abbrev pub key_way : List ℕ
  key_way = way_rows (form_at h) (live_count h) LEVELS 0 (code_by code bits key) root

-- at each place of the path, as far as it is in the trie before and after, the row is the old one exactly where that was alone
abbrev pub KeepsShared : {T : Type 0} → Heap T → List ℕ → List ℕ → Type 0
KeepsShared old path path' = KeepsAlone old (take (length path') path) (take (length path) path')

-- as many rows came as the path has that aren't alone
abbrev pub MakesCopies : {T : Type 0} → Heap T → Heap T → List ℕ → Type 0
MakesCopies old new path = live_count new + alone old path ≡ live_count old + length path

-- no more rows came than the path has that aren't alone, than the way to the key is longer now, and than so many
abbrev pub MakesFew : {T : Type 0} → Heap T → Heap T → List ℕ → List ℕ → List ℕ → ℕ → Type 0
MakesFew old new path way way' n = live_count new + alone old path + length way ≤ live_count old + length path + length way' + n

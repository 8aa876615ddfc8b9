-- The canonical trie of a set of entries.
use Rattle.std.specs.Prelude.{◌≡◌, ℕ, zero, suc, ◌+◌, ◌<◌, ◌≤◌, ◌^◌, true, false, nat_eq, List, [], ◌∷◌, Some, length, slice_index, slice_index_or, if◌then◌else◌}
use Rattle.std.specs.List.{filter}
use Rattle.std.specs.declared.cmp.Ordering.{Ordering}
use Rattle.elem_core.specs.Codes.{digit_at, masked_code}
use Rattle.elem_core.specs.declared.codes.TheConstants.{DEEPEST}
use Rattle.node_heap.specs.Forms.{Forms, node, trie}
use Rattle.node_heap.specs.Heap.{Heap, form_at}
use Rattle.champ_chain.specs.Entry.{Entry, entry, IsEntry, AreDistinct}
use Rattle.champ_chain.specs.Chain.{IsChain}
use Rattle.champ_trie.specs.Bits.{has, rank}
use Rattle.champ_trie.specs.declared.place.Place.{Place}
use Rattle.champ_trie.specs.declared.place.Place.TheVariants.{Entry as At, Node, Empty}

-- what stands at a position: the entry or the node at its rank among the links, which are first the entries and then the nodes
abbrev pub place_of : ℕ → ℕ → List ℕ → ℕ → Place
place_of entries nodes links p =
    if has entries p then At (slice_index links (rank entries p)) else (if has nodes p then Node (slice_index links (rank entries 32 + rank nodes p)) else Empty)

-- two sets of positions that have none in common, with a link for each position
pub record AreSets (entries nodes : ℕ) (links : List ℕ) : Type 0 where
  pub entries_small : entries < 2 ^ 32
  pub nodes_small : nodes < 2 ^ 32
  pub apart : (p : ℕ) → p < 32 → has entries p ≡ true → has nodes p ≡ false
  pub count : length links ≡ rank entries 32 + rank nodes 32

-- the link that stands at a place
abbrev pub links_at_place : Place → List ℕ
links_at_place Empty = []
links_at_place (At x) = x ∷ []
links_at_place (Node l) = l ∷ []

-- a trie row of these sets and links at a depth
pub record IsRow {K : Type 0} (F : Forms K) (l depth entries nodes : ℕ) (links : List ℕ) : Type 0 where
  pub row : F l ≡ Some (node (trie depth entries nodes) links)
  pub sets : AreSets entries nodes links

-- a trie row at a depth at whose positions stand these places in turn
pub record IsRowOfPlaces {K : Type 0} (F : Forms K) (l depth : ℕ) (places : List Place) : Type 0 where
  pub entries : ℕ
  pub nodes : ℕ
  pub links : List ℕ
  pub row : IsRow F l depth entries nodes links
  pub at : (p : ℕ) → p < 32 → place_of entries nodes links p ≡ slice_index_or places p Empty

module _ {K : Type 0} where
  -- what stands for these entries: nothing for none, the entry itself for one, and for more the node that IsNode says
  abbrev pub IsPlace : Forms K → (ℕ → List (Entry K) → Type 0) → Place → List (Entry K) → Type 0
  IsPlace F IsNode Empty E = E ≡ []
  IsPlace F IsNode (At x) E = (key : K) × (E ≡ entry key x ∷ []) × IsEntry F (entry key x)
  IsPlace F IsNode (Node l) E = (2 ≤ length E) × IsNode l E

  module _ (cmp : K → K → Ordering) (code : K → ℕ) where
    -- the entries with this digit of their code
    abbrev pub part : ℕ → ℕ → List (Entry K) → List (Entry K)
    part depth p E = filter (λ e. nat_eq (digit_at (code e.key) depth) p) E

    -- the trie row of these entries at a depth: at each position stands what stands for the entries with this digit
    pub record IsTrieRow (F : Forms K) (depth l : ℕ) (E : List (Entry K)) (IsNode : ℕ → List (Entry K) → Type 0) : Type 0 where
      pub entries : ℕ
      pub nodes : ℕ
      pub links : List ℕ
      pub row : IsRow F l depth entries nodes links
      pub places : (p : ℕ) → p < 32 → IsPlace F IsNode (place_of entries nodes links p) (part depth p E)

    -- the canonical trie of these entries with so many levels of trie rows left, and chains below them
    unfoldable pub IsTrie : Forms K → ℕ → ℕ → ℕ → List (Entry K) → Type 0
    IsTrie F zero depth l E = IsChain cmp F l E
    IsTrie F (suc left) depth l E = IsTrieRow F depth l E (λ k P. IsTrie F left (suc depth) k P)

    -- the canonical trie of these entries, whose keys are different, from depth 0 on, where codes have their last digits at this depth
    pub record IsCanonTo (deepest : ℕ) (F : Forms K) (root : ℕ) (E : List (Entry K)) : Type 0 where
      pub trie : IsTrie F (deepest + 1) 0 root E
      pub distinct : AreDistinct cmp E

    -- the same for the codes of elements
    abbrev pub IsCanon : Forms K → ℕ → List (Entry K) → Type 0
    IsCanon F root E = IsCanonTo DEEPEST F root E

-- the code of a key by so many bits
abbrev pub code_by : {K : Type 0} → (K → ℕ) → ℕ → K → ℕ
code_by code bits key = masked_code (code key) bits

-- the canonical trie of these entries in a heap, by so many low bits of their keys' codes
abbrev pub IsTrieOf : {T : Type 0} → (T → T → Ordering) → (T → ℕ) → ℕ → Heap T → ℕ → List (Entry T) → Type 0
IsTrieOf cmp code bits h root E = IsCanon cmp (code_by code bits) (form_at h) root E

-- what is a trie in the old heap is the same trie in the new one
abbrev pub KeepsTries : {T : Type 0} → Heap T → Heap T → Type 0
KeepsTries {T} old new = (cmp : T → T → Ordering) (code : T → ℕ) (root : ℕ) (E : List (Entry T)) → IsCanon cmp code (form_at old) root E → IsCanon cmp code (form_at new) root E

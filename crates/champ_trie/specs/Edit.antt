-- What an edit makes of a row.
use Rattle.std.specs.Prelude.{◌≡◌, ◌≢◌, ◌⊎◌, ℕ, zero, suc, ◌+◌, ◌<◌, List, length, slice_index, ◌==◌, if◌then◌else◌}
use Rattle.std.specs.declared.cmp.Ordering.{Ordering}
use Rattle.elem_core.specs.Codes.{digit_at}
use Rattle.elem_core.specs.declared.codes.TheConstants.{LEVELS}
use Rattle.node_heap.specs.Forms.{Forms}
use Rattle.node_heap.specs.Heap.{Heap, form_at}
use Rattle.champ_chain.specs.Entry.{Entry, AreDistinct}
use Rattle.champ_trie.specs.Trie.{AreSets, IsRow, IsTrie, place_of}
use Rattle.champ_trie.specs.Reach.{Agrees}
use Rattle.champ_trie.specs.declared.place.Place.{Place}
use Rattle.champ_trie.specs.declared.place.Place.TheVariants.{Entry as At, Node}

-- the place has the only entry of these sets and links, or else a row of them
abbrev pub Closes : {T : Type 0} → Heap T → ℕ → ℕ → List ℕ → ℕ → Place → Type 0
Closes h entries nodes links depth place =
    ((nodes ≡ 0) × (length links ≡ 1) × (place ≡ At (slice_index links 0)))
    ⊎ (((nodes ≡ 0) × (length links ≡ 1) → ⊥) × ((l : ℕ) × (place ≡ Node l) × IsRow (form_at h) l depth entries nodes links))

-- the second row has this place at a position, and else what the first one has
pub record ChangesAt (entries nodes : ℕ) (links : List ℕ) (new_entries new_nodes : ℕ) (new_links : List ℕ) (p : ℕ) (place : Place) : Type 0 where
  pub sets : AreSets new_entries new_nodes new_links
  pub here : place_of new_entries new_nodes new_links p ≡ place
  pub others : (q : ℕ) → q < 32 → q ≢ p → place_of new_entries new_nodes new_links q ≡ place_of entries nodes links q

-- the rows of a chain of two entries with these codes, which stand in a chain only where the codes are the same
abbrev pub chain_nodes : ℕ → ℕ → ℕ
chain_nodes c d = if c == d then 2 else 0

-- a trie from a depth down, whose entries agree with the code above it
pub record IsBelow {K : Type 0} (cmp : K → K → Ordering) (code : K → ℕ) (F : Forms K) (depth l : ℕ) (E : List (Entry K)) (left c : ℕ) : Type 0 where
  pub levels : depth + left ≡ LEVELS
  pub trie : IsTrie cmp code F left depth l E
  pub distinct : AreDistinct cmp E
  pub agrees : Agrees code depth c E

module _ {K : Type 0} where
  -- two rows at a depth with the same at each position but this one; where both have a node there, the nodes are as IsNext says
  pub record DifferAt (F G : Forms K) (depth p l m : ℕ) (IsNext : ℕ → ℕ → Type 0) : Type 0 where
    pub entries : ℕ
    pub nodes : ℕ
    pub links : List ℕ
    pub row : IsRow F l depth entries nodes links
    pub new_entries : ℕ
    pub new_nodes : ℕ
    pub new_links : List ℕ
    pub new_row : IsRow G m depth new_entries new_nodes new_links
    pub others : (q : ℕ) → q < 32 → q ≢ p → place_of new_entries new_nodes new_links q ≡ place_of entries nodes links q
    pub next : (j k : ℕ) → place_of entries nodes links p ≡ Node j → place_of new_entries new_nodes new_links p ≡ Node k → IsNext j k

  -- these sets and links have this place at a position, and else what the row has
  pub record AreEdited (F : Forms K) (l p : ℕ) (place : Place) (entries nodes : ℕ) (links : List ℕ) : Type 0 where
    pub sets : AreSets entries nodes links
    pub here : place_of entries nodes links p ≡ place
    pub others : (d e n : ℕ) (ls : List ℕ) → IsRow F l d e n ls → (q : ℕ) → q < 32 → q ≢ p → place_of entries nodes links q ≡ place_of e n ls q

  -- the second row, at a depth, has this place at a position, and else what the first one has
  pub record IsEdited (F G : Forms K) (l depth p : ℕ) (place : Place) (m : ℕ) : Type 0 where
    pub entries : ℕ
    pub nodes : ℕ
    pub links : List ℕ
    pub edits : AreEdited F l p place entries nodes links
    pub row : IsRow G m depth entries nodes links

  -- the second trie differs from the first on the way of a code alone: beside it each row has the same links
  unfoldable pub SharesBeside : Forms K → Forms K → ℕ → ℕ → ℕ → ℕ → ℕ → Type 0
  SharesBeside F G c zero depth l m = Unit {0}
  SharesBeside F G c (suc left) depth l m = DifferAt F G depth (digit_at c depth) l m (λ j k. SharesBeside F G c left (suc depth) j k)

-- the place has what stands for a row at a depth that has this place at a position, and else what the row at a link has
pub record IsClosed {T : Type 0} (old new : Heap T) (l depth p : ℕ) (place closed : Place) : Type 0 where
  pub entries : ℕ
  pub nodes : ℕ
  pub links : List ℕ
  pub edits : AreEdited (form_at old) l p place entries nodes links
  pub closes : Closes new entries nodes links depth closed

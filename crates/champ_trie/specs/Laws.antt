-- Laws of canonical tries and of their rows.
use Rattle.std.specs.Prelude.{◌≡◌, ◌≢◌, ℕ, suc, ◌+◌, ◌<◌, List, [], ◌∷◌, Some, slice_index_or}
use Rattle.std.specs.List.{All}
use Rattle.std.specs.declared.cmp.Ordering.{Ordering}
use Rattle.elem_core.specs.Codes.{digit_at}
use Rattle.node_heap.specs.Links.{HasLink, Reaches, SameBelow}
use Rattle.node_heap.specs.InPlace.{ReachesAround}
use Rattle.node_heap.specs.Forms.{Forms, pair, head_of, links_in}
use Rattle.champ_chain.specs.Entry.{Entry, key_at, others, put}
use Rattle.champ_trie.specs.Trie.{IsCanon, IsTrie, IsPlace, IsRowOfPlaces, part, place_of, links_at_place}
use Rattle.champ_trie.specs.Edit.{DifferAt}
use Rattle.champ_trie.specs.declared.place.Place.{Place}
use Rattle.champ_trie.specs.declared.place.Place.TheVariants.{Empty}

-- a trie stays wherever all that its root reaches is the same
abbrev pub TriesStay : Type 0 → Type 0
TriesStay K = (cmp : K → K → Ordering) (code : K → ℕ) (F G : Forms K) (root : ℕ) (E : List (Entry K)) → SameBelow (links_in F) F G root → IsCanon cmp code F root E → IsCanon cmp code G root E

-- a trie's root reaches each of its entries
abbrev pub TriesReach : Type 0 → Type 0
TriesReach K = (cmp : K → K → Ordering) (code : K → ℕ) (F : Forms K) (root : ℕ) (E : List (Entry K)) → IsCanon cmp code F root E → All (λ e. Reaches (links_in F) root e.link) E

-- all that the root reaches around a link is the same, and the link named a pair and names an entry with the same key
pub record SameAround {K : Type 0} (F G : Forms K) (root link : ℕ) : Type 0 where
  pub key : K
  pub is_pair : head_of (F link) ≡ Some pair
  pub had_key : key_at F link ≡ Some key
  pub has_key : key_at G link ≡ Some key
  pub same : (m : ℕ) → ReachesAround (links_in F) link root m → G m ≡ F m

-- a trie stays where all that its root reaches around one entry is the same, and that entry has the same key
abbrev pub TriesStayAround : Type 0 → Type 0
TriesStayAround K = (cmp : K → K → Ordering) (code : K → ℕ) (F G : Forms K) (root link : ℕ) (E : List (Entry K)) → SameAround F G root link → IsCanon cmp code F root E → IsCanon cmp code G root E

-- a row like that of a trie, below which all is the same, is that trie
abbrev pub TriesStandAnywhere : Type 0 → Type 0
TriesStandAnywhere K =
    (cmp : K → K → Ordering) (code : K → ℕ) (F G : Forms K) (left depth l m : ℕ) (E : List (Entry K)) → G m ≡ F l → ((k : ℕ) → HasLink (links_in F) l k → SameBelow (links_in F) F G k)
    → IsTrie cmp code F (suc left) depth l E → IsTrie cmp code G (suc left) depth m E

-- two rows at a depth with the same at each position but this one, below which all is the same
pub record DifferOnlyAt {K : Type 0} (F G : Forms K) (depth p l m : ℕ) : Type 0 where
  pub rows : DifferAt F G depth p l m (λ _ _. Unit {0})
  pub below : (q : ℕ) → q < 32 → q ≢ p → (k : ℕ) → links_at_place (place_of rows.entries rows.nodes rows.links q) ≡ k ∷ [] → SameBelow (links_in F) F G k

module _ {K : Type 0} (cmp : K → K → Ordering) (code : K → ℕ) where
  -- a row is the trie of some entries where at each position stands what stands for those with this digit
  abbrev pub RowOfPlacesIsTrie : Type 0
  RowOfPlacesIsTrie =
      (F : Forms K) (left depth l : ℕ) (places : List Place) (E : List (Entry K)) → IsRowOfPlaces F l depth places
      → ((p : ℕ) → p < 32 → IsPlace F (λ k P. IsTrie cmp code F left (depth + 1) k P) (slice_index_or places p Empty) (part cmp code depth p E)) → IsTrie cmp code F (suc left) depth l E

  -- a trie's row with another thing at one position, which stands for the entries there and one entry more, is the trie with it
  abbrev pub RowTakesEntry : Type 0
  RowTakesEntry =
      (F G : Forms K) (left depth l m : ℕ) (E : List (Entry K)) (e : Entry K) → IsTrie cmp code F (suc left) depth l E → (d : DifferOnlyAt F G depth (digit_at (code e.key) depth) l m)
      → IsPlace G (λ k P. IsTrie cmp code G left (depth + 1) k P) (place_of d.rows.new_entries d.rows.new_nodes d.rows.new_links (digit_at (code e.key) depth)) (put cmp (part cmp code depth (digit_at (code e.key) depth) E) e)
      → IsTrie cmp code G (suc left) depth m (put cmp E e)

  -- a trie's row with another thing at one position, which stands for the entries there without a key, is the trie without it
  abbrev pub RowLosesKey : Type 0
  RowLosesKey =
      (F G : Forms K) (left depth l m : ℕ) (E : List (Entry K)) (key : K) → IsTrie cmp code F (suc left) depth l E → (d : DifferOnlyAt F G depth (digit_at (code key) depth) l m)
      → IsPlace G (λ k P. IsTrie cmp code G left (depth + 1) k P) (place_of d.rows.new_entries d.rows.new_nodes d.rows.new_links (digit_at (code key) depth)) (others cmp key (part cmp code depth (digit_at (code key) depth) E))
      → IsTrie cmp code G (suc left) depth m (others cmp key E)

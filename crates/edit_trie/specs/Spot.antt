-- Inside: where the link of a position stands in a trie row, and what another link there makes of the row.
use Rattle.std.specs.Prelude.{◌≡◌, ◌≢◌, ℕ, ◌+◌, ◌<◌, true, false, List}
use Rattle.node_heap.specs.Forms.{Forms}
use Rattle.champ_trie.specs.Trie.{IsRow, place_of}
use Rattle.champ_trie.specs.declared.place.Place.{Place}
use Rattle.champ_trie.specs.Bits.{has, rank}
use Rattle.edit_trie.specs.declared.row.Spot.{Spot}
use Rattle.edit_trie.specs.declared.row.Spot.TheVariants.{Empty, Entry, Node}

-- nothing stands at the position of these sets; an entry does, at its rank; a node does, at its rank after all entries
abbrev pub IsSpot : ℕ → ℕ → ℕ → Spot → Type 0
IsSpot e n p Empty = (has e p ≡ false) × (has n p ≡ false)
IsSpot e n p (Entry i) = (has e p ≡ true) × (i ≡ rank e p)
IsSpot e n p (Node i) = (has e p ≡ false) × (has n p ≡ true) × (i ≡ rank e 32 + rank n p)

-- the row has this at the position now, and at each other position what these sets and links have there
pub record PutsAt {K : Type 0} (G : Forms K) (row depth e n : ℕ) (ls : List ℕ) (p : ℕ) (place : Place) : Type 0 where
  pub entries : ℕ
  pub nodes : ℕ
  pub links : List ℕ
  pub row_is : IsRow G row depth entries nodes links
  pub puts : place_of entries nodes links p ≡ place
  pub others : (q : ℕ) → q < 32 → q ≢ p → place_of entries nodes links q ≡ place_of e n ls q

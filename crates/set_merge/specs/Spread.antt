-- What a merge makes of two places, and of the positions of a row.
use Rattle.std.specs.Prelude.{◌≡◌, ℕ, zero, suc, ◌+◌, Bool, true, false, List, [], ◌∷◌, Option, Some, None, ◌⊎◌}
use Rattle.node_heap.specs.Links.{count}
use Rattle.node_heap.specs.Heap.{Heap, form_at}
use Rattle.node_heap.specs.Calls.{Builds}
use Rattle.champ_trie.specs.Trie.{AreSets, IsRow, place_of, links_at_place}
use Rattle.champ_trie.specs.declared.place.Place.{Place}
use Rattle.champ_trie.specs.declared.place.Place.TheVariants.{Empty, Entry as At, Node}
use Rattle.set_merge.specs.declared.merged.Merged.{Merged}
use Rattle.set_merge.specs.declared.merged.Merged.TheVariants.{Old, New}
use Rattle.set_merge.specs.declared.spread.Spread.{Spread}

-- the place, whether its node is new or not
abbrev pub place_merged : Merged → Place
place_merged (Old place) = place
place_merged (New l) = Node l

-- the link of a new node, which is held
abbrev pub new_links : Merged → List ℕ
new_links (Old place) = []
new_links (New l) = l ∷ []

-- the link of what stood before, which isn't
abbrev pub old_links : Merged → List ℕ
old_links (Old place) = links_at_place place
old_links (New l) = []

abbrev pub is_new : Merged → Bool
is_new (Old place) = false
is_new (New l) = true

-- what stands at a position so far
abbrev pub standing : Spread → ℕ → Place
standing s p = place_of s.row.entries s.row.nodes s.row.links p

-- nothing where nothing stands at any position, the entry where it is all that stands there, and else None
abbrev pub lone_in : List ℕ → ℕ → Option Place
lone_in [] nodes = Some Empty
lone_in (x ∷ []) zero = Some (At x)
lone_in (x ∷ []) (suc nodes) = None
lone_in (x ∷ y ∷ links) nodes = None

abbrev pub lone_of : Spread → Option Place
lone_of s = lone_in s.row.links s.row.nodes

-- the place is the first or the second one, as all positions are, or what is all that stands there
abbrev pub IsUnchanged : Spread → Place → Place → Place → Type 0
IsUnchanged s a b place = ((s.as_first ≡ true) × (place ≡ a)) ⊎ ((s.as_second ≡ true) × (place ≡ b)) ⊎ (lone_of s ≡ Some place)

-- nothing was put there yet
pub record IsBlank (s : Spread) : Type 0 where
  pub sets : AreSets s.row.entries s.row.nodes s.row.links
  pub places : (p : ℕ) → standing s p ≡ Empty
  pub links : s.row.links ≡ []
  pub stood : s.stood ≡ []
  pub made : s.made ≡ false
  pub as_first : s.as_first ≡ true
  pub as_second : s.as_second ≡ true

-- a row is wanted: some node is new, or the positions are neither those of the first place nor those of the second, and more than one
-- entry stands there
abbrev pub WantsRow : Spread → Type 0
WantsRow s = (s.made ≡ true) ⊎ (s.as_first ≡ false) × (s.as_second ≡ false) × (lone_of s ≡ None)

module _ {T : Type 0} where
  -- a row like this was made, and the holds of the nodes that weren't there before were spent
  pub record IsMade (old new : Heap T) (s : Spread) (depth l : ℕ) : Type 0 where
    pub row : IsRow (form_at new) l depth s.row.entries s.row.nodes s.row.links
    pub builds : (news : List ℕ) → ((k : ℕ) → count k s.stood + count k news ≡ count k s.row.links) → Builds old new news (l ∷ []) 0 1
    pub more : WantsRow s

  -- what stands for a row of these positions: where none is new, an old place, and else a row that was made
  abbrev pub Closed : Heap T → Heap T → Spread → ℕ → Place → Place → Merged → Type 0
  Closed old new s depth a b (Old place) = (new ≡ old) × (s.made ≡ false) × IsUnchanged s a b place
  Closed old new s depth a b (New l) = IsMade old new s depth l

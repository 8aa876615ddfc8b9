-- What stands at a root, whatever it holds: what one call of a test hands to the next.
use Rattle.std.specs.Prelude.{◌≡◌, ◌+◌, ◌<◌, ◌≤◌, ℕ, List, length, map}
use Rattle.std.specs.List.{All}
use Rattle.std.specs.declared.cmp.Ordering.{Ordering}
use Rattle.node_heap.specs.Heap.{Heap, form_at, links_at, holds_at, owners_at, hold_count, one_at, IsGraph}
use Rattle.node_heap.specs.Calls.{HasHolds, Releases, KeepsHeld}
use Rattle.node_heap.specs.InPlace.{child_at}
use Rattle.champ_chain.specs.Entry.{Entry}
use Rattle.champ_trie.specs.Trie.{IsTrieOf}
use Rattle.champ_kinds.specs.Root.{Root}
use Rattle.champ_kinds.specs.Stands.{IsSomeMap}
use Rattle.champ_kinds.specs.Binding.{Binding}
use Rattle.same_value.specs.Cells.{IsCellLink}
use Rattle.same_value.specs.Contents.{IsMapWith}

module _ {T : Type 0} (cmp : T → T → Ordering) (code : T → ℕ) where
  -- a trie, by so many bits
  abbrev pub IsSomeTrie : ℕ → Heap T → ℕ → Type 0
  IsSomeTrie bits h l = (E : List (Entry T)) × IsTrieOf cmp code bits h l E

  -- a map whose values are cells
  abbrev pub IsCellMap : Heap T → Root → Type 0
  IsCellMap h r = (M : List (Binding T)) × IsMapWith cmp code h (IsCellLink (form_at h)) r M

module _ {T R : Type 0} (Is : Heap T → R → Type 0) where
  -- what was such a thing is one
  abbrev pub Keeps : Heap T → Heap T → Type 0
  Keeps old new = (r : R) → Is old r → Is new r

  -- each of the list is such a thing, and the heap has no more holds than the list has things
  pub record Holds (h : Heap T) (things : List R) : Type 0 where
    pub are : All (Is h) things
    pub few : hold_count h ≤ length things

module _ {T : Type 0} where
  -- one hold of the link is given up
  pub record GivesUp (old new : Heap T) (link : ℕ) : Type 0 where
    pub graph : IsGraph new
    pub releases : Releases old new link
    pub keeps : KeepsHeld (one_at link) old new

module _ {T : Type 0} (cmp : T → T → Ordering) (code : T → ℕ) where
  -- the map is edited, each other map that is held stays, and the hold of the root goes over to the new one
  pub record EditsMap (old new : Heap T) (was is : Root) : Type 0 where
    pub cells : IsCellMap cmp code new is
    pub others : (r : Root) → one_at was.root r.root < holds_at old r.root → IsCellMap cmp code old r → IsCellMap cmp code new r
    pub holds : (k : ℕ) → holds_at new k + one_at was.root k ≡ holds_at old k + one_at is.root k
    pub count : hold_count new ≡ hold_count old

  -- maps of cells, each with a hold of its own, and no more holds than these
  pub record AreHeld (h : Heap T) (maps : List Root) : Type 0 where
    pub are : All (IsCellMap cmp code h) maps
    pub holds : HasHolds h (map (λ (r : Root). r.root) maps)
    pub few : hold_count h ≤ length maps

  -- a map by so many bits at an index of a row with one owner, a hold, and no more holds than this
  pub record IsPlaced (h : Heap T) (parent index bits : ℕ) : Type 0 where
    pub sole : owners_at h parent ≡ 1
    pub held : 0 < holds_at h parent
    pub inside : index < length (links_at h parent)
    pub good : IsSomeMap cmp code h (record { root = child_at h parent index; bits = bits })
    pub few : hold_count h ≤ 1

-- What follows where an edit writes the alone rows of its path and no others, and what a change at a key's pair makes of the map.
use Rattle.std.specs.Prelude.{◌≡◌, ℕ, ◌<◌, List, ◌∷◌, [], IsSome}
use Rattle.std.specs.List.{All}
use Rattle.std.specs.declared.cmp.Ordering.{Ordering}
use Rattle.std.specs.declared.cmp.Ordering.TheVariants.{Equal}
use Rattle.node_heap.specs.Links.{count, Reaches}
use Rattle.node_heap.specs.Forms.{head_of}
use Rattle.node_heap.specs.Heap.{Heap, row_at, form_at, links_at, holds_at, IsGraph}
use Rattle.node_heap.specs.Calls.{KeepsBelow}
use Rattle.node_heap.specs.InPlace.{child_at, OwnsDown, Changes}
use Rattle.node_heap.specs.declared.owner.Owner.{Owner}
use Rattle.node_heap.specs.declared.owner.Owner.TheVariants.{Hold as by_hold}
use Rattle.node_heap.specs.Owner.{owned, holds_beside, KeepsBeside, IsOwner, WritesOnly, WritesOnlyLeft}
use Rattle.champ_chain.specs.Entry.{key_at}
use Rattle.champ_kinds.specs.Root.{Root}
use Rattle.champ_kinds.specs.Binding.{Binding, bind}
use Rattle.champ_kinds.specs.Kinds.{IsMapOf}
use Rattle.edit_trie.specs.Path.{edit_path, pair_path}
use Rattle.edit_trie.specs.Edit.{by_bits, IsPairOfKey}

module _ {T : Type 0} (cmp : T → T → Ordering) (code : T → ℕ) where
  -- an edit that writes the way to a key's pair keeps all that any hold reaches beside its owner, and all below each value
  pub record KeepsBesideAndValues (owner : Owner) (old new : Heap T) (root : ℕ) (M : List (Binding T)) : Type 0 where
    pub beside : KeepsBeside owner root (λ _. 0) old new
    pub below : All (λ b. KeepsBelow old new b.value) M

  abbrev pub EditsKeepValues : Type 0
  EditsKeepValues = (owner : Owner) (old new : Heap T) (root bits : ℕ) (M : List (Binding T)) (key : T) → IsGraph old → IsOwner old owner → IsMapOf cmp code old (by_bits bits (owned old owner)) M
      → WritesOnly owner old new root (pair_path cmp code old bits key (owned old owner)) → KeepsBesideAndValues owner old new root M

  -- a removal keeps all below each value that is left, and what else is held
  abbrev pub CutsKeepValues : Type 0
  CutsKeepValues = (owner : Owner) (old new : Heap T) (root bits : ℕ) (M : List (Binding T)) (key : T) → IsGraph old → IsGraph new → IsOwner old owner → IsMapOf cmp code old (by_bits bits (owned old owner)) M
      → WritesOnlyLeft owner old new root (edit_path cmp code old bits key (owned old owner)) → All (λ b. IsSome (row_at new b.value) → KeepsBelow old new b.value) M

  abbrev pub CutsKeepHeld : Type 0
  CutsKeepHeld = (old new : Heap T) (root root' bits : ℕ) (M : List (Binding T)) (key : T) → IsGraph old → IsGraph new → 0 < holds_at old root → IsMapOf cmp code old (by_bits bits root) M
      → WritesOnlyLeft (by_hold root) old new root' (edit_path cmp code old bits key root) → (l : ℕ) → 0 < holds_beside old (by_hold root) l → IsSome (row_at new l) → KeepsBelow old new l

  -- a change at a key's pair, which keeps its head and its key cell, makes the map with the pair's new value at the key
  abbrev pub PairChangesBind : Type 0
  PairChangesBind = (old new : Heap T) (r : Root) (M : List (Binding T)) (key : T) (link value l : ℕ) (spent gained : List ℕ) (c n : ℕ) → IsGraph old → IsMapOf cmp code old r M → IsPairOfKey cmp code old r key link
      → Changes link old new spent gained c n → count l spent < holds_at old l → Reaches (links_at old) l r.root
      → head_of (row_at new link) ≡ head_of (row_at old link) → links_at new link ≡ child_at old link 0 ∷ value ∷ [] → key_at (form_at new) link ≡ key_at (form_at old) link
      → IsMapOf cmp code new r (bind cmp M key value)

  -- and it keeps all below the value of each other key, where it goes down from the root to the pair by rows with one owner each
  abbrev pub PairChangesKeepValues : Type 0
  PairChangesKeepValues = (old new : Heap T) (r : Root) (M : List (Binding T)) (key : T) (link l : ℕ) (spent gained : List ℕ) (c n : ℕ) → IsGraph old → IsMapOf cmp code old r M → IsPairOfKey cmp code old r key link → OwnsDown old r.root link
      → Changes link old new spent gained c n → count l spent < holds_at old l → Reaches (links_at old) l r.root → All (λ b. (cmp key b.key ≡ Equal → ⊥) → KeepsBelow old new b.value) M

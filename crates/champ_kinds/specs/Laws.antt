-- Laws of maps and sets.
use Rattle.std.specs.Prelude.{◌≡◌, ℕ, List, map}
use Rattle.std.specs.List.{All, AllZip}
use Rattle.std.specs.declared.cmp.Ordering.{Ordering}
use Rattle.std.specs.declared.cmp.Ordering.TheVariants.{Equal}
use Rattle.node_heap.specs.Links.{Reaches}
use Rattle.node_heap.specs.Forms.{Tree, IsTree}
use Rattle.node_heap.specs.Heap.{Heap, form_at, links_at}
use Rattle.node_heap.specs.Calls.{Extends, KeepsBelow}
use Rattle.champ_chain.specs.Entry.{Entry, SameSet}
use Rattle.champ_trie.specs.Canon.{SimilarByOrder}
use Rattle.champ_kinds.specs.Root.{Root}
use Rattle.champ_kinds.specs.Binding.{Binding, TreeBinding, Unfolds, IsSimilarBinding}
use Rattle.champ_kinds.specs.Kinds.{IsMapOf, IsSetOf}
use Rattle.champ_kinds.specs.Stands.{KeepsMaps, KeepsSets}

module _ {T : Type 0} where
  -- what is a map or a set in the old heap is the same map or set in the new one
  pub record KeepsContainer (old new : Heap T) (r : Root) : Type 0 where
    pub map : (cmp : T → T → Ordering) (code : T → ℕ) (M : List (Binding T)) → IsMapOf cmp code old r M → IsMapOf cmp code new r M
    pub set : (cmp : T → T → Ordering) (code : T → ℕ) (E : List (Entry T)) → IsSetOf cmp code old r E → IsSetOf cmp code new r E

  -- every map and every set of the old heap is the same one in the new heap
  abbrev pub KeepsContainers : Heap T → Heap T → Type 0
  KeepsContainers old new = (r : Root) → KeepsContainer old new r

-- a map or a set stays wherever all that its root reaches is the same
abbrev pub ContainersStay : Type 0 → Type 0
ContainersStay T = (old new : Heap T) (r : Root) → KeepsBelow old new r.root → KeepsContainer old new r

-- where every row stays, what was a map is one, and what was a set
abbrev pub MapsStay : Type 0 → Type 0
MapsStay T = (cmp : T → T → Ordering) (code : T → ℕ) (old new : Heap T) → Extends old new → KeepsMaps cmp code old new

abbrev pub SetsStay : Type 0 → Type 0
SetsStay T = (cmp : T → T → Ordering) (code : T → ℕ) (old new : Heap T) → Extends old new → KeepsSets cmp code old new

-- a map's root reaches the value of each binding
abbrev pub MapsReach : Type 0 → Type 0
MapsReach T = (cmp : T → T → Ordering) (code : T → ℕ) (h : Heap T) (r : Root) (M : List (Binding T)) → IsMapOf cmp code h r M → All (λ b. Reaches (links_at h) r.root b.value) M

-- a set's root reaches the cell of each key
abbrev pub SetsReach : Type 0 → Type 0
SetsReach T = (cmp : T → T → Ordering) (code : T → ℕ) (h : Heap T) (r : Root) (E : List (Entry T)) → IsSetOf cmp code h r E → All (λ e. Reaches (links_at h) r.root e.link) E

-- each element of the first list, in turn, goes with one of the second in some order
abbrev pub GoOneToOne : {X : Type 0} → (X → X → Type 0) → List X → List X → Type 0
GoOneToOne R xs ys = (zs : List _) × SameSet zs ys × AllZip R xs zs

module _ {T : Type 0} (cmp : T → T → Ordering) (code : T → ℕ) where
  -- a root is one map, whose bindings stand in some order
  abbrev pub RootHasOneMap : Type 0
  RootHasOneMap = (h : Heap T) (r : Root) (M N : List (Binding T)) → IsMapOf cmp code h r M → IsMapOf cmp code h r N → SameSet M N

  -- the map of some bindings is that of these bindings in any order
  abbrev pub MapTakesAnyOrder : Type 0
  MapTakesAnyOrder = (h : Heap T) (r : Root) (M N : List (Binding T)) → SameSet M N → IsMapOf cmp code h r M → IsMapOf cmp code h r N

  -- a root is one set
  abbrev pub RootHasOneSet : Type 0
  RootHasOneSet = (h : Heap T) (r : Root) (E D : List (Entry T)) → IsSetOf cmp code h r E → IsSetOf cmp code h r D → SameSet E D

  -- the set of some entries is that of these entries in any order
  abbrev pub SetTakesAnyOrder : Type 0
  SetTakesAnyOrder = (h : Heap T) (r : Root) (E D : List (Entry T)) → SameSet E D → IsSetOf cmp code h r E → IsSetOf cmp code h r D

  -- the root is a map of bindings with these trees, and unfolds to this one
  pub record IsMapTree (h : Heap T) (r : Root) (bs : List (TreeBinding T)) (t : Tree T) : Type 0 where
    pub bindings : List (Binding T)
    pub map : IsMapOf cmp code h r bindings
    pub values : AllZip (Unfolds (form_at h)) bindings bs
    pub tree : IsTree (form_at h) r.root t

  -- the root is a set of these keys, and unfolds to this tree
  pub record IsSetTree (h : Heap T) (r : Root) (keys : List T) (t : Tree T) : Type 0 where
    pub entries : List (Entry T)
    pub set : IsSetOf cmp code h r entries
    pub have : map (λ e. e.key) entries ≡ keys
    pub tree : IsTree (form_at h) r.root t

  -- maps by as many bits with the same keys, whose values unfold to the same trees, unfold to the same tree, in whatever heaps
  abbrev pub EqualMapsHaveEqualTrees : Type 0
  EqualMapsHaveEqualTrees =
      (h g : Heap T) (r s : Root) (bs cs : List (TreeBinding T)) (t u : Tree T) → r.bits ≡ s.bits → IsMapTree h r bs t → IsMapTree g s cs u → SameSet bs cs → t ≡ u

  -- maps that unfold to one tree have the same keys, whose values unfold to the same trees
  abbrev pub EqualTreesAreOfOneMap : Type 0
  EqualTreesAreOfOneMap = (h g : Heap T) (r s : Root) (bs cs : List (TreeBinding T)) (t : Tree T) → IsMapTree h r bs t → IsMapTree g s cs t → SameSet bs cs

  -- maps by as many bits whose bindings are similar one to one unfold to similar trees
  abbrev pub SimilarMapsHaveSimilarTrees : Type 0
  SimilarMapsHaveSimilarTrees =
      (h g : Heap T) (r s : Root) (bs cs : List (TreeBinding T)) (t u : Tree T) → r.bits ≡ s.bits → IsMapTree h r bs t → IsMapTree g s cs u → GoOneToOne (IsSimilarBinding cmp) bs cs → SimilarByOrder cmp t u

  -- sets by as many bits with the same keys unfold to the same tree, in whatever heaps
  abbrev pub EqualSetsHaveEqualTrees : Type 0
  EqualSetsHaveEqualTrees =
      (h g : Heap T) (r s : Root) (js ks : List T) (t u : Tree T) → r.bits ≡ s.bits → IsSetTree h r js t → IsSetTree g s ks u → SameSet js ks → t ≡ u

  -- sets that unfold to one tree have the same keys
  abbrev pub EqualTreesAreOfOneSet : Type 0
  EqualTreesAreOfOneSet = (h g : Heap T) (r s : Root) (js ks : List T) (t : Tree T) → IsSetTree h r js t → IsSetTree g s ks t → SameSet js ks

  -- sets by as many bits whose keys the order calls equal one to one unfold to similar trees
  abbrev pub SimilarSetsHaveSimilarTrees : Type 0
  SimilarSetsHaveSimilarTrees =
      (h g : Heap T) (r s : Root) (js ks : List T) (t u : Tree T) → r.bits ≡ s.bits → IsSetTree h r js t → IsSetTree g s ks u → GoOneToOne (λ j k. cmp j k ≡ Equal) js ks → SimilarByOrder cmp t u

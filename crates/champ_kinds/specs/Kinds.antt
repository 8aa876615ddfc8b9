-- Maps and sets: what their tries stand for.
use Rattle.std.specs.Prelude.{◌≡◌, ℕ, ◌≤◌, List, [], ◌∷◌, map, Some}
use Rattle.std.specs.List.{All, AllZip}
use Rattle.std.specs.declared.cmp.Ordering.{Ordering}
use Rattle.elem_core.specs.declared.codes.TheConstants.{CODE_BITS}
use Rattle.node_heap.specs.Forms.{Forms, cell, node, pair}
use Rattle.node_heap.specs.Heap.{Heap, form_at}
use Rattle.champ_chain.specs.Entry.{Entry, SameSet}
use Rattle.champ_trie.specs.Trie.{IsTrieOf}
use Rattle.champ_kinds.specs.Root.{Root}
use Rattle.champ_kinds.specs.Binding.{Binding}

module _ {K : Type 0} (F : Forms K) where
  -- the entry is a cell of its key
  abbrev pub IsKeyCell : Entry K → Type 0
  IsKeyCell e = F e.link ≡ Some (cell e.key)

  -- the entry is a pair of a cell of its key and the value that the binding gives the key
  pub record IsPair (e : Entry K) (b : Binding K) : Type 0 where
    pub key_cell : ℕ
    pub cell : F key_cell ≡ Some (cell e.key)
    pub row : F e.link ≡ Some (node pair (key_cell ∷ b.value ∷ []))
    pub key : b.key ≡ e.key

  -- the links are those of entries, in any order, whose pairs these bindings are
  pub record ArePairLinks (links : List ℕ) (M : List (Binding K)) : Type 0 where
    pub entries : List (Entry K)
    pub pairs : AllZip IsPair entries M
    pub same : SameSet links (map (λ e. e.link) entries)

module _ {T : Type 0} (cmp : T → T → Ordering) (code : T → ℕ) (h : Heap T) (r : Root) where
  -- the root is the trie of these entries, by its bits
  pub record HasEntries (E : List (Entry T)) : Type 0 where
    pub bits : r.bits ≤ CODE_BITS
    pub trie : IsTrieOf cmp code r.bits h r.root E

  -- the root is the set of the keys of these entries, each a cell of its key
  pub record IsSetOf (E : List (Entry T)) : Type 0 where
    pub rooted : HasEntries E
    pub cells : All (IsKeyCell (form_at h)) E

  -- the root is the map of these bindings
  pub record IsMapOf (M : List (Binding T)) : Type 0 where
    pub entries : List (Entry T)
    pub rooted : HasEntries entries
    pub pairs : AllZip (IsPair (form_at h)) entries M

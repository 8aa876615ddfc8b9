-- What a root stands for in a store of sets: a trie, by all bits of the keys' codes, whose entries are cells.
use Rattle.std.specs.Prelude.{◌≡◌, ℕ, nat_eq, List, map, filter_map, count_by}
use Rattle.std.specs.declared.cmp.Ordering.{Ordering}
use Rattle.elem_core.specs.declared.codes.TheConstants.{CODE_BITS}
use Rattle.node_heap.specs.Heap.{Heap}
use Rattle.champ_chain.specs.Entry.{Entry}
use Rattle.champ_trie.specs.Trie.{code_by}
use Rattle.champ_trie.specs.Walk.{walk}
use Rattle.champ_kinds.specs.Root.{Root}
use Rattle.champ_kinds.specs.Kinds.{IsSetOf}
use Rattle.versions.specs.Rooted.{value_at}
use Rattle.versions.specs.Sorted.{sorted_keys}

-- a set or a map with this root
abbrev pub by_root : ℕ → Root
by_root l = record { root = l; bits = CODE_BITS }

-- how many of the keys have this key's code
abbrev pub alike : {K : Type 0} → (K → ℕ) → K → List K → ℕ
alike code key keys = count_by (λ k. nat_eq (code_by code CODE_BITS k) (code_by code CODE_BITS key)) keys

module _ {K : Type 0} (cmp : K → K → Ordering) where
  -- the values of the cells of a set
  abbrev pub keys_at : Heap K → ℕ → List K
  keys_at h l = sorted_keys cmp (filter_map (value_at h) (walk h l))

  -- the trie with this root is a set of cells, which have these keys
  pub record IsKeySet (code : K → ℕ) (h : Heap K) (l : ℕ) (keys : List K) : Type 0 where
    pub entries : List (Entry K)
    pub set : IsSetOf cmp code h (by_root l) entries
    pub sorted : keys ≡ sorted_keys cmp (map (λ e. e.key) entries)

-- Inside: what an insertion makes of a map, whose root has one owner.
use Rattle.std.specs.Prelude.{◌≡◌, ℕ, ◌+◌, ◌≤◌, List, [], ◌∷◌, length, Option, MatchOption, option_to_list}
use Rattle.champ_trie.specs.declared.TheConstants.{ADD_NODES}
use Rattle.std.specs.declared.cmp.Ordering.{Ordering}
use Rattle.elem_core.specs.declared.codes.TheConstants.{LEVELS}
use Rattle.node_heap.specs.Heap.{Heap, form_at, owners_at, IsGraph}
use Rattle.node_heap.specs.Calls.{Gains}
use Rattle.node_heap.specs.InPlace.{Changes}
use Rattle.node_heap.specs.declared.owner.Owner.TheVariants.{Hold as by_hold}
use Rattle.node_heap.specs.Owner.{WritesOnly}
use Rattle.champ_chain.specs.Entry.{Entry, others, link_with}
use Rattle.champ_trie.specs.Trie.{code_by}
use Rattle.champ_trie.specs.Reach.{alike_in}
use Rattle.champ_kinds.specs.Binding.{Binding, bind, value_with}
use Rattle.champ_kinds.specs.Kinds.{HasEntries, IsMapOf, IsPair}
use Rattle.champ_kinds.specs.Edit.{PutsPair}
use Rattle.std.specs.List.{AllZip}
use Rattle.edit_trie.specs.Path.{edit_rows, pair_rows, way_rows, KeepsShared, MakesCopies, MakesFew}
use Rattle.edit_trie.specs.Edit.{by_bits}

module _ {T : Type 0} (cmp : T → T → Ordering) (code : T → ℕ) where
  -- the map of these entries and bindings, whose root has one owner, can take a value at a key, which was looked up
  pub record CanBind (h : Heap T) (bits root : ℕ) (key : T) (E : List (Entry T)) (M : List (Binding T)) (found : Option ℕ) : Type 0 where
    pub graph : IsGraph h
    pub sole : owners_at h root ≡ 1
    pub rooted : HasEntries cmp code h (by_bits bits root) E
    pub pairs : AllZip (IsPair (form_at h)) E M
    pub looked : found ≡ link_with cmp key E

  -- the value is at the key now, and the one that stood there came back
  pub record Binds (old new : Heap T) (bits root : ℕ) (key : T) (E : List (Entry T)) (M : List (Binding T)) (value : ℕ) (given : Option ℕ) : Type 0 where
    pub map : IsMapOf cmp code new (by_bits bits root) (bind cmp M key value)
    pub back : given ≡ value_with cmp key M
    pub entries : PutsPair cmp code old new (by_bits bits root) E key value
    pub changes : Changes root old new (value ∷ []) (option_to_list given) 1 (ADD_NODES + alike_in (code_by code bits) (code_by code bits key) E)
    pub gains : Gains old new
    pub path : (most more : ℕ) → length E ≤ most → length E ≤ more → 1 + length (others cmp key E) ≤ more
        → KeepsShared old (edit_rows cmp (form_at old) key most LEVELS 0 (code_by code bits key) root) (edit_rows cmp (form_at new) key more LEVELS 0 (code_by code bits key) root)
    pub came : (most more : ℕ) → length E ≤ most → length E ≤ more → 1 + length (others cmp key E) ≤ more → MatchOption given
        (MakesFew old new (edit_rows cmp (form_at old) key most LEVELS 0 (code_by code bits key) root) (way_rows (form_at old) most LEVELS 0 (code_by code bits key) root) (way_rows (form_at new) more LEVELS 0 (code_by code bits key) root) 2)
        (λ _. MakesCopies old new (pair_rows cmp (form_at old) key most LEVELS 0 (code_by code bits key) root))
    pub others : (most : ℕ) → length E ≤ most → WritesOnly (by_hold root) old new root (pair_rows cmp (form_at old) key most LEVELS 0 (code_by code bits key) root)

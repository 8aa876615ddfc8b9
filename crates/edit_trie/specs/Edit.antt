-- What each edit in place makes of a map or a set, which goes by an owner of its root.
use Rattle.std.specs.Prelude.{◌≡◌, ℕ, ◌+◌, ◌-◌, ◌^◌, List, [], ◌∷◌, length, min, Option, Some, MatchOption, option_to_list}
use Rattle.champ_trie.specs.declared.TheConstants.{ADD_NODES}
use Rattle.champ_trie.specs.Reach.{alike_to}
use Rattle.champ_kinds.specs.declared.map.TheConstants.{INSERT_NODES}
use Rattle.edit_trie.specs.declared.own_pair.TheConstants.{OWN_NODES}
use Rattle.std.specs.List.{find}
use Rattle.std.specs.declared.cmp.Ordering.{Ordering}
use Rattle.elem_core.specs.declared.codes.TheConstants.{LEVELS}
use Rattle.node_heap.specs.Heap.{Heap, row_at, owners_at}
use Rattle.node_heap.specs.Calls.{MakesWhatCame}
use Rattle.node_heap.specs.InPlace.{child_at, OwnsDown}
use Rattle.node_heap.specs.declared.owner.Owner.{Owner}
use Rattle.node_heap.specs.Owner.{owned, EditsBy, KeepsAlone, alone, WritesOnly, WritesOnlyLeft}
use Rattle.champ_chain.specs.Entry.{Entry, entry, has_key, link_with, others}
use Rattle.champ_kinds.specs.Root.{Root}
use Rattle.champ_kinds.specs.Binding.{Binding, bind, unbind, value_with, alike_keys}
use Rattle.champ_kinds.specs.Kinds.{HasEntries, IsMapOf, IsSetOf}
use Rattle.edit_trie.specs.Path.{edit_path, pair_path, key_way, KeepsShared, MakesCopies, MakesFew}

-- a root, and how many bits of the codes its map goes by
abbrev pub by_bits : ℕ → ℕ → Root
by_bits bits root = record { root = root; bits = bits }

module _ {T : Type 0} (cmp : T → T → Ordering) (code : T → ℕ) where
  -- the link is that of the key's pair in the map of a root
  pub record IsPairOfKey (h : Heap T) (r : Root) (key : T) (link : ℕ) : Type 0 where
    pub entries : List (Entry T)
    pub rooted : HasEntries cmp code h r entries
    pub there : link_with cmp key entries ≡ Some link

  -- the root has the given entries with other keys, each in its place, and that of the key in this place, as it was
  pub record OwnsEntry (old new : Heap T) (r : Root) (E : List (Entry T)) (key : T) (link : ℕ) : Type 0 where
    pub before : Entry T
    pub there : find (has_key cmp key) E ≡ Some before
    pub entries : HasEntries cmp code new r (entry before.key link ∷ others cmp key E)
    pub same : row_at new link ≡ row_at old before.link

  module _ (owner : Owner) (bits : ℕ) (old new : Heap T) (root : ℕ) (M : List (Binding T)) (key : T) where
    -- the map has the value at the key, and the one that stood there came back. As many rows came as the path to the pair has that
    -- aren't alone; of an absent key no more than the path has so, than the way to the key is longer now, and than a cell and a pair
    pub record PutsValue (value : ℕ) (given : Option ℕ) : Type 0 where
      pub map : IsMapOf cmp code new (by_bits bits root) (bind cmp M key value)
      pub back : given ≡ value_with cmp key M
      pub edits : EditsBy owner old new root (value ∷ []) (option_to_list given) 1 (INSERT_NODES + alike_keys code bits key M)
      pub path : KeepsShared old (edit_path cmp code old bits key (owned old owner)) (edit_path cmp code new bits key root)
      pub gains : MatchOption given (MakesFew old new (edit_path cmp code old bits key (owned old owner)) (key_way cmp code old bits key (owned old owner)) (key_way cmp code new bits key root) 2)
          (λ _. MakesCopies old new (pair_path cmp code old bits key (owned old owner)))
      pub others : WritesOnly owner old new root (pair_path cmp code old bits key (owned old owner))
      pub makes : MakesWhatCame old new

    -- the map is without the key, whose value came back. As many rows were made as the path has now, beside those that were alone
    pub record CutsKey (given : ℕ) : Type 0 where
      pub map : IsMapOf cmp code new (by_bits bits root) (unbind cmp key M)
      pub back : value_with cmp key M ≡ Some given
      pub edits : EditsBy owner old new root [] (given ∷ []) 0 (LEVELS + alike_keys code bits key M)
      pub path : KeepsShared old (edit_path cmp code old bits key (owned old owner)) (edit_path cmp code new bits key root)
      pub others : WritesOnlyLeft owner old new root (edit_path cmp code old bits key (owned old owner))
      pub made : new.made ≡ min (old.made + (length (edit_path cmp code new bits key root) - alone old (edit_path cmp code old bits key (owned old owner)))) (2 ^ 64 - 1)

    -- the map is the same, and each row on the way to the key's pair, and the pair, have one owner. As many rows came as the path
    -- has that aren't alone
    pub record OwnsPair (link : ℕ) : Type 0 where
      pub map : IsMapOf cmp code new (by_bits bits root) M
      pub pair : IsPairOfKey new (by_bits bits root) key link
      pub value : value_with cmp key M ≡ Some (child_at new link 1)
      pub top : owners_at new root ≡ 1
      pub sole : owners_at new link ≡ 1
      pub down : OwnsDown new root link
      pub edits : EditsBy owner old new root [] [] 0 (OWN_NODES + alike_keys code bits key M)
      pub path : KeepsAlone old (pair_path cmp code old bits key (owned old owner)) (pair_path cmp code new bits key root)
      pub gains : MakesCopies old new (pair_path cmp code old bits key (owned old owner))
      pub others : WritesOnly owner old new root (pair_path cmp code old bits key (owned old owner))
      pub makes : MakesWhatCame old new

  module _ (owner : Owner) (bits : ℕ) (old new : Heap T) (root : ℕ) (E : List (Entry T)) (key : T) where
    -- the set has the key besides, in a cell that came. No more rows came than the path has that aren't alone, than the way to the
    -- key is longer now, and than the cell
    pub record AddsKey : Type 0 where
      pub cell : ℕ
      pub set : IsSetOf cmp code new (by_bits bits root) (entry key cell ∷ E)
      pub edits : EditsBy owner old new root [] [] 1 (ADD_NODES + alike_to code bits key E)
      pub path : KeepsShared old (edit_path cmp code old bits key (owned old owner)) (edit_path cmp code new bits key root)
      pub gains : MakesFew old new (edit_path cmp code old bits key (owned old owner)) (key_way cmp code old bits key (owned old owner)) (key_way cmp code new bits key root) 1
      pub others : WritesOnly owner old new root (edit_path cmp code old bits key (owned old owner))
      pub makes : MakesWhatCame old new

    -- the set is without the key. As many rows were made as the path has now, beside those that were alone
    pub record CutsEntry : Type 0 where
      pub set : IsSetOf cmp code new (by_bits bits root) (others cmp key E)
      pub edits : EditsBy owner old new root [] [] 0 (LEVELS + alike_to code bits key E)
      pub path : KeepsShared old (edit_path cmp code old bits key (owned old owner)) (edit_path cmp code new bits key root)
      pub others : WritesOnlyLeft owner old new root (edit_path cmp code old bits key (owned old owner))
      pub made : new.made ≡ min (old.made + (length (edit_path cmp code new bits key root) - alone old (edit_path cmp code old bits key (owned old owner)))) (2 ^ 64 - 1)

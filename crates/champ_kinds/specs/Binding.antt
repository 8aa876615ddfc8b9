-- Bindings: what a map says of its keys.
use Rattle.std.specs.Prelude.{◌≡◌, ℕ, Bool, not, nat_eq, List, ◌∷◌, Option, option_map, unwrap_or, count_by}
use Rattle.std.specs.List.{filter, find}
use Rattle.std.specs.Ordering.{is_eq}
use Rattle.std.specs.declared.cmp.Ordering.{Ordering}
use Rattle.std.specs.declared.cmp.Ordering.TheVariants.{Equal}
use Rattle.node_heap.specs.Forms.{Forms, Tree, IsTree, SimilarTree}
use Rattle.champ_trie.specs.Trie.{code_by}

-- a key and the link of its value
pub record Binding (K : Type 0) : Type 0 where
  pub key : K
  pub value : ℕ

abbrev pub binding : {K : Type 0} → K → ℕ → Binding K
binding k v = record { key = k; value = v }

-- a key and the tree of its value
pub record TreeBinding (K : Type 0) : Type 0 where
  pub key : K
  pub tree : Tree K

module _ {K : Type 0} where
  -- how many of the keys share this key's code, as far as so many bits tell
  abbrev pub alike_keys : (K → ℕ) → ℕ → K → List (Binding K) → ℕ
  alike_keys code bits key M = count_by (λ b. nat_eq (code_by code bits b.key) (code_by code bits key)) M

  -- the binding's key, and the tree that its value unfolds to
  pub record Unfolds (F : Forms K) (b : Binding K) (t : TreeBinding K) : Type 0 where
    pub key : b.key ≡ t.key
    pub tree : IsTree F b.value t.tree

  module _ (cmp : K → K → Ordering) where
    -- whether the binding is of this key
    abbrev pub binds : K → Binding K → Bool
    binds key b = is_eq (cmp key b.key)

    -- the value of the key
    abbrev pub value_with : K → List (Binding K) → Option ℕ
    value_with key M = option_map (λ (b : Binding K). b.value) (find (binds key) M)

    -- the bindings of other keys
    abbrev pub unbind : K → List (Binding K) → List (Binding K)
    unbind key M = filter (λ b. not (binds key b)) M

    -- the key that is there, or else this one
    abbrev pub kept_key : K → List (Binding K) → K
    kept_key key M = unwrap_or (option_map (λ (b : Binding K). b.key) (find (binds key) M)) key

    -- the finite map with this value at the key; a key that is there stays
    abbrev pub bind : List (Binding K) → K → ℕ → List (Binding K)
    bind M key value = binding (kept_key key M) value ∷ unbind key M

    -- the order calls the keys equal, and the trees are equal but for values of cells that it calls equal
    pub record IsSimilarBinding (b c : TreeBinding K) : Type 0 where
      pub key : cmp b.key c.key ≡ Equal
      pub tree : SimilarTree (λ x y. cmp x y ≡ Equal) b.tree c.tree

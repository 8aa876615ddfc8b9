-- Entries and sets of entries.
use Rattle.std.specs.Prelude.{◌≡◌, ℕ, ◌≤◌, Bool, not, List, [], ◌∷◌, Option, Some, None, option_map, count_by}
use Rattle.std.specs.List.{filter, find}
use Rattle.std.specs.Ordering.{is_eq}
use Rattle.std.specs.declared.cmp.Ordering.{Ordering}
use Rattle.node_heap.specs.Forms.{Form, Forms, cell, node, leaf, inner, trie, chain, pair, state, value_of}

-- an entry by its key and its link
pub record Entry (K : Type 0) : Type 0 where
  pub key : K
  pub link : ℕ

abbrev pub entry : {K : Type 0} → K → ℕ → Entry K
entry k l = record { key = k; link = l }

-- the same elements, as often each, in any order
pub data SameSet {X : Type 0} : List X → List X → Type 0 where
  same_none : SameSet [] []
  same_first : (x : X) (xs ys : List X) → SameSet xs ys → SameSet (x ∷ xs) (x ∷ ys)
  same_turned : (x y : X) (xs : List X) → SameSet (x ∷ y ∷ xs) (y ∷ x ∷ xs)
  same_through : (xs ys zs : List X) → SameSet xs ys → SameSet ys zs → SameSet xs zs

module _ {K : Type 0} where
  -- the value of the first link
  abbrev pub first_value : Forms K → List ℕ → Option K
  first_value F [] = None
  first_value F (k ∷ _) = value_of (F k)

  -- a cell's key is its value, and a pair's is the value of its first link
  abbrev pub key_of : Forms K → Option (Form K) → Option K
  key_of F None = None
  key_of F (Some (cell x)) = Some x
  key_of F (Some (node leaf links)) = None
  key_of F (Some (node (inner _) links)) = None
  key_of F (Some (node (trie _ _ _) links)) = None
  key_of F (Some (node chain links)) = None
  key_of F (Some (node pair links)) = first_value F links
  key_of F (Some (node state links)) = None

  -- the key of the entry that a link names, if it names one
  abbrev pub key_at : Forms K → ℕ → Option K
  key_at F l = key_of F (F l)

  -- the link names an entry with this key
  abbrev pub IsEntry : Forms K → Entry K → Type 0
  IsEntry F e = key_at F e.link ≡ Some e.key

  module _ (cmp : K → K → Ordering) where
    -- whether the entry has the key
    abbrev pub has_key : K → Entry K → Bool
    has_key key e = is_eq (cmp key e.key)

    -- the link of the entry with this key
    abbrev pub link_with : K → List (Entry K) → Option ℕ
    link_with key E = option_map (λ (e : Entry K). e.link) (find (has_key key) E)

    -- the entries with other keys
    abbrev pub others : K → List (Entry K) → List (Entry K)
    others key E = filter (λ e. not (has_key key e)) E

    -- the entries with this one added, or in the place of the one with its key
    abbrev pub put : List (Entry K) → Entry K → List (Entry K)
    put E e = e ∷ others e.key E

    -- no key stands twice
    pub record AreDistinct (E : List (Entry K)) : Type 0 where
      pub once : (key : K) → count_by (has_key key) E ≤ 1

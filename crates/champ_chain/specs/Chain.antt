-- Chains: a row for each entry, in rising order of the keys.
use Rattle.std.specs.Prelude.{◌≡◌, ℕ, ◌≤◌, List, [], ◌∷◌, Option, Some, None, length, option_to_list}
use Rattle.std.specs.declared.cmp.Ordering.{Ordering}
use Rattle.std.specs.declared.cmp.Ordering.TheVariants.{Less}
use Rattle.node_heap.specs.Forms.{Forms, node, chain}
use Rattle.node_heap.specs.Heap.{Heap, form_at}
use Rattle.champ_chain.specs.Entry.{Entry, key_at, SameSet}

module _ {K : Type 0} where
  -- the link, if any, names a chain row of the entry, and the row's second link, if any, is as IsRest says
  pub record IsChainRow (F : Forms K) (l : Option ℕ) (e : Entry K) (IsRest : Option ℕ → Type 0) : Type 0 where
    pub link : ℕ
    pub next : Option ℕ
    pub here : l ≡ Some link
    pub row : F link ≡ Some (node chain (e.link ∷ option_to_list next))
    pub key : key_at F e.link ≡ Some e.key
    pub rest : IsRest next

  -- the chain rows from the link on have these entries in turn
  unfoldable pub AreChainRows : Forms K → Option ℕ → List (Entry K) → Type 0
  AreChainRows F l [] = l ≡ None
  AreChainRows F l (e ∷ es) = IsChainRow F l e (λ next. AreChainRows F next es)

  -- one entry itself, or the chain rows of two or more
  abbrev pub IsEntryOrRows : Forms K → ℕ → List (Entry K) → Type 0
  IsEntryOrRows F l [] = ⊥
  IsEntryOrRows F l (e ∷ []) = (l ≡ e.link) × (key_at F e.link ≡ Some e.key)
  IsEntryOrRows F l (e ∷ d ∷ es) = AreChainRows F (Some l) (e ∷ d ∷ es)

  module _ (cmp : K → K → Ordering) where
    -- each entry has a greater key
    abbrev pub AreAbove : K → List (Entry K) → Type 0
    AreAbove key [] = Unit {0}
    AreAbove key (e ∷ es) = (cmp key e.key ≡ Less) × AreAbove key es

    -- each entry has a smaller key
    abbrev pub AreBelow : K → List (Entry K) → Type 0
    AreBelow key [] = Unit {0}
    AreBelow key (e ∷ es) = (cmp e.key key ≡ Less) × AreBelow key es

    -- in strictly rising order of the keys
    abbrev pub IsRising : List (Entry K) → Type 0
    IsRising [] = Unit {0}
    IsRising (e ∷ es) = AreAbove e.key es × IsRising es

    -- the chain of these two entries or more, in whatever order they are listed
    pub record IsChain (F : Forms K) (l : ℕ) (E : List (Entry K)) : Type 0 where
      pub entries : List (Entry K)
      pub rows : AreChainRows F (Some l) entries
      pub rising : IsRising entries
      pub same : SameSet entries E
      pub two : 2 ≤ length E

    -- one entry itself, or the chain of two or more
    abbrev pub IsEntryOrChain : Forms K → ℕ → List (Entry K) → Type 0
    IsEntryOrChain F l [] = ⊥
    IsEntryOrChain F l (e ∷ []) = (l ≡ e.link) × (key_at F e.link ≡ Some e.key)
    IsEntryOrChain F l (e ∷ d ∷ es) = IsChain F l (e ∷ d ∷ es)

-- what is a chain in the old heap is the same chain in the new one
abbrev pub KeepsChains : {T : Type 0} → Heap T → Heap T → Type 0
KeepsChains {T} old new = (cmp : T → T → Ordering) (l : ℕ) (E : List (Entry T)) → IsChain cmp (form_at old) l E → IsChain cmp (form_at new) l E

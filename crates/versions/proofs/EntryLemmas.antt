-- The cells of a map's pair.
use Rattle.std.proofs.Common.{◌≡◌, ℕ, List, [], ◌∷◌, Option, Some, None, refl, ap, ◌∙◌}
use Rattle.std.specs.Prelude.{IsSome}
use Rattle.node_heap.specs.Forms.{Row, links_of}
use Rattle.node_heap.specs.Heap.{Heap, row_at, links_at}
use Rattle.versions.specs.declared.piece.Piece.{Piece}
use Rattle.versions.specs.declared.piece.Piece.TheVariants.{Key, Value}
use Rattle.versions.specs.Rooted.{value_at}
use Rattle.versions.specs.Pieces.{entry_of, entry_in, entry_at}

module _ {K V : Type 0} (h : Heap (Piece K V)) where
  -- the link names a row whose first links are cells of a key and of a value
  pub record HasCells (l : ℕ) : Type 0 where
    pub key_cell : ℕ
    pub value_cell : ℕ
    pub rest : List ℕ
    pub links : links_at h l ≡ key_cell ∷ value_cell ∷ rest
    pub key : K
    pub value : V
    pub has_key : value_at h key_cell ≡ Some (Key key)
    pub has_value : value_at h value_cell ≡ Some (Value value)

  module _ (l : ℕ) where
    by-cells : (k v : ℕ) (rest : List ℕ) → links_at h l ≡ k ∷ v ∷ rest → (q p : Option (Piece K V)) → value_at h k ≡ q → value_at h v ≡ p → IsSome (entry_of q p) → HasCells l
    by-cells k v rest at None p first second some = absurd (let bad = some in cc)
    by-cells k v rest at (Some (Value w)) p first second some = absurd (let bad = some in cc)
    by-cells k v rest at (Some (Key a)) None first second some = absurd (let bad = some in cc)
    by-cells k v rest at (Some (Key a)) (Some (Key b)) first second some = absurd (let bad = some in cc)
    by-cells k v rest at (Some (Key a)) (Some (Value w)) first second some = record { key_cell = k; value_cell = v; rest = rest; links = at; key = a; value = w; has_key = first; has_value = second }

    by-links : (ls : List ℕ) → links_at h l ≡ ls → IsSome (entry_in h ls) → HasCells l
    by-links [] at some = absurd (let bad = some in cc)
    by-links (k ∷ []) at some = absurd (let bad = some in cc)
    by-links (k ∷ v ∷ rest) at some = by-cells k v rest at (value_at h k) (value_at h v) refl refl some

    pub pair-cells : IsSome (entry_at h l) → HasCells l
    pair-cells some = by-links (links_at h l) refl some

    linked-live : (r : Option (Row (Piece K V))) (k : ℕ) (ks : List ℕ) → links_of r ≡ k ∷ ks → IsSome r
    linked-live None k ks at = absurd (let bad = at in cc)
    linked-live (Some r) k ks at = refl

    pub pair-live : IsSome (entry_at h l) → IsSome (row_at h l)
    pair-live some = let has = pair-cells some in linked-live (row_at h l) has.key_cell (has.value_cell ∷ has.rest) has.links

    pub pair-is : (has : HasCells l) → entry_at h l ≡ Some (has.key, has.value)
    pair-is has = ap (entry_in h) has.links ∙ (λ i. entry_of (has.has_key i) (has.has_value i))

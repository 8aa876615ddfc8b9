-- Rows on the way to a vector, and a vector that is shared.
use Rattle.std.specs.Prelude.{◌≡◌, ℕ, ◌-◌, ◌≤◌, List, [], ◌∷◌, length, take}
use Rattle.std.specs.List.{All}
use Rattle.node_heap.specs.Heap.{Heap, row_at, form_at, links_at}
use Rattle.node_heap.specs.Calls.{Builds, SameRows}
use Rattle.rrb_core.specs.Seq.{seq_at, IsThick, IsWell}
use Rattle.rrb_core.specs.Vector.{HasSums}

module _ {T : Type 0} where
  -- a row of height n with these elements
  pub record IsRowOf (h : Heap T) (n l : ℕ) (xs : List ℕ) : Type 0 where
    pub well : IsWell (form_at h) n l
    pub sums : HasSums h n l
    pub items : seq_at (form_at h) n l ≡ xs

  -- rows of height n that may be the last children of one row, or all of them
  pub record AreRows (h : Heap T) (n : ℕ) (ks : List ℕ) : Type 0 where
    pub well : All (IsWell (form_at h) n) ks
    pub thick : All (IsThick (form_at h) n) (take (length ks - 1) ks)
    pub not_empty : All (λ k. 1 ≤ length (links_at h k)) ks
    pub sums : All (HasSums h n) ks

  -- one hold more of the root, and nothing else has changed
  pub record Shares (old new : Heap T) (l : ℕ) : Type 0 where
    pub rows : SameRows old new
    pub builds : Builds old new [] (l ∷ []) 0 0

-- where two links name the same row, one is the root of a row with these elements if the other is
abbrev pub SameRowIsAsGood : Type 0 → Type 0
SameRowIsAsGood T = (h : Heap T) (n l k : ℕ) (xs : List ℕ) → row_at h k ≡ row_at h l → IsRowOf h n l xs → IsRowOf h n k xs

-- and is as thick
abbrev pub SameRowIsAsThick : Type 0 → Type 0
SameRowIsAsThick T = (h : Heap T) (n l k : ℕ) → row_at h k ≡ row_at h l → IsThick (form_at h) n l → IsThick (form_at h) n k

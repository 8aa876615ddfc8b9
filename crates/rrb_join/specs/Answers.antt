-- What the calls on vectors answer.
use Rattle.std.specs.Prelude.{◌≡◌, ℕ, suc, ◌<◌, ◌≤◌, List, length, Result, IsOkAnd}
use Rattle.std.specs.List.{flat_map}
use Rattle.node_heap.specs.Heap.{Heap, links_at}
use Rattle.rrb_core.specs.Vector.{height_at}
use Rattle.rrb_core.specs.Build.{Shares}

-- the indices begin and end a part of the list
abbrev pub IsPart : ℕ → ℕ → List ℕ → Type 0
IsPart from to xs = (from ≤ to) × (to ≤ length xs)

-- the vector itself is given, with a hold more and no row: no memory was wanted
abbrev pub GivesItself : {T E : Type 0} → Heap T → Heap T → Result ℕ E → ℕ → Type 0
GivesItself old new result vector = IsOkAnd result (λ v. (v ≡ vector) × Shares old new v)

module _ {T : Type 0} where
  -- the root stands over two rows, which together have more links than one row can hold
  pub record NeedsTwoRows (h : Heap T) (l : ℕ) : Type 0 where
    pub two : length (links_at h l) ≡ 2
    pub more : 32 < length (flat_map (links_at h) (links_at h l))

  -- the vector is of the height n at most, or one row higher, and this only where its root needs two rows
  pub record RisesAtNeed (h : Heap T) (n l : ℕ) : Type 0 where
    pub most : height_at h l ≤ suc n
    pub need : n < height_at h l → NeedsTwoRows h l

-- Links of which rows are to be made, and the parts of rows that are joined.
use Rattle.std.specs.Prelude.{◌≡◌, ℕ, zero, suc, ◌+◌, ◌<◌, ◌≤◌, ◌^◌, List, ◌++◌, length, take, drop}
use Rattle.std.specs.List.{All, flat_map}
use Rattle.node_heap.specs.Links.{count}
use Rattle.node_heap.specs.Heap.{Heap, form_at, links_at, holds_at, hold_count, IsGraph, most_holds}
use Rattle.node_heap.specs.declared.row.TheConstants.{MOST_HEIGHT}
use Rattle.rrb_core.specs.Seq.{seq_at, IsThick, IsWell}
use Rattle.rrb_core.specs.Vector.{HasSums}
use Rattle.rrb_core.specs.Build.{AreRows}
use Rattle.rrb_core.specs.Levels.{rows_at}

module _ {T : Type 0} where
  -- the elements below links that a row of height n may hold
  unfoldable pub items_below : Heap T → ℕ → List ℕ → List ℕ
  items_below h zero ls = ls
  items_below h (suc n) ls = flat_map (seq_at (form_at h) n) ls

  -- links that rows of height n may hold: elements, or rows one height below that keep the fill rule
  unfoldable pub AreLinks : Heap T → ℕ → List ℕ → Type 0
  AreLinks h zero ls = Unit {0}
  AreLinks h (suc n) ls = AreRows h n ls

  -- the links are elements, or thick rows
  unfoldable pub AreThick : Heap T → ℕ → List ℕ → Type 0
  AreThick h zero ls = Unit {0}
  AreThick h (suc n) ls = All (IsThick (form_at h) n) ls

  -- a row of height n that is not empty
  pub record IsSomeRow (h : Heap T) (n l : ℕ) : Type 0 where
    pub well : IsWell (form_at h) n l
    pub sums : HasSums h n l
    pub some : 1 ≤ length (links_at h l)

  -- links, 1 to 64, of one row of height n or of two that aren't made yet, with these elements
  pub record AreUnmade (h : Heap T) (n : ℕ) (ls xs : List ℕ) : Type 0 where
    pub links : AreLinks h n ls
    pub items : items_below h n ls ≡ xs
    pub some : 1 ≤ length ls
    pub most : length ls ≤ 64

  -- links of one row of height n or of two, each with a hold for its places, over which that row or those can be made
  pub record CanBeRows (h : Heap T) (n : ℕ) (ls : List ℕ) : Type 0 where
    pub graph : IsGraph h
    pub links : AreLinks h n ls
    pub some : 1 ≤ length ls
    pub low : n ≤ MOST_HEIGHT
    pub short : length (items_below h n ls) < 2 ^ 32
    pub held : (k : ℕ) → count k ls ≤ holds_at h k
    pub holds : hold_count h < most_holds

  -- the row l of height n and the row r of height k, neither higher than `height`, can be joined to one row of that height or two
  pub record CanJoin (h : Heap T) (n l k r height : ℕ) : Type 0 where
    pub graph : IsGraph h
    pub left : IsSomeRow h n l
    pub right : IsSomeRow h k r
    pub left_low : n ≤ height
    pub right_low : k ≤ height
    pub low : height ≤ MOST_HEIGHT
    pub short : length (seq_at (form_at h) n l) + length (seq_at (form_at h) k r) < 2 ^ 32
    pub holds : hold_count h + 128 ≤ most_holds

  -- the row l of height n is its first `place` links, which are thick rows of the height `below`, and then a row of height k
  pub record EndsIn (h : Heap T) (below n l place k last : ℕ) : Type 0 where
    pub row : IsSomeRow h k last
    pub low : k ≤ below
    pub inside : place ≤ length (links_at h l)
    pub rows : AreRows h below (take place (links_at h l))
    pub thick : All (IsThick (form_at h) below) (take place (links_at h l))
    pub items : seq_at (form_at h) n l ≡ flat_map (seq_at (form_at h) below) (take place (links_at h l)) ++ seq_at (form_at h) k last
    pub wide : n ≡ suc below → place + 1 ≡ length (links_at h l)
    pub levels : (m : ℕ) → m ≤ below → rows_at (links_at h) n m l ≡ flat_map (rows_at (links_at h) below m) (take place (links_at h l)) ++ rows_at (links_at h) k m last
    pub some : (m : ℕ) → m ≤ below → 1 ≤ length (rows_at (links_at h) n m l) → 1 ≤ length (rows_at (links_at h) k m last)
    pub few : place ≤ 31

  -- the row l of height n is a row of height k, and then its links from `place` on, which are rows of the height `below`
  pub record BeginsWith (h : Heap T) (below n l place k first : ℕ) : Type 0 where
    pub row : IsSomeRow h k first
    pub low : k ≤ below
    pub inside : place ≤ length (links_at h l)
    pub rows : AreRows h below (drop place (links_at h l))
    pub close : place < length (links_at h l) → (k ≡ below) × IsThick (form_at h) below first
    pub items : seq_at (form_at h) n l ≡ seq_at (form_at h) k first ++ flat_map (seq_at (form_at h) below) (drop place (links_at h l))
    pub wide : n ≡ suc below → place ≡ 1
    pub levels : (m : ℕ) → m ≤ below → rows_at (links_at h) n m l ≡ rows_at (links_at h) k m first ++ flat_map (rows_at (links_at h) below m) (drop place (links_at h l))
    pub some : (m : ℕ) → m ≤ below → 1 ≤ length (rows_at (links_at h) n m l) → 1 ≤ length (rows_at (links_at h) k m first)
    pub thick : n ≡ suc below → IsThick (form_at h) n l → (k ≡ below) × IsThick (form_at h) below first × All (IsThick (form_at h) below) (drop place (links_at h l)) × (16 ≤ length (links_at h l))
    pub few : length (links_at h l) ≤ place + 31

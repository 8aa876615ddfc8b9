-- Inside: what an edit wants of one row of its path, which has one owner, and what it makes of it.
use Rattle.std.specs.Prelude.{◌≡◌, ◌⊎◌, ℕ, zero, suc, ◌+◌, ◌-◌, ◌++◌, take, ◌^◌, ◌<◌, ◌≤◌, List, [], ◌∷◌, length, nat_le, ◌==◌, if◌then◌else◌, slice_index, slice_set, IsSome}
use Rattle.node_heap.specs.Links.{count, Reaches}
use Rattle.node_heap.specs.Forms.{Forms, links_in}
use Rattle.node_heap.specs.Heap.{Heap, row_at, form_at, links_at, holds_at, owners_at, hold_count, cell_count, node_count, live_count, IsGraph, half_holds, most_holds}
use Rattle.node_heap.specs.Calls.{Gains}
use Rattle.node_heap.specs.InPlace.{child_at, Changes}
use Rattle.node_heap.specs.declared.owner.Owner.{Owner}
use Rattle.node_heap.specs.declared.owner.Owner.TheVariants.{Hold as by_hold}
use Rattle.node_heap.specs.Owner.{owned, EditsBy, alone, written, KeepsAlone}
use Rattle.node_heap.specs.Root.{ChangesUp}
use Rattle.node_heap.specs.declared.row.TheConstants.{MOST_HEIGHT}
use Rattle.rrb_core.specs.declared.grow.TheConstants.{PUSH_NODES}
use Rattle.rrb_core.specs.Seq.{seq_at, IsThick, IsWell}
use Rattle.rrb_core.specs.Vector.{elements, height_at, HasSums, IsGoodVector, IsVectorOf}
use Rattle.rrb_core.specs.Push.{last_in, IsPacked, IsPushed}
use Rattle.rrb_core.specs.Build.{IsRowOf}
use Rattle.edit_vec.specs.Edit.{PushesElement}
use Rattle.edit_vec.specs.Path.{up_to_last, rows_over, spine_at}

module _ {K : Type 0} where
  -- the rows that a pop writes from a row of height n down: those of its right spine to the lowest with two links or more, and of
  -- one element the row alone
  abbrev pub pop_rows : Forms K → ℕ → ℕ → List ℕ
  pop_rows F n l = if length (seq_at F n l) == 1 then l ∷ [] else up_to_last (λ k. nat_le 2 (length (links_in F k))) (spine_at F n l)

  -- a pop leaves an inner root of height n with one child: it has two, of which the last has one element
  abbrev pub LeavesChild : Forms K → ℕ → ℕ → Type 0
  LeavesChild F n root = (1 ≤ n) × (length (links_in F root) ≡ 2) × (length (seq_at F (n - 1) (last_in F root)) ≡ 1)

module _ {T : Type 0} where
  -- a row of height n with one owner, which a held element doesn't reach, with a spare for each row below it on one path
  pub record CanWrite (h : Heap T) (n l element : ℕ) : Type 0 where
    pub graph : IsGraph h
    pub well : IsWell (form_at h) n l
    pub sums : HasSums h n l
    pub low : n ≤ MOST_HEIGHT
    pub short : length (seq_at (form_at h) n l) < 2 ^ 32
    pub spare : n ≤ h.spare_nodes
    pub sole : owners_at h l ≡ 1
    pub held : 1 ≤ holds_at h element
    pub apart : ¬ Reaches (links_at h) element l

  -- the row has the element at the index, as many links and as thick, and the one that stood there came back. As many rows came
  -- as the path has that aren't alone
  pub record SetsIn (old new : Heap T) (n l index element given : ℕ) : Type 0 where
    pub row : IsRowOf new n l (slice_set (seq_at (form_at old) n l) index element)
    pub thick : IsThick (form_at old) n l → IsThick (form_at new) n l
    pub wide : length (links_at new l) ≡ length (links_at old l)
    pub back : given ≡ slice_index (seq_at (form_at old) n l) index
    pub changes : Changes l old new (element ∷ []) (given ∷ []) 0 n
    pub gains : Gains old new
    pub path : KeepsAlone old (rows_over (form_at old) n l index) (rows_over (form_at new) n l index)
    pub came : live_count new + alone old (rows_over (form_at old) n l index) ≡ live_count old + length (rows_over (form_at old) n l index)
    pub others : (m : ℕ) → IsSome (row_at old m) → count m (written old (rows_over (form_at old) n l index)) ≡ 0 → row_at new m ≡ row_at old m

  -- the row has the element after its last, put at the height `lowest` of its spine, and no fewer links.
  -- No more rows came than its spine has now that aren't alone
  pub record PushesIn (old new : Heap T) (n lowest l element : ℕ) : Type 0 where
    pub row : IsRowOf new n l (seq_at (form_at old) n l ++ element ∷ [])
    pub rule : IsPushed (form_at old) (form_at new) element n l l
    pub links : length (links_at old l) ≤ length (links_at new l)
    pub changes : Changes l old new (element ∷ []) [] 0 n
    pub gains : Gains old new
    pub path : KeepsAlone old (take (n - lowest + 1) (spine_at (form_at old) n l)) (take (n - lowest + 1) (spine_at (form_at new) n l))
    pub came : live_count new + alone old (take (n - lowest + 1) (spine_at (form_at old) n l)) ≤ live_count old + (n + 1)
    pub others : (m : ℕ) → IsSome (row_at old m) → count m (written old (take (n - lowest + 1) (spine_at (form_at old) n l))) ≡ 0 → row_at new m ≡ row_at old m

  -- a vector that can be pushed to, with a spare for each row that may come
  pub record CanPushRoot (h : Heap T) (root element : ℕ) : Type 0 where
    pub graph : IsGraph h
    pub good : IsGoodVector h root
    pub short : length (elements h root) + 1 < 2 ^ 32
    pub held : 1 ≤ holds_at h element
    pub few : hold_count h < most_holds
    pub spare : PUSH_NODES ≤ h.spare_nodes

  -- the root of height n + 1 is over a row of height n and one over the element alone
  abbrev pub IsRootOver : Heap T → ℕ → ℕ → ℕ → ℕ → Type 0
  IsRootOver h n root top element = (child : ℕ) × (links_at h top ≡ root ∷ child ∷ []) × (seq_at (form_at h) n child ≡ element ∷ [])

  -- the vector that is owned so has the element after its last, and this root
  pub record PushesRoot (owner : Owner) (old new : Heap T) (root element : ℕ) : Type 0 where
    pub pushes : PushesElement owner old new root element
    pub up : ChangesUp owner old new root (element ∷ []) [] 0 (height_at old (owned old owner) + 2)
    pub gains : Gains old new

  -- the rows and the spares of each kind are together as many as before
  pub record KeepsRoom (old new : Heap T) : Type 0 where
    pub cells : new.spare_cells + cell_count new ≡ old.spare_cells + cell_count old
    pub nodes : new.spare_nodes + node_count new ≡ old.spare_nodes + node_count old

  -- each row that is there still is the same
  abbrev pub SameLeft : Heap T → Heap T → Type 0
  SameLeft old new = (m : ℕ) → IsSome (row_at old m) → IsSome (row_at new m) → row_at new m ≡ row_at old m

  -- a row of height n with one owner that has an element to be taken out
  pub record CanPop (h : Heap T) (n l : ℕ) : Type 0 where
    pub graph : IsGraph h
    pub well : IsWell (form_at h) n l
    pub sums : HasSums h n l
    pub low : n ≤ MOST_HEIGHT
    pub short : length (seq_at (form_at h) n l) < 2 ^ 32
    pub sole : owners_at h l ≡ 1
    pub holds : hold_count h < half_holds

  -- the row is without its last element, which is held. It has two links or more still, where it isn't left with one child. No more
  -- rows were made than those of the path that weren't alone
  pub record PopsIn (old new : Heap T) (n l given : ℕ) : Type 0 where
    pub left : List ℕ
    pub was : seq_at (form_at old) n l ≡ left ++ given ∷ []
    pub row : IsRowOf new n l left
    pub two : 1 ≤ n → 2 ≤ length (links_at old l) → ¬ LeavesChild (form_at old) n l → 2 ≤ length (links_at new l)
    pub changes : Changes l old new [] (given ∷ []) 0 n
    pub path : KeepsAlone old (pop_rows (form_at old) n l) (take (length (pop_rows (form_at old) n l)) (spine_at (form_at new) n l))
    pub others : (m : ℕ) → IsSome (row_at old m) → IsSome (row_at new m) → count m (written old (pop_rows (form_at old) n l)) ≡ 0 → row_at new m ≡ row_at old m
    pub made : new.made ≤ old.made + (length (pop_rows (form_at old) n l) - alone old (pop_rows (form_at old) n l))
    pub room : KeepsRoom old new

  -- the first child of the root is the vector without its last element, which is held; each row that is there still is the same, and
  -- none was made
  pub record LeavesFirst (old new : Heap T) (root given : ℕ) : Type 0 where
    pub vector : IsVectorOf new (child_at old root 0) (take (length (elements old root) - 1) (elements old root))
    pub back : given ≡ slice_index (elements old root) (length (elements old root) - 1)
    pub edits : EditsBy (by_hold root) old new (child_at old root 0) [] (given ∷ []) 0 0
    pub same : SameLeft old new
    pub made : new.made ≤ old.made
    pub room : KeepsRoom old new

-- these sums with another last
abbrev pub with_last : List ℕ → ℕ → List ℕ
with_last sums x = slice_set sums (length sums - 1) x

-- with one more in the last
abbrev pub grown : List ℕ → List ℕ
grown sums = with_last sums (slice_index sums (length sums - 1) + 1)

-- with one less
abbrev pub shrunk : List ℕ → List ℕ
shrunk sums = with_last sums (slice_index sums (length sums - 1) - 1)

module _ {K : Type 0} where
  -- of the spine of a row of height n the row at the height `lowest` has fewer than 32 links, and each below it has 32
  unfoldable pub HasRoomAt : Forms K → ℕ → ℕ → ℕ → Type 0
  HasRoomAt F zero lowest l = (lowest ≡ 0) × (length (links_in F l) < 32)
  HasRoomAt F (suc n) lowest l = ((lowest ≡ suc n) × (length (links_in F l) < 32) × IsPacked F n (last_in F l)) ⊎ ((lowest ≤ n) × HasRoomAt F n lowest (last_in F l))

-- What calls do to a heap, as records that a caller composes.
use Rattle.std.specs.Prelude.{◌≡◌, ◌≢◌, ◌↔◌, ℕ, ◌+◌, ◌-◌, ◌^◌, ◌<◌, ◌≤◌, List, [], ◌∷◌, length, Some, None, IsSome, min, max}
use Rattle.node_heap.specs.Links.{count, IsReached, SameBelow}
use Rattle.node_heap.specs.Forms.{Row, links_of, Tree, IsTree}
use Rattle.node_heap.specs.Heap.{Heap, row_at, form_at, links_at, holds_at, owners_at, hold_count, live_count, cell_count, node_count, one_at, IsGraph}

module _ {T : Type 0} where
  -- all that the link reaches in the old heap is the same in the new one
  abbrev pub KeepsBelow : Heap T → Heap T → ℕ → Type 0
  KeepsBelow old new l = SameBelow (links_at old) (row_at old) (row_at new) l

  -- each link names the same row
  abbrev pub SameRows : Heap T → Heap T → Type 0
  SameRows old new = (k : ℕ) → row_at new k ≡ row_at old k

  -- each link has as many owners as before
  abbrev pub KeepsOwners : Heap T → Heap T → Type 0
  KeepsOwners old new = (k : ℕ) → owners_at new k ≡ owners_at old k

  -- each row that was there has as many owners as before
  abbrev pub KeepsOldOwners : Heap T → Heap T → Type 0
  KeepsOldOwners old new = (k : ℕ) → IsSome (row_at old k) → owners_at new k ≡ owners_at old k

  -- the link has one owner more, and every other link as many as before
  abbrev pub AddsOwner : Heap T → Heap T → ℕ → Type 0
  AddsOwner old new link = (k : ℕ) → owners_at new k ≡ owners_at old k + one_at link k

  -- the new heap has this row besides, held once, for which a hold of each place of a link was spent
  pub record Adds (old new : Heap T) (link : ℕ) (row : Row T) : Type 0 where
    pub fresh : row_at old link ≡ None
    pub here : row_at new link ≡ Some row
    pub unheld : holds_at old link ≡ 0
    pub apart : count link (links_of (Some row)) ≡ 0
    pub others : (k : ℕ) → k ≢ link → row_at new k ≡ row_at old k
    pub holds : (k : ℕ) → holds_at new k + count k (links_of (Some row)) ≡ holds_at old k + one_at link k

  -- so many cells and nodes were made of spares, and no row was freed
  pub record Makes (old new : Heap T) (c n : ℕ) : Type 0 where
    pub spare_cells : new.spare_cells + c ≡ old.spare_cells
    pub spare_nodes : new.spare_nodes + n ≡ old.spare_nodes
    pub cells : cell_count new ≡ cell_count old + c
    pub nodes : node_count new ≡ node_count old + n
    pub live : live_count new ≡ live_count old + (c + n)
    pub made : new.made ≡ min (old.made + (c + n)) (2 ^ 64 - 1)
    pub no_fewer : old.made ≤ new.made

  -- a hold is given up, and exactly the rows that no hold left reaches are gone, each a spare of its kind
  pub record Releases (old new : Heap T) (link : ℕ) : Type 0 where
    pub holds : (k : ℕ) → holds_at new k + one_at link k ≡ holds_at old k
    pub count : hold_count new + 1 ≡ hold_count old
    pub stays : (l : ℕ) → IsSome (row_at new l) ↔ IsReached (holds_at new) (links_at old) l
    pub same : (l : ℕ) → IsSome (row_at new l) → row_at new l ≡ row_at old l
    pub cells : new.spare_cells + cell_count new ≡ old.spare_cells + cell_count old
    pub nodes : new.spare_nodes + node_count new ≡ old.spare_nodes + node_count old
    pub fewer_cells : cell_count new ≤ cell_count old
    pub fewer_nodes : node_count new ≤ node_count old
    pub fewer : live_count new ≤ live_count old
    pub made : new.made ≡ old.made

  -- every row that was there stays, with all below it
  pub record Extends (old new : Heap T) : Type 0 where
    pub live : (l : ℕ) → IsSome (row_at old l) → IsSome (row_at new l)
    pub kept : (l : ℕ) → IsSome (row_at old l) → KeepsBelow old new l

  -- a link of which a hold is left unspent keeps all that it reaches, and no more holds than these are spent
  pub record KeepsHeld (spent : ℕ → ℕ) (old new : Heap T) : Type 0 where
    pub live : (l : ℕ) → spent l < holds_at old l → IsSome (row_at new l)
    pub kept : (l : ℕ) → spent l < holds_at old l → KeepsBelow old new l
    pub left : (l : ℕ) → holds_at old l ≤ holds_at new l + spent l

  -- a link that is held unfolds to the tree that it unfolded to
  abbrev pub KeepsTrees : Heap T → Heap T → Type 0
  KeepsTrees old new = (l : ℕ) (t : Tree T) → 0 < holds_at new l → IsTree (form_at old) l t → IsTree (form_at new) l t

  -- nothing has changed but the spares, of which none is lost
  pub record Unchanged (old new : Heap T) : Type 0 where
    pub rows : SameRows old new
    pub holds : (k : ℕ) → holds_at new k ≡ holds_at old k
    pub count : hold_count new ≡ hold_count old
    pub cells : cell_count new ≡ cell_count old
    pub nodes : node_count new ≡ node_count old
    pub live : live_count new ≡ live_count old
    pub made : new.made ≡ old.made
    pub spare_cells : old.spare_cells ≤ new.spare_cells
    pub spare_nodes : old.spare_nodes ≤ new.spare_nodes
    pub graph : IsGraph new

  -- there are just as many spares of each kind as there were or as were asked, whichever is more
  pub record HasGreater (old new : Heap T) (cells nodes : ℕ) : Type 0 where
    pub spare_cells : new.spare_cells ≡ max old.spare_cells cells
    pub spare_nodes : new.spare_nodes ≡ max old.spare_nodes nodes

  -- no room was hoarded: the rows and the spares of each kind are together no more than the old rows and the old spares, or what
  -- was needed, whichever is more
  pub record KeepsToNeed (old new : Heap T) (cells nodes : ℕ) : Type 0 where
    pub few_cells : new.spare_cells + cell_count new ≤ max old.spare_cells cells + cell_count old
    pub few_nodes : new.spare_nodes + node_count new ≤ max old.spare_nodes nodes + node_count old

  -- the number made rises by just what the rows gain, up to its greatest value
  abbrev pub MakesJust : Heap T → Heap T → Type 0
  MakesJust old new = new.made ≡ min (old.made + (live_count new - live_count old)) (2 ^ 64 - 1)

  -- there is a hold for each place of a link in the list
  abbrev pub HasHolds : Heap T → List ℕ → Type 0
  HasHolds h links = (k : ℕ) → count k links ≤ holds_at h k

  -- no row went, and as many were made as came
  pub record MakesWhatCame (old new : Heap T) : Type 0 where
    pub stays : (l : ℕ) → IsSome (row_at old l) → IsSome (row_at new l)
    pub live : live_count old ≤ live_count new
    pub made : MakesJust old new

  -- rows were added and none freed: at most c cells and n nodes, each made of a spare; a hold of each link of the first
  -- list was spent, and one of each of the second gained
  pub record Builds (old new : Heap T) (spent gained : List ℕ) (c n : ℕ) : Type 0 where
    pub extends : Extends old new
    pub graph : IsGraph new
    pub holds : (k : ℕ) → holds_at new k + count k spent ≡ holds_at old k + count k gained
    pub total : hold_count new + length spent ≡ hold_count old + length gained
    pub cells : ℕ
    pub nodes : ℕ
    pub few_cells : cells ≤ c
    pub few_nodes : nodes ≤ n
    pub makes : Makes old new cells nodes

  -- the new heap has this row besides, held once, for which these holds were spent; the links that it has in common with an old
  -- row have an owner more
  pub record AddsLike (old new : Heap T) (link : ℕ) (row : Row T) (kept spent : List ℕ) : Type 0 where
    pub fresh : row_at old link ≡ None
    pub here : row_at new link ≡ Some row
    pub others : (k : ℕ) → k ≢ link → row_at new k ≡ row_at old k
    pub owners : (k : ℕ) → owners_at new k ≡ owners_at old k + (one_at link k + count k kept)
    pub sole : owners_at new link ≡ 1
    pub builds : Builds old new spent (link ∷ []) 0 1
    pub makes : Makes old new 0 1

  -- spares and rows of each kind are together no fewer, and the number made rises at least by the rows that
  -- came, up to its greatest value
  pub record Balances (old new : Heap T) : Type 0 where
    pub spare_cells : old.spare_cells + cell_count old ≤ new.spare_cells + cell_count new
    pub spare_nodes : old.spare_nodes + node_count old ≤ new.spare_nodes + node_count new
    pub no_fewer : old.made ≤ new.made
    pub made : min (old.made + (live_count new - live_count old)) (2 ^ 64 - 1) ≤ new.made

  -- a pure call has answered: the old rows stay, at most so many cells and nodes came, and the spares fell
  -- by no more; the result is held once more, for which a hold of each link in the list was spent
  pub record Answered (old new : Heap T) (spent : List ℕ) (result c n : ℕ) : Type 0 where
    pub extends : Extends old new
    pub graph : IsGraph new
    pub holds : (k : ℕ) → holds_at new k + count k spent ≡ holds_at old k + one_at result k
    pub count : hold_count new + length spent ≡ hold_count old + 1
    pub cells : cell_count new ≤ cell_count old + c
    pub nodes : node_count new ≤ node_count old + n
    pub balance : Balances old new

  -- no row was freed, and each that came was made of a spare
  pub record Gains (old new : Heap T) : Type 0 where
    pub stays : (l : ℕ) → IsSome (row_at old l) → IsSome (row_at new l)
    pub cells : ℕ
    pub nodes : ℕ
    pub makes : Makes old new cells nodes

  -- a hold of each link of the first list was spent, and one of each of the second gained; at most c cells and n nodes came
  pub record Trades (old new : Heap T) (spent gained : List ℕ) (c n : ℕ) : Type 0 where
    pub graph : IsGraph new
    pub holds : (k : ℕ) → holds_at new k + count k spent ≡ holds_at old k + count k gained
    pub total : hold_count new + length spent ≡ hold_count old + length gained
    pub cells : cell_count new ≤ cell_count old + c
    pub nodes : node_count new ≤ node_count old + n
    pub balance : Balances old new
    pub made : new.made ≤ old.made + (c + n)

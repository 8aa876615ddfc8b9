-- Pairs of rows, of which one was made of the other by one change, and whose common links have one owner for both.
use Rattle.std.specs.Prelude.{◌≡◌, ◌≢◌, ◌⊎◌, ℕ, suc, ◌+◌, ◌-◌, ◌^◌, ◌<◌, ◌≤◌, List, [], ◌∷◌, length, take, drop, remove, Option, Some, None, IsSome, sum_by, slice_index_or, ◌==◌, if◌then◌else◌}
use Rattle.std.specs.List.{All}
use Rattle.node_heap.specs.Links.{count, without}
use Rattle.node_heap.specs.Forms.{Row, links_of, is_cell, is_node}
use Rattle.node_heap.specs.Layout.{Slot, Table, slot_at, owners_in, graph_of, places_at, rows_of_slots, with_owners, filled_count, KeepsRoom}
use Rattle.node_heap.specs.declared.pairs.Pair.{Pair}

-- that link alone
abbrev pub only : Option ℕ → List ℕ → List ℕ
only None xs = []
only (Some i) xs = take 1 (drop i xs)

-- the rows of the pairs
abbrev pub paired : List Pair → List ℕ
paired [] = []
paired (p ∷ ps) = p.before ∷ p.after ∷ paired ps

-- what stands where there is no pair
abbrev pub no_pair : Pair
no_pair = record { before = 0; after = 0; out = None; into = None }

-- the row is one of the pair
abbrev pub IsOf : ℕ → Pair → Type 0
IsOf place p = (place ≡ p.before) ⊎ (place ≡ p.after)

-- where the row's own link stands, if it has one
abbrev pub own_in : ℕ → Pair → Option ℕ
own_in place p = if p.before == place then p.out else p.into

-- the row's pair goes, and its own link is left of its links
pub record LeavesPair (place : ℕ) (pairs : List Pair) (links : List ℕ) (pairs' : List Pair) (links' : List ℕ) : Type 0 where
  pub index : ℕ
  pub pair : Pair
  pub inside : index < length pairs
  pub found : slice_index_or pairs index no_pair ≡ pair
  pub is_of : IsOf place pair
  pub left : pairs' ≡ remove pairs index
  pub own : links' ≡ only (own_in place pair) links

-- the row is in no pair, and all stays
pub record HasNoPair (place : ℕ) (pairs : List Pair) (links : List ℕ) (pairs' : List Pair) (links' : List ℕ) : Type 0 where
  pub off : count place (paired pairs) ≡ 0
  pub same : pairs' ≡ pairs
  pub all : links' ≡ links

module _ {T : Type 0} where
  -- the slot, with so many owners more
  abbrev pub more_owned : ℕ → Option (Slot T) → Option (Slot T)
  more_owned n s = with_owners s (owners_in s + n)

  -- each slot, with so many owners more as the function says at its place
  abbrev pub more : (ℕ → ℕ) → ℕ → List (Option (Slot T)) → List (Option (Slot T))
  more f i [] = []
  more f i (s ∷ ss) = more_owned (f i) s ∷ more f (suc i) ss

  module _ (slots : List (Option (Slot T))) where
    -- the links that both rows of a pair have
    abbrev pub common : Pair → List ℕ
    common p = without p.out (links_of (graph_of slots p.before))

    -- how often the link is one of these, over all pairs
    abbrev pub common_at : List Pair → ℕ → ℕ
    common_at pairs l = sum_by (λ p. count l (common p)) pairs

    -- both rows are there, and without their own links they have the same
    pub record IsPair (p : Pair) : Type 0 where
      pub agree : without p.out (links_of (graph_of slots p.before)) ≡ without p.into (links_of (graph_of slots p.after))
      pub out_inside : (i : ℕ) → p.out ≡ Some i → i < length (links_of (graph_of slots p.before))
      pub into_inside : (i : ℕ) → p.into ≡ Some i → i < length (links_of (graph_of slots p.after))
      pub before_live : IsSome (slot_at slots p.before)
      pub after_live : IsSome (slot_at slots p.after)

    -- these are pairs, all of different rows, and their common links lead to rows
    pub record IsSharing (pairs : List Pair) : Type 0 where
      pub each : All IsPair pairs
      pub apart : (k : ℕ) → count k (paired pairs) ≤ 1
      pub linked : (l : ℕ) → 0 < common_at pairs l → IsSome (slot_at slots l)

  -- what contracts see: an owner more of each common link, for each pair
  abbrev pub counted_too : Table T → List Pair → Table T
  counted_too t pairs = record t { slots = more (common_at t.slots pairs) 0 t.slots }

  -- the rows are the same, and each has as many owners, by its number and the pairs
  pub record CountsAlike (old : Table T) (pairs : List Pair) (new : Table T) (pairs' : List Pair) : Type 0 where
    pub rows : rows_of_slots new.slots ≡ rows_of_slots old.slots
    pub owners : (k : ℕ) → owners_in (slot_at new.slots k) + common_at new.slots pairs' k ≡ owners_in (slot_at old.slots k) + common_at old.slots pairs k
    pub room : KeepsRoom old new

  -- the row at the place is gone, and is a spare of its kind; these of its links lose an owner yet, and the others have lost theirs, but are linked elsewhere
  pub record GivesUp (old new : Table T) (place : ℕ) (links : List ℕ) : Type 0 where
    pub gone : slot_at new.slots place ≡ None
    pub rows : (k : ℕ) → k ≢ place → graph_of new.slots k ≡ graph_of old.slots k
    pub owners : (k : ℕ) → k ≢ place → owners_in (slot_at new.slots k) + count k (links_of (graph_of old.slots place)) ≡ owners_in (slot_at old.slots k) + count k links
    pub own : (k : ℕ) → count k links ≤ count k (links_of (graph_of old.slots place))
    pub shared : (k : ℕ) → count k (links_of (graph_of old.slots place)) ≤ count k links + places_at new.slots k
    pub len : filled_count new.slots + 1 ≡ filled_count old.slots
    pub spare_cells : new.spare_cells ≡ old.spare_cells + is_cell (graph_of old.slots place)
    pub spare_nodes : new.spare_nodes ≡ old.spare_nodes + is_node (graph_of old.slots place)

  -- a row with one owner stands at a place that had none, and each of these links has an owner more
  pub record MakesOf (old new : Table T) (place : ℕ) (row : Row T) (kept : List ℕ) : Type 0 where
    pub was : slot_at old.slots place ≡ None
    pub here : graph_of new.slots place ≡ Some row
    pub one : owners_in (slot_at new.slots place) ≡ 1
    pub rows : (k : ℕ) → k ≢ place → graph_of new.slots k ≡ graph_of old.slots k
    pub owners : (k : ℕ) → k ≢ place → owners_in (slot_at new.slots k) ≡ owners_in (slot_at old.slots k) + count k kept
    pub low : place < 2 ^ 64 - 1
    pub len : filled_count new.slots ≡ filled_count old.slots + 1
    pub spare_cells : new.spare_cells ≡ old.spare_cells
    pub spare_nodes : new.spare_nodes + 1 ≡ old.spare_nodes

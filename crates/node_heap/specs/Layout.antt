-- What the heap sees of its table: a slot at each place, and spares.
use Rattle.std.specs.Prelude.{length, ◌≡◌, ◌≢◌, ◌⊎◌, ℕ, suc, ◌+◌, ◌-◌, ◌^◌, ◌<◌, ◌≤◌, List, [], ◌∷◌, map, Option, Some, None, IsSome, sum_by, sum, slice_index_or, slice_set, count_by, is_some}
use Rattle.node_heap.specs.Links.{count, LeadsDown}
use Rattle.node_heap.specs.Forms.{Row, links_of, head_of, links_in, is_cell, is_node}
use Rattle.node_heap.specs.Heap.{Heap, places_in, most_holds, row_limit}
use Rattle.node_heap.specs.declared.row.Head.{Head}

-- each number less what the function takes off at its index
abbrev pub less : (ℕ → ℕ) → ℕ → List ℕ → List ℕ
less f i [] = []
less f i (n ∷ ns) = (n - f i) ∷ less f (suc i) ns

-- the owners of a row, and the row
pub record Slot (T : Type 0) : Type 0 where
  pub owners : ℕ
  pub row : Row T

-- the slot of each place from 0 on, and the spares of each kind
pub record Table (T : Type 0) : Type 0 where
  pub slots : List (Option (Slot T))
  pub spare_cells : ℕ
  pub spare_nodes : ℕ

module _ {T : Type 0} where
  abbrev pub row_of_slot : Option (Slot T) → Option (Row T)
  row_of_slot None = None
  row_of_slot (Some s) = Some s.row

  abbrev pub owners_in : Option (Slot T) → ℕ
  owners_in None = 0
  owners_in (Some s) = s.owners

  -- the same row with so many owners
  abbrev pub with_owners : Option (Slot T) → ℕ → Option (Slot T)
  with_owners None n = None
  with_owners (Some s) n = Some (record { owners = n; row = s.row })

  abbrev pub rows_of_slots : List (Option (Slot T)) → List (Option (Row T))
  rows_of_slots slots = map row_of_slot slots

  -- the owners of each row that are not places
  abbrev pub holds_in : List (Option (Slot T)) → List ℕ
  holds_in slots = less (places_in (rows_of_slots slots)) 0 (map owners_in slots)

  abbrev pub slot_at : List (Option (Slot T)) → ℕ → Option (Slot T)
  slot_at slots l = slice_index_or slots l None

  -- the slots, with so many owners of the row at the place
  abbrev pub reown : List (Option (Slot T)) → ℕ → ℕ → List (Option (Slot T))
  reown slots place n = slice_set slots place (with_owners (slot_at slots place) n)

  abbrev pub places_at : List (Option (Slot T)) → ℕ → ℕ
  places_at slots l = places_in (rows_of_slots slots) l

  abbrev pub graph_of : List (Option (Slot T)) → ℕ → Option (Row T)
  graph_of slots l = row_of_slot (slot_at slots l)

  -- each row has a place below the last number
  abbrev pub IsLow : List (Option (Slot T)) → Type 0
  IsLow slots = (l : ℕ) → IsSome (slot_at slots l) → l < 2 ^ 64 - 1

  -- the owners of each row are counted, each row has one, and links lead down
  pub record IsCounted (slots : List (Option (Slot T))) : Type 0 where
    pub places : (l : ℕ) → places_at slots l ≤ owners_in (slot_at slots l)
    pub owned : (l : ℕ) → IsSome (slot_at slots l) → 0 < owners_in (slot_at slots l)
    pub low : IsLow slots
    pub short : (l : ℕ) → length (links_of (graph_of slots l)) ≤ 32
    pub rank : ℕ → ℕ
    pub falls : LeadsDown rank (links_in (graph_of slots))

  -- the slots are the same but at the place
  abbrev pub ApartAt : List (Option (Slot T)) → List (Option (Slot T)) → ℕ → Type 0
  ApartAt old new place = (k : ℕ) → k ≢ place → slot_at new k ≡ slot_at old k

  -- the row keeps its content, and has so many owners
  pub record SetsOwners (old new : List (Option (Slot T))) (place n : ℕ) : Type 0 where
    pub row : row_of_slot (slot_at new place) ≡ row_of_slot (slot_at old place)
    pub owners : owners_in (slot_at new place) ≡ n
    pub live : IsSome (slot_at new place)
    pub others : ApartAt old new place

  -- the node has this head and these links, and as many owners as before, and the other slots are the same
  pub record Rewrites (old new : List (Option (Slot T))) (place : ℕ) (head : Option Head) (links : List ℕ) : Type 0 where
    pub new_head : head_of (graph_of new place) ≡ head
    pub new_links : links_of (graph_of new place) ≡ links
    pub is_same_kind : is_node (graph_of new place) ≡ is_node (graph_of old place)
    pub same_owners : owners_in (slot_at new place) ≡ owners_in (slot_at old place)
    pub live : IsSome (slot_at new place)
    pub others : ApartAt old new place

  -- the row at the key is new, with the content of the place and one owner, and each of its links has an owner more
  pub record Copies (old new : List (Option (Slot T))) (place key : ℕ) : Type 0 where
    pub fresh : slot_at old key ≡ None
    pub row : graph_of new key ≡ graph_of old place
    pub one : owners_in (slot_at new key) ≡ 1
    pub others : (k : ℕ) → k ≢ key → graph_of new k ≡ graph_of old k
    pub owners : (k : ℕ) → k ≢ key → owners_in (slot_at new k) ≡ owners_in (slot_at old k) + count k (links_of (graph_of old place))

  -- from this place on the rows each name the next, and the last names the last number
  abbrev pub IsThreaded : List (Option (Slot T)) → ℕ → List ℕ → Type 0
  IsThreaded slots first [] = first ≡ 2 ^ 64 - 1
  IsThreaded slots first (d ∷ ds) = (first ≡ d) × (d < 2 ^ 64 - 1) × IsThreaded slots (owners_in (slot_at slots d)) ds

  -- under these holds, the rows from `first` on wait to be freed, and these links are to be dropped yet
  pub record IsDying (H : ℕ → ℕ) (slots : List (Option (Slot T))) (first : ℕ) (pend : List ℕ) : Type 0 where
    pub dead : List ℕ
    pub threaded : IsThreaded slots first dead
    pub counted : (l : ℕ) → count l dead ≡ 0 → owners_in (slot_at slots l) ≡ H l + (places_at slots l + count l pend)
    pub owned : (l : ℕ) → count l dead ≡ 0 → IsSome (slot_at slots l) → 0 < owners_in (slot_at slots l)
    pub waiting : (l : ℕ) → 0 < count l dead → (count l dead ≡ 1) × (H l + (places_at slots l + count l pend) ≡ 0) × IsSome (slot_at slots l)

  -- some rows are gone, and the others stay
  abbrev pub Thins : List (Option (Slot T)) → List (Option (Slot T)) → Type 0
  Thins old new = (l : ℕ) → (graph_of new l ≡ None) ⊎ (graph_of new l ≡ graph_of old l)

  abbrev pub cells_in : List (Option (Slot T)) → ℕ
  cells_in slots = sum_by is_cell (rows_of_slots slots)

  abbrev pub nodes_in : List (Option (Slot T)) → ℕ
  nodes_in slots = sum_by is_node (rows_of_slots slots)

  -- how many of the slots hold a row
  abbrev pub filled_count : List (Option (Slot T)) → ℕ
  filled_count slots = count_by is_some slots

  -- a row with one owner stands at a place that had none
  pub record PutsIn (old new : List (Option (Slot T))) (place : ℕ) (row : Row T) : Type 0 where
    pub was : slot_at old place ≡ None
    pub now : slot_at new place ≡ Some (record { owners = 1; row = row })
    pub others : ApartAt old new place
    pub low : place < 2 ^ 64 - 1
    pub len : filled_count new ≡ filled_count old + 1

  -- the row at the place is gone, and is a spare of its kind
  pub record TakesOut (old new : Table T) (place : ℕ) : Type 0 where
    pub gone : slot_at new.slots place ≡ None
    pub others : ApartAt old.slots new.slots place
    pub len : filled_count new.slots + 1 ≡ filled_count old.slots
    pub spare_cells : new.spare_cells ≡ old.spare_cells + is_cell (graph_of old.slots place)
    pub spare_nodes : new.spare_nodes ≡ old.spare_nodes + is_node (graph_of old.slots place)

  -- there are as many rows and as many spares
  pub record KeepsRoom (old new : Table T) : Type 0 where
    pub len : filled_count new.slots ≡ filled_count old.slots
    pub spare_cells : new.spare_cells ≡ old.spare_cells
    pub spare_nodes : new.spare_nodes ≡ old.spare_nodes

  -- what is true of the fields of each heap
  pub record IsHeap (slots : List (Option (Slot T))) (cells nodes number : ℕ) : Type 0 where
    pub counted : IsCounted slots
    pub few : filled_count slots + (cells + nodes) < row_limit
    pub few_holds : sum (holds_in slots) ≤ most_holds
    pub fits : number < 2 ^ 64

  -- what contracts see of the slots, the spares and the number made
  abbrev pub seen : List (Option (Slot T)) → ℕ → ℕ → ℕ → Heap T
  seen slots cells nodes number = record {
    rows = rows_of_slots slots;
    holds = holds_in slots;
    spare_cells = cells;
    spare_nodes = nodes;
    made = number;
  }

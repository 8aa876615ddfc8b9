-- How a call on rooted rows ends.
use Rattle.std.specs.Prelude.{◌≡◌, ℕ, ◌+◌, ◌-◌, ◌^◌, ◌<◌, ◌≤◌, List, [], min, Result, Err, true, MatchResult}
use Rattle.node_heap.specs.Links.{count}
use Rattle.node_heap.specs.Heap.{Heap, live_count, HasSpares}
use Rattle.node_heap.specs.Calls.{KeepsBelow, Unchanged}
use Rattle.shell_terms.specs.Edit.{del, cat, drop, unstar}
use Rattle.shell_terms.specs.Command.{PlainCommand, edit, merge}
use Rattle.plain_space.specs.declared.refusal.Refusal.{Refusal}
use Rattle.plain_space.specs.declared.refusal.Refusal.TheVariants.{Absent, Exists, Range, Limit, Batch, Empty, Memory}
use Rattle.plain_space.specs.Workspace.{Workspace, in_batch}
use Rattle.plain_space.specs.Answer.{answer, done}
use Rattle.plain_space.specs.Cost.{alike_buffers, alike_stars, cost}
use Rattle.plain_space.specs.Memory.{MayLackMemory}
use Rattle.state_rows.specs.EditedStates.{MakesAtMost}
use Rattle.space_state.specs.declared.room.TheConstants.{EDIT_NODES}
use Rattle.space_state.specs.declared.undo_end.TheConstants.{TURN_NODES}
use Rattle.space_state.specs.declared.roots.RootedHeap.{RootedHeap}
use Rattle.space_state.specs.Roots.{Keeps}
use Rattle.space_state.specs.Needed.{merge_nodes}
use Rattle.space_state.specs.BatchEdits.{IsInPlace, current_kept}

-- the refusal is due by this plain result: it is that, or memory was refused where that may be
abbrev pub IsDueBy : {X : Type 0} → Result X Refusal → Type 0 → Refusal → Type 0
IsDueBy plain MayLack Memory = MayLack
IsDueBy plain MayLack Absent = plain ≡ Err Absent
IsDueBy plain MayLack Exists = plain ≡ Err Exists
IsDueBy plain MayLack Range = plain ≡ Err Range
IsDueBy plain MayLack Limit = plain ≡ Err Limit
IsDueBy plain MayLack Batch = plain ≡ Err Batch
IsDueBy plain MayLack Empty = plain ≡ Err Empty

-- the refusal is due: it is the plain answer, or memory was refused where nothing else refuses the command
abbrev pub IsDue : Workspace → PlainCommand → Refusal → Type 0
IsDue W command why = IsDueBy (answer W command) (MayLackMemory W command) why

-- the number made doesn't fall, and it rises at least by what the rows gain, up to its greatest value
abbrev pub MadeRises : ℕ → ℕ → ℕ → ℕ → Type 0
MadeRises rows made rows' made' = (made ≤ made') × (min (made + (rows' - rows)) (2 ^ 64 - 1) ≤ made')

abbrev pub RowsRise : {T : Type 0} → Heap T → Heap T → Type 0
RowsRise old new = MadeRises (live_count old) old.made (live_count new) new.made

-- nothing has changed but the heap's spares
pub record IsSame (old new : RootedHeap) : Type 0 where
  pub roots : new.roots ≡ old.roots
  pub bits : new.bits ≡ old.bits
  pub history : new.history ≡ old.history
  pub heap : Unchanged old.heap new.heap

-- room was made for an edit: there are spares for two cells and so many nodes, and nothing else has changed
pub record RoomIsMade (old new : RootedHeap) (nodes : ℕ) : Type 0 where
  pub same : IsSame old new
  pub spares : HasSpares new.heap 2 nodes

-- room for an edit was refused, with Memory alone, and nothing has changed
pub record RoomIsRefused (old new : RootedHeap) (why : Refusal) : Type 0 where
  pub same : new ≡ old
  pub due : why ≡ Memory

-- how a call ends that makes room for an edit, which makes so many nodes at most
abbrev pub MakesRoom : {X : Type 0} → (Workspace → ℕ) → RootedHeap → Result X Refusal → RootedHeap → Type 0
MakesRoom nodes old result new =
    (W : Workspace) → Keeps old [] W → MatchResult result (λ _. RoomIsMade old new (nodes W)) (RoomIsRefused old new)

-- the heap has the spares that an edit asks for which copies no text, and to which memory isn't refused then; an edit that copies a
-- text never has enough
abbrev pub HasEditSpares : RootedHeap → Workspace → PlainCommand → Type 0
HasEditSpares s W (edit (del name from to)) = HasSpares s.heap 2 (EDIT_NODES + alike_buffers s.bits W.current name)
HasEditSpares s W (edit (cat name other)) = HasSpares s.heap 2 (EDIT_NODES + alike_buffers s.bits W.current name)
HasEditSpares s W (edit (drop name)) = HasSpares s.heap 2 (EDIT_NODES + alike_buffers s.bits W.current name)
HasEditSpares s W (edit (unstar name)) = HasSpares s.heap 2 (EDIT_NODES + alike_stars s.bits W.current name)
HasEditSpares s W (merge kind version) = HasSpares s.heap 2 (EDIT_NODES + merge_nodes kind W version)
HasEditSpares s W _ = ⊥

-- the roots stand for this workspace now, with these links held besides, and so many rows more at most
pub record TurnsTo (old new : RootedHeap) (besides : List ℕ) (most : ℕ) (after : Workspace) : Type 0 where
  pub keeps : Keeps new besides after
  pub bits : new.bits ≡ old.bits
  pub few : live_count new.heap ≤ live_count old.heap + most
  pub made : RowsRise old.heap new.heap

-- the same by spares, of which so many went at most, and what is held besides leads to what it led to
pub record TurnsBeside (old new : RootedHeap) (besides : List ℕ) (cells nodes : ℕ) (after : Workspace) : Type 0 where
  pub turns : TurnsTo old new besides (cells + nodes) after
  pub stays : (l : ℕ) → 0 < count l besides → KeepsBelow old.heap new.heap l
  pub spare_cells : old.heap.spare_cells ≤ new.heap.spare_cells + cells
  pub spare_nodes : old.heap.spare_nodes ≤ new.heap.spare_nodes + nodes

-- ready for an edit in place: there are spares for a cell and so many nodes; outside a batch the current state is the last of undo
-- too, and redo is empty, and in a batch the number made rises by no more than the rows gain
pub record IsReadyInPlace (old new : RootedHeap) (W : Workspace) (nodes : ℕ) : Type 0 where
  pub turns : TurnsTo old new [] TURN_NODES (current_kept W)
  pub few : in_batch W ≡ true → MakesAtMost old.heap new.heap 0
  pub spares : HasSpares new.heap 1 nodes

-- the command was carried out; in a batch an edit that is made in place makes at most two rows more than the rows gain
pub record IsCarriedOut (command : PlainCommand) (old new : RootedHeap) (W : Workspace) : Type 0 where
  pub after : Workspace
  pub told : answer W command ≡ done after
  pub turns : TurnsTo old new [] (cost old.bits command W) after
  pub few_made : IsInPlace command → in_batch W ≡ true → MakesAtMost old.heap new.heap 2

-- the command was not carried out, and nothing has changed
pub record IsRefused (command : PlainCommand) (old new : RootedHeap) (W : Workspace) (why : Refusal) : Type 0 where
  pub due : IsDue W command why
  pub same : new ≡ old

-- how a call ends that carries out a command: done, or refused for a reason that is due
abbrev pub EndsOnRows : PlainCommand → RootedHeap → Result (Unit {0}) Refusal → RootedHeap → Type 0
EndsOnRows command old result new =
    (W : Workspace) → Keeps old [] W → MatchResult result (λ _. IsCarriedOut command old new W) (IsRefused command old new W)

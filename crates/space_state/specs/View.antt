-- What contracts see of a space.
use Rattle.std.specs.Prelude.{◌≡◌, ℕ, ◌+◌, ◌-◌, ◌^◌, ◌≤◌, [], true, min, max, Result, Err, MatchBool, MatchResult}
use Rattle.node_heap.specs.Heap.{Heap, live_count, cell_count, node_count}
use Rattle.node_heap.specs.Calls.{KeepsToNeed}
use Rattle.pool_text.specs.Pool.{row_count, settings_by, pool_at, at_present_version}
use Rattle.pool_text.specs.declared.pool.Pool.{Pool}
use Rattle.pool_text.specs.Documents.{start_pool}
use Rattle.pool_check.specs.Damages.{IsValid}
use Rattle.pool_load.specs.Loads.{cells_of, nodes_of}
use Rattle.shell_terms.specs.Edit.{Bytes}
use Rattle.shell_terms.specs.Command.{PlainCommand}
use Rattle.plain_space.specs.declared.refusal.Refusal.{Refusal}
use Rattle.plain_space.specs.declared.refusal.Refusal.TheVariants.{Batch, Memory}
use Rattle.plain_space.specs.Workspace.{Workspace, in_batch}
use Rattle.plain_space.specs.Answer.{answer, done}
use Rattle.plain_space.specs.Cost.{cost}
use Rattle.state_rows.specs.Standing.{StandsFor}
use Rattle.space_state.specs.declared.roots.RootedHeap.{RootedHeap}
use Rattle.space_state.specs.Roots.{root_list, Keeps}
use Rattle.space_state.specs.BatchEdits.{IsInPlace}
use Rattle.space_state.specs.Needed.{cells_needed, nodes_needed}
use Rattle.space_state.specs.Turns.{IsDue, MadeRises}

-- How many cells, and how many nodes.
pub record Kinds : Type 0 where
  pub cells : ℕ
  pub nodes : ℕ

-- The rows of each kind.
abbrev pub rows_of : Heap Bytes → Kinds
rows_of h = record { cells = cell_count h; nodes = node_count h }

-- The room of a heap: how many cells and how many nodes it can have without more memory, which are its rows of each kind and its
-- spares together.
abbrev pub room_of : Heap Bytes → Kinds
room_of h = record { cells = cell_count h + h.spare_cells; nodes = node_count h + h.spare_nodes }

-- A space: the pool of its rows, the number of rows that its heap has, the number that it ever made, its rows of each kind, and the
-- heap's room.
pub record SpaceView : Type 0 where
  pub pool : Pool
  pub live : ℕ
  pub made : ℕ
  pub rows : Kinds
  pub room : Kinds

-- No room was hoarded: the room of each kind is no more than it was, or than the old rows and what was needed, whichever is more.
pub record KeepsRoom (old new : SpaceView) (cells nodes : ℕ) : Type 0 where
  pub few_cells : new.room.cells ≤ max old.room.cells (old.rows.cells + cells)
  pub few_nodes : new.room.nodes ≤ max old.room.nodes (old.rows.nodes + nodes)

-- What a rooted heap shows.
abbrev pub shown : RootedHeap → SpaceView
shown s = record { pool = pool_at (λ text. text) s.heap (root_list s.roots) (settings_by s.bits s.history); live = live_count s.heap; made = s.heap.made; rows = rows_of s.heap; room = room_of s.heap }

-- A new space by so many bits: an empty map of names, an empty set of stars, the state of both, an empty map of versions, and
-- two empty histories. It has room for just these six nodes.
abbrev pub start_view : ℕ → SpaceView
start_view bits = record { pool = record start_pool { bits = bits }; live = 6; made = 6; rows = record { cells = 0; nodes = 6 }; room = record { cells = 0; nodes = 6 } }

-- The command was carried out: the pool stands for the workspace afterwards, valid, with its bits and within the cost. In a batch an
-- edit that is made in place makes at most two rows more than the pool gains. No more room is taken than the command needs.
pub record CarriesOut (command : PlainCommand) (old new : SpaceView) (W : Workspace) : Type 0 where
  pub after : Workspace
  pub told : answer W command ≡ done after
  pub valid : IsValid new.pool
  pub bits : new.pool.bits ≡ old.pool.bits
  pub stands : StandsFor new.pool after
  pub few : row_count new.pool ≤ row_count old.pool + cost old.pool.bits command W
  pub made : MadeRises (row_count old.pool) old.made (row_count new.pool) new.made
  pub few_made : IsInPlace command → in_batch W ≡ true → new.made + row_count old.pool ≤ old.made + row_count new.pool + 2
  pub room : KeepsRoom old new (cells_needed command) (nodes_needed old.pool.bits command W)

-- The command was refused for a reason that is due, and the space is as it was, with no more room.
pub record RefusesCommand (command : PlainCommand) (old new : SpaceView) (W : Workspace) (why : Refusal) : Type 0 where
  pub due : IsDue W command why
  pub same : new ≡ old

-- How a call ends that carries out a command on a space whose pool stands for the workspace.
pub record Ends (command : PlainCommand) (old : SpaceView) (result : Result (Unit {0}) Refusal) (new : SpaceView) : Type 0 where
  pub work : Workspace
  pub stands : StandsFor old.pool work
  pub ends : MatchResult result (λ _. CarriesOut command old new work) (RefusesCommand command old new work)

-- The pool, whatever its version, is the space's, the number made has risen by its rows, up to 2^64 - 1, and no more room is taken than they need.
pub record IsTaken (P : Pool) (old new : SpaceView) : Type 0 where
  pub pool : new.pool ≡ at_present_version P
  pub made : new.made ≡ min (old.made + row_count P) (2 ^ 64 - 1)
  pub room : KeepsRoom old new (cells_of P.rows) (nodes_of P.rows)

-- How a call ends that takes a pool: refused with Batch in a batch, and else done, or refused with Memory. What is refused
-- leaves all as it was.
abbrev pub EndsTaking : Workspace → Result (Unit {0}) Refusal → Type 0 → Type 0 → Type 0
EndsTaking W result IsTurned IsAsBefore = MatchBool (in_batch W) ((result ≡ Err Batch) × IsAsBefore) (MatchResult result (λ _. IsTurned) (λ why. (why ≡ Memory) × IsAsBefore))

-- The same of the rows.
pub record TakesRows (P : Pool) (old new : RootedHeap) : Type 0 where
  pub after : Workspace
  pub keeps : Keeps new [] after
  pub pool : (shown new).pool ≡ at_present_version P
  pub made : new.heap.made ≡ min (old.heap.made + row_count P) (2 ^ 64 - 1)
  pub room : KeepsToNeed old.heap new.heap (cells_of P.rows) (nodes_of P.rows)

-- How a call ends that puts a checked pool in place of a space whose pool stands for the workspace.
pub record TakesPool (P : Pool) (old : SpaceView) (result : Result (Unit {0}) Refusal) (new : SpaceView) : Type 0 where
  pub work : Workspace
  pub stands : StandsFor old.pool work
  pub ends : EndsTaking work result (IsTaken P old new) (new ≡ old)

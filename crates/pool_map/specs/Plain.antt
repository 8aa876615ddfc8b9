-- What changing each line makes of a plain workspace.
use Rattle.std.specs.Prelude.{map, option_map}
use Rattle.std.specs.FinMap as finite
use Rattle.shell_terms.specs.Edit.{Bytes}
use Rattle.plain_space.specs.Workspace.{Named, State, Workspace}

-- the map with another value at each name
abbrev pub with_values : {X Y : Type 0} → (X → Y) → Named X → Named Y
with_values f m = finite.from_entries (map (λ e. (e.0, f e.1)) (finite.entries m))

module _ (change : Bytes → Bytes) where
  abbrev pub changed_state : State → State
  changed_state state = record state { buffers = with_values (map change) state.buffers }

  -- the workspace with each line of each state changed
  abbrev pub changed_space : Workspace → Workspace
  changed_space W = record W {
    current = changed_state W.current;
    versions = with_values changed_state W.versions;
    undo = map changed_state W.undo;
    redo = map changed_state W.redo;
    base = option_map changed_state W.base;
  }

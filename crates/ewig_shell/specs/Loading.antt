-- How bytes of a file are taken in.
use Rattle.std.specs.Prelude.{◌≡◌, ℕ, List, Result, Err, ◌⊎◌}
use Rattle.plain_space.specs.Workspace.{Workspace}
use Rattle.state_rows.specs.Standing.{StandsFor}
use Rattle.space_state.specs.View.{SpaceView}
use Rattle.ewig_shell.specs.declared.store_fault.StoreFault.{StoreFault}
use Rattle.ewig_shell.specs.declared.store_fault.StoreFault.TheVariants.{Memory}
use Rattle.ewig_shell.specs.Step.{LoadsBytes, ReadsBytes, stored_reply}

-- The space takes in what the bytes stand for, or memory ran out and it stays.
abbrev pub TakesIn : List ℕ → SpaceView → Result (Unit {0}) StoreFault → SpaceView → Type 0
TakesIn bytes old result new = LoadsBytes old bytes (stored_reply result) new ⊎ (result ≡ Err Memory) × (new ≡ old)

-- The buffer takes in the lines of the bytes, or they have none; or memory ran out and the space stays.
abbrev pub FillsIn : (name bytes : List ℕ) → SpaceView → Result (Unit {0}) StoreFault → SpaceView → Type 0
FillsIn name bytes old result new =
    (work : Workspace) → StandsFor old.pool work → ReadsBytes work name old bytes (stored_reply result) new ⊎ (result ≡ Err Memory) × (new ≡ old)

-- How lines are collected, and bytes kept.
use Rattle.std.specs.Prelude.{◌≡◌, ℕ, ◌<◌, ◌≤◌, List, length, Result, Ok, Err, ◌⊎◌}
use Rattle.std.specs.declared.vec.Vec.{Vec}
use Rattle.ewig_shell.specs.declared.store_fault.StoreFault.{StoreFault}
use Rattle.ewig_shell.specs.declared.store_fault.StoreFault.TheVariants as unsaved
use Rattle.shell_io.specs.Fault.{Calls}
use Rattle.shell_io.specs.Storing.{ChangesFiles, KeepsFile}
use Rattle.shell_io.specs.declared.device.KeepFault.{KeepFault}
use Rattle.shell_io.specs.declared.device.KeepFault.TheVariants as kept
use Rattle.shell_io.specs.declared.device.Store as store_trait
use Rattle.ewig_shell.specs.Faults.{keep_fault}
use Rattle.ewig_shell.specs.Step.{most_stored, ended_lines}

-- The bytes of the lines were collected, or memory ran out.
abbrev pub Collects : {A : Type 0} → List (List ℕ) → Result (Vec ℕ A) StoreFault → Type 0
Collects lines (Ok bytes) = bytes.items ≡ ended_lines lines
Collects lines (Err fault) = fault ≡ unsaved.Memory

-- How it ended where the store was called.
abbrev pub saved_as : Result (Unit {0}) KeepFault → Result (Unit {0}) StoreFault
saved_as (Ok done) = Ok done
saved_as (Err fault) = Err (keep_fault fault)

-- The store was called, for bytes that aren't too many.
pub record CallsKeep {C : Type 0} (name bytes : List ℕ) (D : store_trait.Ghosts C) (store store' : C) (result : Result (Unit {0}) StoreFault) : Type 0 where
  pub few : length bytes ≤ most_stored
  pub kept_as : Result (Unit {0}) KeepFault
  pub ends : saved_as kept_as ≡ result
  pub told : ChangesFiles (D.held store) (D.held store') (λ before now. KeepsFile before now name bytes kept_as)
  pub calls : Calls D.faults D.steady D.faultless store store' (kept_as ≡ Err kept.Failed)

-- The bytes were kept, or not: memory ran out before the store was called, or they are too many, or it was called.
abbrev pub EndsKeeping : {C : Type 0} (name bytes : List ℕ) (D : store_trait.Ghosts C) (store store' : C) → Result (Unit {0}) StoreFault → Type 0
EndsKeeping name bytes D store store' result =
    (result ≡ Err unsaved.Memory) × (store' ≡ store)
    ⊎ (result ≡ Err unsaved.Large) × (most_stored < length bytes) × (store' ≡ store)
    ⊎ CallsKeep name bytes D store store' result

-- How the files of a chain are taken.
use Rattle.std.specs.Prelude.{◌≡◌, ◌≢◌, ℕ, List, [], ◌∷◌, Some, None, IfSome, Result, Ok, Err, ◌⊎◌, ◌<◌, length}
use Rattle.std.specs.declared.option.Option.{Option}
use Rattle.std.specs.FinMap.{get as get_file}
use Rattle.pool_text.specs.declared.damage.Damage.{Damage}
use Rattle.pool_text.specs.declared.damage.Damage.TheVariants as damage
use Rattle.pool_text.specs.declared.pool.Pool.{Pool}
use Rattle.pool_delta.specs.Chains.{IsChain, chain_damage, chain_in}
use Rattle.shell_io.specs.InMemory.{Files}
use Rattle.ewig_shell.specs.declared.store_fault.StoreFault.{StoreFault}
use Rattle.ewig_shell.specs.declared.store_fault.StoreFault.TheVariants as fault
use Rattle.space_state.specs.View.{SpaceView}
use Rattle.ewig_shell.specs.Step.{Fetched, missing, large, given, fetched_all, most_stored, IsChained, stored_reply}

-- The documents were read as a chain: as this one, or as one with this damage, unless memory ran out.
abbrev pub IsReadAs : ℕ → List (List ℕ) → Result Pool Damage → Type 0
IsReadAs bits [] found = ⊥
IsReadAs bits (first ∷ more) (Ok C) = (chain_damage bits first more ≡ None) × (chain_in first more ≡ Some C) × (C.bits ≡ bits) × IsChain C
IsReadAs bits (first ∷ more) (Err d) = d ≢ damage.Memory → chain_damage bits first more ≡ Some d

-- What the files of these names are, where the files are told.
abbrev pub AreFetched : Option Files → List (List ℕ) → Fetched (List (List ℕ)) → Type 0
AreFetched held names found = IfSome held (λ files. found ≡ fetched_all files most_stored names)

-- These files were taken, and read as a chain.
pub record TakesChain (bits : ℕ) (held : Option Files) (names : List (List ℕ)) (found : Result Pool Damage) : Type 0 where
  pub files : List (List ℕ)
  pub fetched : AreFetched held names (given files)
  pub read : IsReadAs bits files found

-- Why a file wasn't taken for which there was so much room.
abbrev pub IsNotTaken : Option Files → List ℕ → ℕ → StoreFault → Type 0
IsNotTaken held name room fault.Missing = IfSome held (λ files. get_file files name ≡ None)
IsNotTaken held name room fault.Large = IfSome held (λ files. (bytes : List ℕ) × (get_file files name ≡ Some bytes) × (room < length bytes))
IsNotTaken held name room fault.Failed = Unit {0}
IsNotTaken held name room fault.Memory = Unit {0}
IsNotTaken held name room _ = ⊥

-- Why they weren't: one is missing, they have too many bytes, or the store failed, or memory ran out.
abbrev pub IsUntaken : Option Files → List (List ℕ) → StoreFault → Type 0
IsUntaken held names fault.Missing = AreFetched held names missing
IsUntaken held names fault.Large = AreFetched held names large
IsUntaken held names fault.Failed = Unit {0}
IsUntaken held names fault.Memory = Unit {0}
IsUntaken held names _ = ⊥

-- The space is the one that the chain stands for, or memory ran out and it stays.
abbrev pub TakesChainIn : Pool → SpaceView → Result (Unit {0}) StoreFault → SpaceView → Type 0
TakesChainIn C old result new = IsChained C old (stored_reply result) new ⊎ (result ≡ Err fault.Memory) × (new ≡ old)

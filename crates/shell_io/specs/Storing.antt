-- What the calls of a store say of its files.
use Rattle.std.specs.Prelude.{◌≡◌, ◌≢◌, ℕ, ◌<◌, List, length, ⊤, None, Some}
use Rattle.std.specs.FinMap.{get, insert}
use Rattle.std.specs.declared.option.Option.{Option}
use Rattle.std.specs.declared.result.Result.{Result}
use Rattle.std.specs.declared.result.Result.TheVariants.{Ok, Err}
use Rattle.shell_io.specs.InMemory.{Files}
use Rattle.shell_io.specs.declared.device.FetchFault.{FetchFault}
use Rattle.shell_io.specs.declared.device.FetchFault.TheVariants as fetch
use Rattle.shell_io.specs.declared.device.KeepFault.{KeepFault}
use Rattle.shell_io.specs.declared.device.KeepFault.TheVariants as keep

-- what a refused fetch says of the file, if there is one: it is missing, or longer than the limit
abbrev pub RefusesFile : Option (List ℕ) → ℕ → FetchFault → Type 0
RefusesFile file limit fetch.Missing = file ≡ None
RefusesFile file limit fetch.Large = (bytes : List ℕ) × (file ≡ Some bytes) × (limit < length bytes)
RefusesFile file limit _ = ⊤

-- what a fetch says of the file, if there is one: at Ok it gave its bytes
abbrev pub FetchesFile : {A : Type 0} → Option (List ℕ) → ℕ → Result A FetchFault → List ℕ → Type 0
FetchesFile file limit (Ok _) given = file ≡ Some given
FetchesFile file limit (Err fault) given = RefusesFile file limit fault

-- each file of another name is as it was
abbrev pub OthersStay : Files → Files → List ℕ → Type 0
OthersStay old new name = (other : List ℕ) → other ≢ name → get new other ≡ get old other

-- what a refused keep leaves: after a failure the file of this name is open
abbrev pub LeavesFiles : Files → Files → List ℕ → KeepFault → Type 0
LeavesFiles old new name keep.Failed = OthersStay old new name
LeavesFiles old new name keep.Memory = new ≡ old

-- what a keep leaves: at Ok the file of this name has these bytes, and no other has changed
abbrev pub KeepsFile : {A : Type 0} → Files → Files → List ℕ → List ℕ → Result A KeepFault → Type 0
KeepsFile old new name bytes (Ok _) = new ≡ insert old name bytes
KeepsFile old new name bytes (Err fault) = LeavesFiles old new name fault

-- where the files were told they still are, and this became of them
abbrev pub ChangesFiles : Option Files → Option Files → (Files → Files → Type 0) → Type 0
ChangesFiles None new P = ⊤
ChangesFiles (Some old) None P = ⊥
ChangesFiles (Some old) (Some new) P = P old new

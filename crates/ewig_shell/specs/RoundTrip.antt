-- What a save and a load make of each other, and a part and a chain, over a store that tells its files.
use Rattle.std.specs.Prelude.{◌≡◌, ◌≢◌, ℕ, ◌+◌, List, [], ◌∷◌, map, codes, Option, Some, None, IfSome, IsSomeAnd, IfOk, IsTrue, ◌⊎◌}
use Rattle.std.specs.List.{All}
use Rattle.std.specs.FinMap.{insert, get as get_file}
use Rattle.shell_terms.specs.Command.{PlainCommand, write, save, load, part, chain, indent, dedent}
use Rattle.shell_words.specs.Files.{numbered}
use Rattle.shell_words.specs.Grammar.{meaning}
use Rattle.plain_space.specs.declared.TheConstants.{MOST_PARTS}
use Rattle.plain_space.specs.Workspace.{Workspace, in_batch}
use Rattle.plain_space.specs.Answer.{ok_line}
use Rattle.pool_text.specs.Pool.{at_present_version}
use Rattle.pool_text.specs.Document.{text, pool_in_bytes}
use Rattle.pool_text.specs.Laws.{IsCompact}
use Rattle.pool_text.specs.declared.pool.Pool.{Pool}
use Rattle.pool_text.specs.declared.rules.TheConstants.{PRESENT_VERSION}
use Rattle.pool_delta.specs.Chains.{start_damage, chain_pool}
use Rattle.pool_delta.specs.Delta.{delta}
use Rattle.pool_delta.specs.Parts.{part_text}
use Rattle.pool_map.specs.Spaces.{indented, dedented}
use Rattle.pool_map.specs.Mapped.{mapped}
use Rattle.shell_io.specs.Fault.{HasCause}
use Rattle.shell_io.specs.InMemory.{Files}
use Rattle.shell_io.specs.Storing.{ChangesFiles}
use Rattle.shell_io.specs.declared.device.Store as store_trait
use Rattle.state_rows.specs.Standing.{StandsFor}
use Rattle.space_state.specs.View.{SpaceView}
use Rattle.ewig_shell.specs.Step.{Machine, Refuses, Obeys, Step, StepsThrough, chain_names, fetched_all, is_large, large, machine_of, most_stored, reply_of}

-- The reply to what was carried out.
abbrev pub ok_reply : List ℕ
ok_reply = reply_of (ok_line ∷ [])

-- The space stands for a workspace in which a batch is open.
abbrev pub HasBatch : SpaceView → Type 0
HasBatch space = (work : Workspace) × StandsFor space.pool work × IsTrue (in_batch work)

-- The space stays, since the store failed in this step, or memory ran out.
abbrev pub IsStopped : Machine → List ℕ → Machine → Type 0
IsStopped old reply new =
    HasCause old.store.faults new.store.faults × Refuses old.space (codes "fault") reply new.space
    ⊎ Refuses old.space (codes "memory") reply new.space

-- The same, or since a batch is open in it: for no fault of a file.
abbrev pub IsHindered : Machine → List ℕ → Machine → Type 0
IsHindered old reply new = HasBatch old.space × Refuses old.space (codes "batch") reply new.space ⊎ IsStopped old reply new

-- ## Whole documents

-- The bytes read as a document of the version that is written.
abbrev pub IsPresent : List ℕ → Type 0
IsPresent bytes = IsSomeAnd (pool_in_bytes bytes) (λ P. P.version ≡ PRESENT_VERSION)

-- A compact document of that version that a load accepts is stored byte for byte by a later save, under whatever name, where the
-- pool is the one that the load left. Else the store failed, or memory ran out: such a save is never refused for a batch or as
-- large.
abbrev pub LoadThenSave : Type 0
LoadThenSave =
    (first loaded later last : Machine) (files : Files) (file other bytes reply : List ℕ) → first.store.files ≡ Some files → get_file files file ≡ Some bytes
    → IsCompact bytes → IsPresent bytes
    → Obeys (load file) first ok_reply loaded → later.space.pool ≡ loaded.space.pool → Obeys (save other) later reply last
    → (reply ≡ ok_reply) × ChangesFiles later.store.files last.store.files (λ before now. now ≡ insert before other bytes)
    ⊎ IsStopped later reply last

-- Where a file has what the command stored, the document of a pool that it makes of the space's, a load of it, whatever its name, in a
-- space of as many bits brings that pool. Else the load is hindered: such a file is never missing, large or damaged.
abbrev pub StoreThenLoad : (List ℕ → PlainCommand) → (Pool → Pool) → Type 0
StoreThenLoad command pool_of =
    (first stored later last : Machine) (files : Files) (file other reply : List ℕ) → Obeys (command file) first ok_reply stored
    → later.store.files ≡ Some files → get_file files other ≡ Some (text (pool_of first.space.pool)) → later.space.pool.bits ≡ first.space.pool.bits → Obeys (load other) later reply last
    → (reply ≡ ok_reply) × (last.space.pool ≡ at_present_version (pool_of first.space.pool)) ⊎ IsHindered later reply last

-- A save stores the space's own pool.
abbrev pub SaveThenLoad : Type 0
SaveThenLoad = StoreThenLoad save (λ P. P)

-- `indent` and `dedent` store it with its lines moved.
abbrev pub IndentThenLoad : Type 0
IndentThenLoad = (count : ℕ) → StoreThenLoad (indent count) (mapped (indented count))

abbrev pub DedentThenLoad : Type 0
DedentThenLoad = (count : ℕ) → StoreThenLoad (dedent count) (mapped (dedented count))

-- ## Chains

-- Whatever came between: the files of these names are as they were, where the files were told, and the space goes by as many bits.
pub record Leaves (names : List (List ℕ)) (old new : Machine) : Type 0 where
  pub files : ChangesFiles old.store.files new.store.files (λ before now. map (get_file now) names ≡ map (get_file before) names)
  pub bits : new.space.pool.bits ≡ old.space.pool.bits

-- The file that a command writes, if it writes one.
abbrev pub written : PlainCommand → Option (List ℕ)
written (write name file) = Some file
written (save file) = Some file
written (part file number) = Some (numbered file number)
written (indent count file) = Some file
written (dedent count file) = Some file
written _ = None

-- The line is no command, or one that writes none of the files of these names.
abbrev pub WritesElsewhere : List (List ℕ) → List ℕ → Type 0
WritesElsewhere names line = IfOk (meaning line) (λ command. IfSome (written command) (λ file. All (λ name. name ≢ file) names))

-- Such a line leaves them.
abbrev pub LineLeaves : Type 0
LineLeaves = (names : List (List ℕ)) (old new : Machine) (line reply : List ℕ) → WritesElsewhere names line → Step old line reply new → Leaves names old new

-- And so do several lines, one after another.
abbrev pub LinesLeave : {C : Type 0} → store_trait.Ghosts C → Type 0
LinesLeave {C} D =
    (names lines : List (List ℕ)) (old new : SpaceView) (store store' : C) (replies : List ℕ) → All (WritesElsewhere names) lines
    → StepsThrough lines D old store replies new store' → Leaves names (machine_of D old store) (machine_of D new store')

-- The files of these names, where they are told, have too many bytes together.
abbrev pub AreLarge : List (List ℕ) → Machine → Type 0
AreLarge names old = IfSome old.store.files (λ files. fetched_all files most_stored names ≡ large)

-- What the space has more than the chain has too many bytes for a file.
abbrev pub HasLargePart : SpaceView → Pool → Type 0
HasLargePart space C = IsTrue (is_large (part_text (delta C space.pool)))

-- What a save stored fails no test as the first document of a chain.
abbrev pub SaveBegins : Type 0
SaveBegins = (first saved : Machine) (file : List ℕ) → Obeys (save file) first ok_reply saved → start_damage first.space.pool.bits (text first.space.pool) ≡ None

-- And so the first part is stored behind it, where the file is left as it is. Else its own text has too many bytes, or it is hindered:
-- the file is never missing or damaged.
abbrev pub SaveThenPart : Type 0
SaveThenPart =
    (first saved later last : Machine) (files : Files) (file reply : List ℕ) → first.store.files ≡ Some files → Obeys (save file) first ok_reply saved
    → Leaves (file ∷ []) saved later → Obeys (part file 1) later reply last
    → (reply ≡ ok_reply)
    ⊎ HasLargePart later.space (at_present_version first.space.pool) × Refuses later.space (codes "large") reply last.space
    ⊎ IsHindered later reply last

-- Once a part was stored, its chain stands for the pool of the space that it was stored from, whatever saves and parts wrote the files
-- before it: where these files are left as they are, a chain of them brings that pool. Else they have too many bytes together, or it is
-- hindered: none of them is ever missing, and they are never damaged.
abbrev pub PartThenChain : Type 0
PartThenChain =
    (first parted later last : Machine) (files : Files) (file reply : List ℕ) (number : ℕ) → first.store.files ≡ Some files → Obeys (part file number) first ok_reply parted
    → Leaves (chain_names file (number + 1)) parted later → Obeys (chain file number) later reply last
    → (reply ≡ ok_reply) × (last.space.pool ≡ at_present_version first.space.pool)
    ⊎ AreLarge (chain_names file (number + 1)) later × Refuses later.space (codes "large") reply last.space
    ⊎ IsHindered later reply last

-- And so the next part is stored behind it. Else the chain has the most parts already, or the files or the part's own text, behind a
-- chain that stands for that pool, have too many bytes, or it is hindered.
abbrev pub PartThenPart : Type 0
PartThenPart =
    (first parted later last : Machine) (files : Files) (file reply : List ℕ) (number : ℕ) → first.store.files ≡ Some files → Obeys (part file number) first ok_reply parted
    → Leaves (chain_names file (number + 1)) parted later → Obeys (part file (number + 1)) later reply last
    → (reply ≡ ok_reply)
    ⊎ (number ≡ MOST_PARTS) × Refuses later.space (codes "range") reply last.space
    ⊎ (AreLarge (chain_names file (number + 1)) later ⊎ (C : Pool) × (chain_pool C ≡ at_present_version first.space.pool) × HasLargePart later.space C)
    × Refuses later.space (codes "large") reply last.space
    ⊎ IsHindered later reply last

-- What one piece of the input makes of a space and a store, and the reply that it gets.
use Rattle.std.specs.Prelude.{◌≡◌, ℕ, zero, suc, ◌+◌, ◌-◌, ◌*◌, ◌^◌, ◌≤◌, min, Bool, nat_lt, List, [], ◌∷◌, ◌++◌, length, codes, Result, Ok, Err, Option, Some, None, IfSome, IsSomeAnd, IsTrue, MatchBool, MatchOption, if◌then◌else◌, ◌⊎◌, ◌==◌}
use Rattle.std.specs.FinMap.{insert, get as get_file}
use Rattle.std.specs.List.{flat_map}
use Rattle.elem_core.specs.declared.TheConstants.{MAX_LINE, NEWLINE}
use Rattle.shell_terms.specs.Edit.{Bytes, fill}
use Rattle.shell_terms.specs.Command.{PlainCommand, edit, stats, made, read, write, save, load, part, chain, indent, dedent}
use Rattle.shell_terms.specs.Kinds.{only_asks, uses_store}
use Rattle.shell_words.specs.Files.{numbered}
use Rattle.shell_words.specs.Grammar.{meaning}
use Rattle.shell_words.specs.declared.BadLine.{BadLine}
use Rattle.shell_words.specs.declared.BadLine.TheVariants as bad
use Rattle.shell_io.specs.Fault.{HasCause, Calls}
use Rattle.shell_io.specs.InMemory.{Files}
use Rattle.shell_io.specs.Lines.{HasLines}
use Rattle.shell_io.specs.declared.lines.LinesFault.TheVariants as unread
use Rattle.shell_io.specs.Storing.{ChangesFiles, OthersStay}
use Rattle.shell_io.specs.declared.device.Store as store_trait
use Rattle.plain_space.specs.declared.refusal.Refusal.{Refusal}
use Rattle.plain_space.specs.declared.refusal.Refusal.TheVariants.{Limit}
use Rattle.plain_space.specs.Workspace.{Workspace, lines_of}
use Rattle.plain_space.specs.Answer.{Answer, tells, elsewhere, answer, ok_line, number_line, equal_line}
use Rattle.plain_space.specs.Memory.{MayLackMemory}
use Rattle.plain_space.specs.Session.{reason_of}
use Rattle.pool_text.specs.Rules.{present_rules}
use Rattle.pool_text.specs.Pool.{row_count, at_present_version}
use Rattle.pool_text.specs.Document.{text, pool_in_bytes}
use Rattle.pool_text.specs.declared.pool.Pool.{Pool}
use Rattle.pool_text.specs.declared.rules.TheConstants.{FIRST_VERSION}
use Rattle.pool_text.specs.declared.damage.Damage.{Damage}
use Rattle.pool_text.specs.declared.damage.Damage.TheVariants as damage
use Rattle.pool_check.specs.Damages.{document_damage, IsValid}
use Rattle.pool_check.specs.Laws.{IsDocumentOf}
use Rattle.pool_carry.specs.Carried.{IsCarried}
use Rattle.pool_delta.specs.Parts.{part_text}
use Rattle.pool_delta.specs.Chains.{chain_damage, chain_in, chain_pool, with_part}
use Rattle.pool_delta.specs.Delta.{delta}
use Rattle.pool_delta.specs.Laws.{IsPartOf}
use Rattle.pool_map.specs.Spaces.{indented, dedented}
use Rattle.pool_map.specs.Mapped.{mapped}
use Rattle.state_rows.specs.Standing.{StandsFor}
use Rattle.space_state.specs.View.{SpaceView, CarriesOut}
use Rattle.ewig_shell.specs.declared.store_fault.StoreFault.{StoreFault}
use Rattle.ewig_shell.specs.declared.store_fault.StoreFault.TheVariants as fault

-- What a step goes by of a store: its files, where they are told, and how often its calls have failed.
pub record StoreView : Type 0 where
  pub files : Option Files
  pub faults : ℕ

-- What a store shows.
abbrev pub shown_store : {A : Type 0} → store_trait.Ghosts A → A → StoreView
shown_store D store = record { files = D.held store; faults = D.faults store }

-- What a piece is executed on: a space, and what its store shows.
pub record Machine : Type 0 where
  pub space : SpaceView
  pub store : StoreView

-- Lines as bytes: a newline ends each.
abbrev pub ended_lines : List (List ℕ) → List ℕ
ended_lines lines = flat_map (λ line. line ++ NEWLINE ∷ []) lines

-- Reply lines as the bytes of a reply.
abbrev pub reply_of : List (List ℕ) → List ℕ
reply_of lines = ended_lines lines

-- The reply that refuses, with its reason.
abbrev pub refusal_of : List ℕ → List ℕ
refusal_of reason = reply_of ((codes "! " ++ reason) ∷ [])

-- The reply to a command that was carried out, or refused.
abbrev pub done_reply : Result (Unit {0}) Refusal → List ℕ
done_reply (Ok done) = reply_of (ok_line ∷ [])
done_reply (Err reason) = refusal_of (reason_of reason)

-- The reply to a question of equality.
abbrev pub equality_reply : Result Bool Refusal → List ℕ
equality_reply (Ok equal) = reply_of (equal_line equal ∷ [])
equality_reply (Err reason) = refusal_of (reason_of reason)

-- The word for the first test that a document fails.
abbrev pub damage_word : Damage → List ℕ
damage_word damage.Json = codes "json"
damage_word damage.Form = codes "form"
damage_word damage.Version = codes "version"
damage_word damage.Bits = codes "bits"
damage_word damage.Row = codes "row"
damage_word damage.Link = codes "link"
damage_word damage.Text = codes "text"
damage_word damage.Vector = codes "vector"
damage_word damage.Trie = codes "trie"
damage_word damage.Kind = codes "kind"
damage_word damage.Order = codes "order"
damage_word damage.Memory = codes "memory"

-- The reply to a command that uses the store.
abbrev pub stored_reply : Result (Unit {0}) StoreFault → List ℕ
stored_reply (Ok done) = reply_of (ok_line ∷ [])
stored_reply (Err fault.Batch) = refusal_of (codes "batch")
stored_reply (Err fault.Absent) = refusal_of (codes "none")
stored_reply (Err fault.Range) = refusal_of (codes "range")
stored_reply (Err fault.Limit) = refusal_of (codes "limit")
stored_reply (Err fault.Missing) = refusal_of (codes "missing")
stored_reply (Err fault.Large) = refusal_of (codes "large")
stored_reply (Err fault.Failed) = refusal_of (codes "fault")
stored_reply (Err (fault.Damaged d)) = refusal_of (codes "damaged " ++ damage_word d)
stored_reply (Err fault.Long) = refusal_of (codes "long")
stored_reply (Err fault.Utf8) = refusal_of (codes "utf8")
stored_reply (Err fault.Memory) = refusal_of (codes "memory")

-- The reply is this refusal, and what it was sent for stays: a machine, or the space alone.
pub record Refuses {S : Type 0} (old : S) (reason reply : List ℕ) (new : S) : Type 0 where
  pub reply_is : reply ≡ refusal_of reason
  pub same : new ≡ old

-- The word for why a line is no command.
abbrev pub line_reason : BadLine → List ℕ
line_reason bad.Utf8 = codes "utf8"
line_reason bad.Command = codes "command"
line_reason bad.Name = codes "name"

-- ## Files

-- The most bytes that a file may have: 64 times 2^20.
abbrev pub most_stored : ℕ
most_stored = 64 * 2 ^ 20

-- The bytes are too many for a file.
abbrev pub is_large : List ℕ → Bool
is_large bytes = nat_lt most_stored (length bytes)

-- The files, where they are told, are as they were, and the count of faults hasn't fallen.
pub record KeepsFiles (old new : StoreView) : Type 0 where
  pub files : ChangesFiles old.files new.files (λ before now. now ≡ before)
  pub counted : old.faults ≤ new.faults

-- ### What is stored

-- The bytes are the file of this name now, and no other file has changed.
pub record IsStored (name bytes : List ℕ) (old : StoreView) (reply : List ℕ) (new : StoreView) : Type 0 where
  pub reply_is : reply ≡ reply_of (ok_line ∷ [])
  pub files : ChangesFiles old.files new.files (λ before now. now ≡ insert before name bytes)
  pub counted : old.faults ≤ new.faults

-- The store failed in this step, and at most the file of this name has changed.
pub record FailsToStore (name : List ℕ) (old : StoreView) (reply : List ℕ) (new : StoreView) : Type 0 where
  pub reply_is : reply ≡ refusal_of (codes "fault")
  pub files : ChangesFiles old.files new.files (λ before now. OthersStay before now name)
  pub counted : old.faults ≤ new.faults
  pub cause : HasCause old.faults new.faults

-- The space stays. The bytes are too many for a file, or are stored, or the store failed.
pub record Stores (name bytes : List ℕ) (old : Machine) (reply : List ℕ) (new : Machine) : Type 0 where
  pub space : new.space ≡ old.space
  pub ends : MatchBool (is_large bytes) (Refuses old (codes "large") reply new)
      (IsStored name bytes old.store reply new.store ⊎ FailsToStore name old.store reply new.store)

-- The text of the pool's document is stored. No test fails of a text that was stored so, and it stands for the pool.
pub record Saves (P : Pool) (name : List ℕ) (old : Machine) (reply : List ℕ) (new : Machine) : Type 0 where
  pub stores : Stores name (text P) old reply new
  pub document : reply ≡ reply_of (ok_line ∷ []) → IsDocumentOf P (text P)

-- The lines of the buffer are stored, each with its newline.
abbrev pub Writes : Workspace → (name file : List ℕ) → Machine → List ℕ → Machine → Type 0
Writes work name file old reply new =
    IsSomeAnd (lines_of work.current name) (λ lines. Stores file (ended_lines lines) old reply new)

-- ### What is taken from a file

-- What a file, or several files, are to a command that takes their bytes: missing, too many bytes, or these.
pub data Fetched (X : Type 0) : Type 0 where
  missing : Fetched X
  large : Fetched X
  given : (bytes : X) → Fetched X

-- The same of the file that is held.
abbrev pub fetched : Option (List ℕ) → Fetched (List ℕ)
fetched None = missing
fetched (Some bytes) = if is_large bytes then large else given bytes

-- What a file makes of a space, by what its bytes make of it, or files of a machine.
abbrev pub Makes : {X S : Type 0} (ByBytes : X → List ℕ → S → Type 0) → Fetched X → S → List ℕ → S → Type 0
Makes ByBytes missing old reply new = Refuses old (codes "missing") reply new
Makes ByBytes large old reply new = Refuses old (codes "large") reply new
Makes ByBytes (given bytes) old reply new = ByBytes bytes reply new

-- The files stay. The file is the one of this name, where the files are told.
pub record TakesFile (name : List ℕ) (old : Machine) (reply : List ℕ) (new : Machine) (ByBytes : List ℕ → List ℕ → SpaceView → Type 0) : Type 0 where
  pub store : KeepsFiles old.store new.store
  pub file : Fetched (List ℕ)
  pub held : IfSome old.store.files (λ files. file ≡ fetched (get_file files name))
  pub makes : Makes ByBytes file old.space reply new.space

-- The store failed in this step, and nothing but its count of faults has changed.
pub record FailsToTake (old : Machine) (reply : List ℕ) (new : Machine) : Type 0 where
  pub store : KeepsFiles old.store new.store
  pub space : Refuses old.space (codes "fault") reply new.space
  pub cause : HasCause old.store.faults new.store.faults

-- The file of this name was taken, or the store failed.
abbrev pub Takes : (name : List ℕ) → Machine → List ℕ → Machine → (ByBytes : List ℕ → List ℕ → SpaceView → Type 0) → Type 0
Takes name old reply new ByBytes = TakesFile name old reply new ByBytes ⊎ FailsToTake old reply new

-- ### What is taken from several files

-- The name of a file of a chain: the first is the whole document's, and the others are those of its partial documents.
abbrev pub chain_name : List ℕ → ℕ → List ℕ
chain_name file number = if number == 0 then file else numbered file number

-- The names of the first so many.
unfoldable pub chain_names : List ℕ → ℕ → List (List ℕ)
chain_names file zero = []
chain_names file (suc count) = chain_names file count ++ chain_name file count ∷ []

-- The bytes of a file before those of others.
abbrev pub with_file : List ℕ → Fetched (List (List ℕ)) → Fetched (List (List ℕ))
with_file bytes missing = missing
with_file bytes large = large
with_file bytes (given files) = given (bytes ∷ files)

-- What a file is where there is room for so many bytes, and then what comes next.
abbrev pub fetched_within : ℕ → Option (List ℕ) → (List ℕ → Fetched (List (List ℕ))) → Fetched (List (List ℕ))
fetched_within room None next = missing
fetched_within room (Some bytes) next = if nat_lt room (length bytes) then large else next bytes

-- What the files of these names are, one after another, where there is room for so many bytes in all.
unfoldable pub fetched_all : Files → ℕ → List (List ℕ) → Fetched (List (List ℕ))
fetched_all files room [] = given []
fetched_all files room (name ∷ names) =
    fetched_within room (get_file files name) (λ bytes. with_file bytes (fetched_all files (room - length bytes) names))

-- The files stay, and are these, where the files are told. What they make is made of the machine as it is then.
pub record TakesFiles (names : List (List ℕ)) (old : Machine) (reply : List ℕ) (new : Machine) (ByFiles : List (List ℕ) → Machine → List ℕ → Machine → Type 0) : Type 0 where
  pub mid : StoreView
  pub kept : KeepsFiles old.store mid
  pub files : Fetched (List (List ℕ))
  pub held : IfSome old.store.files (λ held. files ≡ fetched_all held most_stored names)
  pub makes : Makes (λ given. ByFiles given (record old { store = mid })) files (record old { store = mid }) reply new

-- The files of these names were taken, or the store failed before that.
abbrev pub TakesAll : (names : List (List ℕ)) → Machine → List ℕ → Machine → (ByFiles : List (List ℕ) → Machine → List ℕ → Machine → Type 0) → Type 0
TakesAll names old reply new ByFiles = TakesFiles names old reply new ByFiles ⊎ FailsToTake old reply new

-- ### Documents

-- In a space of so many bits the bytes stand for this pool: a document of the second or the third version for that of its rows, and
-- one of the first version for what that is carried to.
abbrev pub DocumentStandsFor : ℕ → List ℕ → Pool → Type 0
DocumentStandsFor bits bytes Q =
    IsSomeAnd (pool_in_bytes bytes) (λ P. MatchBool (P.version == FIRST_VERSION) (IsCarried present_rules bits P Q) (Q ≡ at_present_version P))

-- The pool that the document stands for is the space's now, and the number made has risen by its rows, up to 2^64 - 1.
pub record IsLoaded (bytes : List ℕ) (old : SpaceView) (reply : List ℕ) (new : SpaceView) : Type 0 where
  pub reply_is : reply ≡ reply_of (ok_line ∷ [])
  pub pool : DocumentStandsFor old.pool.bits bytes new.pool
  pub valid : IsValid new.pool
  pub bits : new.pool.bits ≡ old.pool.bits
  pub made : new.made ≡ min (old.made + row_count new.pool) (2 ^ 64 - 1)

-- What the bytes make of the space by a load. A document is refused with the first test that it fails.
abbrev pub LoadsBytes : SpaceView → List ℕ → List ℕ → SpaceView → Type 0
LoadsBytes old bytes reply new =
    MatchOption (document_damage old.pool.bits bytes) (IsLoaded bytes old reply new) (λ d. Refuses old (codes "damaged " ++ damage_word d) reply new)

-- What the documents make as a chain in a space of so many bits: of the chain where none is damaged, and else of the first test that
-- the first damaged one fails.
abbrev pub ByChain : ℕ → List (List ℕ) → (Pool → Type 0) → (Damage → Type 0) → Type 0
ByChain bits [] ByPool ByDamage = ⊥
ByChain bits (first ∷ more) ByPool ByDamage = MatchOption (chain_damage bits first more) (IsSomeAnd (chain_in first more) ByPool) ByDamage

-- The pool of the chain is the space's now, and the number made has risen by its rows, up to 2^64 - 1.
pub record IsChained (C : Pool) (old : SpaceView) (reply : List ℕ) (new : SpaceView) : Type 0 where
  pub reply_is : reply ≡ reply_of (ok_line ∷ [])
  pub pool : new.pool ≡ chain_pool C
  pub valid : IsValid new.pool
  pub bits : new.pool.bits ≡ old.pool.bits
  pub made : new.made ≡ min (old.made + row_count new.pool) (2 ^ 64 - 1)

-- The same of a machine, whose store stays.
abbrev pub LoadsChain : Pool → Machine → List ℕ → Machine → Type 0
LoadsChain C old reply new = (new.store ≡ old.store) × IsChained C old.space reply new.space

-- What the files of a chain make of a machine, by what the chain makes of it. A chain is refused with its damage.
abbrev pub ChainsFiles : (ByPool : Pool → Machine → List ℕ → Machine → Type 0) → List (List ℕ) → Machine → List ℕ → Machine → Type 0
ChainsFiles ByPool files old reply new =
    ByChain old.space.pool.bits files (λ C. ByPool C old reply new) (λ d. Refuses old (codes "damaged " ++ damage_word d) reply new)

-- No test fails of the bytes as a partial document behind the chain, and with it the chain stands for the pool.
pub record IsPartDocumentOf (C P : Pool) (bytes : List ℕ) : Type 0 where
  pub part : IsPartOf C P bytes
  pub stands : chain_pool (with_part C (delta C P)) ≡ at_present_version P

-- What the space has more than the chain is stored. A text that was stored so is a partial document of the space's pool.
pub record StoresPart (name : List ℕ) (C : Pool) (old : Machine) (reply : List ℕ) (new : Machine) : Type 0 where
  pub stores : Stores name (part_text (delta C old.space.pool)) old reply new
  pub document : reply ≡ reply_of (ok_line ∷ []) → IsPartDocumentOf C old.space.pool (part_text (delta C old.space.pool))

-- The lines of the bytes are the buffer's now, by an edit.
pub record IsRead (work : Workspace) (name bytes : List ℕ) (old : SpaceView) (reply : List ℕ) (new : SpaceView) : Type 0 where
  pub lines : List Bytes
  pub lines_are : HasLines bytes (Ok lines)
  pub reply_is : reply ≡ reply_of (ok_line ∷ [])
  pub filled : CarriesOut (edit (fill name lines)) old new work

-- What the bytes make of the space, which stands for the workspace, by a read: they have no lines, for the first reason that holds,
-- or their lines are the buffer's now.
abbrev pub ReadsBytes : Workspace → List ℕ → SpaceView → List ℕ → List ℕ → SpaceView → Type 0
ReadsBytes work name old bytes reply new =
    HasLines bytes (Err unread.Long) × Refuses old (codes "long") reply new
    ⊎ HasLines bytes (Err unread.Utf8) × Refuses old (codes "utf8") reply new
    ⊎ IsRead work name bytes old reply new

-- ## Commands

-- What the space or the store has to say: of `stats` the number of the pool's rows, of `made` the number of rows ever made, of
-- `write`, `save`, `part`, `indent` and `dedent` what became of the file, and of `read`, `load` and `chain` what the file or the files
-- made of the space.
abbrev pub SaysElsewhere : PlainCommand → Machine → Workspace → List ℕ → Machine → Type 0
SaysElsewhere stats old work reply new = (reply ≡ reply_of (number_line (row_count old.space.pool) ∷ [])) × (new ≡ old)
SaysElsewhere made old work reply new = (reply ≡ reply_of (number_line old.space.made ∷ [])) × (new ≡ old)
SaysElsewhere (read name file) old work reply new = Takes file old reply new (ReadsBytes work name old.space)
SaysElsewhere (write name file) old work reply new = Writes work name file old reply new
SaysElsewhere (save file) old work reply new = Saves old.space.pool file old reply new
SaysElsewhere (load file) old work reply new = Takes file old reply new (LoadsBytes old.space)
SaysElsewhere (part file number) old work reply new =
    TakesAll (chain_names file number) old reply new (ChainsFiles (StoresPart (numbered file number)))
SaysElsewhere (chain file number) old work reply new = TakesAll (chain_names file (number + 1)) old reply new (ChainsFiles LoadsChain)
SaysElsewhere (indent count file) old work reply new = Saves (mapped (indented count) old.space.pool) file old reply new
SaysElsewhere (dedent count file) old work reply new = Saves (mapped (dedented count) old.space.pool) file old reply new
SaysElsewhere _ old work reply new = ⊥

-- From this machine, whose space stands for the workspace, the plain answer is this reply and leaves this machine. The store
-- stays; so does the space where the command only asks, and else the command was carried out in it.
abbrev pub Gives : PlainCommand → Machine → Workspace → Answer → List ℕ → Machine → Type 0
Gives command old work (Ok (tells lines after)) reply new =
    (reply ≡ reply_of lines) × (new.store ≡ old.store)
    × MatchBool (only_asks command) (new.space ≡ old.space) (CarriesOut command old.space new.space work)
Gives command old work (Ok elsewhere) reply new = SaysElsewhere command old work reply new
Gives command old work (Err reason) reply new = Refuses old (reason_of reason) reply new

-- Memory may be refused to a command that may want it, where nothing in the workspace refuses it; or before it is known that some
-- line is too long for a command that stores the lines, which takes memory to find.
abbrev pub MayLack : Workspace → PlainCommand → Type 0
MayLack work command = MayLackMemory work command ⊎ IsTrue (uses_store command) × (answer work command ≡ Err Limit)

-- Memory was refused, as it may be. The space stays, and so does the store, but that a command that uses it may have counted faults.
pub record LacksMemory (command : PlainCommand) (old : Machine) (work : Workspace) (reply : List ℕ) (new : Machine) : Type 0 where
  pub may : MayLack work command
  pub reply_is : reply ≡ refusal_of (codes "memory")
  pub space : new.space ≡ old.space
  pub store : MatchBool (uses_store command) (KeepsFiles old.store new.store) (new.store ≡ old.store)

-- From this machine, the command gets this reply and leaves this machine.
pub record Obeys (command : PlainCommand) (old : Machine) (reply : List ℕ) (new : Machine) : Type 0 where
  pub work : Workspace
  pub stands : StandsFor old.space.pool work
  pub gives : Gives command old work (answer work command) reply new ⊎ LacksMemory command old work reply new

-- The same of a command that uses no store, whatever the store shows.
abbrev pub ObeysAlone : PlainCommand → SpaceView → List ℕ → SpaceView → Type 0
ObeysAlone command old reply new =
    (store : StoreView) → Obeys command (record { space = old; store = store }) reply (record { space = new; store = store })

-- The same of a line, by its meaning.
abbrev pub Means : Machine → Result PlainCommand BadLine → List ℕ → Machine → Type 0
Means old (Ok command) reply new = Obeys command old reply new
Means old (Err bad) reply new = Refuses old (line_reason bad) reply new

-- The piece is too long to be a line.
abbrev pub is_long : List ℕ → Bool
is_long piece = nat_lt MAX_LINE (length piece)

-- From this machine, the piece gets this reply and leaves this machine. Its length is tested first.
abbrev pub Step : Machine → List ℕ → List ℕ → Machine → Type 0
Step old piece reply new =
    MatchBool (is_long piece) (Refuses old (codes "long") reply new) (Means old (meaning piece) reply new)

-- ## Spaces and stores

-- The machine of a space and a store.
abbrev pub machine_of : {C : Type 0} → store_trait.Ghosts C → SpaceView → C → Machine
machine_of D space store = record { space = space; store = shown_store D store }

-- A step with this reply made of the store's count of faults what one call makes of it that failed exactly where the reply is
-- `! fault`.
pub record CountsStore {C : Type 0} (D : store_trait.Ghosts C) (store store' : C) (reply : List ℕ) : Type 0 where
  pub calls : Calls D.faults D.steady D.faultless store store' (reply ≡ refusal_of (codes "fault"))

-- On a space and a store, the command gets this reply.
pub record ObeysOn {C : Type 0} (command : PlainCommand) (D : store_trait.Ghosts C) (space : SpaceView) (store : C) (reply : List ℕ)
    (space' : SpaceView) (store' : C) : Type 0 where
  pub obeys : Obeys command (machine_of D space store) reply (machine_of D space' store')
  pub counts : CountsStore D store store' reply

-- On a space and a store, the piece gets this reply.
pub record StepsOn {C : Type 0} (piece : List ℕ) (D : store_trait.Ghosts C) (space : SpaceView) (store : C) (reply : List ℕ)
    (space' : SpaceView) (store' : C) : Type 0 where
  pub step : Step (machine_of D space store) piece reply (machine_of D space' store')
  pub counts : CountsStore D store store' reply

-- On a space and a store, the pieces get these replies, joined, one step after another.
abbrev pub StepsThrough : {C : Type 0} → List (List ℕ) → store_trait.Ghosts C → SpaceView → C → List ℕ → SpaceView → C → Type 0
StepsThrough [] D space store replies space' store' = (replies ≡ []) × (space' ≡ space) × (store' ≡ store)
StepsThrough {C = C} (piece ∷ rest) D space store replies space' store' =
    (reply : List ℕ) × (mid_space : SpaceView) × (mid_store : C) × (more : List ℕ)
    × StepsOn piece D space store reply mid_space mid_store × StepsThrough rest D mid_space mid_store more space' store' × (replies ≡ reply ++ more)

-- What is stored and then loaded, and loaded and then stored.
use Rattle.std.proofs.Common.{◌≡◌, ℕ, ◌&&◌, nat_le, List, ◌++◌, Bool, true, false, Option, None, Some, codes, length, refl, sym, ap, subst, ◌∙◌, inl, inr, ◌⊎◌, cond, IsTrue, MatchBool, MatchOption, IfSome, Ok, Err}
use Rattle.std.proofs.lemmas.Option.{same_Some}
use Rattle.std.specs.FinMap.{get, insert}
use Rattle.shell_terms.specs.Edit.{Bytes}
use Rattle.shell_terms.specs.Command.{PlainCommand, save, load, part, indent, dedent}
use Rattle.plain_space.specs.declared.TheConstants.{MOST_PARTS, MOST_SPACES}
use Rattle.plain_space.specs.declared.refusal.Refusal.{Refusal}
use Rattle.plain_space.specs.declared.refusal.Refusal.TheVariants as why
use Rattle.plain_space.specs.Workspace.{Workspace, all_lines_pass, in_batch}
use Rattle.plain_space.specs.Refusing.{needs, unless, has_room_for}
use Rattle.plain_space.specs.Answer.{Answer, elsewhere, answer}
use Rattle.plain_space.specs.Session.{reason_of}
use Rattle.pool_text.specs.Pool.{at_present_version, pool}
use Rattle.pool_text.specs.Document.{text, pool_in_bytes}
use Rattle.pool_text.specs.declared.pool.Pool.{Pool}
use Rattle.pool_text.specs.declared.damage.Damage.{Damage}
use Rattle.pool_text.proofs.DocumentBack.{compact-stays}
use Rattle.pool_check.specs.Damages.{document_damage}
use Rattle.pool_check.specs.Laws.{IsDocumentOf}
use Rattle.pool_check.proofs.DocumentLaw.{undamaged-stands}
use Rattle.pool_map.specs.Spaces.{indented, dedented}
use Rattle.pool_map.specs.Mapped.{mapped}
use Rattle.shell_io.specs.InMemory.{Files}
use Rattle.shell_io.specs.Storing.{ChangesFiles}
use Rattle.space_state.specs.View.{SpaceView}
use Rattle.state_rows.proofs.FourRoots.{outside-batch}
use Rattle.ewig_shell.specs.Step.{Machine, Refuses, Saves, IsStored, FailsToStore, IsLoaded, Fetched, large, given, fetched, Makes, TakesFile, LoadsBytes, SaysElsewhere, Gives, Obeys, is_large, damage_word}
use Rattle.ewig_shell.specs.RoundTrip.{ok_reply, HasBatch, IsStopped, LoadThenSave, StoreThenLoad, SaveThenLoad, IndentThenLoad, DedentThenLoad}
use Rattle.ewig_shell.proofs.DocumentLemmas.{present-stands, is-present}
use Rattle.ewig_shell.proofs.ReplyLemmas.{no-refusal}
use Rattle.ewig_shell.proofs.StepLemmas.{IsOutsideBatch, save-outside, load-outside}

-- ## How a command of the store is answered

-- the workspace refuses it, or has nothing to say
abbrev pub IsOfStore : PlainCommand → Type 0
IsOfStore command = (W : Workspace) → ((reason : Refusal) × (answer W command ≡ Err reason)) ⊎ (answer W command ≡ Ok elsewhere)

abbrev Comes : Answer → Type 0
Comes a = ((reason : Refusal) × (a ≡ Err reason)) ⊎ (a ≡ Ok elsewhere)

needs-comes : (test : Bool) (reason : Refusal) (next : Answer) → Comes next → Comes (needs test reason next)
needs-comes true reason next comes = comes
needs-comes false reason next comes = inl (reason, refl)

unless-comes : (test : Bool) (reason : Refusal) (next : Answer) → Comes next → Comes (unless test reason next)
unless-comes true reason next comes = inl (reason, refl)
unless-comes false reason next comes = comes

save-of-store : (file : Bytes) → IsOfStore (save file)
unfolding answer
save-of-store file W = unless-comes (in_batch W) why.Batch (Ok elsewhere) (inr refl)

load-of-store : (file : Bytes) → IsOfStore (load file)
unfolding answer
load-of-store file W = unless-comes (in_batch W) why.Batch (Ok elsewhere) (inr refl)

pub part-of-store : (file : Bytes) (number : ℕ) → IsOfStore (part file number)
unfolding answer
part-of-store file number W =
    unless-comes (in_batch W) why.Batch (needs (nat_le 1 number && nat_le number MOST_PARTS) why.Range (Ok elsewhere))
    (needs-comes (nat_le 1 number && nat_le number MOST_PARTS) why.Range (Ok elsewhere) (inr refl))

indent-of-store : (count : ℕ) (file : Bytes) → IsOfStore (indent count file)
unfolding answer
indent-of-store count file W =
    unless-comes (in_batch W) why.Batch (needs (nat_le count MOST_SPACES) why.Range (needs (all_lines_pass (has_room_for count) W) why.Limit (Ok elsewhere)))
    (needs-comes (nat_le count MOST_SPACES) why.Range (needs (all_lines_pass (has_room_for count) W) why.Limit (Ok elsewhere))
    (needs-comes (all_lines_pass (has_room_for count) W) why.Limit (Ok elsewhere) (inr refl)))

dedent-of-store : (count : ℕ) (file : Bytes) → IsOfStore (dedent count file)
unfolding answer
dedent-of-store count file W = unless-comes (in_batch W) why.Batch (needs (nat_le count MOST_SPACES) why.Range (Ok elsewhere)) (needs-comes (nat_le count MOST_SPACES) why.Range (Ok elsewhere) (inr refl))

-- what the store said where the reply is `ok`
pub said-ok : (command : PlainCommand) (old new : Machine) → IsOfStore command → (obeys : Obeys command old ok_reply new) → (answer obeys.work command ≡ Ok elsewhere) × SaysElsewhere command old obeys.work ok_reply new
said-ok command old new of_store obeys = elim obeys.gives [
  | inl gives ↦ elim (of_store obeys.work) [
    | inl refused ↦ absurd (no-refusal (reason_of refused.0) (let is : Gives command old obeys.work (Err refused.0) ok_reply new = subst (λ (a : Answer). Gives command old obeys.work a ok_reply new) refused.1 gives in is.reply_is))
    | inr granted ↦ (granted, subst (λ (a : Answer). Gives command old obeys.work a ok_reply new) granted gives)
  ]
  | inr lacks ↦ absurd (no-refusal (codes "memory") lacks.reply_is)
]

-- the store has its say, or a batch is open, or memory ran out
module _ (command : PlainCommand) (outside : IsOutsideBatch command) where
  by_batch : (batch : Bool) (old new : Machine) (W : Workspace) (reply : List ℕ) → Gives command old W (unless batch why.Batch (Ok elsewhere)) reply new
      → IsTrue batch × Refuses old (codes "batch") reply new ⊎ SaysElsewhere command old W reply new
  by_batch true old new W reply gives = inl (refl, gives)
  by_batch false old new W reply gives = inr gives

  pub ended : (old new : Machine) (reply : List ℕ) (obeys : Obeys command old reply new)
      → SaysElsewhere command old obeys.work reply new ⊎ HasBatch old.space × Refuses old.space (codes "batch") reply new.space ⊎ Refuses old.space (codes "memory") reply new.space
  ended old new reply obeys = elim obeys.gives [
    | inl gives ↦ elim (by_batch (in_batch obeys.work) old new obeys.work reply (subst (λ (a : Answer). Gives command old obeys.work a reply new) (outside obeys.work) gives)) [
      | inl refuses ↦ inr (inl ((obeys.work, obeys.stands, refuses.0), record { reply_is = refuses.1.reply_is; same = ap (λ (m : Machine). m.space) refuses.1.same }))
      | inr says ↦ inl says
    ]
    | inr lacks ↦ inr (inr (record { reply_is = lacks.reply_is; same = lacks.space }))
  ]

-- ## What is stored

pub stored-if : (too_large : Bool) (name bytes : Bytes) (old new : Machine)
    → MatchBool too_large (Refuses old (codes "large") ok_reply new) (IsStored name bytes old.store ok_reply new.store ⊎ FailsToStore name old.store ok_reply new.store)
    → (too_large ≡ false) × IsStored name bytes old.store ok_reply new.store
stored-if true name bytes old new refuses = absurd (no-refusal (codes "large") refuses.reply_is)
stored-if false name bytes old new ends = elim ends [
  | inl stored ↦ (refl, stored)
  | inr fails ↦ absurd (no-refusal (codes "fault") fails.reply_is)
]

-- a command that stores the document of a pool that it makes of the space's
pub record StoresDocument (command : Bytes → PlainCommand) (pool_of : Pool → Pool) : Type 0 where
  pub of_store : (file : Bytes) → IsOfStore (command file)
  pub says : (file : Bytes) (old new : Machine) (W : Workspace) (reply : List ℕ) → SaysElsewhere (command file) old W reply new → Saves (pool_of old.space.pool) file old reply new
  pub bits : (P : Pool) → (pool_of P).bits ≡ P.bits

stores-own : StoresDocument save (λ P. P)
stores-own = record { of_store = save-of-store; says = λ file old new W reply says. says; bits = λ P. refl }

mapped-bits : (change : Bytes → Bytes) (P : Pool) → (mapped change P).bits ≡ P.bits
unfolding mapped pool
mapped-bits change P = refl

stores-indented : (count : ℕ) → StoresDocument (indent count) (mapped (indented count))
stores-indented count = record { of_store = indent-of-store count; says = λ file old new W reply says. says; bits = mapped-bits (indented count) }

stores-dedented : (count : ℕ) → StoresDocument (dedent count) (mapped (dedented count))
stores-dedented count = record { of_store = dedent-of-store count; says = λ file old new W reply says. says; bits = mapped-bits (dedented count) }

-- ## A load

-- a load of a file that is told
read-file : (name : Bytes) (old new : Machine) (reply : List ℕ) (files : Files) (bytes : Bytes) → old.store.files ≡ Some files → get files name ≡ Some bytes → TakesFile name old reply new (LoadsBytes old.space)
    → Makes (LoadsBytes old.space) (fetched (Some bytes)) old.space reply new.space
read-file name old new reply files bytes told there loads =
    let held : loads.file ≡ fetched (get files name) = subst (λ (o : Option Files). IfSome o (λ (f : Files). loads.file ≡ fetched (get f name))) told loads.held in
    subst (λ (file : Fetched (List ℕ)). Makes (LoadsBytes old.space) file old.space reply new.space) (held ∙ ap fetched there) loads.makes

given-ok : (too_large : Bool) (bytes : Bytes) (old new : SpaceView) → Makes (LoadsBytes old) (cond too_large large (given bytes)) old ok_reply new → (too_large ≡ false) × LoadsBytes old bytes ok_reply new
given-ok true bytes old new keeps = absurd (no-refusal (codes "large") keeps.reply_is)
given-ok false bytes old new loads = (refl, loads)

undamaged-ok : (found : Option Damage) (bytes : Bytes) (old new : SpaceView)
    → MatchOption found (IsLoaded bytes old ok_reply new) (λ (d : Damage). Refuses old (codes "damaged " ++ damage_word d) ok_reply new) → (found ≡ None) × IsLoaded bytes old ok_reply new
undamaged-ok None bytes old new loads = (refl, loads)
undamaged-ok (Some d) bytes old new keeps = absurd (no-refusal (codes "damaged " ++ damage_word d) keeps.reply_is)

-- what was loaded where the reply is `ok`
loaded-ok : (name : Bytes) (old new : Machine) (files : Files) (bytes : Bytes) → old.store.files ≡ Some files → get files name ≡ Some bytes → Obeys (load name) old ok_reply new
    → (is_large bytes ≡ false) × (document_damage old.space.pool.bits bytes ≡ None) × IsLoaded bytes old.space ok_reply new.space
loaded-ok name old new files bytes told there obeys = elim ((said-ok (load name) old new (load-of-store name) obeys).1) [
  | inl loads ↦
      let small = given-ok (is_large bytes) bytes old.space new.space (read-file name old new ok_reply files bytes told there loads) in
      let whole = undamaged-ok (document_damage old.space.pool.bits bytes) bytes old.space new.space small.1 in
      (small.0, whole.0, whole.1)
  | inr fails ↦ absurd (no-refusal (codes "fault") fails.space.reply_is)
]

-- ## A load, and then a save

-- the loaded pool has four roots
four-loaded : (bits : ℕ) (bytes : Bytes) (P : Pool) → document_damage bits bytes ≡ None → pool_in_bytes bytes ≡ Some P → length P.roots ≡ 4
four-loaded bits bytes P whole read =
    let stands = undamaged-stands bits bytes whole in
    ap (λ (Q : Pool). length Q.roots) (same_Some P stands.0 (sym read ∙ stands.1.read)) ∙ stands.1.roots

saved-if : (too_large : Bool) (name bytes reply : Bytes) (old new : Machine) → too_large ≡ false → text old.space.pool ≡ bytes → new.space ≡ old.space
    → MatchBool too_large (Refuses old (codes "large") reply new) (IsStored name (text old.space.pool) old.store reply new.store ⊎ FailsToStore name old.store reply new.store)
    → (reply ≡ ok_reply) × ChangesFiles old.store.files new.store.files (λ before now. now ≡ insert before name bytes)
    ⊎ IsStopped old reply new
saved-if true name bytes reply old new small same stays ends = absurd (let never : true ≡ false = small in cc)
saved-if false name bytes reply old new small same stays ends = elim ends [
  | inl stored ↦ inl (stored.reply_is, subst (λ (b : Bytes). ChangesFiles old.store.files new.store.files (λ (before now : Files). now ≡ insert before name b)) same stored.files)
  | inr fails ↦ inr (inl (fails.cause, record { reply_is = fails.reply_is; same = stays }))
]

pub load-then-save : LoadThenSave
load-then-save first loaded later last files file other bytes reply told there compact now loads same saves =
    let read = loaded-ok file first loaded files bytes told there loads in
    let present = present-stands first.space.pool.bits bytes loaded.space.pool now read.2.pool in
    let text_is : text later.space.pool ≡ bytes = ap text same ∙ compact-stays bytes loaded.space.pool present.0 present.1 compact in
    let four : length later.space.pool.roots ≡ 4 = ap (λ (P : Pool). length P.roots) same ∙ four-loaded first.space.pool.bits bytes loaded.space.pool read.1 present.0 in
    elim saves.gives [
      | inl gives ↦
          let said : SaysElsewhere (save other) later saves.work reply last =
          subst (λ (b : Bool). Gives (save other) later saves.work (unless b why.Batch (Ok elsewhere)) reply last) (outside-batch later.space.pool saves.work saves.stands four)
          (subst (λ (a : Answer). Gives (save other) later saves.work a reply last) (save-outside other saves.work) gives) in
          saved-if (is_large (text later.space.pool)) other bytes reply later last (ap is_large text_is ∙ read.0) text_is said.stores.space said.stores.ends
      | inr lacks ↦ inr (inr (record { reply_is = lacks.reply_is; same = lacks.space }))
    ]

-- ## What was stored, and then a load

module _ {command : Bytes → PlainCommand} {pool_of : Pool → Pool} (is : StoresDocument command pool_of) where
  -- what was stored where the reply is `ok`, and that a load takes it
  stored-ok : (name : Bytes) (old new : Machine) → Obeys (command name) old ok_reply new → (is_large (text (pool_of old.space.pool)) ≡ false) × IsDocumentOf (pool_of old.space.pool) (text (pool_of old.space.pool))
  stored-ok name old new obeys =
      let says : Saves (pool_of old.space.pool) name old ok_reply new = is.says name old new obeys.work ok_reply (said-ok (command name) old new (is.of_store name) obeys).1 in
      let stored = stored-if (is_large (text (pool_of old.space.pool))) name (text (pool_of old.space.pool)) old new says.stores.ends in
      (stored.0, says.document refl)

  store-then-load : StoreThenLoad command pool_of
  store-then-load first saved later last files file other reply saves told there bits loads =
      let P : Pool = pool_of first.space.pool in
      let stored = stored-ok file first saved saves in
      let whole : document_damage later.space.pool.bits (text P) ≡ None = ap (λ b. document_damage b (text P)) (bits ∙ sym (is.bits first.space.pool)) ∙ stored.1.undamaged in
      elim (ended (load other) (load-outside other) later last reply loads) [
        | inl says ↦ elim says [
          | inl reads ↦
              let small : LoadsBytes later.space (text P) reply last.space =
              subst (λ (b : Bool). Makes (LoadsBytes later.space) (cond b large (given (text P))) later.space reply last.space) stored.0 (read-file other later last reply files (text P) told there reads) in
              let loaded : IsLoaded (text P) later.space reply last.space =
              subst (λ (o : Option Damage). MatchOption o (IsLoaded (text P) later.space reply last.space) (λ (d : Damage). Refuses later.space (codes "damaged " ++ damage_word d) reply last.space)) whole small in
              let present = present-stands later.space.pool.bits (text P) last.space.pool (is-present (text P) (at_present_version P) stored.1.read refl) loaded.pool in
              inl (loaded.reply_is, same_Some last.space.pool (at_present_version P) (sym present.0 ∙ stored.1.read))
          | inr fails ↦ inr (inr (inl (fails.cause, fails.space)))
        ]
        | inr keeps ↦ elim keeps [
          | inl batch ↦ inr (inl batch)
          | inr memory ↦ inr (inr (inr memory))
        ]
      ]

-- what a save stored where the reply is `ok`
pub record IsSaved (file : Bytes) (first saved : Machine) : Type 0 where
  pub same : saved.space ≡ first.space
  pub small : is_large (text first.space.pool) ≡ false
  pub stored : IsStored file (text first.space.pool) first.store ok_reply saved.store
  pub document : IsDocumentOf first.space.pool (text first.space.pool)

pub save-stored : (file : Bytes) (first saved : Machine) → Obeys (save file) first ok_reply saved → IsSaved file first saved
save-stored file first saved obeys =
    let says : Saves first.space.pool file first ok_reply saved = (said-ok (save file) first saved (save-of-store file) obeys).1 in
    let ends = stored-if (is_large (text first.space.pool)) file (text first.space.pool) first saved says.stores.ends in
    record { same = says.stores.space; small = ends.0; stored = ends.1; document = says.document refl }

pub save-then-load : SaveThenLoad
save-then-load = store-then-load stores-own

pub indent-then-load : IndentThenLoad
indent-then-load count = store-then-load (stores-indented count)

pub dedent-then-load : DedentThenLoad
dedent-then-load count = store-then-load (stores-dedented count)

-- What shows that a document was loaded, or why not.
use Rattle.std.proofs.Common.{◌≡◌, ◌≢◌, ℕ, ◌<◌, ◌≤◌, ◌+◌, ◌-◌, ◌^◌, min, ◌∙◌, length, sym, ap, subst, refl, arith, ◌==◌, codes, Bool, true, false, inl, inr, Result, Ok, Err, IsTrue, IsErrAnd, ◌⊎◌, IfSome, MatchBool, MatchOption, List, [], ◌∷◌, ◌++◌, None, Some}
use Rattle.std.proofs.lemmas.Bool.{le-ltb, lt-ltb, cases_Bool}
use Rattle.elem_core.specs.declared.TheConstants.{NEWLINE}
use Rattle.shell_io.specs.Pieces.{at_front, pieces}
use Rattle.std.specs.declared.option.Option.{Option}
use Rattle.std.specs.FinMap.{get}
use Rattle.shell_terms.specs.Edit.{Bytes, fill}
use Rattle.shell_terms.specs.Command.{PlainCommand, edit, read, load}
use Rattle.plain_space.specs.declared.refusal.Refusal.{Refusal}
use Rattle.plain_space.specs.declared.refusal.Refusal.TheVariants as why
use Rattle.plain_space.specs.Workspace.{Workspace, in_batch, most}
use Rattle.plain_space.specs.Answer.{answer, elsewhere, ok_line}
use Rattle.shell_terms.specs.Kinds.{uses_store, wants_memory}
use Rattle.pool_check.proofs.DocumentLaw.{valid-at-present}
use Rattle.state_rows.proofs.OneSpace.{one-space}
use Rattle.shell_io.specs.Lines.{HasLines}
use Rattle.shell_io.specs.declared.lines.LinesFault.{LinesFault}
use Rattle.shell_io.specs.declared.lines.LinesFault.TheVariants as unread
use Rattle.pool_text.specs.Pool.{row_count, at_present_version}
use Rattle.pool_text.specs.Document.{pool_in_bytes, bytes_damage}
use Rattle.pool_text.specs.declared.pool.Pool.{Pool}
use Rattle.pool_text.specs.declared.damage.Damage.{Damage}
use Rattle.pool_text.specs.declared.damage.Damage.TheVariants as damage_is
use Rattle.pool_check.specs.Damages.{own_damage, document_damage, IsValid}
use Rattle.state_rows.specs.Standing.{StandsFor}
use Rattle.space_state.specs.View.{SpaceView, CarriesOut, Ends, EndsTaking}
use Rattle.shell_io.specs.Fault.{Calls}
use Rattle.shell_io.specs.InMemory.{Files}
use Rattle.shell_io.specs.Storing.{ChangesFiles, FetchesFile}
use Rattle.shell_io.specs.declared.device.FetchFault.{FetchFault}
use Rattle.shell_io.specs.declared.device.FetchFault.TheVariants as fetch
use Rattle.shell_io.specs.declared.device.Store as store_trait
use Rattle.ewig_shell.specs.declared.store_fault.StoreFault.{StoreFault}
use Rattle.ewig_shell.specs.declared.store_fault.StoreFault.TheVariants as unloaded
use Rattle.ewig_shell.specs.Step.{Machine, KeepsFiles, Refuses, Fetched, fetched, missing, large, given, Makes, Takes, DocumentStandsFor, IsLoaded, LoadsBytes, ReadsBytes, SaysElsewhere, ObeysOn, CountsStore, shown_store, machine_of, most_stored, damage_word, reply_of, refusal_of, stored_reply}
use Rattle.ewig_shell.specs.Loading.{TakesIn, FillsIn}
use Rattle.ewig_shell.specs.Faults.{fault_of, fetch_fault, lines_fault}
use Rattle.ewig_shell.proofs.ReplyLemmas.{other-reply}
use Rattle.ewig_shell.proofs.StepLemmas.{same_files, CountsStore-failed, CountsStore-succeeded, load-outside, answer-outside, Obeys-elsewhere, may_lack, fault-is}

-- ## A document

module _ (bits : ℕ) (bytes : Bytes) where
  -- a damage found by reading it
  pub read_damage : (d : Damage) → bytes_damage bits bytes ≡ Some d → document_damage bits bytes ≡ Some d
  unfolding document_damage
  read_damage d e = rw e refl

  -- one found in the pool of its rows
  pub pool_damage : (P : Pool) (found : Option Damage) → bytes_damage bits bytes ≡ None → pool_in_bytes bytes ≡ Some P → own_damage P ≡ found → document_damage bits bytes ≡ found
  unfolding document_damage
  pool_damage P found none is e = rw none (rw is e)

-- a document is refused with its damage
damaged_as : (d : Damage) (bytes : Bytes) (old new : SpaceView) → document_damage old.pool.bits bytes ≡ Some d → new ≡ old → LoadsBytes old bytes (stored_reply (Err (unloaded.Damaged d))) new
damaged_as d bytes old new is same =
    subst (λ (o : Option Damage). MatchOption o (IsLoaded bytes old (stored_reply (Err (unloaded.Damaged d))) new) (λ (w : Damage). Refuses old (codes "damaged " ++ damage_word w) (stored_reply (Err (unloaded.Damaged d))) new)) (sym is)
    (record { reply_is = refl; same = same })

-- but for want of memory
by_fault : (d : Damage) (bytes : Bytes) (old new : SpaceView) → (d ≢ damage_is.Memory → document_damage old.pool.bits bytes ≡ Some d) → new ≡ old → TakesIn bytes old (Err (fault_of d)) new
by_fault damage_is.Json bytes old new is same = inl (damaged_as damage_is.Json bytes old new (is (λ e. cc)) same)
by_fault damage_is.Form bytes old new is same = inl (damaged_as damage_is.Form bytes old new (is (λ e. cc)) same)
by_fault damage_is.Version bytes old new is same = inl (damaged_as damage_is.Version bytes old new (is (λ e. cc)) same)
by_fault damage_is.Bits bytes old new is same = inl (damaged_as damage_is.Bits bytes old new (is (λ e. cc)) same)
by_fault damage_is.Row bytes old new is same = inl (damaged_as damage_is.Row bytes old new (is (λ e. cc)) same)
by_fault damage_is.Link bytes old new is same = inl (damaged_as damage_is.Link bytes old new (is (λ e. cc)) same)
by_fault damage_is.Text bytes old new is same = inl (damaged_as damage_is.Text bytes old new (is (λ e. cc)) same)
by_fault damage_is.Vector bytes old new is same = inl (damaged_as damage_is.Vector bytes old new (is (λ e. cc)) same)
by_fault damage_is.Trie bytes old new is same = inl (damaged_as damage_is.Trie bytes old new (is (λ e. cc)) same)
by_fault damage_is.Kind bytes old new is same = inl (damaged_as damage_is.Kind bytes old new (is (λ e. cc)) same)
by_fault damage_is.Order bytes old new is same = inl (damaged_as damage_is.Order bytes old new (is (λ e. cc)) same)
by_fault damage_is.Memory bytes old new is same = inr (refl, same)

module _ (bytes : Bytes) (old new : SpaceView) where
  -- the document has a damage, or memory ran out
  pub TakesIn-damaged : (result : Result (Unit {0}) StoreFault) (d : Damage) → IsErrAnd result (λ (fault : StoreFault). fault ≡ fault_of d) → (d ≢ damage_is.Memory → document_damage old.pool.bits bytes ≡ Some d) → new ≡ old → TakesIn bytes old result new
  TakesIn-damaged (Ok done) d e is same = absurd e
  TakesIn-damaged (Err fault) d e is same = subst (λ (f : StoreFault). TakesIn bytes old (Err f) new) (sym e) (by_fault d bytes old new is same)

  -- what it stands for is the space's now
  pub TakesIn-ok : (P : Pool) → DocumentStandsFor old.pool.bits bytes (at_present_version P) → P.bits ≡ old.pool.bits → document_damage old.pool.bits bytes ≡ None → IsValid P → new.pool ≡ at_present_version P → new.made ≡ min (old.made + row_count P) (2 ^ 64 - 1) → TakesIn bytes old (Ok tt) new
  TakesIn-ok P is bits whole valid same made =
      inl (subst (λ (d : Option Damage). MatchOption d (IsLoaded bytes old (reply_of (ok_line ∷ [])) new) (λ (w : Damage). Refuses old (codes "damaged " ++ damage_word w) (reply_of (ok_line ∷ [])) new)) (sym whole) (record {
        reply_is = refl;
        pool = subst (DocumentStandsFor old.pool.bits bytes) (sym same) is;
        valid = subst (λ (Q : Pool). IsValid Q) (sym same) (valid-at-present P valid);
        bits = ap (λ (Q : Pool). Q.bits) same ∙ bits;
        made = subst (λ (Q : Pool). new.made ≡ min (old.made + row_count Q) (2 ^ 64 - 1)) (sym same) made;
      }))

-- ## Want of memory is no damage

no_memory : (d : Damage) → fault_of d ≢ unloaded.Damaged damage_is.Memory
no_memory damage_is.Memory e = cc
no_memory _ e = cc

no_memory_fetched : (fault : FetchFault) → fetch_fault fault ≢ unloaded.Damaged damage_is.Memory
no_memory_fetched fetch.Missing e = cc
no_memory_fetched fetch.Large e = cc
no_memory_fetched fetch.Failed e = cc
no_memory_fetched fetch.Memory e = cc

module _ (result : Result (Unit {0}) StoreFault) where
  other_fault : (fault other : StoreFault) → IsErrAnd result (λ (f : StoreFault). f ≡ fault) → fault ≢ other → result ≢ Err other
  other_fault fault other is differs e = differs (let both : Err fault ≡ Err other = sym (fault-is result fault is) ∙ e in cc)

  pub document-damage : (d : Damage) → IsErrAnd result (λ (f : StoreFault). f ≡ fault_of d) → result ≢ Err (unloaded.Damaged damage_is.Memory)
  document-damage d is = other_fault (fault_of d) (unloaded.Damaged damage_is.Memory) is (no_memory d)

  pub fetch-damage : (fault : FetchFault) → IsErrAnd result (λ (f : StoreFault). f ≡ fetch_fault fault) → result ≢ Err (unloaded.Damaged damage_is.Memory)
  fetch-damage fault is = other_fault (fetch_fault fault) (unloaded.Damaged damage_is.Memory) is (no_memory_fetched fault)

-- ## A space that takes a pool

done_by : (batch : Bool) (IsDone IsAsBefore : Type 0) (x : Unit {0}) → MatchBool batch ((Ok x ≡ Err why.Batch) × IsAsBefore) IsDone → IsDone
done_by true IsDone IsAsBefore x ends = absurd (let never = ends.0 in cc)
done_by false IsDone IsAsBefore x ends = ends

pub taken : (W : Workspace) (result : Result (Unit {0}) Refusal) (x : Unit {0}) (IsDone IsAsBefore : Type 0) → EndsTaking W result IsDone IsAsBefore → result ≡ Ok x → IsDone
taken W result x IsDone IsAsBefore ends is = done_by (in_batch W) IsDone IsAsBefore x (subst (λ (r : Result (Unit {0}) Refusal). EndsTaking W r IsDone IsAsBefore) is ends)

refused_by : (batch : Bool) (reason : Refusal) (IsAsBefore : Type 0) → MatchBool batch ((◌≡◌ {A = Result (Unit {0}) Refusal} (Err reason) (Err why.Batch)) × IsAsBefore) ((reason ≡ why.Memory) × IsAsBefore) → IsAsBefore
refused_by true reason IsAsBefore ends = ends.1
refused_by false reason IsAsBefore ends = ends.1

pub untaken : (W : Workspace) (result : Result (Unit {0}) Refusal) (reason : Refusal) (IsDone IsAsBefore : Type 0) → EndsTaking W result IsDone IsAsBefore → result ≡ Err reason → IsAsBefore
untaken W result reason IsDone IsAsBefore ends is = refused_by (in_batch W) reason IsAsBefore (subst (λ (r : Result (Unit {0}) Refusal). EndsTaking W r IsDone IsAsBefore) is ends)

-- ## A file

large_is : (bytes : Bytes) → most_stored < length bytes → fetched (Some bytes) ≡ large
large_is bytes many = rw (lt-ltb most_stored (length bytes) many) refl

small_is : (bytes : Bytes) → length bytes ≤ most_stored → fetched (Some bytes) ≡ given bytes
small_is bytes few = rw (le-ltb most_stored (length bytes) few) refl

is_missing : (file : Option Bytes) → file ≡ None → missing ≡ fetched file
is_missing file e = ap fetched (sym e)

is_given : (file : Option Bytes) (bytes : Bytes) → file ≡ Some bytes → length bytes ≤ most_stored → given bytes ≡ fetched file
is_given file bytes e few = sym (ap fetched e ∙ small_is bytes few)

is_large_file : (file : Option Bytes) → (bytes : Bytes) × (file ≡ Some bytes) × (most_stored < length bytes) → large ≡ fetched file
is_large_file file h = sym (ap fetched h.1 ∙ large_is h.0 h.2)

-- what is said of the files that are told
told_of : (files : Option Files) (P Q : Files → Type 0) → ((f : Files) → P f → Q f) → IfSome files P → IfSome files Q
told_of None P Q to h = tt
told_of (Some f) P Q to h = to f h

-- what a fetch said, by the file's name and as it ended
pub fetched_by : (files : Option Files) (one name : Bytes) (result result' : Result (Unit {0}) FetchFault) (bytes : Bytes) → one ≡ name → result ≡ result' →
    IfSome files (λ (f : Files). FetchesFile (get f one) most_stored result bytes) → IfSome files (λ (f : Files). FetchesFile (get f name) most_stored result' bytes)
fetched_by files one name result result' bytes named ends told =
    subst (λ (r : Result (Unit {0}) FetchFault). IfSome files (λ (f : Files). FetchesFile (get f name) most_stored r bytes)) ends
    (subst (λ (n : Bytes). IfSome files (λ (f : Files). FetchesFile (get f n) most_stored result bytes)) named told)

-- a fetch leaves the files
pub kept : {C : Type 0} (D : store_trait.Ghosts C) (store store' : C) → D.held store' ≡ D.held store → D.faults store ≤ D.faults store' → KeepsFiles (shown_store D store) (shown_store D store')
kept D store store' e counted = record {
  files = subst (λ (f : Option Files). ChangesFiles (D.held store) f (λ (before now : Files). now ≡ before)) (sym e) (same_files (D.held store));
  counted = counted;
}

-- what a file makes of a space gets another reply than `! fault`, where what its bytes make of it does
makes-other : (ByBytes : List ℕ → List ℕ → SpaceView → Type 0) (file : Fetched (List ℕ)) (old new : SpaceView) (reply : List ℕ) → ((bytes : Bytes) → ByBytes bytes reply new → reply ≢ refusal_of (codes "fault")) → Makes ByBytes file old reply new → reply ≢ refusal_of (codes "fault")
makes-other ByBytes missing old new reply by keeps = other-reply keeps.reply_is refl
makes-other ByBytes large old new reply by keeps = other-reply keeps.reply_is refl
makes-other ByBytes (given bytes) old new reply by makes = by bytes makes

-- a command that takes a file, where nothing in the workspace refuses it
pub record TakesFrom (command : PlainCommand) (W : Workspace) (space : SpaceView) (name : Bytes) (ByBytes : List ℕ → List ℕ → SpaceView → Type 0) : Type 0 where
  pub stands : StandsFor space.pool W
  pub granted : answer W command ≡ Ok elsewhere
  pub wants : IsTrue (wants_memory command)
  pub uses : uses_store command ≡ true
  pub says : (old new : Machine) (reply : List ℕ) → old.space ≡ space → Takes name old reply new ByBytes → SaysElsewhere command old W reply new
  pub other : (bytes : Bytes) (reply : List ℕ) (new : SpaceView) → ByBytes bytes reply new → reply ≢ refusal_of (codes "fault")

module _ {command : PlainCommand} {W : Workspace} {name : Bytes} {ByBytes : List ℕ → List ℕ → SpaceView → Type 0} {C : Type 0} {D : store_trait.Ghosts C} {space : SpaceView} {store store' : C} {failed : Type 0}
    (takes : TakesFrom command W space name ByBytes) (same : D.held store' ≡ D.held store) (calls : Calls D.faults D.steady D.faultless store store' failed) where
  -- memory ran out
  Takes-lacks : {space' : SpaceView} → space' ≡ space → (failed → ⊥) → ObeysOn command D space store (refusal_of (codes "memory")) space' store'
  Takes-lacks stays succeeds = record {
    obeys = record {
      work = W;
      stands = takes.stands;
      gives = inr (record {
        may = inl (may_lack command W takes.wants takes.granted);
        reply_is = refl;
        space = stays;
        store = subst (λ (b : Bool). MatchBool b (KeepsFiles (shown_store D store) (shown_store D store')) (shown_store D store' ≡ shown_store D store)) (sym takes.uses) (kept D store store' same calls.counts.counted);
      });
    };
    counts = CountsStore-succeeded succeeds (other-reply {due = refusal_of (codes "memory")} refl refl) calls;
  }

  -- the store had its say
  took : {space' : SpaceView} {reply : List ℕ} → Takes name (machine_of D space store) reply (machine_of D space' store') ByBytes → CountsStore D store store' reply → ObeysOn command D space store reply space' store'
  took {space'} {reply} told counts = record {
    obeys = Obeys-elsewhere command W (machine_of D space store) (machine_of D space' store') reply takes.stands takes.granted (takes.says (machine_of D space store) (machine_of D space' store') reply refl told);
    counts = counts;
  }

  -- it failed
  Takes-failed : failed → ObeysOn command D space store (refusal_of (codes "fault")) space store'
  Takes-failed fails = took
      (inr (record { store = kept D store store' same calls.counts.counted; space = record { reply_is = refl; same = refl }; cause = calls.counts.cause fails }))
      (CountsStore-failed fails calls)

  -- the file came to this
  taken_as : {space' : SpaceView} {reply : List ℕ} (file : Fetched (List ℕ)) → (failed → ⊥) → IfSome (D.held store) (λ (files : Files). file ≡ fetched (get files name)) → Makes ByBytes file space reply space' → ObeysOn command D space store reply space' store'
  taken_as {space'} {reply} file succeeds held makes = took
      (inl (record { store = kept D store store' same calls.counts.counted; file = file; held = held; makes = makes }))
      (CountsStore-succeeded succeeds (makes-other ByBytes file space space' reply (λ bytes by. takes.other bytes reply space' by) makes) calls)

  -- the store gave no bytes
  Takes-refused : (fault : FetchFault) (bytes : Bytes) → (fault ≡ fetch.Failed → failed) → (failed → fault ≡ fetch.Failed) → IfSome (D.held store) (λ (files : Files). FetchesFile {A = Unit {0}} (get files name) most_stored (Err fault) bytes) →
      ObeysOn command D space store (stored_reply (Err (fetch_fault fault))) space store'
  Takes-refused fetch.Missing bytes into back told = taken_as missing (λ f. let never = back f in cc) (told_of (D.held store) _ _ (λ files h. is_missing (get files name) h) told) (record { reply_is = refl; same = refl })
  Takes-refused fetch.Large bytes into back told = taken_as large (λ f. let never = back f in cc) (told_of (D.held store) _ _ (λ files h. is_large_file (get files name) h) told) (record { reply_is = refl; same = refl })
  Takes-refused fetch.Failed bytes into back told = Takes-failed (into refl)
  Takes-refused fetch.Memory bytes into back told = Takes-lacks refl (λ f. let never = back f in cc)

  -- the store gave the bytes, and the space took them in, or memory ran out
  pub Takes-given : {space' : SpaceView} (bytes : Bytes) (result : Result (Unit {0}) StoreFault) → (failed → ⊥) → length bytes ≤ most_stored → IfSome (D.held store) (λ (files : Files). get files name ≡ Some bytes) →
      ByBytes bytes (stored_reply result) space' ⊎ (result ≡ Err unloaded.Memory) × (space' ≡ space) → ObeysOn command D space store (stored_reply result) space' store'
  Takes-given {space'} bytes result succeeds few told ends = elim ends [
    | inl makes ↦ taken_as (given bytes) succeeds (told_of (D.held store) _ _ (λ files h. is_given (get files name) bytes h few) told) makes
    | inr lacks ↦ subst (λ (r : Result (Unit {0}) StoreFault). ObeysOn command D space store (stored_reply r) space' store') (sym lacks.0) (Takes-lacks lacks.1 succeeds)
  ]

-- how it ends where the fetch was refused
pub Takes-fault : {command : PlainCommand} {W : Workspace} {ByBytes : List ℕ → List ℕ → SpaceView → Type 0} {C : Type 0} {D : store_trait.Ghosts C} {space : SpaceView} {store store' : C} (name one : Bytes) (result : Result (Unit {0}) FetchFault) (fault : FetchFault) (ended : Result (Unit {0}) StoreFault) (bytes : Bytes) →
    TakesFrom command W space name ByBytes → D.held store' ≡ D.held store → Calls D.faults D.steady D.faultless store store' (result ≡ Err fetch.Failed) → one ≡ name →
    IfSome (D.held store) (λ (files : Files). FetchesFile (get files one) most_stored result bytes) → result ≡ Err fault → ended ≡ Err (fetch_fault fault) → ObeysOn command D space store (stored_reply ended) space store'
Takes-fault {command} {D = D} {space} {store} {store'} name one result fault ended bytes takes same calls named told is ends =
    subst (λ (r : Result (Unit {0}) StoreFault). ObeysOn command D space store (stored_reply r) space store') (sym ends)
    (Takes-refused takes same calls fault bytes (λ failed. is ∙ ap Err failed) (λ failed. let both : Err fault ≡ Err fetch.Failed = sym is ∙ failed in cc)
    (fetched_by (D.held store) one name result (Err fault) bytes named is told))

-- ## A load

document-other : (found : Option Damage) (bytes : Bytes) (old new : SpaceView) (reply : List ℕ) → MatchOption found (IsLoaded bytes old reply new) (λ (d : Damage). Refuses old (codes "damaged " ++ damage_word d) reply new) → reply ≢ refusal_of (codes "fault")
document-other None bytes old new reply loads = other-reply loads.reply_is refl
document-other (Some d) bytes old new reply keeps = other-reply keeps.reply_is refl

pub load-takes : {space : SpaceView} (W : Workspace) (name : Bytes) → StandsFor space.pool W → in_batch W ≡ false → TakesFrom (load name) W space name (LoadsBytes space)
load-takes {space} W name stands e = record {
  stands = stands;
  granted = answer-outside (load name) (load-outside name) W e;
  wants = refl;
  uses = refl;
  says = λ old new reply same takes. subst (λ (s : SpaceView). Takes name old reply new (LoadsBytes s)) (sym same) takes;
  other = λ bytes reply new loads. document-other (document_damage space.pool.bits bytes) bytes space new reply loads;
}

-- ## A read

reads-other : (W : Workspace) (name : Bytes) (old : SpaceView) (bytes reply : List ℕ) (new : SpaceView) → ReadsBytes W name old bytes reply new → reply ≢ refusal_of (codes "fault")
reads-other W name old bytes reply new reads = elim reads [
  | inl long ↦ other-reply long.1.reply_is refl
  | inr more ↦ elim more [ inl utf8 ↦ other-reply utf8.1.reply_is refl | inr is ↦ other-reply is.reply_is refl ]
]

read-elsewhere : (W : Workspace) (name file : Bytes) → answer W (read name file) ≡ Ok elsewhere
unfolding answer
read-elsewhere W name file = refl

pub read-takes : {space : SpaceView} (W : Workspace) (name file : Bytes) → StandsFor space.pool W → TakesFrom (read name file) W space file (ReadsBytes W name space)
read-takes {space} W name file stands = record {
  stands = stands;
  granted = read-elsewhere W name file;
  wants = refl;
  uses = refl;
  says = λ old new reply same takes. subst (λ (s : SpaceView). Takes file old reply new (ReadsBytes W name s)) (sym same) takes;
  other = λ bytes reply new reads. reads-other W name space bytes reply new reads;
}

-- there are no more pieces than bytes
front-short : (byte : ℕ) (all : List Bytes) (n : ℕ) → length all ≤ n → length (at_front byte all) ≤ n + 1
front-short byte [] n few = omega arith
front-short byte (first ∷ others) n few = omega (arith, few)

pieces-short : (bytes : Bytes) → length (pieces bytes) ≤ length bytes
unfolding pieces
pieces-short [] = omega arith
pieces-short (byte ∷ bytes) =
    let few = pieces-short bytes in
    elim (cases_Bool (byte == NEWLINE)) [
      | inl e ↦ rw e (omega (arith, few))
      | inr e ↦ rw e (omega (arith, front-short byte (pieces bytes) (length bytes) few))
    ]

-- so a buffer may have the lines of a file
pub few-lines : (bytes : Bytes) (lines : List Bytes) → length bytes ≤ most_stored → HasLines bytes (Ok lines) → length lines ≤ most
few-lines bytes lines small are = omega (arith, ap length are.0, pieces-short bytes, small)

-- the bytes have no lines, or memory ran out
fills_by : (fault : LinesFault) (name bytes : Bytes) (old : SpaceView) → HasLines bytes (Err fault) → FillsIn name bytes old (Err (lines_fault fault)) old
fills_by unread.Long name bytes old none W stands = inl (inl (none, record { reply_is = refl; same = refl }))
fills_by unread.Utf8 name bytes old none W stands = inl (inr (inl (none, record { reply_is = refl; same = refl })))
fills_by unread.Memory name bytes old none W stands = inr (refl, refl)

pub FillsIn-refused : (fault : LinesFault) (name bytes : Bytes) (old : SpaceView) (result : Result (Unit {0}) StoreFault) → HasLines bytes (Err fault) → IsErrAnd result (λ (f : StoreFault). f ≡ lines_fault fault) → FillsIn name bytes old result old
FillsIn-refused fault name bytes old result none is =
    subst (λ (r : Result (Unit {0}) StoreFault). FillsIn name bytes old r old) (sym (fault-is result (lines_fault fault) is)) (fills_by fault name bytes old none)

-- the buffer has the lines
pub FillsIn-ok : (name bytes : Bytes) (lines : List Bytes) (old new : SpaceView) (x : Unit {0}) → HasLines bytes (Ok lines) → Ends (edit (fill name lines)) old (Ok x) new → FillsIn name bytes old (Ok tt) new
FillsIn-ok name bytes lines old new x lines_are ends W stands =
    let one : ends.work ≡ W = one-space _ _ _ _ ends.work W (ends.stands.1 ∙ sym stands.1) ends.stands.0 stands.0 in
    inl (inr (inr (record { lines = lines; lines_are = lines_are; reply_is = refl; filled = subst (λ (V : Workspace). CarriesOut (edit (fill name lines)) old new V) one ends.ends })))

-- memory was refused to the edit
pub FillsIn-lacks : (name bytes : Bytes) (old new : SpaceView) → new ≡ old → FillsIn name bytes old (Err unloaded.Memory) new
FillsIn-lacks name bytes old new same W stands = inr (refl, same)

-- What shows that a space was stored, or why not.
use Rattle.std.proofs.Common.{◌≡◌, ℕ, ◌+◌, ◌<◌, ◌≤◌, ◌++◌, length, length-append, ◌-◌, drop, slice_range, sym, ap, ◌∙◌, subst, refl, arith, codes, Bool, true, false, inl, inr, Result, Ok, Err, None, Some, IsTrue, IfOk, IsErrAnd, IsSomeAnd, MatchBool, List, [], ◌∷◌, ◌⊎◌}
use Rattle.std.proofs.lemmas.Bool.{le-ltb, lt-ltb}
use Rattle.std.specs.declared.option.Option.{Option}
use Rattle.std.specs.FinMap.{insert}
use Rattle.shell_terms.specs.Edit.{Bytes}
use Rattle.shell_terms.specs.Command.{PlainCommand, write, save}
use Rattle.plain_space.specs.declared.refusal.Refusal.{Refusal}
use Rattle.plain_space.specs.declared.refusal.Refusal.TheVariants as why
use Rattle.space_state.specs.Asked.{OnLines}
use Rattle.state_rows.proofs.OneSpace.{one-space}
use Rattle.std.specs.declared.vec.Vec.{Vec}
use Rattle.plain_space.specs.Workspace.{Workspace, lines_of, in_batch}
use Rattle.plain_space.specs.Refusing.{given, on_lines}
use Rattle.plain_space.specs.Answer.{answer, elsewhere, ok_line}
use Rattle.shell_terms.specs.Kinds.{uses_store, wants_memory}
use Rattle.pool_text.specs.Document.{document, text, value_in}
use Rattle.pool_text.specs.Length.{capped}
use Rattle.pool_text.specs.declared.pool.Pool.{Pool}
use Rattle.pool_check.specs.Damages.{IsValid}
use Rattle.pool_check.specs.Laws.{IsDocumentOf}
use Rattle.pool_check.proofs.DocumentLaw.{valid-document}
use Rattle.state_rows.specs.Standing.{StandsFor}
use Rattle.space_state.specs.View.{SpaceView}
use Rattle.state_rows.proofs.FourRoots.{four-roots}
use Rattle.shell_io.specs.Fault.{Calls}
use Rattle.shell_io.specs.InMemory.{Files}
use Rattle.shell_io.specs.Storing.{ChangesFiles, KeepsFile, OthersStay}
use Rattle.shell_io.specs.declared.device.KeepFault.{KeepFault}
use Rattle.shell_io.specs.declared.device.KeepFault.TheVariants as kept
use Rattle.shell_io.specs.declared.device.Store as store_trait
use Rattle.ewig_shell.specs.declared.store_fault.StoreFault.{StoreFault}
use Rattle.ewig_shell.specs.declared.store_fault.StoreFault.TheVariants as unsaved
use Rattle.ewig_shell.specs.Saving.{Collects, saved_as, CallsKeep, EndsKeeping}
use Rattle.ewig_shell.specs.Step.{Machine, KeepsFiles, Refuses, IsStored, FailsToStore, Stores, Saves, SaysElsewhere, ObeysOn, CountsStore, shown_store, machine_of, most_stored, ended_lines, reply_of, refusal_of, stored_reply}
use Rattle.pool_text.specs.declared.rules.TheConstants.{MOST_HISTORY}
use Rattle.elem_core.specs.declared.TheConstants.{NEWLINE}
use Rattle.std.proofs.lemmas.List.{append-nil, take_all}
use Rattle.std.proofs.lemmas.Option.{same_Some}
use Rattle.ewig_shell.proofs.LinesLemmas.{reply_of-append}
use Rattle.ewig_shell.proofs.ReplyLemmas.{other-reply, no-refusal}
use Rattle.ewig_shell.proofs.StepLemmas.{some_lines, Obeys-lacks, CountsStore-none, CountsStore-failed, CountsStore-succeeded, save-outside, answer-outside, Obeys-elsewhere, ObeysOn-refused, may_lack, fault-is}

-- a store was called for bytes that aren't too many
pub called : (name bytes : Bytes) (old new : Machine) {reply : List ℕ} → new.space ≡ old.space → length bytes ≤ most_stored → IsStored name bytes old.store reply new.store ⊎ FailsToStore name old.store reply new.store → Stores name bytes old reply new
called name bytes old new {reply} same few ends = record {
  space = same;
  ends = subst (λ (b : Bool). MatchBool b (Refuses old (codes "large") reply new) (IsStored name bytes old.store reply new.store ⊎ FailsToStore name old.store reply new.store)) (sym (le-ltb most_stored (length bytes) few)) ends;
}

-- a command that stores these bytes, where nothing in the workspace refuses it: so far as it was stored, this holds of them
pub record StoresAs (command : PlainCommand) (W : Workspace) (space : SpaceView) (name bytes : Bytes) (IsFit : Type 0) : Type 0 where
  pub stands : StandsFor space.pool W
  pub granted : answer W command ≡ Ok elsewhere
  pub wants : IsTrue (wants_memory command)
  pub uses : uses_store command ≡ true
  pub says : (old new : Machine) (reply : List ℕ) → old.space ≡ space → Stores name bytes old reply new → (reply ≡ reply_of (ok_line ∷ []) → IsFit) → SaysElsewhere command old W reply new

-- memory ran out before the store was called
pub Stores-lacks : {command : PlainCommand} (W : Workspace) {C : Type 0} {D : store_trait.Ghosts C} {space : SpaceView} {store : C} (result : Result (Unit {0}) StoreFault) → IsErrAnd result (λ (fault : StoreFault). fault ≡ unsaved.Memory) →
    StandsFor space.pool W → answer W command ≡ Ok elsewhere → IsTrue (wants_memory command) → ObeysOn command D space store (stored_reply result) space store
Stores-lacks {command} W {D = D} {store = store} result lacks stands e wants =
    let is : stored_reply result ≡ refusal_of (codes "memory") = ap stored_reply (fault-is result unsaved.Memory lacks) in
    record {
      obeys = Obeys-lacks W stands (may_lack command W wants e) is refl (shown_store D store);
      counts = CountsStore-none (other-reply is refl);
    }

module _ {command : PlainCommand} {W : Workspace} {name bytes : Bytes} {IsFit : Type 0} {C : Type 0} {D : store_trait.Ghosts C} {space : SpaceView} (stores : StoresAs command W space name bytes IsFit) where
  -- the store had its say, or wasn't asked
  kept_as : {store store' : C} {reply : List ℕ} → Stores name bytes (machine_of D space store) reply (machine_of D space store') → (reply ≡ reply_of (ok_line ∷ []) → IsFit) → CountsStore D store store' reply → ObeysOn command D space store reply space store'
  kept_as {store} {store'} {reply} ends fit counts = record {
    obeys = Obeys-elsewhere command W (machine_of D space store) (machine_of D space store') reply stores.stands stores.granted (stores.says (machine_of D space store) (machine_of D space store') reply refl ends fit);
    counts = counts;
  }

  -- the bytes are too many
  pub Stores-large : {store : C} → most_stored < length bytes → ObeysOn command D space store (refusal_of (codes "large")) space store
  Stores-large {store} large = kept_as (record {
    space = refl;
    ends = subst (λ (b : Bool). MatchBool b (Refuses (machine_of D space store) (codes "large") (refusal_of (codes "large")) (machine_of D space store))
        (IsStored name bytes (shown_store D store) (refusal_of (codes "large")) (shown_store D store) ⊎ FailsToStore name (shown_store D store) (refusal_of (codes "large")) (shown_store D store)))
        (sym (lt-ltb most_stored (length bytes) large)) (record { reply_is = refl; same = refl });
  }) (λ ok. absurd (no-refusal (codes "large") (sym ok))) (CountsStore-none (other-reply {due = refusal_of (codes "large")} refl refl))

  module _ {store store' : C} {failed : Type 0} (few : length bytes ≤ most_stored) (calls : Calls D.faults D.steady D.faultless store store' failed) where
    -- it kept the file
    stored : IsFit → ChangesFiles (D.held store) (D.held store') (λ (before now : Files). now ≡ insert before name bytes) → (failed → ⊥) → ObeysOn command D space store (reply_of (ok_line ∷ [])) space store'
    stored fit told succeeds = kept_as
        (called name bytes (machine_of D space store) (machine_of D space store') refl few (inl (record { reply_is = refl; files = told; counted = calls.counts.counted })))
        (λ _. fit) (CountsStore-succeeded succeeds (other-reply {due = reply_of (ok_line ∷ [])} refl refl) calls)

    -- or failed
    failed_to : ChangesFiles (D.held store) (D.held store') (λ (before now : Files). OthersStay before now name) → failed → ObeysOn command D space store (refusal_of (codes "fault")) space store'
    failed_to told fails = kept_as
        (called name bytes (machine_of D space store) (machine_of D space store') refl few (inr (record { reply_is = refl; files = told; counted = calls.counts.counted; cause = calls.counts.cause fails })))
        (λ ok. absurd (no-refusal (codes "fault") (sym ok))) (CountsStore-failed fails calls)

    -- or had no memory
    lacked : ChangesFiles (D.held store) (D.held store') (λ (before now : Files). now ≡ before) → (failed → ⊥) → ObeysOn command D space store (refusal_of (codes "memory")) space store'
    lacked told succeeds = record {
      obeys = record {
        work = W;
        stands = stores.stands;
        gives = inr (record {
          may = inl (may_lack command W stores.wants stores.granted);
          reply_is = refl;
          space = refl;
          store = subst (λ (b : Bool). MatchBool b (KeepsFiles (shown_store D store) (shown_store D store')) (shown_store D store' ≡ shown_store D store)) (sym stores.uses) (record { files = told; counted = calls.counts.counted });
        });
      };
      counts = CountsStore-succeeded succeeds (other-reply {due = refusal_of (codes "memory")} refl refl) calls;
    }

  -- one of the three
  by_kept : {store store' : C} (result : Result (Unit {0}) KeepFault) → length bytes ≤ most_stored → IfOk (saved_as result) (λ done. IsFit) →
      ChangesFiles (D.held store) (D.held store') (λ (before now : Files). KeepsFile before now name bytes result) → Calls D.faults D.steady D.faultless store store' (result ≡ Err kept.Failed) → ObeysOn command D space store (stored_reply (saved_as result)) space store'
  by_kept (Ok done) few fit told calls = stored few calls fit told (λ q. cc)
  by_kept (Err kept.Failed) few _ told calls = failed_to few calls told refl
  by_kept (Err kept.Memory) few _ told calls = lacked few calls told (λ q. cc)

  -- the bytes were handed to the store
  pub Stores-kept : {store store' : C} (slice given : Bytes) (result : Result (Unit {0}) KeepFault) (ended : Result (Unit {0}) StoreFault) → length bytes ≤ most_stored → IfOk ended (λ done. IsFit) → slice ≡ bytes → given ≡ name →
      ChangesFiles (D.held store) (D.held store') (λ (before now : Files). KeepsFile before now given slice result) → Calls D.faults D.steady D.faultless store store' (result ≡ Err kept.Failed) → saved_as result ≡ ended → ObeysOn command D space store (stored_reply ended) space store'
  Stores-kept {store} {store'} slice given result ended few fit slice_is named told calls ends =
      subst (λ (r : Result (Unit {0}) StoreFault). ObeysOn command D space store (stored_reply r) space store') ends
      (by_kept result few (subst (λ (r : Result (Unit {0}) StoreFault). IfOk r (λ done. IsFit)) (sym ends) fit)
      (subst (λ (n : Bytes). ChangesFiles (D.held store) (D.held store') (λ (before now : Files). KeepsFile before now n bytes result)) named
      (subst (λ (w : Bytes). ChangesFiles (D.held store) (D.held store') (λ (before now : Files). KeepsFile before now given w result)) slice_is told)) calls)

-- a call of the store for these bytes
pub CallsKeep-of : {name bytes : Bytes} {C : Type 0} {D : store_trait.Ghosts C} {store store' : C} (slice given : Bytes) (result : Result (Unit {0}) KeepFault) (ended : Result (Unit {0}) StoreFault) → length bytes ≤ most_stored → slice ≡ bytes → given ≡ name →
    ChangesFiles (D.held store) (D.held store') (λ (before now : Files). KeepsFile before now given slice result) → Calls D.faults D.steady D.faultless store store' (result ≡ Err kept.Failed) → saved_as result ≡ ended → CallsKeep name bytes D store store' ended
CallsKeep-of {name} {bytes} {D = D} {store} {store'} slice given result ended few slice_is named told calls ends = record {
  few = few;
  kept_as = result;
  ends = ends;
  told = subst (λ (n : Bytes). ChangesFiles (D.held store) (D.held store') (λ (before now : Files). KeepsFile before now n bytes result)) named
      (subst (λ (w : Bytes). ChangesFiles (D.held store) (D.held store') (λ (before now : Files). KeepsFile before now given w result)) slice_is told);
  calls = calls;
}

-- a command that stores the bytes ended as these were kept
pub Stores-ended : {command : PlainCommand} {W : Workspace} {name bytes : Bytes} {IsFit : Type 0} {C : Type 0} {D : store_trait.Ghosts C} {space : SpaceView} {store store' : C} (result : Result (Unit {0}) StoreFault) →
    StoresAs command W space name bytes IsFit → IfOk result (λ done. IsFit) → EndsKeeping name bytes D store store' result → ObeysOn command D space store (stored_reply result) space store'
Stores-ended {command} {W} {name} {bytes} {IsFit} {C} {D} {space} {store} {store'} result stores fit ends = elim ends [
  | inl lacks ↦ subst (λ (s : C). ObeysOn command D space store (stored_reply result) space s) (sym lacks.1)
      (subst (λ (r : Result (Unit {0}) StoreFault). ObeysOn command D space store (stored_reply r) space store) (sym lacks.0)
      (Stores-lacks W (Err unsaved.Memory) refl stores.stands stores.granted stores.wants))
  | inr more ↦ elim more [
    | inl large ↦ subst (λ (s : C). ObeysOn command D space store (stored_reply result) space s) (sym large.2)
        (subst (λ (r : Result (Unit {0}) StoreFault). ObeysOn command D space store (stored_reply r) space store) (sym large.0) (Stores-large stores large.1))
    | inr called ↦ Stores-kept stores bytes name called.kept_as result called.few fit refl refl called.told called.calls called.ends
  ]
]

-- bytes of which no more is said, as those of lines
pub no-more : (result : Result (Unit {0}) StoreFault) → IfOk result (λ done. Unit {0})
no-more (Ok done) = tt
no-more (Err fault) = tt

-- ## The document of a pool

-- a command that stores the document of a pool, where nothing in the workspace refuses it
abbrev pub StoresPool : (command : PlainCommand) (W : Workspace) (space : SpaceView) (name : Bytes) → Pool → Type 0
StoresPool command W space name P = StoresAs command W space name (text P) (IsDocumentOf P (text P))

-- a pool whose document a load takes: valid, of four roots
pub record IsStorable (P : Pool) : Type 0 where
  pub valid : IsValid P
  pub within : P.history ≤ MOST_HISTORY
  pub four : length P.roots ≡ 4

document-kept : (P : Pool) (result : Result (Unit {0}) StoreFault) → IsStorable P → IfOk result (λ done. value_in (text P) ≡ Some (document P)) → IfOk result (λ done. IsDocumentOf P (text P))
document-kept P (Ok done) is reads = valid-document P (text P) reads is.within is.four is.valid
document-kept P (Err fault) is reads = tt

-- it ended as the pool was kept that was made for this one
pub Pool-ended : {command : PlainCommand} {W : Workspace} {name : Bytes} {C : Type 0} {D : store_trait.Ghosts C} {space : SpaceView} {store store' : C} (P made : Pool) (result : Result (Unit {0}) StoreFault) → made ≡ P → IsStorable P →
    StoresPool command W space name P → EndsKeeping name (text made) D store store' result → IfOk result (λ done. value_in (text made) ≡ Some (document made)) → ObeysOn command D space store (stored_reply result) space store'
Pool-ended {name = name} {D = D} {store = store} {store'} P made result same is stores ends reads =
    Stores-ended result stores (document-kept P result is (subst (λ (Q : Pool). IfOk result (λ done. value_in (text Q) ≡ Some (document Q))) same reads))
    (subst (λ (Q : Pool). EndsKeeping name (text Q) D store store' result) same ends)

-- what a command says that stored the document of a pool of the space
pub says-saves : (pool_of : Pool → Pool) (name : Bytes) (space : SpaceView) (old new : Machine) (reply : List ℕ) → old.space ≡ space → Stores name (text (pool_of space.pool)) old reply new →
    (reply ≡ reply_of (ok_line ∷ []) → IsDocumentOf (pool_of space.pool) (text (pool_of space.pool))) → Saves (pool_of old.space.pool) name old reply new
says-saves pool_of name space old new reply same stores fit = subst (λ (s : SpaceView). Saves (pool_of s.pool) name old reply new) (sym same) (record { stores = stores; document = fit })

-- ## A save

pub save-stores : {space : SpaceView} (W : Workspace) (name : Bytes) → StandsFor space.pool W → in_batch W ≡ false → StoresPool (save name) W space name space.pool
save-stores {space} W name stands e = record {
  stands = stands;
  granted = answer-outside (save name) (save-outside name) W e;
  wants = refl;
  uses = refl;
  says = says-saves (λ P. P) name space;
}

pub save-storable : (P : Pool) (W : Workspace) → StandsFor P W → in_batch W ≡ false → IsValid P → P.history ≤ MOST_HISTORY → IsStorable P
save-storable P W stands e valid within = record { valid = valid; within = within; four = four-roots P W stands e }

-- a length that is too large is so as it is counted
pub counted-large : (bytes : List ℕ) (counted : ℕ) → counted ≡ capped (length bytes) → most_stored < counted → most_stored < length bytes
counted-large bytes counted e large = omega (arith, e, large)

pub counted-small : (bytes : List ℕ) (counted : ℕ) → counted ≡ capped (length bytes) → counted ≤ most_stored → length bytes ≤ most_stored
counted-small bytes counted e small = omega (arith, e, small)

-- ## A write

write-answer : (W : Workspace) (name file : Bytes) → answer W (write name file) ≡ on_lines W.current name (λ lines. Ok elsewhere)
unfolding answer
write-answer W name file = refl

-- there is no such buffer
pub ObeysOn-absent : {C : Type 0} {D : store_trait.Ghosts C} {space : SpaceView} {store : C} (W : Workspace) (name file : Bytes) → StandsFor space.pool W → lines_of W.current name ≡ None → ObeysOn (write name file) D space store (refusal_of (codes "none")) space store
ObeysOn-absent W name file stands none = ObeysOn-refused (write name file) W why.Absent stands (write-answer W name file ∙ ap (λ (o : Option (List Bytes)). given o why.Absent (λ lines. Ok elsewhere)) none)

pub write-granted : (W : Workspace) (name file : Bytes) (lines : List Bytes) → lines_of W.current name ≡ Some lines → answer W (write name file) ≡ Ok elsewhere
write-granted W name file lines is = write-answer W name file ∙ ap (λ (o : Option (List Bytes)). given o why.Absent (λ lines. Ok elsewhere)) is

pub write-stores : {space : SpaceView} (W : Workspace) (name file : Bytes) (lines : List Bytes) → StandsFor space.pool W → lines_of W.current name ≡ Some lines → StoresAs (write name file) W space file (ended_lines lines) (Unit {0})
write-stores W name file lines stands is = record {
  stands = stands;
  granted = write-granted W name file lines is;
  wants = refl;
  uses = refl;
  says = λ old new reply same stores fit. subst (λ (o : Option (List Bytes)). IsSomeAnd o (λ (ls : List Bytes). Stores file (ended_lines ls) old reply new)) (sym is) stores;
}

-- there are no lines to count
count-none : (found : Option (List Bytes)) → IsSomeAnd found (λ (lines : List Bytes). ⊥) → ⊥
count-none None h = h
count-none (Some lines) h = h

pub count-absent : (W : Workspace) (name : Bytes) (reason : Refusal) (IsAnswer : List Bytes → ℕ → Type 0) → OnLines {X = ℕ} W name (Err reason) IsAnswer (λ (lines : List Bytes). ⊥) → lines_of W.current name ≡ None
count-absent W name why.Absent IsAnswer h = h
count-absent W name why.Range IsAnswer h = absurd (count-none (lines_of W.current name) h)
count-absent W name why.Exists IsAnswer h = absurd h
count-absent W name why.Limit IsAnswer h = absurd h
count-absent W name why.Batch IsAnswer h = absurd h
count-absent W name why.Empty IsAnswer h = absurd h
count-absent W name why.Memory IsAnswer h = absurd h

-- a part of lines that are counted
abbrev IsPart : ℕ → List Bytes → List Bytes → Type 0
IsPart count lines shown = (0 ≤ count) × (count ≤ length lines) × (shown ≡ slice_range lines 0 count)

abbrev IsNoPart : ℕ → List Bytes → Type 0
IsNoPart count lines = ((0 ≤ count) × (count ≤ length lines)) → ⊥

-- lines that were counted all have a place
past-none : {X : Type 0} (W : Workspace) (name : Bytes) (lines : List Bytes) (count : ℕ) (reason : Refusal) (IsAnswer : List Bytes → X → Type 0) → lines_of W.current name ≡ Some lines → count ≡ length lines → OnLines {X = X} W name (Err reason) IsAnswer (IsNoPart count) → ⊥
past-none W name lines count why.Absent IsAnswer is e h = let both = sym is ∙ h in cc
past-none W name lines count why.Range IsAnswer is e h = (subst (λ (o : Option (List Bytes)). IsSomeAnd o (IsNoPart count)) is h) (omega arith, omega (arith, e))
past-none W name lines count why.Exists IsAnswer is e h = absurd h
past-none W name lines count why.Limit IsAnswer is e h = absurd h
past-none W name lines count why.Batch IsAnswer is e h = absurd h
past-none W name lines count why.Empty IsAnswer is e h = absurd h
past-none W name lines count why.Memory IsAnswer is e h = absurd h

-- all lines
drop-none : (xs : List Bytes) → drop 0 xs ≡ xs
drop-none [] = refl
drop-none (x ∷ xs) = refl

range-all : (xs : List Bytes) (n : ℕ) → n ≡ length xs → slice_range xs 0 n ≡ xs
range-all xs n e = take_all (n - 0) (drop 0 xs) (omega (arith, ap length (drop-none xs), e)) ∙ drop-none xs

module _ (P : Pool) (V W : Workspace) (name : Bytes) where
  pub never-past : {X : Type 0} (IsPast : List Bytes → Type 0) (count : ℕ) (reason : Refusal) (IsAnswer : List Bytes → X → Type 0) → StandsFor P V → StandsFor P W → OnLines {X = ℕ} V name (Ok count) (λ (lines : List Bytes) (n : ℕ). n ≡ length lines) IsPast → OnLines {X = X} W name (Err reason) IsAnswer (IsNoPart count) → ⊥
  never-past {X} IsPast count reason IsAnswer first second counted none =
      let one : W ≡ V = one-space _ _ _ _ W V (second.1 ∙ sym first.1) second.0 first.0 in
      let there = some_lines (lines_of V.current name) (λ (lines : List Bytes). count ≡ length lines) counted in
      past-none V name there.0 count reason IsAnswer there.1 there.2 (subst (λ (U : Workspace). OnLines {X = X} U name (Err reason) IsAnswer (IsNoPart count)) one none)

  -- and are shown whole
  pub all-shown : (IsPast : List Bytes → Type 0) (count : ℕ) (shown : List Bytes) → StandsFor P V → StandsFor P W → OnLines {X = ℕ} V name (Ok count) (λ (lines : List Bytes) (n : ℕ). n ≡ length lines) IsPast →
      OnLines {X = List Bytes} W name (Ok shown) (λ (lines part : List Bytes). IsPart count lines part) (IsNoPart count) → (lines : List Bytes) × (lines_of V.current name ≡ Some lines) × (shown ≡ lines)
  all-shown IsPast count shown first second counted part =
      let one : W ≡ V = one-space _ _ _ _ W V (second.1 ∙ sym first.1) second.0 first.0 in
      let there = some_lines (lines_of V.current name) (λ (lines : List Bytes). count ≡ length lines) counted in
      let is : IsPart count there.0 shown
      = subst (λ (o : Option (List Bytes)). IsSomeAnd o (λ (lines : List Bytes). IsPart count lines shown)) there.1
      (subst (λ (U : Workspace). IsSomeAnd (lines_of U.current name) (λ (lines : List Bytes). IsPart count lines shown)) one part) in
      (there.0, there.1, is.2 ∙ range-all there.0 count there.2)

-- the same lines are shown again
pub shown-again : (P : Pool) (V W U : Workspace) (name : Bytes) (IsPast : List Bytes → Type 0) (count : ℕ) (one other : List Bytes) → StandsFor P V → StandsFor P W → StandsFor P U → OnLines {X = ℕ} V name (Ok count) (λ (lines : List Bytes) (n : ℕ). n ≡ length lines) IsPast →
    OnLines {X = List Bytes} W name (Ok one) (λ (lines part : List Bytes). IsPart count lines part) (IsNoPart count) → OnLines {X = List Bytes} U name (Ok other) (λ (lines part : List Bytes). IsPart count lines part) (IsNoPart count) → one ≡ other
shown-again P V W U name IsPast count one other first second third counted part again =
    let a = all-shown P V W name IsPast count one first second counted part in
    let b = all-shown P V U name IsPast count other first third counted again in
    a.2 ∙ same_Some a.0 b.0 (sym a.1 ∙ b.1) ∙ sym b.2

-- what was collected
pub collected-are : {A : Type 0} (lines : List Bytes) (result : Result (Vec ℕ A) StoreFault) (bytes : Vec ℕ A) → Collects lines result → result ≡ Ok bytes → bytes.items ≡ ended_lines lines
collected-are {A} lines result bytes collects is = subst (λ (r : Result (Vec ℕ A) StoreFault). Collects lines r) is collects

-- or memory ran out
pub collected-lacks : {A : Type 0} (lines : List Bytes) (result : Result (Vec ℕ A) StoreFault) (fault : StoreFault) → Collects lines result → result ≡ Err fault → fault ≡ unsaved.Memory
collected-lacks {A} lines result fault collects is = subst (λ (r : Result (Vec ℕ A) StoreFault). Collects lines r) is collects

-- ## Lines that are collected

-- one line more
pub ended-more : (so_far : List Bytes) (line : Bytes) → ended_lines (so_far ++ line ∷ []) ≡ ended_lines so_far ++ (line ++ NEWLINE ∷ [])
ended-more so_far line = reply_of-append so_far (line ∷ []) ∙ ap (λ (w : Bytes). ended_lines so_far ++ w) (append-nil (line ++ NEWLINE ∷ []))

-- a line for which there is no room
pub ended-long : (so_far rest all : List Bytes) (line : Bytes) (most : ℕ) → so_far ++ (line ∷ rest) ≡ all → most ≤ length (ended_lines so_far) + length line → most < length (ended_lines all)
ended-long so_far rest all line most is many =
    let e : length (ended_lines all) ≡ length (ended_lines so_far) + length ((line ++ NEWLINE ∷ []) ++ ended_lines rest)
    = ap (λ (w : List Bytes). length (ended_lines w)) (sym is) ∙ ap length (reply_of-append so_far (line ∷ rest)) ∙ length-append (ended_lines so_far) ((line ++ NEWLINE ∷ []) ++ ended_lines rest) in
    omega (arith, e, many, length-append (line ++ NEWLINE ∷ []) (ended_lines rest), length-append line (NEWLINE ∷ []))

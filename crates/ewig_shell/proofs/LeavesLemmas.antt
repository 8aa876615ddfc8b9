-- What lines leave of files that they don't write.
use Rattle.std.proofs.Common.{◌≡◌, ◌≢◌, ℕ, ◌+◌, List, [], ◌∷◌, ◌++◌, map, Bool, true, false, Option, None, Some, codes, refl, sym, ap, subst, ◌∙◌, inl, inr, ◌⊎◌, cond, MatchBool, IfSome, IfOk, Result, Ok, Err}
use Rattle.std.proofs.lemmas.List.Elements.{All-head, All-tail}
use Rattle.std.specs.List.{All}
use Rattle.std.specs.Ordering.{is_eq, nat_cmp}
use Rattle.std.specs.Cmp.Lexicographic.{slice_cmp, nat_list_cmp_total}
use Rattle.std.specs.FinMap.{get, insert, get-insert}
use Rattle.shell_terms.specs.Edit.{Bytes}
use Rattle.shell_terms.specs.Command.{PlainCommand, stats, made, read as read_file, write as write_file, save, load, part, chain, indent, dedent}
use Rattle.shell_terms.specs.Kinds.{uses_store}
use Rattle.shell_words.specs.Files.{numbered}
use Rattle.shell_words.specs.Grammar.{meaning}
use Rattle.shell_words.specs.declared.BadLine.{BadLine}
use Rattle.plain_space.specs.Workspace.{Workspace, lines_of}
use Rattle.plain_space.specs.Answer.{Answer, tells, elsewhere, answer}
use Rattle.pool_text.specs.declared.pool.Pool.{Pool}
use Rattle.state_rows.proofs.Keys.{same-name, own-name}
use Rattle.space_state.specs.View.{SpaceView}
use Rattle.shell_io.specs.InMemory.{Files}
use Rattle.shell_io.specs.Storing.{ChangesFiles, OthersStay}
use Rattle.shell_io.specs.declared.device.Store as store_trait
use Rattle.ewig_shell.specs.Step.{Machine, StoreView, KeepsFiles, Refuses, IsStored, FailsToStore, Stores, StoresPart, LoadsBytes, ReadsBytes, LoadsChain, ChainsFiles, Takes, TakesAll, SaysElsewhere, Gives, Obeys, Means, chain_names, ended_lines, is_large, is_long, damage_word, machine_of}
use Rattle.ewig_shell.specs.RoundTrip.{Leaves, written, WritesElsewhere, LineLeaves, LinesLeave}
use Rattle.ewig_shell.proofs.StepLemmas.{bits-kept, some_lines, made_by, by_chain}

-- ## Files that are looked up

module _ (fs : Files) (name bytes : Bytes) where
  pub get-stored : get (insert fs name bytes) name ≡ Some bytes
  get-stored = get-insert nat_list_cmp_total fs name bytes name ∙ ap (λ (b : Bool). cond b (Some bytes) (get fs name)) (own-name name)

  pub get-beside : (other : Bytes) → other ≢ name → get (insert fs name bytes) other ≡ get fs other
  get-beside other apart = get-insert nat_list_cmp_total fs name bytes other ∙ ap (λ (b : Bool). cond b (Some bytes) (get fs other)) (untied (is_eq (slice_cmp nat_cmp other name)) refl)
    where
      untied : (b : Bool) → is_eq (slice_cmp nat_cmp other name) ≡ b → is_eq (slice_cmp nat_cmp other name) ≡ false
      untied true e = absurd (apart (same-name other name e))
      untied false e = e

-- where files were told they are
pub then-told : (files : Option Files) (fs : Files) (new : Option Files) (P : Files → Files → Type 0) → files ≡ Some fs → ChangesFiles files new P → (gs : Files) × (new ≡ Some gs) × P fs gs
then-told files fs new P told changes = by new (subst (λ (o : Option Files). ChangesFiles o new P) told changes)
  where
    by : (o : Option Files) → ChangesFiles (Some fs) o P → (gs : Files) × (o ≡ Some gs) × P fs gs
    by None h = absurd h
    by (Some gs) h = (gs, refl, h)

-- what holds of the change holds of it in other words
changes-as : (old new : Option Files) (P Q : Files → Files → Type 0) → ((before now : Files) → P before now → Q before now) → ChangesFiles old new P → ChangesFiles old new Q
changes-as None new P Q turns h = tt
changes-as (Some before) None P Q turns h = h
changes-as (Some before) (Some now) P Q turns h = turns before now h

changes-on : (old mid new : Option Files) (P : Files → Files → Type 0) → ((a b c : Files) → P a b → P b c → P a c) → ChangesFiles old mid P → ChangesFiles mid new P → ChangesFiles old new P
changes-on None mid new P on first next = tt
changes-on (Some a) None new P on first next = absurd first
changes-on (Some a) (Some b) None P on first next = next
changes-on (Some a) (Some b) (Some c) P on first next = on a b c first next

-- ## Files of some names

module _ (names : List Bytes) where
  abbrev Same : Files → Files → Type 0
  Same before now = map (get now) names ≡ map (get before) names

  abbrev Kept : StoreView → StoreView → Type 0
  Kept old new = ChangesFiles old.files new.files Same

  kept-on : (old mid new : StoreView) → Kept old mid → Kept mid new → Kept old new
  kept-on old mid new first next = changes-on old.files mid.files new.files Same (λ a b c one two. two ∙ one) first next

  kept-all : (old new : StoreView) → KeepsFiles old new → Kept old new
  kept-all old new keeps = changes-as old.files new.files (λ (before now : Files). now ≡ before) Same (λ before now same. ap (λ (fs : Files). map (get fs) names) same) keeps.files

  kept-same : (old new : StoreView) → new ≡ old → Kept old new
  kept-same old new same = subst (λ (s : StoreView). Kept old s) (sym same) (itself old.files)
    where
      itself : (files : Option Files) → ChangesFiles files files Same
      itself None = tt
      itself (Some fs) = refl

  kept-of : (old new : Machine) → new ≡ old → Kept old.store new.store
  kept-of old new same = kept-same old.store new.store (ap (λ (m : Machine). m.store) same)

-- of another name than the one that was stored
others-same : (names : List Bytes) (file : Bytes) (before now : Files) → All (λ name. name ≢ file) names → OthersStay before now file → map (get now) names ≡ map (get before) names
others-same [] file before now apart stay = refl
others-same (name ∷ names) file before now apart stay =
    ap (λ (o : Option Bytes). o ∷ map (get now) names) (stay name (All-head (λ n. n ≢ file) name names apart))
    ∙ ap (λ (os : List (Option Bytes)). get before name ∷ os) (others-same names file before now (All-tail (λ n. n ≢ file) name names apart) stay)

module _ (names : List Bytes) (file : Bytes) (apart : All (λ name. name ≢ file) names) where
  kept-stored : (bytes : Bytes) (old new : StoreView) (reply : List ℕ) → IsStored file bytes old reply new → Kept names old new
  kept-stored bytes old new reply stored =
      changes-as old.files new.files (λ (before now : Files). now ≡ insert before file bytes) (Same names)
      (λ before now is. others-same names file before now apart (λ other beside. ap (λ (fs : Files). get fs other) is ∙ get-beside before file bytes other beside)) stored.files

  kept-failed : (old new : StoreView) (reply : List ℕ) → FailsToStore file old reply new → Kept names old new
  kept-failed old new reply fails = changes-as old.files new.files (λ (before now : Files). OthersStay before now file) (Same names) (λ before now stay. others-same names file before now apart stay) fails.files

  kept-if : (too_large : Bool) (bytes : Bytes) (old new : Machine) (reply : List ℕ) → MatchBool too_large (Refuses old (codes "large") reply new) (IsStored file bytes old.store reply new.store ⊎ FailsToStore file old.store reply new.store) → Kept names old.store new.store
  kept-if true bytes old new reply refuses = kept-of names old new refuses.same
  kept-if false bytes old new reply ends = elim ends [
    | inl stored ↦ kept-stored bytes old.store new.store reply stored
    | inr fails ↦ kept-failed old.store new.store reply fails
  ]

  kept-by : (bytes : Bytes) (old new : Machine) (reply : List ℕ) → Stores file bytes old reply new → Kept names old.store new.store
  kept-by bytes old new reply stores = kept-if (is_large bytes) bytes old new reply stores.ends

-- ## Commands

module _ (names : List Bytes) (old new : Machine) (reply : List ℕ) where
  kept-taken : (name : Bytes) (ByBytes : List ℕ → List ℕ → SpaceView → Type 0) → Takes name old reply new ByBytes → Kept names old.store new.store
  kept-taken name ByBytes takes = elim takes [
    | inl file ↦ kept-all names old.store new.store file.store
    | inr fails ↦ kept-all names old.store new.store fails.store
  ]

  kept-chained : (files : List Bytes) (ByPool : Pool → Machine → List ℕ → Machine → Type 0) → ((C : Pool) (mid : StoreView) → ByPool C (record old { store = mid }) reply new → Kept names mid new.store) → TakesAll files old reply new (ChainsFiles ByPool) → Kept names old.store new.store
  kept-chained files ByPool by takes = elim takes [
    | inl all ↦
        let mid : Machine = record old { store = all.mid } in
        kept-on names old.store all.mid new.store (kept-all names old.store all.mid all.kept)
        (made_by (λ given. ChainsFiles ByPool given mid) all.files mid new reply (Kept names all.mid new.store) (λ reason keeps. kept-of names mid new keeps.same)
        (λ given chains. by_chain old.space.pool.bits given (λ C. ByPool C mid reply new) (λ d. Refuses mid (codes "damaged " ++ damage_word d) reply new) (Kept names all.mid new.store)
        (λ C done. by C all.mid done) (λ d keeps. kept-of names mid new keeps.same) chains)
        all.makes)
    | inr fails ↦ kept-all names old.store new.store fails.store
  ]

  kept-elsewhere : (command : PlainCommand) (W : Workspace) → IfSome (written command) (λ file. All (λ name. name ≢ file) names) → SaysElsewhere command old W reply new → Kept names old.store new.store
  kept-elsewhere stats W apart says = kept-of names old new says.1
  kept-elsewhere made W apart says = kept-of names old new says.1
  kept-elsewhere (read_file name file) W apart says = kept-taken file (ReadsBytes W name old.space) says
  kept-elsewhere (write_file name file) W apart says =
      let there = some_lines (lines_of W.current name) (λ (lines : List Bytes). Stores file (ended_lines lines) old reply new) says in
      kept-by names file apart (ended_lines there.0) old new reply there.2
  kept-elsewhere (save file) W apart says = kept-by names file apart _ old new reply says.stores
  kept-elsewhere (load file) W apart says = kept-taken file (LoadsBytes old.space) says
  kept-elsewhere (part file number) W apart says =
      kept-chained (chain_names file number) (StoresPart (numbered file number)) (λ C mid stores. kept-by names (numbered file number) apart _ (record old { store = mid }) new reply stores.stores) says
  kept-elsewhere (chain file number) W apart says = kept-chained (chain_names file (number + 1)) LoadsChain (λ C mid loads. kept-same names mid new.store loads.0) says
  kept-elsewhere (indent count file) W apart says = kept-by names file apart _ old new reply says.stores
  kept-elsewhere (dedent count file) W apart says = kept-by names file apart _ old new reply says.stores
  kept-elsewhere _ W apart says = absurd says

  module _ (command : PlainCommand) (apart : IfSome (written command) (λ file. All (λ name. name ≢ file) names)) where
    kept-given : (a : Answer) (W : Workspace) → Gives command old W a reply new → Kept names old.store new.store
    kept-given (Ok (tells lines after)) W gives = kept-same names old.store new.store gives.1
    kept-given (Ok elsewhere) W gives = kept-elsewhere command W apart gives
    kept-given (Err reason) W refuses = kept-of names old new refuses.same

    kept-lacking : (uses : Bool) → MatchBool uses (KeepsFiles old.store new.store) (new.store ≡ old.store) → Kept names old.store new.store
    kept-lacking true keeps = kept-all names old.store new.store keeps
    kept-lacking false same = kept-same names old.store new.store same

    command-leaves : Obeys command old reply new → Leaves names old new
    command-leaves obeys = record {
      files = elim obeys.gives [
        | inl gives ↦ kept-given (answer obeys.work command) obeys.work gives
        | inr lacks ↦ kept-lacking (uses_store command) lacks.store
      ];
      bits = bits-kept command old new reply obeys;
    }

  stays : new ≡ old → Leaves names old new
  stays same = record { files = kept-of names old new same; bits = ap (λ (m : Machine). m.space.pool.bits) same }

  by-meaning : (read : Result PlainCommand BadLine) → IfOk read (λ command. IfSome (written command) (λ file. All (λ name. name ≢ file) names)) → Means old read reply new → Leaves names old new
  by-meaning (Ok command) apart obeys = command-leaves command apart obeys
  by-meaning (Err bad) apart refuses = stays refuses.same

  by-length : (long : Bool) (line : Bytes) → WritesElsewhere names line → MatchBool long (Refuses old (codes "long") reply new) (Means old (meaning line) reply new) → Leaves names old new
  by-length true line apart refuses = stays refuses.same
  by-length false line apart means = by-meaning (meaning line) apart means

-- ## Lines

pub line-leaves : LineLeaves
line-leaves names old new line reply apart step = by-length names old new reply (is_long line) line apart step

leaves-on : (names : List Bytes) (old mid new : Machine) → Leaves names old mid → Leaves names mid new → Leaves names old new
leaves-on names old mid new first next = record {
  files = kept-on names old.store mid.store new.store first.files next.files;
  bits = next.bits ∙ first.bits;
}

pub lines-leave : {C : Type 0} (D : store_trait.Ghosts C) → LinesLeave D
lines-leave D names [] old new store store' replies apart steps =
    stays names (machine_of D old store) (machine_of D new store') replies (ap (λ (w : SpaceView). machine_of D w store') steps.1 ∙ ap (machine_of D old) steps.2)
lines-leave D names (line ∷ lines) old new store store' replies apart steps =
    let mid : Machine = machine_of D steps.1 steps.2 in
    leaves-on names (machine_of D old store) mid (machine_of D new store')
    (line-leaves names (machine_of D old store) mid line steps.0 (All-head (WritesElsewhere names) line lines apart) steps.4.step)
    (lines-leave D names lines steps.1 new steps.2 store' steps.3 (All-tail (WritesElsewhere names) line lines apart) steps.5)

-- What shows that a command was obeyed.
use Rattle.std.proofs.Common.{◌≡◌, ◌≢◌, ◌↔◌, ℕ, ◌+◌, ◌&&◌, nat_le, List, [], ◌∷◌, ◌++◌, length, map, sym, ap, ◌∙◌, subst, refl, arith, codes, Bool, true, false, inl, inr, Ok, Err, None, Some, MatchBool, MatchOption, ◌<◌, ◌≤◌, IsSomeAnd, IsOk, IsTrue, IsErrAnd, slice_get, slice_range}
use Rattle.std.proofs.lemmas.Bool.{le-ltb, lt-ltb, le-leb, leb-true}
use Rattle.std.proofs.lemmas.Option.{slice_get_past}
use Rattle.std.specs.Bool.{Decides}
use Rattle.std.proofs.lemmas.Bool.Decides.{same_from_decides}
use Rattle.std.specs.FinMap as map_of
use Rattle.std.specs.declared.option.Option.{Option}
use Rattle.std.specs.declared.result.Result.{Result}
use Rattle.elem_core.specs.declared.TheConstants.{MAX_LINE}
use Rattle.shell_terms.specs.Edit.{Bytes}
use Rattle.shell_terms.specs.Command.{PlainCommand, get, len, show, list, stars, marks, same as same_lines, eqv, stats, made, read as read_file, write as write_file, save, load, part, chain, indent, dedent, quit}
use Rattle.shell_words.specs.Grammar.{meaning}
use Rattle.shell_words.specs.declared.BadLine.{BadLine}
use Rattle.plain_space.specs.declared.refusal.Refusal.{Refusal}
use Rattle.plain_space.specs.declared.refusal.Refusal.TheVariants as why
use Rattle.plain_space.specs.Workspace.{Workspace, lines_of, version_of, sizes, same_texts, same_state, in_batch}
use Rattle.plain_space.specs.Refusing.{given, unless}
use Rattle.plain_space.proofs.Equality.{same_texts-Decides, same_state-Decides}
use Rattle.plain_space.specs.Answer.{Answer, tells, elsewhere, answer, asked, ok_line, text_line, number_line, size_line, equal_line}
use Rattle.shell_terms.specs.Kinds.{only_asks, uses_store, wants_memory}
use Rattle.plain_space.specs.Memory.{MayLackMemory}
use Rattle.plain_space.specs.Session.{reason_of}
use Rattle.state_rows.specs.Standing.{StandsFor}
use Rattle.space_state.specs.Asked.{OnLines, AreEqual}
use Rattle.space_state.specs.View.{SpaceView, CarriesOut, Ends}
use Rattle.space_state.specs.Turns.{IsDue}
use Rattle.shell_words.specs.Shown.{plain_command}
use Rattle.shell_words.specs.declared.Command.{Command}
use Rattle.pool_text.specs.Pool.{row_count}
use Rattle.pool_text.specs.declared.pool.Pool.{Pool}
use Rattle.pool_delta.specs.Chains.{chain_damage, chain_in}
use Rattle.shell_words.specs.Files.{numbered as numbered_file}
use Rattle.pool_text.specs.declared.damage.Damage.{Damage}
use Rattle.pool_check.specs.Damages.{document_damage}
use Rattle.shell_io.specs.Fault.{Calls}
use Rattle.shell_io.proofs.FaultLemmas.{Calls-none, Calls-as}
use Rattle.shell_io.specs.InMemory.{Files}
use Rattle.shell_io.specs.Storing.{ChangesFiles}
use Rattle.shell_io.specs.Sending.{Sends}
use Rattle.shell_io.specs.declared.device.Failed.{Failed}
use Rattle.shell_io.specs.declared.device.Sink as sink_trait
use Rattle.shell_io.specs.declared.device.Store as store_trait
use Rattle.ewig_shell.specs.Sending.{Replies}
use Rattle.ewig_shell.specs.Step.{StoreView, Machine, KeepsFiles, Refuses, Fetched, missing, large, given as given_bytes, IsLoaded, LoadsBytes, ReadsBytes, ByChain, ChainsFiles, StoresPart, LoadsChain, chain_names, Makes, Takes, TakesAll, Stores, ended_lines, damage_word, Step, Means, SaysElsewhere, Gives, MayLack, Obeys, ObeysAlone, ObeysOn, StepsOn, CountsStore, shown_store, machine_of, reply_of, refusal_of, done_reply, equality_reply}
use Rattle.ewig_shell.proofs.ReplyLemmas.{other-reply, obeys-other, refusal-other}

-- the files stay where the store does
pub same_files : (files : Option Files) → ChangesFiles files files (λ (before now : Files). now ≡ before)
same_files None = tt
same_files (Some files) = refl

-- a store that stays is kept, whether or not the command uses it
store_stays : (uses : Bool) (store : StoreView) → MatchBool uses (KeepsFiles store store) (store ≡ store)
store_stays true store = record { files = same_files store.files; counted = omega arith }
store_stays false store = refl

-- a space beside a store
abbrev beside : SpaceView → StoreView → Machine
beside space store = record { space = space; store = store }

module _ {command : PlainCommand} {old : SpaceView} (W : Workspace) where
  -- a command that only asks was answered
  pub Obeys-asked : (lines : List Bytes) → only_asks command ≡ true → StandsFor old.pool W → answer W command ≡ Ok (tells lines W) → ObeysAlone command old (reply_of lines) old
  Obeys-asked lines asks stands e = λ store. record {
    work = W;
    stands = stands;
    gives = inl (subst (λ (a : Answer). Gives command (beside old store) W a (reply_of lines) (beside old store)) (sym e)
        (refl, refl, subst (λ (b : Bool). MatchBool b (old ≡ old) (CarriesOut command old old W)) (sym asks) refl));
  }

  -- a command was refused
  pub Obeys-refused : (reason : Refusal) {new : SpaceView} {reply : List ℕ} → StandsFor old.pool W → answer W command ≡ Err reason → reply ≡ refusal_of (reason_of reason) → new ≡ old → ObeysAlone command old reply new
  Obeys-refused reason {new} {reply} stands e is same = λ store. record {
    work = W;
    stands = stands;
    gives = inl (subst (λ (a : Answer). Gives command (beside old store) W a reply (beside new store)) (sym e)
        (record { reply_is = is; same = ap (λ (s : SpaceView). beside s store) same }));
  }

  -- memory was refused to it
  pub Obeys-lacks_so : {new : SpaceView} {reply : List ℕ} → StandsFor old.pool W → MayLack W command → reply ≡ refusal_of (codes "memory") → new ≡ old → ObeysAlone command old reply new
  Obeys-lacks_so stands may is same = λ store. record {
    work = W;
    stands = stands;
    gives = inr (record { may = may; reply_is = is; space = same; store = store_stays (uses_store command) store });
  }

  pub Obeys-lacks : {new : SpaceView} {reply : List ℕ} → StandsFor old.pool W → MayLackMemory W command → reply ≡ refusal_of (codes "memory") → new ≡ old → ObeysAlone command old reply new
  Obeys-lacks stands may is same = Obeys-lacks_so stands (inl may) is same

  -- a refusal that is due
  due : (reason : Refusal) {new : SpaceView} → StandsFor old.pool W → IsDue W command reason → new ≡ old → ObeysAlone command old (refusal_of (reason_of reason)) new
  due why.Memory stands is same = Obeys-lacks stands is refl same
  due why.Absent stands is same = Obeys-refused why.Absent stands is refl same
  due why.Exists stands is same = Obeys-refused why.Exists stands is refl same
  due why.Range stands is same = Obeys-refused why.Range stands is refl same
  due why.Limit stands is same = Obeys-refused why.Limit stands is refl same
  due why.Batch stands is same = Obeys-refused why.Batch stands is refl same
  due why.Empty stands is same = Obeys-refused why.Empty stands is refl same

-- a command that changes the space ended so
pub Obeys-ends : (command : PlainCommand) {old new : SpaceView} (done : Result (Unit {0}) Refusal) → only_asks command ≡ false → Ends command old done new → ObeysAlone command old (done_reply done) new
Obeys-ends command {old} {new} (Ok x) asks ends = λ store. record {
  work = ends.work;
  stands = ends.stands;
  gives = inl (subst (λ (a : Answer). Gives command (beside old store) ends.work a (reply_of (ok_line ∷ [])) (beside new store)) (sym ends.ends.told)
      (refl, refl, subst (λ (b : Bool). MatchBool b (new ≡ old) (CarriesOut command old new ends.work)) (sym asks) ends.ends));
}
Obeys-ends command (Err reason) asks ends = due ends.work reason ends.stands ends.ends.due ends.ends.same

-- what holds of the lines that are there
pub some_lines : (found : Option (List Bytes)) (P : List Bytes → Type 0) → IsSomeAnd found P → (lines : List Bytes) × (found ≡ Some lines) × P lines
some_lines None P h = absurd h
some_lines (Some lines) P h = (lines, refl, h)

-- what is answered of lines is the plain answer, where it is so for lines that have no such part, and where there are none
on_refused : {X : Type 0} (W : Workspace) (name : Bytes) (command : PlainCommand) (reason : Refusal) (IsAnswer : List Bytes → X → Type 0) (IsPast : List Bytes → Type 0) →
    (lines_of W.current name ≡ None → answer W command ≡ Err why.Absent) →
    ((lines : List Bytes) → lines_of W.current name ≡ Some lines → IsPast lines → answer W command ≡ Err why.Range) →
    OnLines {X = X} W name (Err reason) IsAnswer IsPast → answer W command ≡ Err reason
on_refused W name command why.Absent IsAnswer IsPast none past h = none h
on_refused W name command why.Range IsAnswer IsPast none past h = let there = some_lines (lines_of W.current name) IsPast h in past there.0 there.1 there.2
on_refused W name command why.Exists IsAnswer IsPast none past h = absurd h
on_refused W name command why.Limit IsAnswer IsPast none past h = absurd h
on_refused W name command why.Batch IsAnswer IsPast none past h = absurd h
on_refused W name command why.Empty IsAnswer IsPast none past h = absurd h
on_refused W name command why.Memory IsAnswer IsPast none past h = absurd h

both : (a b : Bool) → (a ≡ true → b ≡ true → ⊥) → (a && b) ≡ false
both true true h = absurd (h refl refl)
both true false h = refl
both false b h = refl

-- the test of a range that is none
no_range : (from to n : ℕ) → ((from ≤ to) × (to ≤ n) → ⊥) → (nat_le from to && nat_le to n) ≡ false
no_range from to n past = both (nat_le from to) (nat_le to n) (λ a b. past (leb-true from to a, leb-true to n b))

module _ (W : Workspace) (name : Bytes) where
  get-none : (index : ℕ) → lines_of W.current name ≡ None → answer W (get name index) ≡ Err why.Absent
  unfolding answer
  get-none index e = rw e refl

  get-past : (index : ℕ) (lines : List Bytes) → lines_of W.current name ≡ Some lines → length lines ≤ index → answer W (get name index) ≡ Err why.Range
  unfolding answer
  get-past index lines e past = rw e (rw (slice_get_past lines index past) refl)

  get-told : (index : ℕ) (text : Bytes) (lines : List Bytes) → lines_of W.current name ≡ Some lines → slice_get lines index ≡ Some text → answer W (get name index) ≡ Ok (tells (text_line text ∷ []) W)
  unfolding answer
  get-told index text lines e is = rw e (rw is refl)

  len-none : lines_of W.current name ≡ None → answer W (len name) ≡ Err why.Absent
  unfolding answer
  len-none e = rw e refl

  len-told : (lines : List Bytes) → lines_of W.current name ≡ Some lines → answer W (len name) ≡ Ok (tells (number_line (length lines) ∷ []) W)
  unfolding answer
  len-told lines e = rw e refl

  show-none : (from to : ℕ) → lines_of W.current name ≡ None → answer W (show name from to) ≡ Err why.Absent
  unfolding answer
  show-none from to e = rw e refl

  show-past : (from to : ℕ) (lines : List Bytes) → lines_of W.current name ≡ Some lines → ((from ≤ to) × (to ≤ length lines) → ⊥) → answer W (show name from to) ≡ Err why.Range
  unfolding answer
  show-past from to lines e past = rw e (rw (no_range from to (length lines) past) refl)

  show-told : (from to : ℕ) (lines : List Bytes) → lines_of W.current name ≡ Some lines → from ≤ to → to ≤ length lines → answer W (show name from to) ≡ Ok (tells (map text_line (slice_range lines from to) ++ ok_line ∷ []) W)
  unfolding answer
  show-told from to lines e low high = rw e (rw (le-leb from to low) (rw (le-leb to (length lines) high) refl))

-- what is answered of two that may be there is the plain answer, by a test that decides whether they are equal
module _ {X : Type 0} (test : X → X → Bool) (decides : (x y : X) → Decides (test x y) (x ≡ y)) (W : Workspace) where
  abbrev compared : Option X → Option X → Answer
  compared one other = asked W (given one why.Absent (λ (x : X). given other why.Absent (λ (y : X). Ok (equal_line (test x y) ∷ []))))

  absent : (result : Result Bool Refusal) → result ≡ Err why.Absent → {command : PlainCommand} {old : SpaceView} → StandsFor old.pool W → answer W command ≡ Err why.Absent → ObeysAlone command old (equality_reply result) old
  absent result e {command} {old} stands is =
      subst (λ (r : Result Bool Refusal). ObeysAlone command old (equality_reply r) old) (sym e) (Obeys-refused W why.Absent stands is refl refl)

  Obeys-equal : {command : PlainCommand} {old : SpaceView} (one other : Option X) (result : Result Bool Refusal) → only_asks command ≡ true → StandsFor old.pool W → answer W command ≡ compared one other → AreEqual one other result →
      ObeysAlone command old (equality_reply result) old
  Obeys-equal {command} {old} (Some x) (Some y) (Ok equal) asks stands is same =
      let tested : test x y ≡ equal = same_from_decides (test x y) equal (decides x y) same in
      Obeys-asked W (equal_line equal ∷ []) asks stands (is ∙ ap (λ (b : Bool). asked W (Ok (equal_line b ∷ []))) tested)
  Obeys-equal {command} {old} (Some x) (Some y) (Err reason) asks stands is same = absurd same
  Obeys-equal {command} {old} (Some x) None result asks stands is none = absent result none stands is
  Obeys-equal {command} {old} None other result asks stands is none = absent result none stands is

module _ {old : SpaceView} where
  -- the reply to `get`
  pub Obeys-get : (W : Workspace) (name : Bytes) (index : ℕ) (text : Bytes) → StandsFor old.pool W → IsSomeAnd (lines_of W.current name) (λ (lines : List Bytes). slice_get lines index ≡ Some text) → ObeysAlone (get name index) old (reply_of (text_line text ∷ [])) old
  Obeys-get W name index text stands h =
      let there = some_lines (lines_of W.current name) (λ (lines : List Bytes). slice_get lines index ≡ Some text) h in
      Obeys-asked W (text_line text ∷ []) refl stands (get-told W name index text there.0 there.1 there.2)

  pub Obeys-get_refused : {X : Type 0} (W : Workspace) (name : Bytes) (index : ℕ) (reason : Refusal) {reply : List ℕ} (IsAnswer : List Bytes → X → Type 0) → StandsFor old.pool W → OnLines {X = X} W name (Err reason) IsAnswer (λ (lines : List Bytes). length lines ≤ index) → reply ≡ refusal_of (reason_of reason) → ObeysAlone (get name index) old reply old
  Obeys-get_refused W name index reason IsAnswer stands h is = Obeys-refused W reason stands (on_refused W name (get name index) reason IsAnswer (λ (lines : List Bytes). length lines ≤ index) (get-none W name index) (get-past W name index) h) is refl

  -- the reply to `len`
  pub Obeys-len : (W : Workspace) (name : Bytes) (count : ℕ) → StandsFor old.pool W → IsSomeAnd (lines_of W.current name) (λ (lines : List Bytes). count ≡ length lines) → ObeysAlone (len name) old (reply_of (number_line count ∷ [])) old
  Obeys-len W name count stands h =
      let there = some_lines (lines_of W.current name) (λ (lines : List Bytes). count ≡ length lines) h in
      subst (λ (n : ℕ). ObeysAlone (len name) old (reply_of (number_line n ∷ [])) old) (sym there.2) (Obeys-asked W (number_line (length there.0) ∷ []) refl stands (len-told W name there.0 there.1))

  pub Obeys-len_refused : {X : Type 0} (W : Workspace) (name : Bytes) (reason : Refusal) {reply : List ℕ} (IsAnswer : List Bytes → X → Type 0) → StandsFor old.pool W → OnLines {X = X} W name (Err reason) IsAnswer (λ (lines : List Bytes). ⊥) → reply ≡ refusal_of (reason_of reason) → ObeysAlone (len name) old reply old
  Obeys-len_refused W name reason IsAnswer stands h is = Obeys-refused W reason stands (on_refused W name (len name) reason IsAnswer (λ (lines : List Bytes). ⊥) (len-none W name) (λ lines e never. absurd never) h) is refl

  -- the reply to `show`
  pub Obeys-show : (W : Workspace) (name : Bytes) (from to : ℕ) (shown : List Bytes) → StandsFor old.pool W → IsSomeAnd (lines_of W.current name) (λ (lines : List Bytes). (from ≤ to) × (to ≤ length lines) × (shown ≡ slice_range lines from to)) → ObeysAlone (show name from to) old (reply_of (map text_line shown ++ ok_line ∷ [])) old
  Obeys-show W name from to shown stands h =
      let there = some_lines (lines_of W.current name) (λ (lines : List Bytes). (from ≤ to) × (to ≤ length lines) × (shown ≡ slice_range lines from to)) h in
      subst (λ (w : List Bytes). ObeysAlone (show name from to) old (reply_of (map text_line w ++ ok_line ∷ [])) old) (sym there.2.2)
      (Obeys-asked W (map text_line (slice_range there.0 from to) ++ ok_line ∷ []) refl stands (show-told W name from to there.0 there.1 there.2.0 there.2.1))

  pub Obeys-show_refused : {X : Type 0} (W : Workspace) (name : Bytes) (from to : ℕ) (reason : Refusal) {reply : List ℕ} (IsAnswer : List Bytes → X → Type 0) → StandsFor old.pool W → OnLines {X = X} W name (Err reason) IsAnswer (λ (lines : List Bytes). (from ≤ to) × (to ≤ length lines) → ⊥) → reply ≡ refusal_of (reason_of reason) → ObeysAlone (show name from to) old reply old
  Obeys-show_refused W name from to reason IsAnswer stands h is = Obeys-refused W reason stands (on_refused W name (show name from to) reason IsAnswer (λ (lines : List Bytes). (from ≤ to) × (to ≤ length lines) → ⊥) (show-none W name from to) (show-past W name from to) h) is refl

  -- the replies to `list`, `stars` and `marks`
  pub Obeys-list : (W : Workspace) (lines : List Bytes) → StandsFor old.pool W → lines ≡ map size_line (sizes W.current) → ObeysAlone list old (reply_of (lines ++ ok_line ∷ [])) old
  unfolding answer
  Obeys-list W lines stands e = Obeys-asked W (lines ++ ok_line ∷ []) refl stands (rw e refl)

  pub Obeys-stars : (W : Workspace) (lines : List Bytes) → StandsFor old.pool W → lines ≡ map text_line (map_of.keys W.current.stars) → ObeysAlone stars old (reply_of (lines ++ ok_line ∷ [])) old
  unfolding answer
  Obeys-stars W lines stands e = Obeys-asked W (lines ++ ok_line ∷ []) refl stands (rw e refl)

  pub Obeys-marks : (W : Workspace) (lines : List Bytes) → StandsFor old.pool W → lines ≡ map text_line (map_of.keys W.versions) → ObeysAlone marks old (reply_of (lines ++ ok_line ∷ [])) old
  unfolding answer
  Obeys-marks W lines stands e = Obeys-asked W (lines ++ ok_line ∷ []) refl stands (rw e refl)

  pub Obeys-list_lacks : (W : Workspace) {reply : List ℕ} → StandsFor old.pool W → reply ≡ refusal_of (codes "memory") → ObeysAlone list old reply old
  unfolding answer
  Obeys-list_lacks W stands is = Obeys-lacks W stands (record { wants = refl; granted = refl }) is refl

  pub Obeys-stars_lacks : (W : Workspace) {reply : List ℕ} → StandsFor old.pool W → reply ≡ refusal_of (codes "memory") → ObeysAlone stars old reply old
  unfolding answer
  Obeys-stars_lacks W stands is = Obeys-lacks W stands (record { wants = refl; granted = refl }) is refl

  pub Obeys-marks_lacks : (W : Workspace) {reply : List ℕ} → StandsFor old.pool W → reply ≡ refusal_of (codes "memory") → ObeysAlone marks old reply old
  unfolding answer
  Obeys-marks_lacks W stands is = Obeys-lacks W stands (record { wants = refl; granted = refl }) is refl

  -- the reply to `quit`
  pub Obeys-quit : (W : Workspace) → StandsFor old.pool W → ObeysAlone quit old (codes "ok\n") old
  unfolding answer
  Obeys-quit W stands = Obeys-asked W (ok_line ∷ []) refl stands refl

  -- the replies to `same` and `eqv`
  pub Obeys-same : (W : Workspace) (name other : Bytes) (result : Result Bool Refusal) {reply : List ℕ} → StandsFor old.pool W → AreEqual (lines_of W.current name) (lines_of W.current other) result → reply ≡ equality_reply result → ObeysAlone (same_lines name other) old reply old
  unfolding answer
  Obeys-same W name other result stands equal is =
      subst (λ (w : List ℕ). ObeysAlone (same_lines name other) old w old) (sym is)
      (Obeys-equal same_texts same_texts-Decides W (lines_of W.current name) (lines_of W.current other) result refl stands refl equal)

  pub Obeys-eqv : (W : Workspace) (version other : Bytes) (result : Result Bool Refusal) {reply : List ℕ} → StandsFor old.pool W → AreEqual (version_of W version) (version_of W other) result → reply ≡ equality_reply result → ObeysAlone (eqv version other) old reply old
  unfolding answer
  Obeys-eqv W version other result stands equal is =
      subst (λ (w : List ℕ). ObeysAlone (eqv version other) old w old) (sym is)
      (Obeys-equal same_state same_state-Decides W (version_of W version) (version_of W other) result refl stands refl equal)

  -- the reply to a command that asks for a number of the space, of which a workspace knows nothing
  numbered : (command : PlainCommand) (W : Workspace) {count due : ℕ} → StandsFor old.pool W → count ≡ due → ((store : StoreView) → Gives command (beside old store) W (answer W command) (reply_of (number_line due ∷ [])) (beside old store)) →
      ObeysAlone command old (reply_of (number_line count ∷ [])) old
  numbered command W stands e gives = λ store. record {
    work = W;
    stands = stands;
    gives = inl (subst (λ (n : ℕ). Gives command (beside old store) W (answer W command) (reply_of (number_line n ∷ [])) (beside old store)) (sym e) (gives store));
  }

  -- the reply to `stats`
  pub Obeys-stats : (W : Workspace) {count : ℕ} → StandsFor old.pool W → count ≡ row_count old.pool → ObeysAlone stats old (reply_of (number_line count ∷ [])) old
  unfolding answer
  Obeys-stats W stands e = numbered stats W stands e (λ store. (refl, refl))

  -- the reply to `made`
  pub Obeys-made : (W : Workspace) {count : ℕ} → StandsFor old.pool W → count ≡ old.made → ObeysAlone made old (reply_of (number_line count ∷ [])) old
  unfolding answer
  Obeys-made W stands e = numbered made W stands e (λ store. (refl, refl))

bits_by : (asks : Bool) (command : PlainCommand) (old new : SpaceView) (W : Workspace) → MatchBool asks (new ≡ old) (CarriesOut command old new W) → new.pool.bits ≡ old.pool.bits
bits_by true command old new W same = ap (λ (s : SpaceView). s.pool.bits) same
bits_by false command old new W carries = carries.bits

-- where the space is as it was, its bits are
bits_same : {old new : SpaceView} → new ≡ old → new.pool.bits ≡ old.pool.bits
bits_same same = ap (λ (s : SpaceView). s.pool.bits) same

bits_loaded : (found : Option Damage) (bytes : Bytes) (old new : SpaceView) (reply : List ℕ) → MatchOption found (IsLoaded bytes old reply new) (λ (d : Damage). Refuses old (codes "damaged " ++ damage_word d) reply new) → new.pool.bits ≡ old.pool.bits
bits_loaded None bytes old new reply loads = loads.bits
bits_loaded (Some d) bytes old new reply keeps = bits_same keeps.same

bits_read : (W : Workspace) (name bytes : Bytes) (old new : SpaceView) (reply : List ℕ) → ReadsBytes W name old bytes reply new → new.pool.bits ≡ old.pool.bits
bits_read W name bytes old new reply reads = elim reads [
  | inl long ↦ bits_same long.1.same
  | inr more ↦ elim more [ inl other ↦ bits_same other.1.same | inr is ↦ is.filled.bits ]
]

-- what holds of each refusal, and of what is made of the bytes that are given
pub made_by : {X S : Type 0} (ByBytes : X → List ℕ → S → Type 0) (found : Fetched X) (old new : S) (reply : List ℕ) (P : Type 0) → ((reason : List ℕ) → Refuses old reason reply new → P) → ((bytes : X) → ByBytes bytes reply new → P) → Makes ByBytes found old reply new → P
made_by ByBytes missing old new reply P refused by makes = refused (codes "missing") makes
made_by ByBytes large old new reply P refused by makes = refused (codes "large") makes
made_by ByBytes (given_bytes bytes) old new reply P refused by makes = by bytes makes

bits_taken : (name : Bytes) (ByBytes : List ℕ → List ℕ → SpaceView → Type 0) (old new : Machine) (reply : List ℕ) → ((bytes : Bytes) → ByBytes bytes reply new.space → new.space.pool.bits ≡ old.space.pool.bits) →
    Takes name old reply new ByBytes → new.space.pool.bits ≡ old.space.pool.bits
bits_taken name ByBytes old new reply by takes = elim takes [
  | inl file ↦ made_by ByBytes file.file old.space new.space reply (new.space.pool.bits ≡ old.space.pool.bits) (λ reason keeps. bits_same keeps.same) by file.makes
  | inr fails ↦ bits_same fails.space.same
]

-- what holds of each chain, and of each damage
chain_by : (found : Option Damage) (there : Option Pool) (ByPool : Pool → Type 0) (ByDamage : Damage → Type 0) (P : Type 0) → ((C : Pool) → ByPool C → P) → ((d : Damage) → ByDamage d → P) → MatchOption found (IsSomeAnd there ByPool) ByDamage → P
chain_by None None ByPool ByDamage P by damaged h = absurd h
chain_by None (Some C) ByPool ByDamage P by damaged h = by C h
chain_by (Some d) there ByPool ByDamage P by damaged h = damaged d h

pub by_chain : (bits : ℕ) (files : List Bytes) (ByPool : Pool → Type 0) (ByDamage : Damage → Type 0) (P : Type 0) → ((C : Pool) → ByPool C → P) → ((d : Damage) → ByDamage d → P) → ByChain bits files ByPool ByDamage → P
by_chain bits [] ByPool ByDamage P by damaged h = absurd h
by_chain bits (first ∷ more) ByPool ByDamage P by damaged h = chain_by (chain_damage bits first more) (chain_in first more) ByPool ByDamage P by damaged h

bits_chained : (names : List Bytes) (ByPool : Pool → Machine → List ℕ → Machine → Type 0) (old new : Machine) (reply : List ℕ) → ((C : Pool) (mid : StoreView) → ByPool C (beside old.space mid) reply new → new.space.pool.bits ≡ old.space.pool.bits) →
    TakesAll names old reply new (ChainsFiles ByPool) → new.space.pool.bits ≡ old.space.pool.bits
bits_chained names ByPool old new reply by takes = elim takes [
  | inl all ↦
      let mid = beside old.space all.mid in
      made_by (λ files. ChainsFiles ByPool files mid) all.files mid new reply (new.space.pool.bits ≡ old.space.pool.bits) (λ reason keeps. ap (λ (m : Machine). m.space.pool.bits) keeps.same)
      (λ files chains. by_chain old.space.pool.bits files (λ C. ByPool C mid reply new) (λ d. Refuses mid (codes "damaged " ++ damage_word d) reply new) (new.space.pool.bits ≡ old.space.pool.bits)
      (λ C done. by C all.mid done) (λ d keeps. ap (λ (m : Machine). m.space.pool.bits) keeps.same) chains)
      all.makes
  | inr fails ↦ bits_same fails.space.same
]

bits_elsewhere : (command : PlainCommand) (old new : Machine) (W : Workspace) (reply : List ℕ) → SaysElsewhere command old W reply new → new.space.pool.bits ≡ old.space.pool.bits
bits_elsewhere stats old new W reply says = ap (λ (m : Machine). m.space.pool.bits) says.1
bits_elsewhere made old new W reply says = ap (λ (m : Machine). m.space.pool.bits) says.1
bits_elsewhere (read_file name file) old new W reply says = bits_taken file (ReadsBytes W name old.space) old new reply (λ bytes reads. bits_read W name bytes old.space new.space reply reads) says
bits_elsewhere (write_file name file) old new W reply says = let there = some_lines (lines_of W.current name) (λ (lines : List Bytes). Stores file (ended_lines lines) old reply new) says in bits_same there.2.space
bits_elsewhere (save file) old new W reply says = bits_same says.stores.space
bits_elsewhere (load file) old new W reply says = bits_taken file (LoadsBytes old.space) old new reply (λ bytes loads. bits_loaded (document_damage old.space.pool.bits bytes) bytes old.space new.space reply loads) says
bits_elsewhere (part file number) old new W reply says = bits_chained (chain_names file number) (StoresPart (numbered_file file number)) old new reply (λ C mid stores. bits_same stores.stores.space) says
bits_elsewhere (chain file number) old new W reply says = bits_chained (chain_names file (number + 1)) LoadsChain old new reply (λ C mid loads. loads.1.bits) says
bits_elsewhere (indent count file) old new W reply says = bits_same says.stores.space
bits_elsewhere (dedent count file) old new W reply says = bits_same says.stores.space
bits_elsewhere _ old new W reply says = absurd says

bits_given : (a : Answer) (command : PlainCommand) (old new : Machine) (W : Workspace) (reply : List ℕ) → Gives command old W a reply new → new.space.pool.bits ≡ old.space.pool.bits
bits_given (Ok (tells lines after)) command old new W reply gives = bits_by (only_asks command) command old.space new.space W gives.2
bits_given (Ok elsewhere) command old new W reply gives = bits_elsewhere command old new W reply gives
bits_given (Err reason) command old new W reply refuses = ap (λ (m : Machine). m.space.pool.bits) refuses.same

-- each command keeps the bits
pub bits-kept : (command : PlainCommand) (old new : Machine) (reply : List ℕ) → Obeys command old reply new → new.space.pool.bits ≡ old.space.pool.bits
bits-kept command old new reply obeys = elim obeys.gives [
  | inl gives ↦ bits_given (answer obeys.work command) command old new obeys.work reply gives
  | inr lacks ↦ ap (λ (s : SpaceView). s.pool.bits) lacks.space
]

-- a piece that may be a line is obeyed by its meaning
pub Step-line : (old new : Machine) (piece reply : List ℕ) (read : Result PlainCommand BadLine) → length piece ≤ MAX_LINE → read ≡ meaning piece → Means old read reply new → Step old piece reply new
Step-line old new piece reply read short e m =
    subst (λ (b : Bool). MatchBool b (Refuses old (codes "long") reply new) (Means old (meaning piece) reply new)) (sym (le-ltb MAX_LINE (length piece) short))
    (subst (λ (r : Result PlainCommand BadLine). Means old r reply new) e m)

-- a piece that is too long is refused
Step-long : (old : Machine) (piece : List ℕ) → MAX_LINE < length piece → Step old piece (refusal_of (codes "long")) old
Step-long old piece long =
    subst (λ (b : Bool). MatchBool b (Refuses old (codes "long") (refusal_of (codes "long")) old) (Means old (meaning piece) (refusal_of (codes "long")) old)) (sym (lt-ltb MAX_LINE (length piece) long))
    (record { reply_is = refl; same = refl })

-- a store that isn't called
pub CountsStore-none : {C : Type 0} {D : store_trait.Ghosts C} {store : C} {reply : List ℕ} → reply ≢ refusal_of (codes "fault") → CountsStore D store store reply
CountsStore-none {D = D} {store} other = record { calls = Calls-as (Calls-none D.faults D.steady D.faultless store) (λ p. absurd p) other }

-- a piece that is too long calls none
pub StepsOn-long : {C : Type 0} {D : store_trait.Ghosts C} {space : SpaceView} {store : C} (piece : List ℕ) → MAX_LINE < length piece → StepsOn piece D space store (refusal_of (codes "long")) space store
StepsOn-long {D = D} {space} {store} piece long = record {
  step = Step-long (machine_of D space store) piece long;
  counts = CountsStore-none (other-reply {due = refusal_of (codes "long")} refl refl);
}

module _ {B C : Type 0} {K : sink_trait.Ghosts B} {D : store_trait.Ghosts C} {sink sink' : B} {store : C} {result : Result (Unit {0}) Failed} {old new : SpaceView} where
  -- a command that uses no store was obeyed
  pub Replies-alone : (command it : Command) → command ≡ it → uses_store (plain_command it) ≡ false → Replies K sink sink' result (λ (reply : List ℕ). ObeysAlone (plain_command it) old reply new) → Replies K sink sink' result (λ (reply : List ℕ). ObeysOn (plain_command command) D old store reply new store)
  Replies-alone command it is alone replies =
      let obeys = replies.due (shown_store D store) in
      record {
        reply = replies.reply;
        due = record {
          obeys = subst (λ (k : Command). Obeys (plain_command k) (machine_of D old store) replies.reply (machine_of D new store)) (sym is) obeys;
          counts = CountsStore-none (obeys-other (plain_command it) (machine_of D old store) (machine_of D new store) replies.reply alone obeys);
        };
        sends = replies.sends;
      }

  -- the same of one that ended so
  pub Replies-ends : (command it : Command) (done : Result (Unit {0}) Refusal) → command ≡ it → uses_store (plain_command it) ≡ false → only_asks (plain_command it) ≡ false → Ends (plain_command it) old done new → Sends K.written K.faults K.steady K.has_room sink sink' result (done_reply done) → Replies K sink sink' result (λ (reply : List ℕ). ObeysOn (plain_command command) D old store reply new store)
  Replies-ends command it done is alone asks ends sends =
      Replies-alone command it is alone (record { reply = done_reply done; due = Obeys-ends (plain_command it) done asks ends; sends = sends })

-- a command that uses the store was obeyed, and its reply sent
pub Replies-on : {B C : Type 0} {K : sink_trait.Ghosts B} {D : store_trait.Ghosts C} {sink sink' : B} {store store' : C} {result : Result (Unit {0}) Failed} {old new : SpaceView} {reply : List ℕ} (command it : Command) → command ≡ it →
    ObeysOn (plain_command it) D old store reply new store' → Sends K.written K.faults K.steady K.has_room sink sink' result reply → Replies K sink sink' result (λ (w : List ℕ). ObeysOn (plain_command command) D old store w new store')
Replies-on {D = D} {store = store} {store'} {old = old} {new} {reply} command it is obeys sends = record {
  reply = reply;
  due = subst (λ (k : Command). ObeysOn (plain_command k) D old store reply new store') (sym is) obeys;
  sends = sends;
}

-- what the one call of the store made of its count, where the reply is `! fault` exactly if it failed
CountsStore-called : {C : Type 0} {D : store_trait.Ghosts C} {store store' : C} {failed : Type 0} {reply : List ℕ} → failed ↔ (reply ≡ refusal_of (codes "fault")) → Calls D.faults D.steady D.faultless store store' failed → CountsStore D store store' reply
CountsStore-called exactly calls = record { calls = Calls-as calls exactly.0 exactly.1 }

-- a call that failed, and one that didn't
pub CountsStore-failed : {C : Type 0} {D : store_trait.Ghosts C} {store store' : C} {failed : Type 0} → failed → Calls D.faults D.steady D.faultless store store' failed → CountsStore D store store' (refusal_of (codes "fault"))
CountsStore-failed fails calls = CountsStore-called (λ _. refl, λ _. fails) calls

pub CountsStore-succeeded : {C : Type 0} {D : store_trait.Ghosts C} {store store' : C} {failed : Type 0} {reply : List ℕ} → (failed → ⊥) → reply ≢ refusal_of (codes "fault") → Calls D.faults D.steady D.faultless store store' failed → CountsStore D store store' reply
CountsStore-succeeded succeeds other calls = CountsStore-called (λ fails. absurd (succeeds fails), λ fault. absurd (other fault)) calls

-- ## Commands of the store

-- the store has its say, where nothing in the workspace answers the command
pub Obeys-elsewhere : (command : PlainCommand) (W : Workspace) (old new : Machine) (reply : List ℕ) → StandsFor old.space.pool W → answer W command ≡ Ok elsewhere → SaysElsewhere command old W reply new → Obeys command old reply new
Obeys-elsewhere command W old new reply stands e says = record {
  work = W;
  stands = stands;
  gives = inl (subst (λ (a : Answer). Gives command old W a reply new) (sym e) says);
}

-- and memory may be refused to it
pub may_lack : (command : PlainCommand) (W : Workspace) → IsTrue (wants_memory command) → answer W command ≡ Ok elsewhere → MayLackMemory W command
may_lack command W wants e = record { wants = wants; granted = subst (λ (a : Answer). IsOk a) (sym e) refl }

-- the workspace refuses the command, and no store is called
pub ObeysOn-refused : {C : Type 0} {D : store_trait.Ghosts C} {space : SpaceView} {store : C} (command : PlainCommand) (W : Workspace) (reason : Refusal) → StandsFor space.pool W → answer W command ≡ Err reason → ObeysOn command D space store (refusal_of (reason_of reason)) space store
ObeysOn-refused {D = D} {store = store} command W reason stands e = record {
  obeys = Obeys-refused W reason stands e refl refl (shown_store D store);
  counts = CountsStore-none (other-reply {due = refusal_of (reason_of reason)} refl (refusal-other reason));
}

-- nothing in the workspace but an open batch answers the command
abbrev pub IsOutsideBatch : PlainCommand → Type 0
IsOutsideBatch command = (W : Workspace) → answer W command ≡ unless (in_batch W) why.Batch (Ok elsewhere)

pub save-outside : (file : Bytes) → IsOutsideBatch (save file)
unfolding answer
save-outside file W = refl

pub load-outside : (file : Bytes) → IsOutsideBatch (load file)
unfolding answer
load-outside file W = refl

module _ (command : PlainCommand) (outside : IsOutsideBatch command) (W : Workspace) where
  pub answer-outside : in_batch W ≡ false → answer W command ≡ Ok elsewhere
  answer-outside e = outside W ∙ ap (λ (b : Bool). unless b why.Batch (Ok elsewhere)) e

  pub answer-inside : in_batch W ≡ true → answer W command ≡ Err why.Batch
  answer-inside e = outside W ∙ ap (λ (b : Bool). unless b why.Batch (Ok elsewhere)) e

-- the fault that a call answered
pub fault-is : {F : Type 0} (result : Result (Unit {0}) F) (fault : F) → IsErrAnd result (λ (f : F). f ≡ fault) → result ≡ Err fault
fault-is (Ok done) fault is = absurd is
fault-is (Err f) fault is = ap Err is

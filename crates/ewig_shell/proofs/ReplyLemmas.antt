-- Which replies aren't `! fault`.
use Rattle.std.proofs.Common.{◌≡◌, ◌≢◌, ℕ, ◌+◌, Bool, true, false, ◌&&◌, nat_le, List, [], ◌∷◌, ◌++◌, length, map, take, ◌-◌, slice_get, slice_range, is_some, codes, bytes_eq, sym, ap, ◌∙◌, refl, arith, inl, inr, Result, Ok, Err, Option, Some, None, IfOk}
use Rattle.std.proofs.lemmas.Slice.Eq.{bytes_eq-Decides}
use Rattle.std.specs.FinMap as map_of
use Rattle.shell_terms.specs.Edit.{Bytes}
use Rattle.shell_terms.specs.Command.{PlainCommand, edit, merge, mark, unmark, back, undo, redo, begin, «end», abort, history, get, len, show, list, stars, marks, same as same_lines, eqv, stats, made, read, write, save, load, part, chain, indent, dedent, quit}
use Rattle.shell_words.specs.declared.BadLine.{BadLine}
use Rattle.shell_words.specs.declared.BadLine.TheVariants as bad
use Rattle.plain_space.specs.declared.TheConstants.{MOST_PARTS, MOST_SPACES}
use Rattle.plain_space.specs.declared.refusal.Refusal.{Refusal}
use Rattle.plain_space.specs.declared.refusal.Refusal.TheVariants as why
use Rattle.plain_space.specs.Workspace.{State, Workspace, most, lines_of, version_of, sizes, same_texts, same_state, merged_with, all_lines_pass, in_batch, undo_with}
use Rattle.plain_space.specs.Refusing.{needs, unless, given, room, has_room_for, on_last, outside_batch}
use Rattle.plain_space.specs.Edited.{edited}
use Rattle.plain_space.specs.Answer.{Answer, Told, tells, elsewhere, answer, done, asked, becomes, ok_line, text_line, size_line, equal_line}
use Rattle.plain_space.specs.Session.{reason_of}
use Rattle.shell_terms.specs.Kinds.{uses_store}
use Rattle.ewig_shell.specs.Step.{Machine, SaysElsewhere, Gives, Obeys, line_reason, reply_of, refusal_of}

-- the bytes are another reply than `! fault`
abbrev pub IsOther : List ℕ → Type 0
IsOther reply = bytes_eq reply (refusal_of (codes "fault")) ≡ false

-- such a reply isn't that one
pub other-reply : {reply due : List ℕ} → reply ≡ due → IsOther due → reply ≢ refusal_of (codes "fault")
other-reply {due = due} is other fault =
    let same : bytes_eq due (refusal_of (codes "fault")) ≡ true = (bytes_eq-Decides due (refusal_of (codes "fault"))).1 (sym is ∙ fault) in
    let never : true ≡ false = sym same ∙ other in cc

-- the byte that comes first
abbrev pub first_byte : List ℕ → ℕ
first_byte [] = 0
first_byte (b ∷ bytes) = b

-- a refusal isn't `ok`
pub no-refusal : (reason : List ℕ) → reply_of (ok_line ∷ []) ≡ refusal_of reason → ⊥
no-refusal reason is = let first : ◌≡◌ {A = ℕ} 111 33 = ap first_byte is in omega arith

-- no refusal of the workspace is, and none of a line
pub refusal-other : (reason : Refusal) → IsOther (refusal_of (reason_of reason))
refusal-other why.Absent = refl
refusal-other why.Exists = refl
refusal-other why.Range = refl
refusal-other why.Limit = refl
refusal-other why.Batch = refl
refusal-other why.Empty = refl
refusal-other why.Memory = refl

pub line-other : (bad : BadLine) → IsOther (refusal_of (line_reason bad))
line-other bad.Utf8 = refl
line-other bad.Command = refl
line-other bad.Name = refl

-- ## What a workspace tells

-- lines that make another reply
abbrev AreOther : List Bytes → Type 0
AreOther lines = IsOther (reply_of lines)

texts-other : (texts : List Bytes) → AreOther (map text_line texts ++ ok_line ∷ [])
texts-other [] = refl
texts-other (text ∷ texts) = refl

sizes-other : (all : List (Bytes × ℕ)) → AreOther (map size_line all ++ ok_line ∷ [])
sizes-other [] = refl
sizes-other (size ∷ all) = refl

equal-other : (equal : Bool) → AreOther (equal_line equal ∷ [])
equal-other true = refl
equal-other false = refl

-- what a command comes to makes another reply, where it makes one
abbrev TellsOther : Told → Type 0
TellsOther (tells lines after) = AreOther lines
TellsOther elsewhere = Unit {0}

-- what holds where no test refuses
module _ {X : Type 0} (P : X → Type 0) where
  by_unless : (test : Bool) (reason : Refusal) (next : Result X Refusal) → IfOk next P → IfOk (unless test reason next) P
  by_unless true reason next h = tt
  by_unless false reason next h = h

  by_needs : (test : Bool) (reason : Refusal) (next : Result X Refusal) → IfOk next P → IfOk (needs test reason next) P
  by_needs true reason next h = h
  by_needs false reason next h = tt

  by_given : {Y : Type 0} (there : Option Y) (reason : Refusal) (next : Y → Result X Refusal) → ((y : Y) → IfOk (next y) P) → IfOk (given there reason next) P
  by_given None reason next h = tt
  by_given (Some y) reason next h = h y

module _ (W : Workspace) where
  outside : (next : Answer) → IfOk next TellsOther → IfOk (outside_batch W next) TellsOther
  outside next h = by_unless TellsOther (in_batch W) why.Batch next h

  becoming : (next : Result State Refusal) → IfOk (becomes W next) TellsOther
  becoming (Ok state) = refl
  becoming (Err reason) = tt

  asking : (lines : Result (List Bytes) Refusal) → IfOk lines AreOther → IfOk (asked W lines) TellsOther
  asking (Ok lines) h = h
  asking (Err reason) h = tt

  -- a step from the end of a history
  stepping : (states : List State) (next : State → List State → Answer) → ((last : State) (before : List State) → IfOk (next last before) TellsOther) → IfOk (outside_batch W (on_last states next)) TellsOther
  stepping states next h = outside _ (by_given TellsOther (slice_get states (length states - 1)) why.Empty _ (λ last. h last (take (length states - 1) states)))

  answer-other : (command : PlainCommand) → IfOk (answer W command) TellsOther
  unfolding answer
  answer-other (edit change) = becoming (edited W.current change)
  answer-other (merge kind version) = by_given TellsOther (version_of W version) why.Absent _ (λ state. becoming (Ok (merged_with kind W.current state)))
  answer-other (mark version) = outside _ (by_unless TellsOther (is_some (version_of W version)) why.Exists _ refl)
  answer-other (unmark version) = outside _ (by_given TellsOther (version_of W version) why.Absent _ (λ state. refl))
  answer-other (back version) = outside _ (by_given TellsOther (version_of W version) why.Absent _ (λ state. becoming (Ok state)))
  answer-other undo = stepping W.undo (λ last before. room (length W.redo + 1) (done (record W { current = last; undo = before; redo = W.redo ++ W.current ∷ [] })))
      (λ last before. by_needs TellsOther (nat_le (length W.redo + 1) most) why.Limit _ refl)
  answer-other redo = stepping W.redo (λ last before. done (record W { current = last; undo = undo_with W W.current; redo = before })) (λ last before. refl)
  answer-other begin = outside _ refl
  answer-other «end» = by_given TellsOther W.base why.Batch _ (λ base. refl)
  answer-other abort = by_given TellsOther W.base why.Batch _ (λ base. refl)
  answer-other (history count) = outside _ refl
  answer-other (get name index) = asking _ (by_given AreOther (lines_of W.current name) why.Absent _ (λ lines. by_given AreOther (slice_get lines index) why.Range _ (λ line. refl)))
  answer-other (len name) = asking _ (by_given AreOther (lines_of W.current name) why.Absent _ (λ lines. refl))
  answer-other (show name from to) = asking _ (by_given AreOther (lines_of W.current name) why.Absent _ (λ lines. by_needs AreOther (nat_le from to && nat_le to (length lines)) why.Range _ (texts-other (slice_range lines from to))))
  answer-other list = sizes-other (sizes W.current)
  answer-other stars = texts-other (map_of.keys W.current.stars)
  answer-other marks = texts-other (map_of.keys W.versions)
  answer-other (same_lines name other) = asking _ (by_given AreOther (lines_of W.current name) why.Absent _ (λ lines. by_given AreOther (lines_of W.current other) why.Absent _ (λ others. equal-other (same_texts lines others))))
  answer-other (eqv version other) = asking _ (by_given AreOther (version_of W version) why.Absent _ (λ state. by_given AreOther (version_of W other) why.Absent _ (λ others. equal-other (same_state state others))))
  answer-other stats = tt
  answer-other made = tt
  answer-other (read name file) = tt
  answer-other (write name file) = by_given TellsOther (lines_of W.current name) why.Absent _ (λ lines. tt)
  answer-other (save file) = outside _ tt
  answer-other (load file) = outside _ tt
  answer-other (part file number) = outside _ (by_needs TellsOther (nat_le 1 number && nat_le number MOST_PARTS) why.Range _ tt)
  answer-other (chain file number) = outside _ (by_needs TellsOther (nat_le 1 number && nat_le number MOST_PARTS) why.Range _ tt)
  answer-other (indent count file) = outside _ (by_needs TellsOther (nat_le count MOST_SPACES) why.Range _ (by_needs TellsOther (all_lines_pass (has_room_for count) W) why.Limit _ tt))
  answer-other (dedent count file) = outside _ (by_needs TellsOther (nat_le count MOST_SPACES) why.Range _ tt)
  answer-other quit = refl

-- ## Commands that use no store

says-other : (command : PlainCommand) (old new : Machine) (W : Workspace) (reply : List ℕ) → uses_store command ≡ false → SaysElsewhere command old W reply new → reply ≢ refusal_of (codes "fault")
says-other stats old new W reply alone says = other-reply says.0 refl
says-other made old new W reply alone says = other-reply says.0 refl
says-other (read name file) old new W reply alone says = absurd (let never : true ≡ false = alone in cc)
says-other (write name file) old new W reply alone says = absurd (let never : true ≡ false = alone in cc)
says-other (save file) old new W reply alone says = absurd (let never : true ≡ false = alone in cc)
says-other (load file) old new W reply alone says = absurd (let never : true ≡ false = alone in cc)
says-other (part file number) old new W reply alone says = absurd (let never : true ≡ false = alone in cc)
says-other (chain file number) old new W reply alone says = absurd (let never : true ≡ false = alone in cc)
says-other (indent count file) old new W reply alone says = absurd (let never : true ≡ false = alone in cc)
says-other (dedent count file) old new W reply alone says = absurd (let never : true ≡ false = alone in cc)
says-other _ old new W reply alone says = absurd says

gives-other : (a : Answer) (command : PlainCommand) (old new : Machine) (W : Workspace) (reply : List ℕ) → uses_store command ≡ false → IfOk a TellsOther → Gives command old W a reply new → reply ≢ refusal_of (codes "fault")
gives-other (Ok (tells lines after)) command old new W reply alone other gives = other-reply gives.0 other
gives-other (Ok elsewhere) command old new W reply alone other gives = says-other command old new W reply alone gives
gives-other (Err reason) command old new W reply alone other gives = other-reply gives.reply_is (refusal-other reason)

-- none of them gets `! fault`
pub obeys-other : (command : PlainCommand) (old new : Machine) (reply : List ℕ) → uses_store command ≡ false → Obeys command old reply new → reply ≢ refusal_of (codes "fault")
obeys-other command old new reply alone obeys = elim obeys.gives [
  | inl gives ↦ gives-other (answer obeys.work command) command old new obeys.work reply alone (answer-other obeys.work command) gives
  | inr lacks ↦ other-reply lacks.reply_is refl
]

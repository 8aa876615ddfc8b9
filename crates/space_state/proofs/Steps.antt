-- What the plain answer is to steps through histories, to batches, versions and stars, and how refusals end.
use Rattle.std.proofs.Common.{◌≡◌, refl, sym, ◌∙◌, ap, subst, ℕ, zero, suc, ◌+◌, ◌-◌, ◌*◌, ◌<◌, ◌≤◌, List, [], ◌∷◌, ◌++◌, length, take, arith, Bool, true, false, Option, Some, None, is_some, IsSome, Result, Ok, Err, slice_get, leb, IsTrue, IsOk, MatchOption}
use Rattle.std.specs.Prelude.{◌↔◌, IsErrAnd, IsSomeAnd, MatchResult}
use Rattle.std.proofs.lemmas.Bool.{le-leb}
use Rattle.std.proofs.lemmas.List.{length-take}
use Rattle.std.specs.FinMap as map
use Rattle.node_heap.specs.Links.{count}
use Rattle.node_heap.specs.Heap.{Heap, holds_at, hold_count, one_at, HasSpares, IsGraph}
use Rattle.node_heap.specs.Calls.{Answered, Extends, KeepsHeld, Makes, SameRows, Trades, Unchanged}
use Rattle.rrb_core.specs.Vector.{elements}
use Rattle.shell_terms.specs.Edit.{Bytes, star, unstar}
use Rattle.shell_terms.specs.Command.{Merging, PlainCommand, edit, merge, mark, unmark, back, undo, redo, begin, «end», abort, history}
use Rattle.plain_space.specs.declared.refusal.Refusal.{Refusal}
use Rattle.plain_space.specs.declared.refusal.Refusal.TheVariants.{Absent, Exists, Range, Limit, Batch, Empty, Memory}
use Rattle.elem_core.specs.declared.codes.TheConstants.{LEVELS}
use Rattle.plain_space.specs.Workspace.{State, Workspace, most, in_batch, is_starred, merged_with, last_of, undo_with, version_of, with_current}
use Rattle.plain_space.specs.Refusing.{outside_batch, on_last, room}
use Rattle.plain_space.specs.Edited.{edited}
use Rattle.plain_space.specs.Answer.{Answer, answer, done}
use Rattle.shell_terms.specs.Kinds.{wants_memory}
use Rattle.plain_space.specs.Cost.{cost, merge_size}
use Rattle.plain_space.specs.Memory.{MayLackMemory}
use Rattle.state_rows.specs.Reading.{StandsIfThere}
use Rattle.state_rows.specs.InHeap.{IsStateIn, IsHistoryIn}
use Rattle.state_rows.specs.Standing.{IsBase}
use Rattle.space_state.specs.declared.roots.RootedHeap.{RootedHeap}
use Rattle.space_state.specs.declared.roots.Roots.{Roots}
use Rattle.space_state.specs.declared.roots.Batch.{Batch as Batches}
use Rattle.space_state.specs.declared.roots.Batch.TheVariants.{Closed, Open}
use Rattle.space_state.specs.declared.room.TheConstants.{EDIT_NODES}
use Rattle.space_state.specs.declared.undo_end.TheConstants.{TURN_NODES}
use Rattle.space_state.specs.Roots.{base_of, IsBounded, Keeps}
use Rattle.space_state.specs.Turns.{IsDueBy, IsDue, RoomIsMade, RoomIsRefused, TurnsTo, IsCarriedOut, IsRefused}
use Rattle.space_state.specs.Needed.{merge_nodes}
use Rattle.space_state.specs.Stepping.{HasNoStep}
use Rattle.state_rows.proofs.Staying.{states-stay}
use Rattle.space_state.proofs.Keeping.{history-length, history-short, current-stands, same-heap, keeps-same, keeps-gained, keeps-current, keeps-undo, keeps-redo, answered-one, unchanged-stands, Rises, rises-answered, rises-more, rises-same, rises-then, turns-by}

-- a list with fewer than the most elements has room for one more
fits-one : (n : ℕ) → n < most → leb (n + 1) most ≡ true
fits-one n room = le-leb (n + 1) most (omega (arith, room))

pub none-of : {X : Type 0} (o : Option X) → is_some o ≡ false → o ≡ None
none-of None none = refl
none-of (Some x) none = absurd (let h = none in cc)

pub some-of : {X : Type 0} (o : Option X) → IsSome o → (x : X) × (o ≡ Some x)
some-of None there = absurd (let h = there in cc)
some-of (Some x) there = (x, refl)

-- ## Plain answers

module _ (W : Workspace) where
  pub begin-refused : in_batch W ≡ true → answer W begin ≡ Err Batch
  unfolding answer
  begin-refused opened = rw opened refl

  pub begin-done : in_batch W ≡ false → answer W begin ≡ done (record W { base = Some W.current })
  unfolding answer
  begin-done outside = rw outside refl

  pub abort-refused : W.base ≡ None → answer W abort ≡ Err Batch
  unfolding answer
  abort-refused closed = rw closed refl

  pub abort-done : (base : State) → W.base ≡ Some base → answer W abort ≡ done (record W { current = base; base = None })
  unfolding answer
  abort-done base opened = rw opened refl

  pub end-refused : W.base ≡ None → answer W «end» ≡ Err Batch
  unfolding answer
  end-refused closed = rw closed refl

  pub end-done : (base : State) → W.base ≡ Some base → answer W «end» ≡ done (record W { undo = undo_with W base; redo = []; base = None })
  unfolding answer
  end-done base opened = rw opened refl

  pub history-refused : (count : ℕ) → in_batch W ≡ true → answer W (history count) ≡ Err Batch
  unfolding answer
  history-refused count opened = rw opened refl

  pub history-done : (count : ℕ) → in_batch W ≡ false → answer W (history count) ≡ done (record W { undo = last_of count W.undo; history = count })
  unfolding answer
  history-done count outside = rw outside refl

  module _ (name : Bytes) where
    pub mark-refused : in_batch W ≡ true → answer W (mark name) ≡ Err Batch
    unfolding answer
    mark-refused opened = rw opened refl

    pub mark-taken : in_batch W ≡ false → IsSome (version_of W name) → answer W (mark name) ≡ Err Exists
    unfolding answer
    mark-taken outside there = rw (outside, there) refl

    pub mark-done : in_batch W ≡ false → is_some (version_of W name) ≡ false → answer W (mark name) ≡ done (record W { versions = map.insert W.versions name W.current })
    unfolding answer
    mark-done outside none = rw (outside, none) refl

    pub unmark-refused : in_batch W ≡ true → answer W (unmark name) ≡ Err Batch
    unfolding answer
    unmark-refused opened = rw opened refl

    pub unmark-absent : in_batch W ≡ false → is_some (version_of W name) ≡ false → answer W (unmark name) ≡ Err Absent
    unfolding answer
    unmark-absent outside none = rw (outside, none-of (version_of W name) none) refl

    pub unmark-done : in_batch W ≡ false → IsSome (version_of W name) → answer W (unmark name) ≡ done (record W { versions = map.remove W.versions name })
    unfolding answer
    unmark-done outside there = rw (outside, (some-of (version_of W name) there).1) refl

    pub back-refused : in_batch W ≡ true → answer W (back name) ≡ Err Batch
    unfolding answer
    back-refused opened = rw opened refl

    pub back-absent : in_batch W ≡ false → version_of W name ≡ None → answer W (back name) ≡ Err Absent
    unfolding answer
    back-absent outside none = rw (outside, none) refl

    pub back-done : in_batch W ≡ false → (x : State) → version_of W name ≡ Some x → answer W (back name) ≡ done (with_current W x)
    unfolding answer
    back-done outside x there = rw (there, outside) refl

    pub merge-absent : (kind : Merging) → version_of W name ≡ None → answer W (merge kind name) ≡ Err Absent
    unfolding answer
    merge-absent kind none = rw none refl

    pub merge-done : (kind : Merging) (x : State) → version_of W name ≡ Some x → answer W (merge kind name) ≡ done (with_current W (merged_with kind W.current x))
    unfolding answer
    merge-done kind x there = rw there refl

    pub star-taken : is_starred W.current name ≡ true → answer W (edit (star name)) ≡ Err Exists
    unfolding answer edited
    star-taken there = rw there refl

    pub unstar-absent : is_starred W.current name ≡ false → answer W (edit (unstar name)) ≡ Err Absent
    unfolding answer edited
    unstar-absent none = rw none refl

-- what a merge with a version that is there may add, and what it needs
module _ (W : Workspace) (name : Bytes) (kind : Merging) (x : State) (there : version_of W name ≡ Some x) where
  pub merge-costs : (bits : ℕ) → cost bits (merge kind name) W ≡ 256 + 16 * merge_size kind W.current x
  unfolding cost
  merge-costs bits = rw there refl

  pub merge-needs : merge_nodes kind W name ≡ LEVELS * merge_size kind W.current x + 1
  merge-needs = rw there refl

-- ## A step through the histories, and the answers to undo and redo

module _ (W : Workspace) (from : List State) (next : State → List State → Answer) where
  pub step-refused : in_batch W ≡ true → outside_batch W (on_last from next) ≡ Err Batch
  step-refused opened = rw opened refl

  pub step-empty : in_batch W ≡ false → slice_get from (length from - 1) ≡ None → outside_batch W (on_last from next) ≡ Err Empty
  step-empty outside none = rw (outside, none) refl

module _ (W : Workspace) where
  abbrev after_undo : State → List State → Answer
  after_undo last before = room (length W.redo + 1) (done (record W { current = last; undo = before; redo = W.redo ++ W.current ∷ [] }))

  abbrev after_redo : State → List State → Answer
  after_redo last before = done (record W { current = last; undo = undo_with W W.current; redo = before })

  undo-steps : answer W undo ≡ outside_batch W (on_last W.undo after_undo)
  unfolding answer
  undo-steps = refl

  redo-steps : answer W redo ≡ outside_batch W (on_last W.redo after_redo)
  unfolding answer
  redo-steps = refl

  -- what refuses the step is due to the command
  step-due : (command : PlainCommand) (plain : Answer) → answer W command ≡ plain → (why : Refusal) → IsDueBy plain ⊥ why → IsDue W command why
  step-due command plain is Memory due = absurd due
  step-due command plain is Absent due = is ∙ due
  step-due command plain is Exists due = is ∙ due
  step-due command plain is Range due = is ∙ due
  step-due command plain is Limit due = is ∙ due
  step-due command plain is Batch due = is ∙ due
  step-due command plain is Empty due = is ∙ due

  pub undo-due : (why : Refusal) → HasNoStep W.undo W why → IsDue W undo why
  undo-due why due = step-due undo (outside_batch W (on_last W.undo after_undo)) undo-steps why (due after_undo)

  pub redo-due : (why : Refusal) → HasNoStep W.redo W why → IsDue W redo why
  redo-due why due = step-due redo (outside_batch W (on_last W.redo after_redo)) redo-steps why (due after_redo)

  pub undo-limited : in_batch W ≡ false → (last : State) → slice_get W.undo (length W.undo - 1) ≡ Some last → length W.redo ≡ most → answer W undo ≡ Err Limit
  undo-limited outside last there full = undo-steps ∙ (rw (outside, there, full) refl)

  pub undo-done : in_batch W ≡ false → (last : State) → slice_get W.undo (length W.undo - 1) ≡ Some last → length W.redo < most
      → answer W undo ≡ done (record W { current = last; undo = take (length W.undo - 1) W.undo; redo = W.redo ++ W.current ∷ [] })
  undo-done outside last there less = undo-steps ∙ (rw (outside, there, fits-one (length W.redo) less) refl)

  pub redo-done : in_batch W ≡ false → (last : State) → slice_get W.redo (length W.redo - 1) ≡ Some last
      → answer W redo ≡ done (record W { current = last; undo = undo_with W W.current; redo = take (length W.redo - 1) W.redo })
  redo-done outside last there = redo-steps ∙ (rw (outside, there) refl)

-- what refuses a step isn't want of memory
pub step-wants-none : (from : List State) (W : Workspace) {why : Refusal} → HasNoStep from W why → why ≡ Memory → ⊥
step-wants-none from W {why} due is = subst (λ (r : Refusal). HasNoStep from W r) is due (λ last before. Err Batch)

-- ## Want of memory

-- a command that may want memory may be refused it where it would be carried out
pub may-lack : {W : Workspace} {after : Workspace} (command : PlainCommand) → IsTrue (wants_memory command) → answer W command ≡ done after → MayLackMemory W command
may-lack command wants told = record { wants = wants; granted = subst IsOk (sym told) refl }

pub memory-refused : {W : Workspace} {command : PlainCommand} {old new : RootedHeap} (result : Result (Unit {0}) Refusal) → IsErrAnd result (λ why. why ≡ Memory) → MayLackMemory W command → new ≡ old
    → MatchResult result (λ _. IsCarriedOut command old new W) (IsRefused command old new W)
memory-refused {W} {command} {old} {new} (Err why) is lack same = subst (λ why. IsRefused command old new W why) (sym is) (record { due = lack; same = same })
memory-refused (Ok x) is lack same = absurd is

-- where room is refused, so is the command
pub room-refused : {W : Workspace} (command : PlainCommand) {s t : RootedHeap} {why : Refusal} → MayLackMemory W command → RoomIsRefused s t why → IsRefused command s t W why
room-refused {W} command lack refused = record { due = subst (λ r. IsDue W command r) (sym refused.due) lack; same = refused.same }

-- so may room for an edit
pub room-lacks-memory : {old new : RootedHeap} (nodes : ℕ) (result : Result (Unit {0}) Refusal) → IsErrAnd result (λ why. why ≡ Memory) → new ≡ old
    → MatchResult result (λ _. RoomIsMade old new nodes) (RoomIsRefused old new)
room-lacks-memory nodes (Err why) is same = record { same = same; due = is }
room-lacks-memory nodes (Ok x) is same = absurd is

-- ## The batch

closed-of : (IsIt : ℕ → State → Type 0) (batch : Batches) (base : Option State) → IsBase IsIt (base_of batch) base → is_some base ≡ false → batch ≡ Closed
closed-of IsIt Closed base is none = refl
closed-of IsIt (Open l) None is none = absurd is
closed-of IsIt (Open l) (Some x) is none = absurd (let h = none in cc)

-- the batch is closed exactly where the workspace has no base
pub closed-batch : {s : RootedHeap} {b : List ℕ} {W : Workspace} → Keeps s b W → in_batch W ≡ false → s.roots.batch ≡ Closed
closed-batch {s} {b} {W} K outside = closed-of (IsStateIn s.heap s.bits) s.roots.batch W.base K.stands.4 outside

-- the base that a batch told, and that a closed one told none
pub base-told : {batch : Batches} {told : Option ℕ} {l : ℕ} → MatchOption told (batch ≡ Closed) (λ k. batch ≡ Open k) → told ≡ Some l → batch ≡ Open l
base-told {batch} is told = subst (λ (o : Option ℕ). MatchOption o (batch ≡ Closed) (λ k. batch ≡ Open k)) told is

pub base-none : {batch : Batches} {told : Option ℕ} → MatchOption told (batch ≡ Closed) (λ k. batch ≡ Open k) → told ≡ None → batch ≡ Closed
base-none {batch} is told = subst (λ (o : Option ℕ). MatchOption o (batch ≡ Closed) (λ k. batch ≡ Open k)) told is

-- ## Histories

-- where that isn't the most, there is room for one more
pub length-below : {h : Heap Bytes} {bits l n : ℕ} {ss : List State} → IsHistoryIn h bits l ss → n ≡ length ss → (n ≡ most → ⊥) → length ss < most
length-below is same apart = grind (arith, history-short is, same, apart)

-- a test that holds doesn't fail
pub not-yes : {b : Bool} → IsTrue b → b ≡ false → ⊥
not-yes holds fails = absurd cc

-- where a history hasn't the most, there is room for one more
pub has-below : {h : Heap Bytes} {bits l : ℕ} {ss : List State} {b : Bool} → IsHistoryIn h bits l ss → (IsTrue b ↔ (length ss ≡ most)) → b ≡ false → length ss < most
has-below is told fails = length-below is refl (λ full. not-yes (told.1 full) fails)

-- a history that isn't empty
pub has-some : {h : Heap Bytes} {bits l r : ℕ} {ss : List State} {b : Bool} → IsHistoryIn h bits l ss → r ≡ l → (IsTrue b ↔ (elements h r ≡ [])) → b ≡ false → 0 < length ss
has-some {h} {r = r} is same told fails = more (elements h r) (λ none. not-yes (told.1 none) fails) (ap (λ l. length (elements h l)) same ∙ history-length is)
  where
    more : {n : ℕ} (ks : List ℕ) → (ks ≡ [] → ⊥) → length ks ≡ n → 0 < n
    more [] other many = absurd (other refl)
    more (k ∷ ks) other many = omega (arith, many)

-- and one that is
pub has-none : {h : Heap Bytes} {bits l r : ℕ} {ss : List State} → IsHistoryIn h bits l ss → r ≡ l → elements h r ≡ [] → length ss ≡ 0
has-none {h} is same none = sym (history-length is) ∙ sym (ap (λ l. length (elements h l)) same) ∙ ap length none

-- ## What is there

-- what a link that was told stands for
module _ {X : Type 0} (IsValue : ℕ → X → Type 0) where
  -- where no link was told, nothing is there
  none-at : (there : Option X) → StandsIfThere IsValue None there → there ≡ None
  none-at None stands = refl
  none-at (Some x) stands = absurd stands

  pub none-there : {told : Option ℕ} {there : Option X} → StandsIfThere IsValue told there → told ≡ None → there ≡ None
  none-there {told} {there} stands is = none-at there (subst (λ (o : Option ℕ). StandsIfThere IsValue o there) is stands)

  -- and where one was told, it stands for what is there
  some-at : (l : ℕ) (there : Option X) → StandsIfThere IsValue (Some l) there → (x : X) × (there ≡ Some x) × IsValue l x
  some-at l None stands = absurd stands
  some-at l (Some x) stands = (x, refl, stands)

  pub some-there : {told : Option ℕ} {there : Option X} {l : ℕ} → StandsIfThere IsValue told there → told ≡ Some l → (x : X) × (there ≡ Some x) × IsValue l x
  some-there {told} {there} {l} stands is = some-at l there (subst (λ (o : Option ℕ). StandsIfThere IsValue o there) is stands)

  -- a link was told just where something is there
  told-there : (told : Option ℕ) (there : Option X) → StandsIfThere IsValue told there → is_some told ≡ is_some there
  told-there None None stands = refl
  told-there None (Some x) stands = absurd stands
  told-there (Some l) None stands = absurd stands
  told-there (Some l) (Some x) stands = refl

  pub as-told : (told : Option ℕ) (there : Option X) {test : Bool} → StandsIfThere IsValue told there → is_some told ≡ test → is_some there ≡ test
  as-told told there stands is = sym (told-there told there stands) ∙ is

-- what stands at a place of a list
pub element-at : {X : Type 0} (xs : List X) (i : ℕ) → i < length xs → (x : X) × (slice_get xs i ≡ Some x)
element-at [] i inside = absurd (omega (arith, inside))
element-at (x ∷ xs) zero inside = (x, refl)
element-at (x ∷ xs) (suc i) inside = element-at xs i (omega (arith, inside))

-- and the last of one that isn't empty
pub last-at : {X : Type 0} (xs : List X) → 0 < length xs → (x : X) × (slice_get xs (length xs - 1) ≡ Some x)
last-at xs some = element-at xs (length xs - 1) (omega (arith, some))

last-is : {X : Type 0} {P : X → Type 0} (o : Option X) → IsSomeAnd o P → (x : X) × (o ≡ Some x) × P x
last-is None is = absurd is
last-is (Some x) is = (x, refl, is)

-- ## The rows of a step through the histories

-- the state to go to is held, after room was made
pub record IsHeld (s : RootedHeap) (new : Heap Bytes) (state : ℕ) (x : State) (W : Workspace) : Type 0 where
  pub keeps : Keeps (record s { heap = new }) (state ∷ []) W
  pub is : IsStateIn new s.bits state x
  pub histories : (l : ℕ) (ss : List State) → IsHistoryIn s.heap s.bits l ss → IsHistoryIn new s.bits l ss
  pub rises : Rises s.heap new 0

pub is-held : {s : RootedHeap} {roomy new : Heap Bytes} {state : ℕ} {W : Workspace} {x : State} → Keeps s [] W → IsStateIn s.heap s.bits state x → Unchanged s.heap roomy → SameRows roomy new
    → Extends roomy new → IsGraph new → ((k : ℕ) → holds_at new k ≡ holds_at roomy k + one_at state k) → hold_count new ≡ hold_count roomy + 1 → Makes roomy new 0 0 → IsHeld s new state x W
is-held {s} {roomy} {new} {state} {x = x} K is room same extends graph holds total makes =
    let once = answered-one extends graph holds total makes in
    record {
      keeps = keeps-gained (keeps-same (same-heap room) K) once;
      is = (states-stay roomy new s.bits state (λ m down. same m)).state x ((unchanged-stands s.bits room state).state x is);
      histories = λ l ss are. (states-stay roomy new s.bits l (λ m down. same m)).history ss ((unchanged-stands s.bits room l).history ss are);
      rises = rises-then (rises-same room) (rises-answered once);
    }

-- the last state of a history was taken out, and is current; the one that was current is held besides
pub record IsMoved (s : RootedHeap) (new : Heap Bytes) (roots : Roots) (state : ℕ) (from : List State) (V : Workspace) : Type 0 where
  pub x : State
  pub last : slice_get from (length from - 1) ≡ Some x
  pub keeps : Keeps (record s { heap = new; roots = record roots { current = state } }) (s.roots.current ∷ []) (record V { current = x })
  pub before : IsStateIn new s.bits s.roots.current V.current

module _ {s : RootedHeap} {new : Heap Bytes} {l state c n : ℕ} {W : Workspace} (K : Keeps s [] W) where
  pub moved-undo : KeepsHeld (λ k. count k (s.roots.undo ∷ [])) s.heap new → Trades s.heap new (s.roots.undo ∷ []) (l ∷ state ∷ []) c n → IsHistoryIn new s.bits l (take (length W.undo - 1) W.undo)
      → IsSomeAnd (slice_get W.undo (length W.undo - 1)) (IsStateIn new s.bits state) → IsMoved s new (record s.roots { undo = l }) state W.undo (record W { undo = take (length W.undo - 1) W.undo })
  moved-undo held trades left last =
      let there = last-is (slice_get W.undo (length W.undo - 1)) last in
      let bounded : IsBounded s.history (record W { undo = take (length W.undo - 1) W.undo }) = (K.bounded.0, K.bounded.1, omega (arith, length-take (length W.undo - 1) W.undo, K.bounded.2)) in
      let popped = keeps-undo l (take (length W.undo - 1) W.undo) [] (state ∷ []) bounded K held trades left in
      record { x = there.0; last = there.1; keeps = keeps-current state there.0 popped there.2; before = current-stands popped }

  pub moved-redo : KeepsHeld (λ k. count k (s.roots.redo ∷ [])) s.heap new → Trades s.heap new (s.roots.redo ∷ []) (l ∷ state ∷ []) c n → IsHistoryIn new s.bits l (take (length W.redo - 1) W.redo)
      → IsSomeAnd (slice_get W.redo (length W.redo - 1)) (IsStateIn new s.bits state) → IsMoved s new (record s.roots { redo = l }) state W.redo (record W { redo = take (length W.redo - 1) W.redo })
  moved-redo held trades left last =
      let there = last-is (slice_get W.redo (length W.redo - 1)) last in
      let popped = keeps-redo l (take (length W.redo - 1) W.redo) [] (state ∷ []) K held trades left in
      record { x = there.0; last = there.1; keeps = keeps-current state there.0 popped there.2; before = current-stands popped }

-- ## Room

-- the spares that were asked for suffice for another map of versions, or for another state, and then for a turn to it
pub spares-kept : (old new : Heap Bytes) (c k n m : ℕ) → (2 ≤ old.spare_cells) × (EDIT_NODES + n ≤ old.spare_nodes) → Makes old new 0 0 → c ≤ 2 → k ≤ EDIT_NODES → m ≡ n → (c ≤ new.spare_cells) × (k + m ≤ new.spare_nodes)
spares-kept old new c k n m spares makes cells nodes same = (omega (arith, spares.0, makes.spare_cells, cells), omega (arith, spares.1, makes.spare_nodes, nodes, same))

pub spares-suffice : (h : Heap Bytes) (c k n m : ℕ) → (2 ≤ h.spare_cells) × (EDIT_NODES + n ≤ h.spare_nodes) → c ≤ 2 → k ≤ EDIT_NODES → m ≡ n → (c ≤ h.spare_cells) × (k + m ≤ h.spare_nodes)
spares-suffice h c k n m spares cells nodes same = (omega (arith, spares.0, cells), omega (arith, spares.1, nodes, same))

-- a state was made after room was, and it is held besides: all that a turn to it takes
pub record HasNext (s t : RootedHeap) (next : ℕ) (x : State) (W : Workspace) (n : ℕ) : Type 0 where
  pub turns : TurnsTo s t (next ∷ []) (53 + n) W
  pub is : IsStateIn t.heap t.bits next x
  pub spares : HasSpares t.heap 0 TURN_NODES

pub has-next : {s t : RootedHeap} {new : Heap Bytes} {next c : ℕ} {x : State} {W : Workspace} (k n m : ℕ) → Keeps s [] W → RoomIsMade s t (EDIT_NODES + n) → Answered t.heap new [] next c (k + m) → IsStateIn new t.bits next x
    → c + k ≤ 53 → m ≡ n → HasNext s (record t { heap = new }) next x W n
has-next k n m K room answered is few alike = record {
  turns = turns-by (53 + n) (keeps-gained (keeps-same room.same K) answered) room.same.bits (rises-more (53 + n) (rises-then (rises-same room.same.heap) (rises-answered answered)) (omega (arith, few, alike)));
  is = is;
  spares = (omega arith, omega (arith, room.spares.1, answered.balance.spare_nodes, answered.nodes, few, alike));
}

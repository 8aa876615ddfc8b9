-- How an edit in place of the current state ends.
use Rattle.std.proofs.Common.{◌≡◌, ℕ, ◌+◌, ◌≤◌, List, [], ◌∷◌, Bool, true, false, cond, Option, Some, None, is_some, Result, Ok, Err, refl, sym, subst, ap, ◌∙◌, arith}
use Rattle.std.specs.Prelude.{if◌then◌else◌, IsErrAnd, MatchResult, option_map}
use Rattle.std.specs.Ordering.{is_eq}
use Rattle.std.specs.Cmp.Lexicographic.{nat_list_cmp_total}
use Rattle.std.specs.FinMap as finite
use Rattle.elem_core.specs.Cell.{IsCell}
use Rattle.node_heap.specs.Links.{count}
use Rattle.node_heap.specs.Forms.{cell, form_of}
use Rattle.node_heap.specs.Heap.{Heap, hold_count, live_count, IsGraph}
use Rattle.node_heap.specs.Calls.{Adds, Answered, Extends, KeepsHeld, Makes, Trades}
use Rattle.shell_terms.specs.Edit.{Bytes, PlainEdit}
use Rattle.shell_terms.specs.Command.{edit}
use Rattle.plain_space.specs.declared.refusal.Refusal.{Refusal}
use Rattle.plain_space.specs.declared.refusal.Refusal.TheVariants.{Memory}
use Rattle.plain_space.specs.Workspace.{State, Workspace, in_batch, lines_of, with_lines, undo_with, with_current}
use Rattle.plain_space.specs.Edited.{edited}
use Rattle.plain_space.specs.Cost.{alike_buffers, edit_cost, cost}
use Rattle.state_rows.specs.Reading.{StandsIfThere}
use Rattle.state_rows.specs.InHeap.{IsTextIn, IsStateIn}
use Rattle.state_rows.specs.EditedStates.{MakesAtMost}
use Rattle.state_rows.proofs.Keys.{by_bytes, same-name}
use Rattle.space_state.specs.declared.roots.RootedHeap.{RootedHeap}
use Rattle.space_state.specs.declared.undo_end.TheConstants.{TURN_NODES}
use Rattle.space_state.specs.Roots.{Keeps}
use Rattle.space_state.specs.BatchEdits.{current_kept, new_key}
use Rattle.space_state.specs.Turns.{TurnsTo, TurnsBeside, IsReadyInPlace, IsCarriedOut, RoomIsRefused}
use Rattle.space_state.proofs.Keeping.{keeps-gained, keeps-placed, current-holds, left-over, held-beside, trades-beside, answered-cell, Rises, rises-answered, rises-then, rises-more, rises-trades, turns-of, turns-by}
use Rattle.space_state.proofs.Editing.{does, cost-edit}

-- ## The current state is kept

abbrev kept_by : Bool → Workspace → Workspace
kept_by inside W = record W { undo = if inside then W.undo else undo_with W W.current; redo = if inside then W.redo else [] }

pub kept-inside : (W : Workspace) → in_batch W ≡ true → current_kept W ≡ W
kept-inside W inside = ap (λ (b : Bool). kept_by b W) inside

pub kept-outside : (W : Workspace) → in_batch W ≡ false → current_kept W ≡ record W { undo = undo_with W W.current; redo = [] }
kept-outside W outside = ap (λ (b : Bool). kept_by b W) outside

-- with another current state then, it is the workspace with that state
pub then-current : (W : Workspace) (x : State) → record (current_kept W) { current = x } ≡ with_current W x
then-current W x = by_batch (in_batch W)
  where
    by_batch : (b : Bool) → record (kept_by b W) { current = x } ≡ (if b then record W { current = x } else record W { current = x; undo = undo_with W W.current; redo = [] })
    by_batch true = refl
    by_batch false = refl

-- memory was refused, which leaves all as it was
pub ready-refused : {X : Type 0} (P : X → Type 0) {s t : RootedHeap} (result : Result X Refusal) → IsErrAnd result (λ why. why ≡ Memory) → t ≡ s → MatchResult result P (RoomIsRefused s t)
ready-refused P (Ok x) is same = absurd is
ready-refused P (Err why) is same = record { same = same; due = is }

-- ## A row that came is held besides

pub record IsBeside (s t : RootedHeap) (mid : Heap Bytes) (k : ℕ) (W : Workspace) : Type 0 where
  pub keeps : Keeps (record t { heap = mid }) (k ∷ []) (current_kept W)
  pub bits : t.bits ≡ s.bits
  pub rises : Rises s.heap mid (TURN_NODES + 1)
  pub few : in_batch W ≡ true → MakesAtMost s.heap mid 1

pub is-beside : {s t : RootedHeap} {mid : Heap Bytes} {k c n m : ℕ} {W : Workspace} → IsReadyInPlace s t W m → Answered t.heap mid [] k c n → c + n ≡ 1 → mid.made ≤ t.heap.made + 1 → live_count t.heap ≤ live_count mid → IsBeside s t mid k W
is-beside {c = c} {n = n} ready a one made live = record {
  keeps = keeps-gained ready.turns.keeps a;
  bits = ready.turns.bits;
  rises = rises-more (TURN_NODES + 1) (rises-then (turns-of ready.turns) (rises-answered a)) (omega (arith, one));
  few = λ inside. omega (arith, made, live, ready.few inside);
}

pub alike-beside : {s t : RootedHeap} {mid : Heap Bytes} {k : ℕ} {W : Workspace} → IsBeside s t mid k W → (now : State) (name : Bytes) → alike_buffers t.bits now name ≡ alike_buffers s.bits now name
alike-beside beside now name = λ i. alike_buffers (beside.bits i) now name

pub alike-turned : {s t : RootedHeap} {b : List ℕ} {m : ℕ} {V : Workspace} → TurnsTo s t b m V → (now : State) (name : Bytes) → alike_buffers t.bits now name ≡ alike_buffers s.bits now name
alike-turned turns now name = λ i. alike_buffers (turns.bits i) now name

-- a line's cell
pub cell-beside : {s t : RootedHeap} {mid : Heap Bytes} {k m : ℕ} {text : Bytes} {W : Workspace} → IsReadyInPlace s t W m → Adds t.heap mid k (cell text) → Makes t.heap mid 1 0 → hold_count mid ≡ hold_count t.heap + 1 → IsGraph mid → Extends t.heap mid
    → IsBeside s t mid k W
cell-beside ready adds makes total graph extends = is-beside ready (answered-cell extends graph adds total makes) refl (omega (arith, makes.made)) (omega (arith, makes.live))

pub cell-text : {old mid : Heap Bytes} {k : ℕ} {made text : Bytes} (bits : ℕ) → Adds old mid k (cell made) → made ≡ text → IsCell text → IsTextIn mid bits k text
cell-text bits adds same is = record { row = ap (option_map form_of) adds.here ∙ ap (λ (x : Bytes). Some (cell x)) same; line = is }

-- the state was edited in place
pub placed : {s t : RootedHeap} {mid new : Heap Bytes} {k r c n : ℕ} {W : Workspace} {x : State} (change : PlainEdit) → IsBeside s t mid k W → edited W.current change ≡ Ok x
    → KeepsHeld (λ l. count l (t.roots.current ∷ k ∷ [])) mid new → Trades mid new (t.roots.current ∷ k ∷ []) (r ∷ []) c n → IsStateIn new t.bits r x → TURN_NODES + 1 + (c + n) ≤ edit_cost s.bits change W.current → (in_batch W ≡ true → MakesAtMost s.heap new 2)
    → IsCarriedOut (edit change) s (record t { heap = new; roots = record t.roots { current = r } }) W
placed {s} {t} {new = new} {r = r} {W = W} {x = x} change beside made held trades is less few = record {
  after = with_current W x;
  told = does W change x made;
  turns =
      turns-by (cost s.bits (edit change) W) (subst (λ (V : Workspace). Keeps (record t { heap = new; roots = record t.roots { current = r } }) [] V) (then-current W x) (keeps-placed r x (_ ∷ []) [] beside.keeps held trades is)) beside.bits
      (rises-more (cost s.bits (edit change) W) (rises-then beside.rises (rises-trades trades)) (omega (arith, less, cost-edit s.bits change W)));
  few_made = λ placed inside. few inside;
}

-- ## Lines that are put in their buffer

module _ {X : Type 0} where
  -- there is a buffer for which no key was made
  pub key-none : (there : Option X) (name : Bytes) → None ≡ new_key there name → (x : X) × (there ≡ Some x)
  key-none None name is = absurd (let h = is in cc)
  key-none (Some x) name is = (x, refl)

  -- and none for which one was made, which is its name
  pub key-some : (there : Option X) (name : Bytes) {key : Bytes} → Some key ≡ new_key there name → (there ≡ None) × (key ≡ name)
  key-some None name is = (refl, (let h = is in cc))
  key-some (Some x) name is = absurd (let h = is in cc)

  pub key-needless : (found : Option X) (name : Bytes) → is_some found ≡ true → None ≡ new_key found name
  key-needless None name is = absurd (let h = is in cc)
  key-needless (Some x) name is = refl

  pub key-wanted : (found : Option X) (name : Bytes) {key : Bytes} → is_some found ≡ false → key ≡ name → Some key ≡ new_key found name
  key-wanted None name is same = ap Some same
  key-wanted (Some x) name is same = absurd (let h = is in cc)

  -- the key is told by the link that was found
  pub key-told : (IsValue : ℕ → X → Type 0) (told : Option ℕ) (there : Option X) (name : Bytes) → StandsIfThere IsValue told there → new_key told name ≡ new_key there name
  key-told IsValue None None name stands = refl
  key-told IsValue None (Some x) name stands = absurd stands
  key-told IsValue (Some l) None name stands = absurd stands
  key-told IsValue (Some l) (Some x) name stands = refl

  pub no-key : {there : Option X} {x : X} (name : Bytes) → there ≡ Some x → None ≡ new_key there name
  no-key name is = sym (ap (λ (o : Option X). new_key o name) is)

-- which buffers are there stays where one that is there has other lines
pub key-later : (now : State) (name other : Bytes) (xs : List Bytes) → None ≡ new_key (lines_of now name) name → new_key (lines_of (with_lines now name xs) other) other ≡ new_key (lines_of now other) other
key-later now name other xs none =
    ap (λ (o : Option (List Bytes)). new_key o other) (finite.get-insert nat_list_cmp_total now.buffers name xs other) ∙ at (is_eq (by_bytes other name)) refl
  where
    at : (t : Bool) → is_eq (by_bytes other name) ≡ t → new_key (cond t (Some xs) (lines_of now other)) other ≡ new_key (lines_of now other) other
    at true same = no-key other (ap (lines_of now) (same-name other name same) ∙ (key-none (lines_of now name) name none).1)
    at false apart = refl

-- the current state has lines in place of others, or a buffer more, and what is held besides stays
pub lines-placed : {s : RootedHeap} {new : Heap Bytes} {k l c n : ℕ} {b : List ℕ} {W : Workspace} {x : State} (c' n' : ℕ) → Keeps s (l ∷ b) W → KeepsHeld (λ m. count m (s.roots.current ∷ l ∷ [])) s.heap new
    → Trades s.heap new (s.roots.current ∷ l ∷ []) (k ∷ []) c n → IsStateIn new s.bits k x → c ≤ c' → n ≤ n' → TurnsBeside s (record s { heap = new; roots = record s.roots { current = k } }) b c' n' (record W { current = x })
lines-placed {s} {k = k} {l = l} {b = b} {x = x} c' n' K held trades is more_cells more_nodes =
    let spent : List ℕ = s.roots.current ∷ l ∷ [] in
    let placed = keeps-placed k x (l ∷ b) b K (held-beside spent b held) (trades-beside spent (k ∷ []) b trades) is in
    record {
      turns = turns-by (c' + n') placed refl (rises-more (c' + n') (rises-trades trades) (omega (arith, more_cells, more_nodes)));
      stays = λ m some. held.kept m (left-over m spent b (current-holds K m) some);
      spare_cells = omega (arith, trades.cells, trades.balance.spare_cells, more_cells);
      spare_nodes = omega (arith, trades.nodes, trades.balance.spare_nodes, more_nodes);
    }

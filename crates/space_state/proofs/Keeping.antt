-- How what a rooted heap keeps follows from one call to the next: what calls answer, what is released, which root is another, and how
-- far the rows rise.
use Rattle.std.proofs.Common.{◌≡◌, ℕ, ◌+◌, ◌<◌, ◌≤◌, List, [], ◌∷◌, ◌++◌, length, Bool, Option, Some, None, IsSome, Result, Ok, Err, refl, sym, ap, subst, ◌∙◌, arith, length-append}
use Rattle.std.specs.Prelude.{◌↔◌, IsTrue, sum_by, OnErr}
use Rattle.elem_core.specs.declared.codes.TheConstants.{CODE_BITS}
use Rattle.node_heap.specs.Links.{count}
use Rattle.node_heap.specs.Forms.{cell, is_cell, is_node}
use Rattle.node_heap.specs.Heap.{Heap, row_at, holds_at, hold_count, live_count, cell_count, node_count, one_at, form_at, IsGraph, half_holds}
use Rattle.node_heap.specs.Calls.{Extends, KeepsHeld, Makes, Releases, Trades, Unchanged, HasGreater, Adds, Answered}
use Rattle.node_heap.proofs.Counts.{test_same}
use Rattle.node_heap.proofs.Frames.{KeepsHeld-Releases, Balances-Makes}
use Rattle.node_heap.proofs.GraphLemmas.{IsGraph-kinds}
use Rattle.node_heap.proofs.BuildLemmas.{count-cons, count-append}
use Rattle.rrb_core.specs.Vector.{IsGoodVector, elements}
use Rattle.champ_kinds.proofs.ZipLemmas.{zip-length}
use Rattle.shell_terms.specs.Edit.{Bytes}
use Rattle.plain_space.specs.Workspace.{Named, State, Workspace, most}
use Rattle.state_rows.specs.Stay.{StandsOn}
use Rattle.state_rows.specs.Reading.{IsText}
use Rattle.state_rows.specs.InHeap.{AreLinesIn, IsStateIn, AreVersionsIn, IsHistoryIn}
use Rattle.state_rows.specs.Standing.{IsBase, HeapStandsFor}
use Rattle.state_rows.proofs.Staying.{states-stay}
use Rattle.space_state.specs.declared.roots.Batch.{Batch}
use Rattle.space_state.specs.declared.roots.Batch.TheVariants.{Closed, Open}
use Rattle.space_state.specs.declared.roots.Roots.{Roots}
use Rattle.space_state.specs.declared.roots.RootedHeap.{RootedHeap}
use Rattle.space_state.specs.Roots.{base_of, root_list, IsBounded, Keeps}
use Rattle.space_state.specs.Turns.{RowsRise, IsSame, TurnsTo, TurnsBeside}
use Rattle.space_state.specs.View.{room_of}

-- ## Counts

-- the first link of a list is counted
pub first-counts : (l : ℕ) (ls : List ℕ) → 0 < count l (l ∷ ls)
first-counts l ls = omega (arith, count-cons l l ls, test_same l l refl)

pub second-counts : (l k : ℕ) (ls : List ℕ) → 0 < count k (l ∷ k ∷ ls)
second-counts l k ls = omega (arith, count-cons k l (k ∷ ls), first-counts k ls)

-- how often a link is a root
pub roots-count : (roots : Roots) (k : ℕ) → count k (root_list roots) ≡ one_at roots.current k + one_at roots.versions k + one_at roots.undo k + one_at roots.redo k + count k (base_of roots.batch)
roots-count roots k = omega (
  arith,
  count-cons k roots.current (roots.versions ∷ roots.undo ∷ roots.redo ∷ base_of roots.batch),
  count-cons k roots.versions (roots.undo ∷ roots.redo ∷ base_of roots.batch),
  count-cons k roots.undo (roots.redo ∷ base_of roots.batch),
  count-cons k roots.redo (base_of roots.batch),
)

-- ## What stands

-- the roots of a heap stand where each of them does
pub base-stays : (old new : Heap Bytes) (bits : ℕ) (batch : Batch) (base : Option State) → ((l : ℕ) → 0 < count l (base_of batch) → StandsOn old new bits l)
    → IsBase (IsStateIn old bits) (base_of batch) base → IsBase (IsStateIn new bits) (base_of batch) base
base-stays old new bits Closed None stay is = tt
base-stays old new bits Closed (Some s) stay is = absurd is
base-stays old new bits (Open l) None stay is = absurd is
base-stays old new bits (Open l) (Some s) stay is = (stay l (first-counts l [])).state s is

pub roots-stay : (old new : Heap Bytes) (bits : ℕ) (roots : Roots) (W : Workspace) → ((l : ℕ) → 0 < count l (root_list roots) → StandsOn old new bits l)
    → HeapStandsFor old bits (root_list roots) W → HeapStandsFor new bits (root_list roots) W
roots-stay old new bits roots W stay stand =
    let among = roots-count roots in (
      (stay roots.current (omega (arith, among roots.current, test_same roots.current roots.current refl))).state W.current stand.0,
      (stay roots.versions (omega (arith, among roots.versions, test_same roots.versions roots.versions refl))).versions W.versions stand.1,
      (stay roots.undo (omega (arith, among roots.undo, test_same roots.undo roots.undo refl))).history W.undo stand.2,
      (stay roots.redo (omega (arith, among roots.redo, test_same roots.redo roots.redo refl))).history W.redo stand.3,
      base-stays old new bits roots.batch W.base (λ l some. stay l (omega (arith, among l, some))) stand.4,
    )

-- ## What is held

-- the parts of a rooted heap that keeps a workspace, with the holds of roots and of others apart
pub keeps-of : (s : RootedHeap) (b : List ℕ) (W : Workspace) → IsGraph s.heap → s.bits ≤ CODE_BITS → IsBounded s.history W → HeapStandsFor s.heap s.bits (root_list s.roots) W
    → ((k : ℕ) → holds_at s.heap k ≡ count k (root_list s.roots) + count k b) → hold_count s.heap ≡ 4 + length (base_of s.roots.batch) + length b → Keeps s b W
keeps-of s b W graph bits bounded stands holds total = record {
  graph = graph;
  bits = bits;
  bounded = bounded;
  stands = stands;
  holds = λ k. omega (arith, holds k, count-append k (root_list s.roots) b);
  total = omega (arith, total, length-append (root_list s.roots) b);
}

pub keeps-holds : {s : RootedHeap} {b : List ℕ} {W : Workspace} → Keeps s b W → (k : ℕ) → holds_at s.heap k ≡ count k (root_list s.roots) + count k b
keeps-holds {s} {b} K k = omega (arith, K.holds k, count-append k (root_list s.roots) b)

pub keeps-total : {s : RootedHeap} {b : List ℕ} {W : Workspace} → Keeps s b W → hold_count s.heap ≡ 4 + length (base_of s.roots.batch) + length b
keeps-total {s} {b} K = omega (arith, K.total, length-append (root_list s.roots) b)

base-length : (batch : Batch) → length (base_of batch) ≤ 1
base-length Closed = omega arith
base-length (Open l) = omega arith

-- there are few holds
pub holds-few : {s : RootedHeap} {b : List ℕ} {W : Workspace} → Keeps s b W → hold_count s.heap ≤ 5 + length b
holds-few {s} {b} K = omega (arith, keeps-total K, base-length s.roots.batch)

pub few-holds : {s : RootedHeap} {b : List ℕ} {W : Workspace} → Keeps s b W → length b ≤ 100 → hold_count s.heap < half_holds
few-holds K short = omega (arith, holds-few K, short)

pub root-held : {s : RootedHeap} {b : List ℕ} {W : Workspace} → Keeps s b W → (k : ℕ) → 0 < count k (root_list s.roots) → 0 < holds_at s.heap k
root-held K k some = omega (arith, keeps-holds K k, some)

pub current-held : {s : RootedHeap} {b : List ℕ} {W : Workspace} → Keeps s b W → 0 < holds_at s.heap s.roots.current
current-held {s} K = omega (arith, keeps-holds K s.roots.current, roots-count s.roots s.roots.current, test_same s.roots.current s.roots.current refl)

pub undo-held : {s : RootedHeap} {b : List ℕ} {W : Workspace} → Keeps s b W → 0 < holds_at s.heap s.roots.undo
undo-held {s} K = omega (arith, keeps-holds K s.roots.undo, roots-count s.roots s.roots.undo, test_same s.roots.undo s.roots.undo refl)

pub redo-held : {s : RootedHeap} {b : List ℕ} {W : Workspace} → Keeps s b W → 0 < holds_at s.heap s.roots.redo
redo-held {s} K = omega (arith, keeps-holds K s.roots.redo, roots-count s.roots s.roots.redo, test_same s.roots.redo s.roots.redo refl)

-- a link that is besides is held
pub besides-held : {s : RootedHeap} {b : List ℕ} {W : Workspace} → Keeps s b W → (k : ℕ) → 0 < count k b → 0 < holds_at s.heap k
besides-held K k some = omega (arith, keeps-holds K k, some)

pub first-held : {s : RootedHeap} {b : List ℕ} {W : Workspace} {l : ℕ} → Keeps s (l ∷ b) W → 0 < holds_at s.heap l
first-held {b = b} {l = l} K = besides-held K l (first-counts l b)

pub second-held : {s : RootedHeap} {b : List ℕ} {W : Workspace} {l k : ℕ} → Keeps s (l ∷ k ∷ b) W → 0 < holds_at s.heap k
second-held {b = b} {l = l} {k = k} K = besides-held K k (second-counts l k b)

-- what is held is there
pub held-live : {s : RootedHeap} {b : List ℕ} {W : Workspace} → Keeps s b W → (k : ℕ) → 0 < holds_at s.heap k → IsSome (row_at s.heap k)
held-live K k some = K.graph.held k some

-- what the current root stands for, and the others
pub current-stands : {s : RootedHeap} {b : List ℕ} {W : Workspace} → Keeps s b W → IsStateIn s.heap s.bits s.roots.current W.current
current-stands K = K.stands.0

pub versions-stand : {s : RootedHeap} {b : List ℕ} {W : Workspace} → Keeps s b W → AreVersionsIn s.heap s.bits s.roots.versions W.versions
versions-stand K = K.stands.1

pub undo-stands : {s : RootedHeap} {b : List ℕ} {W : Workspace} → Keeps s b W → IsHistoryIn s.heap s.bits s.roots.undo W.undo
undo-stands K = K.stands.2

pub redo-stands : {s : RootedHeap} {b : List ℕ} {W : Workspace} → Keeps s b W → IsHistoryIn s.heap s.bits s.roots.redo W.redo
redo-stands K = K.stands.3

-- what is held besides may be listed in any order
pub keeps-besides : {s : RootedHeap} {b : List ℕ} {W : Workspace} (b' : List ℕ) → ((k : ℕ) → count k b' ≡ count k b) → length b' ≡ length b → Keeps s b W → Keeps s b' W
keeps-besides {s} {b} {W} b' counts lengths K =
    keeps-of s b' W K.graph K.bits K.bounded K.stands (λ k. omega (arith, keeps-holds K k, counts k)) (omega (arith, keeps-total K, lengths))

pub keeps-swapped : {s : RootedHeap} {b : List ℕ} {W : Workspace} {l k : ℕ} → Keeps s (l ∷ k ∷ b) W → Keeps s (k ∷ l ∷ b) W
keeps-swapped {b = b} {l = l} {k = k} K =
    keeps-besides (k ∷ l ∷ b) (λ n. omega (arith, count-cons n k (l ∷ b), count-cons n l b, count-cons n l (k ∷ b), count-cons n k b)) refl K

-- ## What is left beside holds that are spent

pub left-over : {n : ℕ} (k : ℕ) (spent b : List ℕ) → count k (spent ++ b) ≤ n → 0 < count k b → count k spent < n
left-over k spent b enough some = omega (arith, enough, some, count-append k spent b)

pub fewer-holds : {n : ℕ} (k : ℕ) (spent b : List ℕ) → count k (spent ++ b) ≤ n → count k spent ≤ n
fewer-holds k spent b enough = omega (arith, enough, count-append k spent b)

-- what is spent may be told with what stays held
pub held-beside : {old new : Heap Bytes} (spent b : List ℕ) → KeepsHeld (λ l. count l spent) old new → KeepsHeld (λ l. count l (spent ++ b)) old new
held-beside spent b held = record {
  live = λ l some. held.live l (omega (arith, some, count-append l spent b));
  kept = λ l some. held.kept l (omega (arith, some, count-append l spent b));
  left = λ l. omega (arith, held.left l, count-append l spent b);
}

pub trades-beside : {old new : Heap Bytes} {c n : ℕ} (spent gained b : List ℕ) → Trades old new spent gained c n → Trades old new (spent ++ b) (gained ++ b) c n
trades-beside spent gained b trades = record {
  graph = trades.graph;
  holds = λ k. omega (arith, trades.holds k, count-append k spent b, count-append k gained b);
  total = omega (arith, trades.total, length-append spent b, length-append gained b);
  cells = trades.cells;
  nodes = trades.nodes;
  balance = trades.balance;
  made = trades.made;
}

-- ## Where every row stays

-- what a held link stands for stays where every row stays
pub held-stands : {s : RootedHeap} {b : List ℕ} {W : Workspace} {new : Heap Bytes} → Keeps s b W → Extends s.heap new → (k : ℕ) → 0 < holds_at s.heap k → StandsOn s.heap new s.bits k
held-stands {s} {new = new} K extends k some = states-stay s.heap new s.bits k (extends.kept k (K.graph.held k some))

-- what is held besides may change while every row stays
pub keeps-extended : {s : RootedHeap} {b : List ℕ} {W : Workspace} {new : Heap Bytes} (b' : List ℕ) → Keeps s b W → Extends s.heap new → IsGraph new
    → ((k : ℕ) → holds_at new k + count k b ≡ holds_at s.heap k + count k b') → hold_count new + length b ≡ hold_count s.heap + length b' → Keeps (record s { heap = new }) b' W
keeps-extended {s} {b} {W} {new} b' K extends graph holds total =
    keeps-of (record s { heap = new }) b' W graph K.bits K.bounded
    (roots-stay s.heap new s.bits s.roots W (λ l some. held-stands K extends l (root-held K l some)) K.stands)
    (λ k. omega (arith, keeps-holds K k, holds k)) (omega (arith, keeps-total K, total))

-- a call that answers holds a link more
pub keeps-gained : {s : RootedHeap} {b : List ℕ} {W : Workspace} {new : Heap Bytes} {l c n : ℕ} → Keeps s b W → Answered s.heap new [] l c n → Keeps (record s { heap = new }) (l ∷ b) W
keeps-gained {b = b} {l = l} K a = keeps-extended (l ∷ b) K a.extends a.graph (λ k. omega (arith, a.holds k, count-cons k l b)) (omega (arith, a.count))

-- one link is held in place of another
pub keeps-turned : {s : RootedHeap} {b : List ℕ} {W : Workspace} {new : Heap Bytes} {l k c n : ℕ} → Keeps s (l ∷ b) W → Answered s.heap new (l ∷ []) k c n → Keeps (record s { heap = new }) (k ∷ b) W
keeps-turned {b = b} {l = l} {k = k} K a =
    keeps-extended (k ∷ b) K a.extends a.graph (λ n. omega (arith, a.holds n, count-cons n k b, count-cons n l b, count-cons n l [])) (omega (arith, a.count))

-- a hold more of a row, or a new row that is held once, is as a call that answers
pub answered-one : {old new : Heap Bytes} {l c n : ℕ} → Extends old new → IsGraph new → ((k : ℕ) → holds_at new k ≡ holds_at old k + one_at l k) → hold_count new ≡ hold_count old + 1 → Makes old new c n
    → Answered old new [] l c n
answered-one extends graph holds total makes = record {
  extends = extends;
  graph = graph;
  holds = λ k. omega (arith, holds k);
  count = omega (arith, total);
  cells = omega (arith, makes.cells);
  nodes = omega (arith, makes.nodes);
  balance = Balances-Makes makes;
}

-- a new cell is so too
pub answered-cell : {old new : Heap Bytes} {l : ℕ} {text : Bytes} → Extends old new → IsGraph new → Adds old new l (cell text) → hold_count new ≡ hold_count old + 1 → Makes old new 1 0 → Answered old new [] l 1 0
answered-cell extends graph adds total makes = answered-one extends graph (λ k. omega (arith, adds.holds k)) total makes

-- ## Where nothing changes but spares

pub unchanged-stands : {old new : Heap Bytes} (bits : ℕ) → Unchanged old new → (k : ℕ) → StandsOn old new bits k
unchanged-stands {old} {new} bits same k = states-stay old new bits k (λ m down. same.rows m)

pub keeps-same : {s s' : RootedHeap} {b : List ℕ} {W : Workspace} → IsSame s s' → Keeps s b W → Keeps s' b W
keeps-same {s} {s'} {b} {W} same K =
    keeps-of s' b W same.heap.graph (omega (arith, same.bits, K.bits)) (subst (λ (n : ℕ). IsBounded n W) (sym same.history) K.bounded)
    (subst (λ (r : Roots). HeapStandsFor s'.heap s'.bits (root_list r) W) (sym same.roots)
    (subst (λ (n : ℕ). HeapStandsFor s'.heap n (root_list s.roots) W) (sym same.bits) (roots-stay s.heap s'.heap s.bits s.roots W (λ l some. unchanged-stands s.bits same.heap l) K.stands)))
    (λ k. omega (arith, same.heap.holds k, keeps-holds K k, ap (λ (r : Roots). count k (root_list r)) same.roots))
    (omega (arith, same.heap.count, keeps-total K, ap (λ (r : Roots). length (base_of r.batch)) same.roots))

-- room is made
pub same-heap : {s : RootedHeap} {new : Heap Bytes} → Unchanged s.heap new → IsSame s (record s { heap = new })
same-heap same = record { roots = refl; bits = refl; history = refl; heap = same }

-- where room was refused, all is as it was
pub heap-is : {s : RootedHeap} {new : Heap Bytes} → new ≡ s.heap → record s { heap = new } ≡ s
heap-is {s} same = ap (λ (h : Heap Bytes). record s { heap = h }) same

pub heap-refused : {X Y : Type 0} (s : RootedHeap) (new : Heap Bytes) (result : Result X Y) → OnErr result (new ≡ s.heap) → OnErr result (record s { heap = new } ≡ s)
heap-refused s new (Ok x) same = tt
heap-refused s new (Err e) same = heap-is same

-- ## The room of a heap

room-as : (old new : Heap Bytes) → cell_count new + new.spare_cells ≡ cell_count old + old.spare_cells → node_count new + new.spare_nodes ≡ node_count old + old.spare_nodes → room_of new ≡ room_of old
room-as old new cells nodes = λ i. record { cells = cells i; nodes = nodes i }

-- what was asked for is the room of a heap that was empty
pub room-begun : {old new : Heap Bytes} (cells nodes : ℕ) → old.rows ≡ [] → old.spare_cells ≡ 0 → old.spare_nodes ≡ 0 → Unchanged old new → HasGreater old new cells nodes → room_of new ≡ record { cells = cells; nodes = nodes }
room-begun {old} {new} cells nodes empty no_cells no_nodes rest greater =
    let all_cells : cell_count new + new.spare_cells ≡ cells = omega (arith, rest.cells, ap (sum_by is_cell) empty, no_cells, greater.spare_cells) in
    let all_nodes : node_count new + new.spare_nodes ≡ nodes = omega (arith, rest.nodes, ap (sum_by is_node) empty, no_nodes, greater.spare_nodes) in
    λ i. record { cells = all_cells i; nodes = all_nodes i }

-- it stays where rows are made of spares, and where they become spares
pub room-made : {old new : Heap Bytes} {c n : ℕ} → Makes old new c n → room_of new ≡ room_of old
room-made {old} {new} makes = room-as old new (omega (arith, makes.cells, makes.spare_cells)) (omega (arith, makes.nodes, makes.spare_nodes))

pub room-released : {old new : Heap Bytes} {l : ℕ} → Releases old new l → room_of new ≡ room_of old
room-released {old} {new} rel = room-as old new (omega (arith, rel.cells)) (omega (arith, rel.nodes))

-- ## Where a hold is given up

-- what keeps a hold stands
pub released-stands : {s : RootedHeap} {b : List ℕ} {W : Workspace} {new : Heap Bytes} {l : ℕ} → Keeps s (l ∷ b) W → Releases s.heap new l → IsGraph new
    → (k : ℕ) → 0 < count k (root_list s.roots) + count k b → StandsOn s.heap new s.bits k
released-stands {s} {b} {new = new} {l = l} K rel graph k some =
    states-stay s.heap new s.bits k ((KeepsHeld-Releases s.heap new l rel graph).kept k (omega (arith, keeps-holds K k, count-cons k l b, some)))

pub keeps-released : {s : RootedHeap} {b : List ℕ} {W : Workspace} {new : Heap Bytes} {l : ℕ} → Keeps s (l ∷ b) W → Releases s.heap new l → IsGraph new → Keeps (record s { heap = new }) b W
keeps-released {s} {b} {W} {new} {l} K rel graph =
    keeps-of (record s { heap = new }) b W graph K.bits K.bounded
    (roots-stay s.heap new s.bits s.roots W (λ k some. released-stands K rel graph k (omega (arith, some))) K.stands)
    (λ k. omega (arith, keeps-holds K k, count-cons k l b, rel.holds k)) (omega (arith, keeps-total K, rel.count))

-- ## Where a root is another

pub keeps-current : {s : RootedHeap} {b : List ℕ} {W : Workspace} (next : ℕ) (x : State) → Keeps s (next ∷ b) W → IsStateIn s.heap s.bits next x
    → Keeps (record s { roots = record s.roots { current = next } }) (s.roots.current ∷ b) (record W { current = x })
keeps-current {s} {b} {W} next x K is =
    let roots : Roots = record s.roots { current = next } in
    keeps-of (record s { roots = roots }) (s.roots.current ∷ b) (record W { current = x }) K.graph K.bits K.bounded (is, K.stands.1, K.stands.2, K.stands.3, K.stands.4)
    (λ k. omega (arith, keeps-holds K k, count-cons k next b, count-cons k s.roots.current b, roots-count s.roots k, roots-count roots k)) (omega (arith, keeps-total K))

pub keeps-versions : {s : RootedHeap} {b : List ℕ} {W : Workspace} (next : ℕ) (m : Named State) → Keeps s (next ∷ b) W → AreVersionsIn s.heap s.bits next m
    → Keeps (record s { roots = record s.roots { versions = next } }) (s.roots.versions ∷ b) (record W { versions = m })
keeps-versions {s} {b} {W} next m K are =
    let roots : Roots = record s.roots { versions = next } in
    keeps-of (record s { roots = roots }) (s.roots.versions ∷ b) (record W { versions = m }) K.graph K.bits K.bounded (K.stands.0, are, K.stands.2, K.stands.3, K.stands.4)
    (λ k. omega (arith, keeps-holds K k, count-cons k next b, count-cons k s.roots.versions b, roots-count s.roots k, roots-count roots k)) (omega (arith, keeps-total K))

-- ## Where a history is edited in place

pub history-length : {h : Heap Bytes} {bits l : ℕ} {ss : List State} → IsHistoryIn h bits l ss → length (elements h l) ≡ length ss
history-length {h} {bits} {l} {ss} is = zip-length (IsStateIn h bits) (elements h l) ss is.values

pub history-short : {h : Heap Bytes} {bits l : ℕ} {ss : List State} → IsHistoryIn h bits l ss → length ss ≤ most
history-short is = omega (arith, history-length is, is.vector.shape.short)

-- undo is this vector, and these links are held besides in place of those
pub keeps-undo : {s : RootedHeap} {W : Workspace} {new : Heap Bytes} {c n : ℕ} (u : ℕ) (us : List State) (spent gained : List ℕ) → IsBounded s.history (record W { undo = us }) → Keeps s spent W → KeepsHeld (λ l. count l (s.roots.undo ∷ spent)) s.heap new
    → Trades s.heap new (s.roots.undo ∷ spent) (u ∷ gained) c n → IsHistoryIn new s.bits u us → Keeps (record s { heap = new; roots = record s.roots { undo = u } }) gained (record W { undo = us })
keeps-undo {s} {W} {new} u us spent gained bounded K held trades is =
    let roots : Roots = record s.roots { undo = u } in
    let among = roots-count s.roots in
    let stay : (l : ℕ) → 0 < one_at s.roots.current l + one_at s.roots.versions l + one_at s.roots.redo l + count l (base_of s.roots.batch) → StandsOn s.heap new s.bits l =
    λ l some. states-stay s.heap new s.bits l (held.kept l (omega (arith, keeps-holds K l, among l, count-cons l s.roots.undo spent, some))) in
    keeps-of (record s { heap = new; roots = roots }) gained (record W { undo = us }) trades.graph K.bits bounded (
      (stay s.roots.current (omega (arith, test_same s.roots.current s.roots.current refl))).state W.current K.stands.0,
      (stay s.roots.versions (omega (arith, test_same s.roots.versions s.roots.versions refl))).versions W.versions K.stands.1,
      is,
      (stay s.roots.redo (omega (arith, test_same s.roots.redo s.roots.redo refl))).history W.redo K.stands.3,
      base-stays s.heap new s.bits s.roots.batch W.base (λ l some. stay l (omega (arith, some))) K.stands.4,
    )
    (λ k. omega (arith, keeps-holds K k, trades.holds k, among k, roots-count roots k, count-cons k s.roots.undo spent, count-cons k u gained)) (omega (arith, keeps-total K, trades.total))

-- the current state is this one, and these links are held besides in place of those
pub keeps-placed : {s : RootedHeap} {W : Workspace} {new : Heap Bytes} {c n : ℕ} (k : ℕ) (x : State) (spent gained : List ℕ) → Keeps s spent W → KeepsHeld (λ l. count l (s.roots.current ∷ spent)) s.heap new
    → Trades s.heap new (s.roots.current ∷ spent) (k ∷ gained) c n → IsStateIn new s.bits k x → Keeps (record s { heap = new; roots = record s.roots { current = k } }) gained (record W { current = x })
keeps-placed {s} {W} {new} k x spent gained K held trades is =
    let roots : Roots = record s.roots { current = k } in
    let among = roots-count s.roots in
    let stay : (l : ℕ) → 0 < one_at s.roots.versions l + one_at s.roots.undo l + one_at s.roots.redo l + count l (base_of s.roots.batch) → StandsOn s.heap new s.bits l =
    λ l some. states-stay s.heap new s.bits l (held.kept l (omega (arith, keeps-holds K l, among l, count-cons l s.roots.current spent, some))) in
    keeps-of (record s { heap = new; roots = roots }) gained (record W { current = x }) trades.graph K.bits K.bounded (
      is,
      (stay s.roots.versions (omega (arith, test_same s.roots.versions s.roots.versions refl))).versions W.versions K.stands.1,
      (stay s.roots.undo (omega (arith, test_same s.roots.undo s.roots.undo refl))).history W.undo K.stands.2,
      (stay s.roots.redo (omega (arith, test_same s.roots.redo s.roots.redo refl))).history W.redo K.stands.3,
      base-stays s.heap new s.bits s.roots.batch W.base (λ l some. stay l (omega (arith, some))) K.stands.4,
    )
    (λ k'. omega (arith, keeps-holds K k', trades.holds k', among k', roots-count roots k', count-cons k' s.roots.current spent, count-cons k' k gained)) (omega (arith, keeps-total K, trades.total))

pub current-holds : {s : RootedHeap} {b : List ℕ} {W : Workspace} → Keeps s b W → (k : ℕ) → count k (s.roots.current ∷ b) ≤ holds_at s.heap k
current-holds {s} {b} K k = omega (arith, keeps-holds K k, roots-count s.roots k, count-cons k s.roots.current b)

-- undo and redo may be told the other way round, with a bound that what is undo then fits
abbrev turned : RootedHeap → ℕ → RootedHeap
turned s bound = record s { roots = record s.roots { undo = s.roots.redo; redo = s.roots.undo }; history = bound }

abbrev turned-work : Workspace → ℕ → Workspace
turned-work W bound = record W { undo = W.redo; redo = W.undo; history = bound }

keeps-turned-round : {s : RootedHeap} {b : List ℕ} {W : Workspace} (bound : ℕ) → bound ≤ most → length W.redo ≤ bound → Keeps s b W → Keeps (turned s bound) b (turned-work W bound)
keeps-turned-round {s} {b} {W} bound within fits K =
    keeps-of (turned s bound) b (turned-work W bound) K.graph K.bits (refl, within, fits) (K.stands.0, K.stands.1, K.stands.3, K.stands.2, K.stands.4)
    (λ k. omega (arith, keeps-holds K k, roots-count s.roots k, roots-count (record s.roots { undo = s.roots.redo; redo = s.roots.undo }) k)) (keeps-total K)

-- the bound is another, which undo fits
pub keeps-history : {s : RootedHeap} {b : List ℕ} {W : Workspace} (bound : ℕ) → bound ≤ most → length W.undo ≤ bound → Keeps s b W → Keeps (record s { history = bound }) b (record W { history = bound })
keeps-history {s} {b} {W} bound within fits K = keeps-of (record s { history = bound }) b (record W { history = bound }) K.graph K.bits (refl, within, fits) K.stands (keeps-holds K) (keeps-total K)

-- and so redo is this vector
pub keeps-redo : {s : RootedHeap} {W : Workspace} {new : Heap Bytes} {c n : ℕ} (r : ℕ) (rs : List State) (spent gained : List ℕ) → Keeps s spent W → KeepsHeld (λ l. count l (s.roots.redo ∷ spent)) s.heap new
    → Trades s.heap new (s.roots.redo ∷ spent) (r ∷ gained) c n → IsHistoryIn new s.bits r rs → Keeps (record s { heap = new; roots = record s.roots { redo = r } }) gained (record W { redo = rs })
keeps-redo {s} {W} {new} r rs spent gained K held trades is =
    let there : Keeps (turned s most) spent (turned-work W most) = keeps-turned-round most (omega arith) (history-short K.stands.3) K in
    let bounded : IsBounded most (record W { undo = rs; redo = W.undo; history = most }) = (refl, omega arith, history-short is) in
    let done = keeps-undo r rs spent gained bounded there held trades is in
    subst (λ (n : ℕ). Keeps (record s { heap = new; roots = record s.roots { redo = r }; history = n }) gained (record W { redo = rs })) K.bounded.0
    (keeps-turned-round W.history K.bounded.1 K.bounded.2 done)

-- there is a hold for undo and for what is held besides
pub undo-holds : {s : RootedHeap} {b : List ℕ} {W : Workspace} → Keeps s b W → (k : ℕ) → count k (s.roots.undo ∷ b) ≤ holds_at s.heap k
undo-holds {s} {b} K k = omega (arith, keeps-holds K k, roots-count s.roots k, count-cons k s.roots.undo b)

pub redo-holds : {s : RootedHeap} {b : List ℕ} {W : Workspace} → Keeps s b W → (k : ℕ) → count k (s.roots.redo ∷ b) ≤ holds_at s.heap k
redo-holds {s} {b} K k = omega (arith, keeps-holds K k, roots-count s.roots k, count-cons k s.roots.redo b)

-- ## Batches

-- a batch is opened with this base
pub keeps-open : {s : RootedHeap} {b : List ℕ} {W : Workspace} (l : ℕ) (x : State) → s.roots.batch ≡ Closed → Keeps s (l ∷ b) W → IsStateIn s.heap s.bits l x
    → Keeps (record s { roots = record s.roots { batch = Open l } }) b (record W { base = Some x })
keeps-open {s} {b} {W} l x closed K is =
    let roots : Roots = record s.roots { batch = Open l } in
    keeps-of (record s { roots = roots }) b (record W { base = Some x }) K.graph K.bits K.bounded (K.stands.0, K.stands.1, K.stands.2, K.stands.3, is)
    (λ k. omega (arith, keeps-holds K k, count-cons k l b, count-cons k l [], roots-count s.roots k, roots-count roots k, ap (λ (t : Batch). count k (base_of t)) closed))
    (omega (arith, keeps-total K, ap (λ (t : Batch). length (base_of t)) closed))

-- a batch is closed, and its base is held besides
pub keeps-closed : {s : RootedHeap} {b : List ℕ} {W : Workspace} (l : ℕ) → s.roots.batch ≡ Open l → Keeps s b W
    → Keeps (record s { roots = record s.roots { batch = Closed } }) (l ∷ b) (record W { base = None })
keeps-closed {s} {b} {W} l open_at K =
    let roots : Roots = record s.roots { batch = Closed } in
    keeps-of (record s { roots = roots }) (l ∷ b) (record W { base = None }) K.graph K.bits K.bounded (K.stands.0, K.stands.1, K.stands.2, K.stands.3, tt)
    (λ k. omega (arith, keeps-holds K k, count-cons k l b, count-cons k l [], roots-count s.roots k, roots-count roots k, ap (λ (t : Batch). count k (base_of t)) open_at))
    (omega (arith, keeps-total K, ap (λ (t : Batch). length (base_of t)) open_at))

-- what an open batch has for its base, and that a closed one has none
base-open : (old : Heap Bytes) (bits l : ℕ) (base : Option State) → IsBase (IsStateIn old bits) (l ∷ []) base → (x : State) × (base ≡ Some x) × IsStateIn old bits l x
base-open old bits l None is = absurd is
base-open old bits l (Some x) is = (x, refl, is)

base-closed : (old : Heap Bytes) (bits : ℕ) (base : Option State) → IsBase (IsStateIn old bits) [] base → base ≡ None
base-closed old bits None is = refl
base-closed old bits (Some x) is = absurd is

pub batch-open : {s : RootedHeap} {b : List ℕ} {W : Workspace} (l : ℕ) → s.roots.batch ≡ Open l → Keeps s b W → (x : State) × (W.base ≡ Some x) × IsStateIn s.heap s.bits l x
batch-open {s} {b} {W} l open_at K =
    base-open s.heap s.bits l W.base (subst (λ (t : Batch). IsBase (IsStateIn s.heap s.bits) (base_of t) W.base) open_at K.stands.4)

pub batch-closed : {s : RootedHeap} {b : List ℕ} {W : Workspace} → s.roots.batch ≡ Closed → Keeps s b W → W.base ≡ None
batch-closed {s} {b} {W} closed K =
    base-closed s.heap s.bits W.base (subst (λ (t : Batch). IsBase (IsStateIn s.heap s.bits) (base_of t) W.base) closed K.stands.4)

-- ## Lengths

pub lines-length : {h : Heap Bytes} {bits l : ℕ} {xs : List Bytes} → AreLinesIn h bits l xs → length (elements h l) ≡ length xs
lines-length {h} {bits} {l} {xs} are = zip-length (IsText (form_at h) (IsGoodVector h) bits) (elements h l) xs are.values

pub lines-short : {h : Heap Bytes} {bits l : ℕ} {xs : List Bytes} → AreLinesIn h bits l xs → length xs ≤ most
lines-short are = omega (arith, lines-length are, are.vector.shape.short)

-- what a vector tells of a history's length
pub count-told : {h : Heap Bytes} {bits l r m : ℕ} {ss : List State} {b : Bool} → IsHistoryIn h bits l ss → r ≡ l → (IsTrue b ↔ (length (elements h r) ≡ m)) → IsTrue b ↔ (length ss ≡ m)
count-told {h} {m = m} {b = b} is same told = subst (λ n. IsTrue b ↔ (n ≡ m)) (ap (λ l. length (elements h l)) same ∙ history-length is) told

-- ## How far the rows rise

-- so many rows more at most, and the number made rises by no fewer than came
pub record Rises (old new : Heap Bytes) (m : ℕ) : Type 0 where
  pub few : live_count new ≤ live_count old + m
  pub made : RowsRise old new

pub rises-answered : {old new : Heap Bytes} {spent : List ℕ} {l c n : ℕ} → Answered old new spent l c n → Rises old new (c + n)
rises-answered {old} {new} a = record {
  few = omega (arith, IsGraph-kinds old, IsGraph-kinds new, a.cells, a.nodes);
  made = (omega (arith, a.balance.no_fewer), omega (arith, a.balance.made));
}

pub rises-more : {old new : Heap Bytes} {m : ℕ} (m' : ℕ) → Rises old new m → m ≤ m' → Rises old new m'
rises-more m' r more = record { few = omega (arith, r.few, more); made = r.made }

pub rises-trades : {old new : Heap Bytes} {spent gained : List ℕ} {c n : ℕ} → Trades old new spent gained c n → Rises old new (c + n)
rises-trades {old} {new} trades = record {
  few = omega (arith, IsGraph-kinds old, IsGraph-kinds new, trades.cells, trades.nodes);
  made = (trades.balance.no_fewer, trades.balance.made);
}

pub rises-makes : {old new : Heap Bytes} {c n : ℕ} → Makes old new c n → Rises old new (c + n)
rises-makes makes = record {
  few = omega (arith, makes.live);
  made = (omega (arith, makes.no_fewer), omega (arith, makes.made, makes.live));
}

pub rises-released : {old new : Heap Bytes} {l : ℕ} → Releases old new l → Rises old new 0
rises-released rel = record {
  few = omega (arith, rel.fewer);
  made = (omega (arith, rel.made), omega (arith, rel.made, rel.fewer));
}

pub rises-same : {old new : Heap Bytes} → Unchanged old new → Rises old new 0
rises-same same = record {
  few = omega (arith, same.live);
  made = (omega (arith, same.made), omega (arith, same.made, same.live));
}

pub rises-refl : (h : Heap Bytes) → Rises h h 0
rises-refl h = record { few = omega arith; made = (omega arith, omega arith) }

pub rises-then : {old mid new : Heap Bytes} {m m' : ℕ} → Rises old mid m → Rises mid new m' → Rises old new (m + m')
rises-then first second = record {
  few = omega (arith, first.few, second.few);
  made = (omega (arith, first.made.0, second.made.0), omega (arith, first.made.0, first.made.1, second.made.0, second.made.1));
}

-- ## Turns

pub turns-of : {a b : RootedHeap} {besides : List ℕ} {m : ℕ} {W : Workspace} → TurnsTo a b besides m W → Rises a.heap b.heap m
turns-of t = record { few = t.few; made = t.made }

pub turns-by : {a b : RootedHeap} {besides : List ℕ} {W : Workspace} (m : ℕ) → Keeps b besides W → b.bits ≡ a.bits → Rises a.heap b.heap m → TurnsTo a b besides m W
turns-by m K bits r = record { keeps = K; bits = bits; few = r.few; made = r.made }

-- steps, and then a turn
pub turns-after : {a b c : RootedHeap} {besides : List ℕ} {n : ℕ} {W : Workspace} (m' m : ℕ) → Rises a.heap b.heap m' → b.bits ≡ a.bits → TurnsTo b c besides n W → m' + n ≤ m → TurnsTo a c besides m W
turns-after m' m r bits t more =
    turns-by m t.keeps (t.bits ∙ bits) (rises-more m (rises-then r (turns-of t)) more)

-- one turn, and then another
pub turns-then : {a b c : RootedHeap} {x y : List ℕ} {m' n : ℕ} {V W : Workspace} (m : ℕ) → TurnsTo a b x m' V → TurnsTo b c y n W → m' + n ≤ m → TurnsTo a c y m W
turns-then {m' = m'} m first second more = turns-after m' m (turns-of first) first.bits second more

-- lines that are held besides stand still
pub lines-beside : {a b : RootedHeap} {x : List ℕ} {c n l : ℕ} {V : Workspace} {xs : List Bytes} → TurnsBeside a b x c n V → 0 < count l x → AreLinesIn a.heap a.bits l xs → AreLinesIn b.heap b.bits l xs
lines-beside {a} {b} {l = l} {xs = xs} step some are =
    subst (λ (k : ℕ). AreLinesIn b.heap k l xs) (sym step.turns.bits) ((states-stay a.heap b.heap a.bits l (step.stays l some)).lines xs are)

-- How a history is edited in place: what its states stand for, what is held besides, and what is spent and gained.
use Rattle.std.proofs.Common.{◌≡◌, ℕ, ◌+◌, ◌-◌, ◌<◌, ◌≤◌, List, [], ◌∷◌, ◌++◌, length, take, drop, get_or, Option, Some, None, IsSome, ap, sym, subst, refl, ◌∙◌, arith}
use Rattle.std.specs.Prelude.{IsSomeAnd, slice_get}
use Rattle.std.specs.List.{AllZip}
use Rattle.node_heap.specs.Links.{count, here}
use Rattle.node_heap.specs.Forms.{Row}
use Rattle.node_heap.specs.Heap.{Heap, row_at, holds_at, one_at, IsGraph}
use Rattle.node_heap.specs.Calls.{Answered, Extends, HasHolds, KeepsBelow, KeepsHeld, KeepsOwners, MakesJust, Releases, Trades}
use Rattle.node_heap.specs.declared.owner.Owner.TheVariants.{Hold as by_hold}
use Rattle.node_heap.proofs.EditLaws.{owned-live}
use Rattle.node_heap.proofs.GraphLemmas.{IsGraph-kinds, IsGraph-owned}
use Rattle.node_heap.proofs.Counts.{test_same, one_at-flip}
use Rattle.node_heap.proofs.BuildLemmas.{count-cons}
use Rattle.node_heap.proofs.Edited.{count-at}
use Rattle.node_heap.proofs.Frames.{KeepsHeld-Extends, KeepsHeld-then, Balances-trans, Balances-Releases}
use Rattle.rrb_core.specs.Vector.{elements, height_at, IsGoodVector}
use Rattle.rrb_core.proofs.LinkCounts.{count-split}
use Rattle.rrb_core.proofs.Stays.{seq-live}
use Rattle.pool_check.proofs.VectorReadings.{all-at}
use Rattle.edit_vec.specs.Edit.{PushesElement, PopsElement}
use Rattle.edit_vec.specs.Laws.{PushesKeep, PopsKeep}
use Rattle.champ_kinds.proofs.ZipLemmas.{zip-as, zip-length}
use Rattle.shell_terms.specs.Edit.{Bytes}
use Rattle.plain_space.specs.Workspace.{State}
use Rattle.state_rows.specs.InHeap.{IsStateIn, IsHistoryIn}
use Rattle.state_rows.proofs.Zips.{zip-at, zip-push, zip-take, zip-drop, zip-among}
use Rattle.state_rows.proofs.Staying.{states-stay, grown}
use Rattle.state_rows.proofs.Answering.{one-held}

-- ## What the states stand for

-- as many states as elements
pub vector-many : {h : Heap Bytes} {bits l : ℕ} {ss : List State} → IsHistoryIn h bits l ss → length (elements h l) ≡ length ss
vector-many {h} {bits} {l} {ss} is = zip-length (IsStateIn h bits) (elements h l) ss is.values

-- a history with a state after its last
module _ (keep : PushesKeep Bytes) {old new : Heap Bytes} {v r x : ℕ} (graph : IsGraph old) (held : HasHolds old (v ∷ x ∷ [])) (push : PushesElement (by_hold v) old new r x) where
  -- how often the pushed state is held beside the vector
  beside : count x (v ∷ x ∷ []) ≤ holds_at old x → 1 + count x (v ∷ []) ≤ holds_at old x
  beside enough = omega (arith, enough, count-cons x v (x ∷ []), count-cons x x [], count-cons x v [], test_same x x refl)

  pub pushed-history : {bits : ℕ} {ss : List State} {s : State} → IsHistoryIn old bits v ss → IsStateIn old bits x s → IsHistoryIn new bits r (ss ++ s ∷ [])
  pushed-history {bits} {ss} {s} is at =
      let kept = keep (by_hold v) old new r graph (omega (arith, held v, count-cons v v (x ∷ []), test_same v v refl)) is.vector push.others in
      let itself : KeepsBelow old new x = λ m down. kept.beside x m (omega (arith, beside (held x), count-cons x v [], one_at-flip x v)) down in
      record {
        vector = push.vector.0;
        values =
            subst (λ (ks : List ℕ). AllZip (IsStateIn new bits) ks (ss ++ s ∷ [])) (sym push.vector.1)
            (zip-push (IsStateIn new bits) (elements old v) ss x s
            (zip-among (IsStateIn old bits) (IsStateIn new bits) (elements old v) ss (λ k some s is. (states-stay old new bits k (kept.below k some)).state s is) is.values)
            ((states-stay old new bits x itself).state s at));
      }

some-and : {X : Type 0} {P Q : X → Type 0} (o : Option X) → ((x : X) → P x → Q x) → IsSomeAnd o P → IsSomeAnd o Q
some-and None so is = absurd is
some-and (Some x) so is = so x is

-- a history without its last state
module _ (keep : PopsKeep Bytes) {old new : Heap Bytes} {v r x : ℕ} (graph : IsGraph old) (held : 0 < holds_at old v) (pop : PopsElement (by_hold v) old new r x) where
  -- what an element stands for that is there still
  stays : {bits : ℕ} {ss : List State} → IsHistoryIn old bits v ss → (k : ℕ) → 0 < count k (elements old v) → IsSome (row_at new k) → (s : State) → IsStateIn old bits k s → IsStateIn new bits k s
  stays {bits} is k some live s at = (states-stay old new bits k (keep (by_hold v) old new r graph pop.edits.trades.graph held is.vector pop.others k some live)).state s at

  pub popped-history : {bits : ℕ} {ss : List State} → IsHistoryIn old bits v ss → IsHistoryIn new bits r (take (length ss - 1) ss)
  popped-history {bits} {ss} is =
      let es = elements old v in
      let many = zip-length (IsStateIn old bits) es ss is.values in
      let n = length es - 1 in
      let there = subst (λ (ks : List ℕ). (k : ℕ) → 0 < count k ks → IsSome (row_at new k)) pop.vector.1 (all-at (λ k. IsSome (row_at new k)) (elements new r) (seq-live new pop.edits.trades.graph (height_at new r) r)) in
      let left : AllZip (IsStateIn new bits) (take n es) (take n ss) =
      zip-among (IsStateIn old bits) (IsStateIn new bits) (take n es) (take n ss) (λ k some s at. stays is k (omega (arith, some, count-split k n es)) (there k some) s at)
      (zip-take (IsStateIn old bits) n es ss is.values) in
      record {
        vector = pop.vector.0;
        values = subst (λ (m : ℕ). AllZip (IsStateIn new bits) (elements new r) (take (m - 1) ss)) many (subst (λ (ks : List ℕ). AllZip (IsStateIn new bits) ks (take n ss)) (sym pop.vector.1) left);
      }

  pub popped-last : {bits : ℕ} {ss : List State} → 0 < length ss → IsHistoryIn old bits v ss → IsSomeAnd (slice_get ss (length ss - 1)) (IsStateIn new bits x)
  popped-last {bits} {ss} some is =
      let es = elements old v in
      let many = zip-length (IsStateIn old bits) es ss is.values in
      let at : get_or es (length ss - 1) 0 ≡ x = sym (pop.back ∙ ap (λ n. get_or es (n - 1) 0) many) in
      let live : IsSome (row_at new x) =
      pop.edits.trades.graph.held x (omega (arith, pop.edits.trades.holds x, count-cons x r (x ∷ []), count-cons x x [], test_same x x refl, count-cons x v [], one-held old v held x)) in
      some-and (slice_get ss (length ss - 1)) (λ s was. stays is x (count-at es (length ss - 1) x (omega (arith, many, some)) at) live s (subst (λ (k : ℕ). IsStateIn old bits k s) at was))
      (zip-at (IsStateIn old bits) es ss (length ss - 1) (omega (arith, some)) is.values)

-- ## Where no row came

-- where every row stays and owners are as they were, no row came
module _ {old mid : Heap Bytes} (graph : IsGraph old) (graph' : IsGraph mid) (more : Extends old mid) (owners : KeepsOwners old mid) where
  none-came : (k : ℕ) (r : Option (Row Bytes)) → row_at old k ≡ r → (q : Option (Row Bytes)) → row_at mid k ≡ q → row_at mid k ≡ row_at old k
  none-came k None was None is = is ∙ sym was
  none-came k None was (Some y) is =
      let one = IsGraph-owned mid graph' k (rw is refl) in
      let live : IsSome (row_at old k) = owned-live old graph k (omega (arith, one, owners k)) in
      absurd (let h = live in let g = was in cc)
  none-came k (Some x) was q is = more.kept k (rw was refl) k (here k)

  pub same-rows : (k : ℕ) → row_at mid k ≡ row_at old k
  same-rows k = none-came k (row_at old k) refl (row_at mid k) refl

-- ## A history that is emptied or cut: new rows, and then a hold that is given up

module _ {old mid new : Heap Bytes} (h : ℕ) {r c n : ℕ} (answered : Answered old mid [] r c n) (keeps : KeepsHeld (one_at h) mid new) where
  pub emptied-keeps : IsGraph old → ((l : ℕ) → holds_at new l + one_at h l ≡ holds_at mid l) → KeepsHeld (λ l. count l (h ∷ [])) old new
  emptied-keeps graph released =
      KeepsHeld-then (λ l. count l (h ∷ [])) (KeepsHeld-Extends (λ _. 0) old mid graph answered.extends (λ l. omega (arith, answered.holds l))) keeps
      (λ l some. omega (arith, some)) (λ l some. omega (arith, some, answered.holds l, count-cons l h [])) (λ l. omega (arith, answered.holds l, released l, count-cons l h []))

  pub emptied-history : (bits : ℕ) (ss : List State) → 0 < holds_at old h → IsHistoryIn mid bits r ss → IsHistoryIn new bits r ss
  emptied-history bits ss held is =
      (states-stay mid new bits r (keeps.kept r (omega (arith, answered.holds r, one-held old h held r, test_same r r refl)))).history ss is

-- a vector of the elements of a history after so many, where every row stays
pub cut-history : {old mid : Heap Bytes} {bits h v : ℕ} {ss : List State} (n : ℕ) → Extends old mid → IsGoodVector mid v → elements mid v ≡ drop n (elements old h) → IsHistoryIn old bits h ss → IsHistoryIn mid bits v (drop n ss)
cut-history {old} {mid} {bits} {h} {v} {ss} n more good cut is = record {
  vector = good;
  values =
      subst (λ (ks : List ℕ). AllZip (IsStateIn mid bits) ks (drop n ss)) (sym cut)
      (zip-drop (IsStateIn mid bits) n (elements old h) ss (zip-as (IsStateIn old bits) (IsStateIn mid bits) (λ k s at. (grown old mid more bits k).state s at) (elements old h) ss is.values));
}

-- what is spent and gained, where no row is made in vain
pub cut-trades : {old mid new : Heap Bytes} {r c n : ℕ} (h k : ℕ) → Answered old mid [] r c n → MakesJust old mid → Releases mid new h → IsGraph new → n ≤ k → Trades old new (h ∷ []) (r ∷ []) c k
cut-trades {old} {mid} {r = r} h k answered just released graph' few = record {
  graph = graph';
  holds = λ l. omega (arith, answered.holds l, released.holds l, count-cons l h [], count-cons l r []);
  total = omega (arith, answered.count, released.count);
  cells = omega (arith, answered.cells, released.fewer_cells);
  nodes = omega (arith, answered.nodes, released.fewer_nodes, few);
  balance = Balances-trans answered.balance (Balances-Releases released);
  made = omega (arith, just, released.made, answered.cells, answered.nodes, few, IsGraph-kinds old, IsGraph-kinds mid);
}

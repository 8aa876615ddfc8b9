-- A vector that is edited beside one that is kept.
use Rattle.std.proofs.Common.{◌≡◌, ℕ, ◌+◌, ◌<◌, ◌≤◌, List, [], ◌∷◌, ◌++◌, length, length-append, Option, Some, IsSome, refl, ap, ◌∙◌, arith}
use Rattle.std.specs.Prelude.{option_to_list}
use Rattle.node_heap.specs.Links.{count}
use Rattle.node_heap.specs.Forms.{cell}
use Rattle.node_heap.specs.Heap.{Heap, row_at, holds_at, hold_count, one_at, IsGraph}
use Rattle.node_heap.specs.Calls.{HasHolds, KeepsHeld, Unchanged, Extends, Adds, Releases, Answered}
use Rattle.node_heap.specs.declared.owner.Owner.TheVariants.{Hold as by_hold}
use Rattle.node_heap.specs.Owner.{EditsBy}
use Rattle.node_heap.proofs.Counts.{one_at-flip, test_same}
use Rattle.node_heap.proofs.BuildLemmas.{count-cons, count-append, count-one}
use Rattle.node_heap.proofs.Frames.{Extends-trans}
use Rattle.node_heap.proofs.OwnerLemmas.{KeepsHeld-EditsBy}
use Rattle.rrb_core.specs.Vector.{IsGoodVector}
use Rattle.rrb_core.specs.Build.{Shares}
use Rattle.rrb_core.proofs.Stays.{extended-same, vector-stays}
use Rattle.edit_vec.specs.Edit.{SetsElement, PushesElement, PopsElement}
use Rattle.vector_tests.specs.Stands.{KeepsVectors, IsEditing}

-- the cell that was made last
pub last-cell : (xs ys : List ℕ) (o : Option ℕ) (x : ℕ) → xs ≡ ys ++ option_to_list o → o ≡ Some x → xs ≡ ys ++ x ∷ []
last-cell xs ys o x is e = is ∙ ap (λ r. ys ++ option_to_list r) e

module _ {T : Type 0} where
  -- what holds of the root, of the kept one and of the cells
  pub hold-each : (h : Heap T) (root kept : ℕ) (cells : List ℕ) (k : ℕ) → HasHolds h (root ∷ kept ∷ cells) → count k (root ∷ []) + (count k (kept ∷ []) + count k cells) ≤ holds_at h k
  hold-each h root kept cells k holds = omega (arith, holds k, count-cons k root (kept ∷ cells), count-cons k kept cells, count-cons k root [], count-cons k kept [])

  pub root-held : (h : Heap T) (root kept : ℕ) (cells : List ℕ) → IsEditing h root kept cells → 0 < holds_at h root
  root-held h root kept cells is = omega (arith, hold-each h root kept cells root is.holds, count-cons root root [], test_same root root refl)

  -- the vector was edited by its hold
  edited : (h new : Heap T) (root root' kept c n : ℕ) (spent gained cells left : List ℕ) → IsEditing h root kept cells → IsGoodVector new root' → EditsBy (by_hold root) h new root' spent gained c n
      → ((k : ℕ) → count k left + count k spent ≡ count k cells + count k gained) → ((k : ℕ) → count k spent ≤ count k cells) → length left + length spent ≡ length cells + length gained → IsEditing new root' kept left
  edited h new root root' kept c n spent gained cells left is good edit each some total =
      let trades = edit.trades in
      let own = hold-each h root kept cells in
      let held : count kept (root ∷ spent) < holds_at h kept = omega (arith, own kept is.holds, some kept, count-cons kept root spent, count-cons kept root [], count-cons kept kept [], test_same kept kept refl) in
      record {
        good = good;
        earlier = (vector-stays T h new kept ((KeepsHeld-EditsBy edit).kept kept held) is.earlier).0;
        holds = λ k. omega (
          arith,
          own k is.holds,
          trades.holds k,
          each k,
          count-cons k root spent,
          count-cons k root' gained,
          count-cons k root [],
          count-cons k kept [],
          count-cons k root' (kept ∷ left),
          count-cons k kept left,
        );
        few = omega (arith, is.few, trades.total, total);
      }

  pub push-editing : (h new : Heap T) (root root' kept made : ℕ) (cells left : List ℕ) → cells ≡ left ++ made ∷ [] → IsEditing h root kept cells → PushesElement (by_hold root) h new root' made → IsEditing new root' kept left
  push-editing h new root root' kept made cells left list is did =
      let each = λ (k : ℕ). ap (count k) list ∙ count-append k left (made ∷ []) in
      edited h new root root' kept _ _ (made ∷ []) [] cells left is did.vector.0 did.edits (λ k. omega (arith, each k)) (λ k. omega (arith, each k)) (omega (arith, ap length list, length-append left (made ∷ [])))

  pub set-editing : (h new : Heap T) (root root' kept made index given : ℕ) (cells left : List ℕ) → cells ≡ left ++ made ∷ [] → IsEditing h root kept cells → SetsElement (by_hold root) h new root' index made given → IsEditing new root' kept (given ∷ left)
  set-editing h new root root' kept made index given cells left list is did =
      let each = λ (k : ℕ). ap (count k) list ∙ count-append k left (made ∷ []) in
      edited h new root root' kept _ _ (made ∷ []) (given ∷ []) cells (given ∷ left) is did.vector.0 did.edits (λ k. omega (arith, each k, count-cons k given left, count-cons k given [])) (λ k. omega (arith, each k)) (omega (arith, ap length list, length-append left (made ∷ [])))

  pub pop-editing : (h new : Heap T) (root root' kept given : ℕ) (cells : List ℕ) → IsEditing h root kept cells → PopsElement (by_hold root) h new root' given → IsEditing new root' kept (given ∷ cells)
  pop-editing h new root root' kept given cells is did = edited h new root root' kept _ _ [] (given ∷ []) cells (given ∷ cells) is did.vector.0 did.edits (λ k. omega (arith, count-cons k given cells, count-cons k given [])) (λ k. omega arith) (omega arith)

  -- what came back
  pub given-held : (h : Heap T) (root kept given : ℕ) (left : List ℕ) → IsEditing h root kept (given ∷ left) → 0 < holds_at h given
  given-held h root kept given left is = omega (arith, hold-each h root kept (given ∷ left) given is.holds, count-cons given given left, test_same given given refl)

  pub given-live : (h : Heap T) (root kept given : ℕ) (left : List ℕ) → IsGraph h → IsEditing h root kept (given ∷ left) → IsSome (row_at h given)
  given-live h root kept given left graph is = graph.held given (given-held h root kept given left is)

  pub release-editing : (h new : Heap T) (root kept given : ℕ) (left : List ℕ) → IsEditing h root kept (given ∷ left) → Releases h new given → KeepsHeld (one_at given) h new → IsEditing new root kept left
  release-editing h new root kept given left is rel keeps =
      let own = λ (k : ℕ). hold-each h root kept (given ∷ left) k is.holds in
      let more = λ (k : ℕ). count-cons k given left in
      record {
        good = (vector-stays T h new root (keeps.kept root (omega (arith, own root, more root, count-cons root root [], test_same root root refl))) is.good).0;
        earlier = (vector-stays T h new kept (keeps.kept kept (omega (arith, own kept, more kept, count-cons kept kept [], test_same kept kept refl))) is.earlier).0;
        holds = λ k. omega (arith, own k, more k, rel.holds k, count-cons k root [], count-cons k kept [], count-cons k root (kept ∷ left), count-cons k kept left);
        few = omega (arith, is.few, rel.count);
      }

  -- the same vectors, with these holds
  same-editing : (h new : Heap T) (root root' kept kept' : ℕ) (cells left : List ℕ) → IsEditing h root kept cells → IsGoodVector new root' → IsGoodVector new kept'
      → ((k : ℕ) → holds_at h k + (count k (root' ∷ []) + count k (kept' ∷ []) + count k left) ≤ holds_at new k + (count k (root ∷ []) + count k (kept ∷ []) + count k cells)) → hold_count new + length cells ≤ hold_count h + length left → IsEditing new root' kept' left
  same-editing h new root root' kept kept' cells left is good earlier each total = record {
    good = good;
    earlier = earlier;
    holds = λ k. omega (arith, hold-each h root kept cells k is.holds, each k, count-cons k root' (kept' ∷ left), count-cons k kept' left, count-cons k root' [], count-cons k kept' []);
    few = omega (arith, is.few, total);
  }

  pub cell-editing : (h mid new : Heap T) (root kept link : ℕ) (x : T) (cells after : List ℕ) → after ≡ cells ++ link ∷ [] → IsEditing h root kept cells → Unchanged h mid → Extends h mid → Adds mid new link (cell x) → Extends mid new → hold_count new ≡ hold_count mid + 1 → IsEditing new root kept after
  cell-editing h mid new root kept link x cells after list is room first adds second total =
      let all = Extends-trans first second in
      same-editing h new root root kept kept cells after is (extended-same all root is.good).0 (extended-same all kept is.earlier).0
      (λ k. omega (arith, room.holds k, adds.holds k, ap (count k) list, count-append k cells (link ∷ []), count-one k link, one_at-flip k link)) (omega (arith, total, room.count, ap length list, length-append cells (link ∷ [])))

  pub open-editing : (h new : Heap T) (root root' kept : ℕ) (cells : List ℕ) → IsEditing h root kept cells → IsGoodVector new root' → KeepsVectors h new → ((k : ℕ) → holds_at new k + one_at root k ≡ holds_at h k + one_at root' k) → hold_count new ≡ hold_count h → IsEditing new root' kept cells
  open-editing h new root root' kept cells is good others holds total =
      same-editing h new root root' kept kept cells cells is good (others kept is.earlier) (λ k. omega (arith, holds k, count-one k root, count-one k root', one_at-flip k root, one_at-flip k root')) (omega (arith, total))

  pub keep-editing : (h mid new : Heap T) (root kept : ℕ) (cells : List ℕ) → IsEditing h root kept cells → Shares h mid root → KeepsVectors h mid → Releases mid new kept → KeepsHeld (one_at kept) mid new → IsEditing new root root cells
  keep-editing h mid new root kept cells is shares others rel keeps =
      let own = hold-each h root kept cells root is.holds in
      let more = shares.builds.holds root in
      let some : one_at kept root < holds_at mid root = omega (arith, own, more, count-one root root, count-one root kept, one_at-flip root kept, test_same root root refl) in
      let good = (vector-stays T mid new root (keeps.kept root some) (others root is.good)).0 in
      same-editing h new root root kept root cells cells is good good (λ k. omega (arith, shares.builds.holds k, rel.holds k, count-one k root, count-one k kept, one_at-flip k kept)) (omega (arith, shares.builds.total, rel.count))

  -- a vector that was made is taken in place of the one that was edited
  pub made-editing : (h mid new : Heap T) (root made kept c n : ℕ) (cells : List ℕ) → IsEditing h root kept cells → IsGoodVector mid made → KeepsVectors h mid → Answered h mid [] made c n → Releases mid new root → KeepsHeld (one_at root) mid new → IsEditing new made kept cells
  made-editing h mid new root made kept c n cells is good others did rel keeps =
      let own = λ (k : ℕ). hold-each h root kept cells k is.holds in
      let here : one_at root made < holds_at mid made = omega (arith, own made, did.holds made, count-one made root, one_at-flip made root, test_same made made refl) in
      let there : one_at root kept < holds_at mid kept = omega (arith, own kept, did.holds kept, count-one kept root, count-one kept kept, one_at-flip kept root, test_same kept kept refl) in
      same-editing h new root made kept kept cells cells is (vector-stays T mid new made (keeps.kept made here) good).0 (vector-stays T mid new kept (keeps.kept kept there) (others kept is.earlier)).0
      (λ k. omega (arith, did.holds k, rel.holds k, count-one k root, count-one k made, one_at-flip k root, one_at-flip k made)) (omega (arith, did.count, rel.count))

-- An edit of a whole vector: what the owner owns is made its own, and the edit goes down from there.
use Rattle.std.proofs.Common.{◌≡◌, ◌≢◌, ℕ, ◌<◌, ◌≤◌, List, [], ◌∷◌, length, get_or, refl, ap, sym, ◌∙◌, arith, None, IsSome, inl, inr}
use Rattle.std.proofs.lemmas.Bool.{cases_eq}
use Rattle.node_heap.specs.Links.{count, HasLink, Reaches, here}
use Rattle.node_heap.specs.Forms.{links_of, links_in, is_node}
use Rattle.node_heap.specs.Heap.{Heap, row_at, form_at, links_at, holds_at, IsGraph}
use Rattle.node_heap.specs.Calls.{HasHolds}
use Rattle.node_heap.specs.declared.owner.Owner.{Owner}
use Rattle.node_heap.specs.Owner.{owned, EditsBy, written, KeepsAlone, WritesOnly}
use Rattle.node_heap.proofs.Counts.{count-cons, test_same}
use Rattle.node_heap.proofs.BuildLemmas.{Builds-refl}
use Rattle.node_heap.proofs.EditLaws.{Changes-Builds}
use Rattle.node_heap.proofs.AloneLemmas.{written-cons, written-own, KeepsAlone-own}
use Rattle.node_heap.specs.declared.row.TheConstants.{MOST_HEIGHT}
use Rattle.rrb_core.specs.Vector.{elements, height_at, IsGoodVector, IsVectorOf}
use Rattle.rrb_core.specs.Build.{IsRowOf}
use Rattle.rrb_core.proofs.ClosedRows.{Stays}
use Rattle.rrb_core.proofs.SameRows.{row-same}
use Rattle.rrb_core.proofs.Stays.{links-form, below-stays, row-stays}
use Rattle.rrb_core.proofs.RowLists.{good-row, root-row}
use Rattle.edit_vec.specs.Steps.{CanWrite}
use Rattle.edit_vec.proofs.StepLemmas.{well-node}
use Rattle.node_heap.proofs.OwnedRows.{IsOwned}

-- the root of a vector is a node
pub good-node : {T : Type 0} {h : Heap T} {l : ℕ} → IsGoodVector h l → is_node (row_at h l) ≡ 1
good-node {h = h} {l = l} good = well-node h (height_at h l) l good.shape.well

-- a root and an element that are held beside one another
pub holds-root : {T : Type 0} (h : Heap T) (root e : ℕ) → HasHolds h (root ∷ e ∷ []) → 0 < holds_at h root
holds-root h root e held = omega (arith, held root, count-cons root root (e ∷ []), test_same root root refl)

-- the root of a vector was made its owner's own
module _ {T : Type 0} {owner : Owner} {old mid : Heap T} {r n : ℕ} (o : IsOwned owner old mid r) (good : IsGoodVector old (owned old owner)) (height : n ≡ height_at old (owned old owner)) where
  abbrev root : ℕ
  root = owned old owner

  pub stays-owned : Stays (Reaches (links_at old) root) old mid
  stays-owned = below-stays root o.below

  pub row-is : row_at mid r ≡ row_at mid root
  row-is = o.row_same ∙ sym (o.below root (here root))

  pub row-owned : IsRowOf mid n r (elements old root)
  row-owned = rw height (row-same mid root r row-is (row-stays stays-owned (height_at old root) root (elements old root) (here root) (root-row old root good)))

  pub wide-owned : length (links_at mid r) ≡ length (links_in (form_at old) root)
  wide-owned = ap (λ w. length (links_of w)) o.row_same ∙ sym (ap length (links-form old root))

  pub vector-owned : IsVectorOf mid r (elements old root)
  vector-owned = good-row mid n r (elements old root) row-owned (omega (arith, height, good.shape.low)) (λ some. omega (arith, wide-owned, good.shape.two (omega (arith, some, height)))) good.shape.short

  -- with nothing edited yet
  pub edits-owned : IsGraph mid → EditsBy owner old mid r [] [] 0 1
  edits-owned graph = o.edits mid [] [] 0 0 (Changes-Builds r graph (λ k up one. one) (Builds-refl mid [] 0 0 graph))

  pub can-write : {e : ℕ} → IsGraph mid → MOST_HEIGHT ≤ mid.spare_nodes → 1 ≤ holds_at mid e → ¬ Reaches (links_at mid) e r → CanWrite mid n r e
  can-write graph spare held apart = record {
    graph = graph;
    well = row-owned.well;
    sums = row-owned.sums;
    low = omega (arith, height, good.shape.low);
    short = rw row-owned.items good.shape.short;
    spare = omega (arith, height, good.shape.low, spare);
    sole = o.sole;
    held = held;
    apart = apart;
  }

  -- and so was the first row of its path
  module _ (tail : List ℕ) (next : 1 ≤ length tail → HasLink (links_at old) root (get_or tail 0 0)) where
    pub path-owned : (path' : List ℕ) → KeepsAlone mid (r ∷ tail) path' → KeepsAlone old (root ∷ tail) path'
    path-owned path' keep = KeepsAlone-own old mid root r tail o.same o.sole o.owners o.graph next path' keep

    pub off-owned : (m : ℕ) → IsSome (row_at old m) → count m (written old (root ∷ tail)) ≡ 0 → (m ≢ r) × (count m (written mid (r ∷ tail)) ≡ 0)
    off-owned m live off =
        let gone : r ≢ root → m ≢ r = λ copy e. let none : row_at old m ≡ None = ap (row_at old) e ∙ o.fresh copy in absurd cc in
        let other : m ≢ r = λ e. elim (cases_eq r root) as (λ _. ⊥) [
          | inl itself ↦
              let first : count m (root ∷ written old tail) ≡ 0 = rw (written-cons old root tail (o.same.0 itself)) at off in
              absurd (omega (arith, first, count-cons m root (written old tail), test_same root m (sym (e ∙ itself))))
          | inr copy ↦ gone copy e
        ] in
        (other, written-own old mid root r tail o.same o.sole o.owners o.graph next m gone off)

    pub others-owned : (new : Heap T) → ((m : ℕ) → IsSome (row_at mid m) → count m (written mid (r ∷ tail)) ≡ 0 → row_at new m ≡ row_at mid m) → WritesOnly owner old new r (root ∷ tail)
    others-owned new others m live off =
        let both = off-owned m live off in
        others m (o.live m live) both.1 ∙ o.kept m both.0 live

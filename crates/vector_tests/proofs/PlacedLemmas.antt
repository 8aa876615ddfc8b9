-- A vector that is edited at its place in a pair.
use Rattle.std.proofs.Common.{◌≡◌, ◌≢◌, ℕ, ◌+◌, ◌<◌, ◌≤◌, List, [], ◌∷◌, length, get_or, length-set, Bool, true, false, Option, Some, None, IsSome, refl, ap, sym, ◌∙◌, arith, inl, inr}
use Rattle.std.specs.Prelude.{if◌then◌else◌}
use Rattle.std.proofs.lemmas.Bool.{cases_eq}
use Rattle.node_heap.specs.Links.{count, HasLink, Reaches, here, below}
use Rattle.node_heap.specs.Forms.{Row, cell, node, links_of}
use Rattle.node_heap.specs.Heap.{Heap, row_at, links_at, holds_at, owners_at, hold_count, one_at, IsGraph}
use Rattle.node_heap.specs.Calls.{AddsOwner, KeepsOwners, KeepsBelow, KeepsHeld, Unchanged, Extends, Adds, Releases}
use Rattle.node_heap.specs.declared.row.Head.{Head}
use Rattle.node_heap.specs.InPlace.{child_at, Changes}
use Rattle.node_heap.specs.declared.owner.Owner.TheVariants.{Child as by_place}
use Rattle.node_heap.specs.Owner.{relinked, EditsBy}
use Rattle.node_heap.proofs.Counts.{one_at-flip, test_same, test_other}
use Rattle.node_heap.proofs.BuildLemmas.{count-one}
use Rattle.node_heap.proofs.Frames.{Extends-trans}
use Rattle.node_heap.proofs.Edited.{count-at}
use Rattle.node_heap.proofs.EditLaws.{roots-off, Changes-Releases}
use Rattle.rrb_core.specs.Vector.{IsGoodVector}
use Rattle.rrb_core.proofs.Stays.{extended-same, vector-stays}
use Rattle.edit_vec.specs.Edit.{SetsElement, PushesElement}
use Rattle.vector_tests.specs.Stands.{IsPlaced}

-- the pair with its vector, and a link besides that is held and doesn't reach the pair
pub record IsReady {T : Type 0} (h : Heap T) (pair link : ℕ) : Type 0 where
  pub sole : owners_at h pair ≡ 1
  pub held : 0 < holds_at h pair
  pub two : length (links_at h pair) ≡ 2
  pub good : IsGoodVector h (child_at h pair 1)
  pub few : hold_count h ≤ 2
  pub other : link ≢ pair
  pub came : 0 < holds_at h link
  pub apart : ¬ Reaches (links_at h) link pair

module _ {T : Type 0} where
  -- a row without links reaches no other
  cell-off : (h : Heap T) (l m : ℕ) → links_at h l ≡ [] → l ≢ m → ¬ Reaches (links_at h) l m
  cell-off h a b none other (here l) = other refl
  cell-off h a b none other (below l k m has way) = absurd (omega (arith, has, ap (count k) none))

  -- a row with another link has as many
  same-width : (index root : ℕ) (b : Bool) (row : Option (Row T)) → length (links_of (if b then relinked index root row else row)) ≡ length (links_of row)
  same-width index root true None = refl
  same-width index root true (Some (cell x)) = refl
  same-width index root true (Some (node head links)) = length-set links index root
  same-width index root false row = refl

  pair-width : (h new : Heap T) (pair root c n : ℕ) (spent gained : List ℕ) → EditsBy (by_place pair 1) h new root spent gained c n → count pair spent < holds_at h pair → length (links_at new pair) ≡ length (links_at h pair)
  pair-width h new pair root c n spent gained edit some = ap (λ r. length (links_of r)) (edit.beside pair pair some (here pair)) ∙ same-width 1 root _ (row_at h pair)

  -- a cell was made
  pub placed-cell : (h mid new : Heap T) (pair link : ℕ) (x : T) → IsPlaced h pair → Unchanged h mid → Extends h mid → KeepsOwners h mid → Adds mid new link (cell x) → AddsOwner mid new link → Extends mid new → hold_count new ≡ hold_count mid + 1 → IsReady new pair link
  placed-cell h mid new pair link x is room first owners adds more second total =
      let there : IsSome (row_at mid pair) = room.graph.held pair (omega (arith, is.held, room.holds pair)) in
      let row : row_at new pair ≡ row_at h pair = second.kept pair there pair (here pair) ∙ room.rows pair in
      let child : child_at new pair 1 ≡ child_at h pair 1 = ap (λ r. get_or (links_of r) 1 0) row in
      let off : link ≢ pair = λ e. let none : row_at mid pair ≡ None = ap (row_at mid) (sym e) ∙ adds.fresh in absurd cc in
      record {
        sole = omega (arith, is.sole, owners pair, more pair, test_other pair link (λ e. off (sym e)));
        held = omega (arith, is.held, room.holds pair, adds.holds pair);
        two = ap (λ r. length (links_of r)) row ∙ is.two;
        good = rw child (extended-same (Extends-trans first second) (child_at h pair 1) is.good).0;
        few = omega (arith, is.few, room.count, total);
        other = off;
        came = omega (arith, adds.holds link, test_same link link refl);
        apart = cell-off new link pair (ap links_of adds.here) off;
      }

  pub placed-push : (h new : Heap T) (pair link n : ℕ) → IsReady h pair link → PushesElement (by_place pair 1) h new (child_at new pair 1) link → Changes pair h new (link ∷ []) [] 0 n → IsPlaced new pair
  placed-push h new pair link n is did changes =
      let none : count pair (link ∷ []) ≡ 0 = omega (arith, count-one pair link, one_at-flip pair link, test_other pair link (λ e. is.other (sym e))) in
      record {
        sole = changes.paths.soles pair (here pair) is.sole;
        held = omega (arith, is.held, changes.trades.holds pair, none);
        two = pair-width h new pair _ _ _ _ _ did.edits (omega (arith, is.held, none)) ∙ is.two;
        good = did.vector.0;
        few = omega (arith, is.few, changes.trades.total);
      }

  pub placed-set : (h new : Heap T) (pair link index given n : ℕ) → IsReady h pair link → SetsElement (by_place pair 1) h new (child_at new pair 1) index link given → Changes pair h new (link ∷ []) (given ∷ []) 0 n → IsReady new pair given
  placed-set h new pair link index given n is did changes =
      let none : count pair (link ∷ []) ≡ 0 = omega (arith, count-one pair link, one_at-flip pair link, test_other pair link (λ e. is.other (sym e))) in
      let trades = changes.trades in
      let sole = changes.paths.soles pair (here pair) is.sole in
      let held : 0 < holds_at new pair = omega (arith, is.held, trades.holds pair, none) in
      let came : 0 < holds_at new given = elim (cases_eq given link) as (λ _. 0 < holds_at new given) [
        | inl same ↦ omega (arith, trades.holds given, is.came, ap (holds_at h) same, count-one given link, count-one given given, one_at-flip given link, test_same given given refl, test_same given link same)
        | inr other ↦ omega (arith, trades.holds given, count-one given link, count-one given given, one_at-flip given link, test_same given given refl, test_other given link other)
      ] in
      let off : given ≢ pair = λ e. absurd (omega (arith, trades.holds pair, none, is.held, sole, count-one pair given, one_at-flip pair given, test_same pair given (sym e))) in
      record {
        sole = sole;
        held = held;
        two = pair-width h new pair _ _ _ _ _ did.edits (omega (arith, is.held, none)) ∙ is.two;
        good = did.vector.0;
        few = omega (arith, is.few, trades.total);
        other = off;
        came = came;
        apart = roots-off new pair given held sole (omega (arith, came, test_other given pair off));
      }

  pub placed-release : (h new : Heap T) (pair given : ℕ) → IsReady h pair given → IsGraph h → IsGraph new → Releases h new given → KeepsHeld (one_at given) h new → IsPlaced new pair
  placed-release h new pair given is graph graph' rel keeps =
      let none : one_at given pair ≡ 0 = test_other pair given (λ e. is.other (sym e)) in
      let kept : KeepsBelow h new pair = keeps.kept pair (omega (arith, none, is.held)) in
      let row : row_at new pair ≡ row_at h pair = kept pair (here pair) in
      let c : ℕ = child_at h pair 1 in
      let linked : HasLink (links_at h) pair c = count-at (links_at h pair) 1 c (omega (arith, is.two)) refl in
      let child : child_at new pair 1 ≡ c = ap (λ r. get_or (links_of r) 1 0) row in
      record {
        sole = (Changes-Releases h new given graph rel pair is.apart graph').paths.soles pair (here pair) is.sole;
        held = omega (arith, is.held, rel.holds pair, none);
        two = ap (λ r. length (links_of r)) row ∙ is.two;
        good = rw child (vector-stays T h new c (λ m way. kept m (below pair c m linked way)) is.good).0;
        few = omega (arith, is.few, rel.count);
      }

  pub placed-start : (b m d new : Heap T) (pair first vector : ℕ) (head : Head) → IsGoodVector b vector → hold_count b ≤ 1 → Unchanged b m → Extends b m → Extends m d → hold_count d ≡ hold_count m + 1 → Adds d new pair (node head (first ∷ vector ∷ [])) → owners_at new pair ≡ 1
      → hold_count new + 2 ≡ hold_count d + 1 → Extends d new → IsPlaced new pair
  placed-start b m d new pair first vector head good few room more again one adds sole total last =
      let child : child_at new pair 1 ≡ vector = ap (λ r. get_or (links_of r) 1 0) adds.here in
      record {
        sole = sole;
        held = omega (arith, adds.holds pair, adds.unheld, adds.apart, test_same pair pair refl);
        two = ap (λ r. length (links_of r)) adds.here;
        good = rw child (extended-same (Extends-trans (Extends-trans more again) last) vector good).0;
        few = omega (arith, few, room.count, one, total);
      }

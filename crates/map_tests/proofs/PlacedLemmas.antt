-- A map that is edited at its place in a row.
use Rattle.std.proofs.Common.{◌≡◌, ◌≢◌, ℕ, ◌+◌, ◌<◌, ◌≤◌, List, [], ◌∷◌, length, get_or, length-set, Bool, true, false, Option, Some, None, IsSome, refl, ap, sym, subst, ◌∙◌, arith}
use Rattle.std.specs.Prelude.{if◌then◌else◌, IfSome, MatchOption, option_to_list}
use Rattle.std.specs.declared.cmp.Ordering.{Ordering}
use Rattle.node_heap.specs.Links.{count, HasLink, Reaches, here, below}
use Rattle.node_heap.specs.Forms.{Row, cell, node, links_of}
use Rattle.node_heap.specs.Heap.{Heap, row_at, links_at, holds_at, owners_at, hold_count, one_at, IsGraph}
use Rattle.node_heap.specs.Calls.{AddsOwner, KeepsOwners, KeepsBelow, Unchanged, Extends, Adds}
use Rattle.node_heap.specs.declared.row.Head.{Head}
use Rattle.node_heap.specs.InPlace.{child_at, Changes}
use Rattle.node_heap.specs.declared.owner.Owner.TheVariants.{Child as by_place}
use Rattle.node_heap.specs.Owner.{relinked, EditsBy}
use Rattle.node_heap.proofs.Counts.{one_at-flip, test_same, test_other}
use Rattle.node_heap.proofs.BuildLemmas.{count-one}
use Rattle.node_heap.proofs.Frames.{Extends-trans}
use Rattle.node_heap.proofs.Edited.{count-at}
use Rattle.node_heap.proofs.EditLaws.{roots-off, Changes-Releases}
use Rattle.champ_kinds.specs.Root.{Root}
use Rattle.champ_kinds.specs.Stands.{IsSomeMap}
use Rattle.champ_kinds.proofs.StayLemmas.{container-stays, maps-stay}
use Rattle.map_tests.specs.Stands.{GivesUp, IsPlaced}
use Rattle.map_tests.proofs.HeldLemmas.{held-one}

module _ {T : Type 0} where
  -- a row without links reaches no other
  pub cell-off : (h : Heap T) (l m : ℕ) → links_at h l ≡ [] → l ≢ m → ¬ Reaches (links_at h) l m
  cell-off h a b none other (here l) = other refl
  cell-off h a b none other (below l k m has way) = absurd (omega (arith, has, ap (count k) none))

  -- a row with another link has as many
  same-width : (index root : ℕ) (b : Bool) (row : Option (Row T)) → length (links_of (if b then relinked index root row else row)) ≡ length (links_of row)
  same-width index root true None = refl
  same-width index root true (Some (cell x)) = refl
  same-width index root true (Some (node head links)) = length-set links index root
  same-width index root false row = refl

  row-width : (h new : Heap T) (parent index root c n : ℕ) (spent gained : List ℕ) → EditsBy (by_place parent index) h new root spent gained c n → count parent spent < holds_at h parent → length (links_at new parent) ≡ length (links_at h parent)
  row-width h new parent index root c n spent gained edit some = ap (λ r. length (links_of r)) (edit.beside parent parent some (here parent)) ∙ same-width index root _ (row_at h parent)

module _ {T : Type 0} (cmp : T → T → Ordering) (code : T → ℕ) where
  -- what stands at the index, by so many bits
  abbrev pub HasMap : Heap T → ℕ → ℕ → ℕ → Type 0
  HasMap h parent index bits = IsSomeMap cmp code h (record { root = child_at h parent index; bits = bits })

  -- the row with its map, and a link besides that is held and doesn't reach the row
  pub record IsReady (h : Heap T) (parent index bits link : ℕ) : Type 0 where
    pub sole : owners_at h parent ≡ 1
    pub held : 0 < holds_at h parent
    pub inside : index < length (links_at h parent)
    pub good : HasMap h parent index bits
    pub few : hold_count h ≤ 2
    pub other : link ≢ parent
    pub came : 0 < holds_at h link
    pub apart : ¬ Reaches (links_at h) link parent

  -- the row was made over the map
  pub placed-start : (b new : Heap T) (parent index bits : ℕ) (r : Root) (head : Head) (links : List ℕ) → r.bits ≡ bits → IsSomeMap cmp code b r → Extends b new → row_at new parent ≡ Some (node head links) → get_or links index 0 ≡ r.root → index < length links
      → owners_at new parent ≡ 1 → 0 < holds_at new parent → hold_count new ≤ 1 → IsPlaced cmp code new parent index bits
  placed-start b new parent index bits r head links same good more row at inside sole held few =
      let child : child_at new parent index ≡ r.root = ap (λ w. get_or (links_of w) index 0) row ∙ at in
      record {
        sole = sole;
        held = held;
        inside = omega (arith, inside, ap (λ w. length (links_of w)) row);
        good = subst (λ (l : ℕ). IsSomeMap cmp code new (record { root = l; bits = bits })) (sym child) (subst (λ (n : ℕ). IsSomeMap cmp code new (record { root = r.root; bits = n })) same (maps-stay cmp code more r good));
        few = few;
      }

  -- a cell was made
  pub placed-cell : (h mid new : Heap T) (parent index bits link : ℕ) (x : T) → IsPlaced cmp code h parent index bits → Unchanged h mid → Extends h mid → KeepsOwners h mid → Adds mid new link (cell x) → AddsOwner mid new link → Extends mid new → hold_count new ≡ hold_count mid + 1 → IsReady new parent index bits link
  placed-cell h mid new parent index bits link x is room first owners adds more second total =
      let there : IsSome (row_at mid parent) = room.graph.held parent (omega (arith, is.held, room.holds parent)) in
      let row : row_at new parent ≡ row_at h parent = second.kept parent there parent (here parent) ∙ room.rows parent in
      let child : child_at new parent index ≡ child_at h parent index = ap (λ r. get_or (links_of r) index 0) row in
      let off : link ≢ parent = λ e. let none : row_at mid parent ≡ None = ap (row_at mid) (sym e) ∙ adds.fresh in absurd cc in
      record {
        sole = omega (arith, is.sole, owners parent, more parent, test_other parent link (λ e. off (sym e)));
        held = omega (arith, is.held, room.holds parent, adds.holds parent);
        inside = omega (arith, is.inside, ap (λ r. length (links_of r)) row);
        good = subst (λ (l : ℕ). IsSomeMap cmp code new (record { root = l; bits = bits })) (sym child) (maps-stay cmp code (Extends-trans first second) (record { root = child_at h parent index; bits = bits }) is.good);
        few = omega (arith, is.few, room.count, total);
        other = off;
        came = omega (arith, adds.holds link, test_same link link refl);
        apart = cell-off new link parent (ap links_of adds.here) off;
      }

  -- the value was put in: the row stands alone then, or beside what came back
  abbrev pub IsPut : Heap T → ℕ → ℕ → ℕ → Option ℕ → Type 0
  IsPut h parent index bits given = MatchOption given (IsPlaced cmp code h parent index bits) (λ l. IsReady h parent index bits l)

  pub placed-put : (h new : Heap T) (parent index bits link : ℕ) (given : Option ℕ) (c n c' n' : ℕ) → IsReady h parent index bits link → HasMap new parent index bits → EditsBy (by_place parent index) h new (child_at new parent index) (link ∷ []) (option_to_list given) c n
      → Changes parent h new (link ∷ []) (option_to_list given) c' n' → IsPut new parent index bits given
  placed-put h new parent index bits link None c n c' n' is good edits changes =
      let none : count parent (link ∷ []) ≡ 0 = omega (arith, count-one parent link, one_at-flip parent link, test_other parent link (λ e. is.other (sym e))) in
      record {
        sole = changes.paths.soles parent (here parent) is.sole;
        held = omega (arith, is.held, changes.trades.holds parent, none);
        inside = omega (arith, is.inside, row-width h new parent index (child_at new parent index) c n (link ∷ []) [] edits (omega (arith, is.held, none)));
        good = good;
        few = omega (arith, is.few, changes.trades.total);
      }
  placed-put h new parent index bits link (Some g) c n c' n' is good edits changes =
      let none : count parent (link ∷ []) ≡ 0 = omega (arith, count-one parent link, one_at-flip parent link, test_other parent link (λ e. is.other (sym e))) in
      let trades = changes.trades in
      let sole = changes.paths.soles parent (here parent) is.sole in
      let held : 0 < holds_at new parent = omega (arith, is.held, trades.holds parent, none) in
      let came : 0 < holds_at new g = omega (arith, held-one h link g is.came, trades.holds g, count-one g link, count-one g g, test_same g g refl) in
      let off : g ≢ parent = λ e. absurd (omega (arith, trades.holds parent, none, is.held, sole, count-one parent g, one_at-flip parent g, test_same parent g (sym e))) in
      record {
        sole = sole;
        held = held;
        inside = omega (arith, is.inside, row-width h new parent index (child_at new parent index) c n (link ∷ []) (g ∷ []) edits (omega (arith, is.held, none)));
        good = good;
        few = omega (arith, is.few, trades.total);
        other = off;
        came = came;
        apart = roots-off new parent g held sole (omega (arith, came, test_other g parent off));
      }

  pub put-came : (h : Heap T) (parent index bits : ℕ) (given : Option ℕ) → IsPut h parent index bits given → IfSome given (λ l. 0 < holds_at h l)
  put-came h parent index bits None is = tt
  put-came h parent index bits (Some g) is = is.came

  -- the pair of a key was made its own
  pub placed-own : (h new : Heap T) (parent index bits c m c' m' : ℕ) → IsPlaced cmp code h parent index bits → HasMap new parent index bits → EditsBy (by_place parent index) h new (child_at new parent index) [] [] c m → Changes parent h new [] [] c' m' → IsPlaced cmp code new parent index bits
  placed-own h new parent index bits c m c' m' is good edits changes = record {
    sole = changes.paths.soles parent (here parent) is.sole;
    held = omega (arith, is.held, changes.trades.holds parent);
    inside = omega (arith, is.inside, row-width h new parent index (child_at new parent index) c m [] [] edits is.held);
    good = good;
    few = omega (arith, is.few, changes.trades.total);
  }

  -- what came back is given up
  placed-release : (h new : Heap T) (parent index bits given : ℕ) → IsReady h parent index bits given → IsGraph h → GivesUp h new given → IsPlaced cmp code new parent index bits
  placed-release h new parent index bits given is graph gives =
      let none : one_at given parent ≡ 0 = test_other parent given (λ e. is.other (sym e)) in
      let kept : KeepsBelow h new parent = gives.keeps.kept parent (omega (arith, none, is.held)) in
      let row : row_at new parent ≡ row_at h parent = kept parent (here parent) in
      let c : ℕ = child_at h parent index in
      let linked : HasLink (links_at h) parent c = count-at (links_at h parent) index c is.inside refl in
      let child : child_at new parent index ≡ c = ap (λ r. get_or (links_of r) index 0) row in
      let stays = container-stays h new (record { root = c; bits = bits }) (λ m way. kept m (below parent c m linked way)) in
      record {
        sole = (Changes-Releases h new given graph gives.releases parent is.apart gives.graph).paths.soles parent (here parent) is.sole;
        held = omega (arith, is.held, gives.releases.holds parent, none);
        inside = omega (arith, is.inside, ap (λ r. length (links_of r)) row);
        good = subst (λ (l : ℕ). IsSomeMap cmp code new (record { root = l; bits = bits })) (sym child) (is.good.0, stays.map cmp code is.good.0 is.good.1);
        few = omega (arith, is.few, gives.releases.count);
      }

  pub put-placed : (h new : Heap T) (parent index bits : ℕ) (given : Option ℕ) → IsPut h parent index bits given → IsGraph h → MatchOption given (new ≡ h) (λ l. GivesUp h new l) → IsPlaced cmp code new parent index bits
  put-placed h new parent index bits None is graph same = subst (λ g. IsPlaced cmp code g parent index bits) (sym same) is
  put-placed h new parent index bits (Some l) is graph gives = placed-release h new parent index bits l is graph gives

-- The seam of two rows: what stands last in the left one and first in the right one, and the links over what that becomes.
use Rattle.std.proofs.Common.{◌≡◌, ℕ, suc, ◌-◌, ◌+◌, ◌*◌, ◌<◌, ◌≤◌, List, [], ◌++◌, length, take, drop, get_or, refl, sym, ◌∙◌, arith, length-append, length-drop, append-nil, append_assoc, IsSome}
use Rattle.std.specs.List.{All, flat_map}
use Rattle.std.proofs.lemmas.List.{length-take-le, take_all, drop_all, get_or-take}
use Rattle.std.proofs.lemmas.List.Concat.{flat_map-append}
use Rattle.std.proofs.lemmas.List.Elements.{All-append, All-drop}
use Rattle.node_heap.specs.Heap.{Heap, row_at, form_at, links_at}
use Rattle.rrb_core.specs.Seq.{seq_at, IsThick, IsWell}
use Rattle.rrb_core.specs.Vector.{HasSums}
use Rattle.rrb_core.proofs.ClosedRows.{Stays}
use Rattle.rrb_core.specs.Build.{AreRows}
use Rattle.rrb_join.specs.Unmade.{AreThick, IsSomeRow, AreUnmade, EndsIn, BeginsWith}
use Rattle.rrb_join.specs.Seam.{JoinsBelow, KeepsBeneath}
use Rattle.rrb_join.specs.Joining.{JoinsToLinks}
use Rattle.node_heap.specs.Calls.{Builds}
use Rattle.rrb_core.proofs.Lists.{items-cut}
use Rattle.rrb_core.proofs.Stays.{items-stay, all-thick-stay, rows-stay}
use Rattle.rrb_core.proofs.RowLists.{no-rows, rows-take, rows-drop, take-thick, rows-around, rows-live, IsOver, over, IsChild, child-at}
use Rattle.rrb_core.specs.Levels.{rows_at}
use Rattle.rrb_join.proofs.UnmadeLemmas.{has-links, rows-above, items-above, thick-above, leaf-items, leaf-are-links}
use Rattle.rrb_core.proofs.LevelLemmas.{rows-inner}
use Rattle.rrb_join.proofs.RowsOfHeights.{rows-some}

-- an inner row by its children, in the words of its own height
pub over-at : {T : Type 0} (h : Heap T) (n below l : ℕ) → n ≡ suc below → IsWell (form_at h) n l → HasSums h n l → IsOver h below l
over-at h n below l e well sums = over h below l (rw e at well) (rw e at sums)

-- one child of a row, in the words of the row's own height
pub record IsChildOf {T : Type 0} (h : Heap T) (height below l child : ℕ) : Type 0 where
  pub well : IsWell (form_at h) below child
  pub sums : HasSums h below child
  pub short : length (seq_at (form_at h) below child) ≤ length (seq_at (form_at h) height l)
  pub thick : IsThick (form_at h) height l → IsThick (form_at h) below child

pub child-of : {T : Type 0} (h : Heap T) (height below l i child : ℕ) → height ≡ suc below → IsOver h below l → i < length (links_at h l) → child ≡ get_or (links_at h l) i 0 → IsChildOf h height below l child
child-of h height below l i child e o lt at =
    let own = child-at h below l i child o lt at in
    rw e (record { well = own.well; sums = own.sums; short = own.short; thick = own.thick })

-- a child but the last is thick
pub child-thick : {T : Type 0} (h : Heap T) (n l i : ℕ) → IsOver h n l → i + 1 < length (links_at h l) → IsThick (form_at h) n (get_or (links_at h l) i 0)
child-thick h n l i o more =
    let at : get_or (take (i + 1) (links_at h l)) i 0 ≡ get_or (links_at h l) i 0 = get_or-take (i + 1) (links_at h l) i 0 (omega arith) in
    let was : IsThick (form_at h) n (get_or (take (i + 1) (links_at h l)) i 0) = take-thick h n (i + 1) (links_at h l) o.rows more i 0 (omega (arith, length-take-le (i + 1) (links_at h l) (omega arith))) in
    rw at at was

pub child-row : {T : Type 0} (h : Heap T) (n l child : ℕ) → IsChild h n l child → IsSomeRow h n child
child-row h n l child c = record { well = c.well; sums = c.sums; some = c.some }

module _ {T : Type 0} (h : Heap T) (below n l : ℕ) (row : IsSomeRow h n l) where
  -- a low row is its own edge
  pub first-low : (place : ℕ) → n ≤ below → place ≡ length (links_at h l) → BeginsWith h below n l place n l
  first-low place low end =
      let none : drop place (links_at h l) ≡ [] = drop_all place (links_at h l) (omega arith) in
      record {
        row = row;
        low = low;
        inside = omega arith;
        rows = rw none (no-rows h below);
        close = λ more. absurd (omega arith);
        items = rw none (sym (append-nil (seq_at (form_at h) n l)));
        wide = λ e. absurd (omega arith);
        levels = λ p le. rw none (sym (append-nil (rows_at (links_at h) n p l)));
        some = λ p le some. some;
        thick = λ e. absurd (omega arith);
        few = omega arith;
      }

module _ {T : Type 0} (h : Heap T) (below l : ℕ) (o : IsOver h below l) where
  -- the last child, and the children before it
  pub last-child : (place last : ℕ) → place + 1 ≡ length (links_at h l) → last ≡ get_or (links_at h l) place 0 → EndsIn h below (suc below) l place below last
  last-child place last end e =
      let child = child-at h below l place last o (omega arith) e in
      let cut = items-cut (seq_at (form_at h) below) (links_at h l) place (omega arith) in
      let none : drop (place + 1) (links_at h l) ≡ [] = drop_all (place + 1) (links_at h l) (omega arith) in
      record {
        row = child-row h below l last child;
        low = omega arith;
        inside = omega arith;
        rows = rows-take h below place (links_at h l) o.rows (omega arith);
        thick = take-thick h below place (links_at h l) o.rows (omega arith);
        items = rw e (o.items ∙ rw (none, append-nil) at cut);
        wide = λ _. end;
        levels = λ p le.
            let f : ℕ → List ℕ = rows_at (links_at h) below p in
            let last-at : get_or (links_at h l) place 0 ≡ last = sym e in
            let cut' : flat_map f (links_at h l) ≡ flat_map f (take place (links_at h l)) ++ f last = rw (none, append-nil, last-at) at (items-cut f (links_at h l) place (omega arith)) in
            rows-inner (links_at h) below p l le ∙ cut';
        some = λ p le some. rows-some h below p last child.well le;
        few = omega (arith, o.most);
      }

  -- the first child, and the children after it
  pub first-child : (first : ℕ) → first ≡ get_or (links_at h l) 0 0 → BeginsWith h below (suc below) l 1 below first
  first-child first e =
      let child = child-at h below l 0 first o (omega (arith, o.some)) e in
      let cut = items-cut (seq_at (form_at h) below) (links_at h l) 0 (omega (arith, o.some)) in
      record {
        row = child-row h below l first child;
        low = omega arith;
        inside = omega (arith, o.some);
        rows = rows-drop h below 1 (links_at h l) o.rows;
        close = λ more. (refl, rw e (child-thick h below l 0 o (omega arith)));
        items = rw e (o.items ∙ cut);
        wide = λ _. refl;
        levels = λ p le.
            let f : ℕ → List ℕ = rows_at (links_at h) below p in
            let first-at : get_or (links_at h l) 0 0 ≡ first = sym e in
            let cut' : flat_map f (links_at h l) ≡ f first ++ flat_map f (drop 1 (links_at h l)) = rw first-at at (items-cut f (links_at h l) 0 (omega (arith, o.some))) in
            rows-inner (links_at h) below p l le ∙ cut';
        some = λ p le some. rows-some h below p first child.well le;
        thick = λ _ t. (refl, child.thick t, All-drop (IsThick (form_at h) below) 1 (links_at h l) (o.thick t).1, (o.thick t).0);
        few = omega (arith, o.most);
      }

-- the same in the words of a height
pub last-edge : {T : Type 0} (h : Heap T) (below n l place last : ℕ) → IsSomeRow h n l → n ≡ suc below → place + 1 ≡ length (links_at h l) → last ≡ get_or (links_at h l) place 0 → EndsIn h below n l place below last
last-edge h below n l place last row e end is = rw e (last-child h below l (over h below l (rw e at row.well) (rw e at row.sums)) place last end is)

pub first-edge : {T : Type 0} (h : Heap T) (below n l first : ℕ) → IsSomeRow h n l → n ≡ suc below → first ≡ get_or (links_at h l) 0 0 → BeginsWith h below n l 1 below first
first-edge h below n l first row e is = rw e (first-child h below l (over h below l (rw e at row.well) (rw e at row.sums)) first is)

-- three lists of rows, of which the middle one holds what stands at the seam
pub three : (f g : ℕ → List ℕ) (ks js ls xs ys y z : List ℕ) → flat_map f js ≡ y ++ z → flat_map f ks ≡ flat_map g ks → flat_map f ls ≡ flat_map g ls → xs ≡ flat_map g ks ++ y → ys ≡ z ++ flat_map g ls → flat_map f ((ks ++ js) ++ ls) ≡ xs ++ ys
three f g ks js ls xs ys y z e front back i j = rw (flat_map-append f (ks ++ js) ls, flat_map-append f ks js, e, front, back, i, j) (simp append_assoc)

-- the rows of a seam stand between the other children
pub seam : {T : Type 0} (h k z : Heap T) (height below n l place i last m r from j first : ℕ) (made all : List ℕ) → height ≡ suc below → Stays (λ x. IsSome (row_at h x)) h z → Stays (λ x. IsSome (row_at k x)) k z
    → links_at k l ≡ links_at h l → links_at k r ≡ links_at h r → EndsIn h below n l place i last → BeginsWith h below m r from j first
    → AreRows k below made → flat_map (seq_at (form_at k) below) made ≡ seq_at (form_at h) i last ++ seq_at (form_at h) j first → (j ≡ below → IsThick (form_at h) below first → All (IsThick (form_at k) below) made)
    → 1 ≤ length made → length made ≤ 2 → all ≡ (take place (links_at k l) ++ made) ++ drop from (links_at k r)
    → JoinsBelow h z n l m r height all → KeepsBeneath h z n l m r height all → Builds h z [] all 0 (2 * height)
    → JoinsToLinks h z n l m r height all × (m ≡ height → IsThick (form_at h) height r → 16 ≤ length all)
seam h k z height below n l place i last m r from j first made all e s s' left right ends begins rows items close some few gathered joins keeps builds =
    let is : all ≡ (take place (links_at h l) ++ made) ++ drop from (links_at h r) = rw (left, right) at gathered in
    let front = take place (links_at h l) in
    let back = drop from (links_at h r) in
    let front-live = rows-live h below (take place (links_at h l)) ends.rows in
    let back-live = rows-live h below (drop from (links_at h r)) begins.rows in
    let made-live = rows-live k below made rows in
    let thick : (j ≡ below) → IsThick (form_at h) below first → All (IsThick (form_at z) below) made = λ at t. all-thick-stay s' below made made-live (close at t) in
    let front-thick : All (IsThick (form_at z) below) (take place (links_at h l)) = all-thick-stay s below (take place (links_at h l)) front-live ends.thick in
    let size : length all ≡ (place + length made) + (length (links_at h r) - from) =
    rw is (omega (arith, length-append (take place (links_at h l) ++ made) (drop from (links_at h r)), length-append (take place (links_at h l)) made, length-take-le place (links_at h l) ends.inside, length-drop from (links_at h r))) in
    let back-size : length (drop from (links_at h r)) ≡ length (links_at h r) - from = length-drop from (links_at h r) in
    let links : AreUnmade z height all (seq_at (form_at h) n l ++ seq_at (form_at h) m r) = rw e (record {
      links = rows-above z below all (rw is (rows-around z below (take place (links_at h l)) made (drop from (links_at h r)) (rows-stay s below (take place (links_at h l)) front-live ends.rows) front-thick
          (rows-stay s' below made made-live rows) (rows-stay s below (drop from (links_at h r)) back-live begins.rows) (λ more. let c = begins.close (omega arith) in thick c.0 c.1)));
      items = items-above z below all ∙ rw is (three (seq_at (form_at z) below) (seq_at (form_at h) below) (take place (links_at h l)) made (drop from (links_at h r)) _ _ _ _ (items-stay s' below made made-live ∙ items)
          (items-stay s below (take place (links_at h l)) front-live) (items-stay s below (drop from (links_at h r)) back-live) ends.items begins.items);
      some = omega (arith, size, some);
      most = omega (arith, size, few, ends.few, begins.few);
    }) in
    -- where the right side is thick
    let full : m ≡ height → IsThick (form_at h) height r → (16 ≤ length all) × AreThick z height all = rw e (λ top t.
    let c = begins.thick top (rw top t) in (
      omega (arith, size, some, c.3, begins.wide top),
      thick-above z below all (rw is (All-append (IsThick (form_at z) below) (take place (links_at h l) ++ made) (drop from (links_at h r)) (All-append (IsThick (form_at z) below) (take place (links_at h l)) made front-thick (thick c.0 c.1)) (all-thick-stay s below (drop from (links_at h r)) back-live c.2))),
    )) in (
      record {
        links = links;
        thick = λ top t. (full top t).1;
        left_wide = λ top. omega (arith, size, some, ends.wide (top ∙ e));
        right_wide = λ top. omega (arith, size, some, begins.wide (top ∙ e), begins.inside);
        few = λ top top'. omega (arith, size, few, ends.wide (top ∙ e), begins.wide (top' ∙ e), begins.inside);
        seam = joins;
        keeps = keeps;
        builds = builds;
      },
      λ top t. (full top t).0,
    )

-- two leaves side by side
pub leaf-seam : {T : Type 0} (h z : Heap T) (height n l m r : ℕ) (all : List ℕ) → height ≡ 0 → n ≤ height → m ≤ height → IsSomeRow h n l → IsSomeRow h m r
    → all ≡ (take (length (links_at h l)) (links_at h l) ++ []) ++ drop 0 (links_at h r) → AreUnmade z height all (seq_at (form_at h) n l ++ seq_at (form_at h) m r) × (length all ≡ length (links_at h l) + length (links_at h r)) × (length (links_at h r) ≤ 32)
leaf-seam h z height n l m r all e low low' left right gathered =
    let whole : take (length (links_at h l)) (links_at h l) ≡ links_at h l = take_all (length (links_at h l)) (links_at h l) (omega arith) in
    let is : all ≡ links_at h l ++ links_at h r = rw (whole, append-nil) at gathered in
    let a = has-links h n l left.well left.sums in
    let b = has-links h m r right.well right.sums in
    let size : length all ≡ length (links_at h l) + length (links_at h r) = rw is (length-append (links_at h l) (links_at h r)) in (
      record {
        links = leaf-are-links z height all e;
        items = leaf-items z height all e ∙ rw is (rw (← a.items, ← b.items, leaf-items h n (links_at h l) (omega arith), leaf-items h m (links_at h r) (omega arith)) refl);
        some = omega (arith, size, left.some);
        most = omega (arith, size, a.most, b.most);
      },
      size,
      b.most,
    )

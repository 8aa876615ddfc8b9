-- An inner row with one child in the place of some of its children, and the edits that make it.
use Rattle.std.proofs.Common.{◌≡◌, ℕ, suc, ◌-◌, ◌+◌, ◌<◌, ◌≤◌, ◌^◌, List, [], ◌∷◌, ◌++◌, length, take, drop, get_or, set, refl, ap, sym, ◌∙◌, arith, length-append, length-drop, length-set, append-nil, append_assoc, IsSome, zero, inl, inr}
use Rattle.std.specs.List.{All, flat_map}
use Rattle.std.proofs.lemmas.List.{take_all, length-take-le, get_or-take, drop_all, length_push}
use Rattle.std.proofs.lemmas.List.Concat.{flat_map-append}
use Rattle.std.proofs.lemmas.Bool.{cases_lt}
use Rattle.std.proofs.lemmas.List.Elements.{All-append, All-cons, All-nil, All-take, All-drop}
use Rattle.node_heap.specs.Links.{count}
use Rattle.node_heap.specs.Heap.{Heap, row_at, form_at, links_at, holds_at, hold_count, HasSpares, IsGraph, half_holds}
use Rattle.node_heap.specs.Calls.{Extends, Builds, Unchanged}
use Rattle.node_heap.specs.Forms.{links_in}
use Rattle.node_heap.proofs.BuildLemmas.{Builds-then, Builds-more}
use Rattle.node_heap.specs.declared.row.TheConstants.{MOST_HEIGHT}
use Rattle.rrb_core.specs.Seq.{seq_at, IsThick, IsWell}
use Rattle.rrb_core.specs.Push.{last_in, IsPacked, into_leaf, into_last, into_new, IsPushedRoot, into_root, over_root}
use Rattle.rrb_core.specs.Vector.{sums_at, height_at, elements, IsGoodVector, IsVectorOf, HasSums}
use Rattle.rrb_core.specs.Build.{IsRowOf, AreRows}
use Rattle.rrb_core.specs.Levels.{rows_at, rows_of, HasFrontTo, TakesFirstRows}
use Rattle.rrb_core.specs.Edit.{links_with, CanEdit, CanEditRoot, CanPlace, MakesRow, Pushes, SetsAt, Takes, IsAtFront}
use Rattle.rrb_core.proofs.Lists.{items-cut, items-around, items-set, items-front, not-first, leaf-end, set-parts, take-first, front-of}
use Rattle.rrb_core.proofs.LinkCounts.{one-held}
use Rattle.rrb_core.proofs.ClosedRows.{Stays}
use Rattle.rrb_core.proofs.Stays.{live-stays, links-form, links-stay, items-stay, seq-stays, thick-stays, all-thick-stay, row-stays, rows-stay, keeps-stay, well-live}
use Rattle.rrb_core.proofs.BuildLemmas.{gained-held, builds-pair, unchanged-good}
use Rattle.rrb_core.proofs.LevelLemmas.{rows-own, rows-inner, rows-few, rows-kept, all-kept, front-few, keeps-all, first-of, first-rows}
use Rattle.rrb_core.proofs.RowSizes.{items-of-rows, items-before, rows-not-empty, vector-not-empty, not-empty-before, keeps-none, keeps-behind, keeps-on}
use Rattle.rrb_core.proofs.PushLemmas.{all-last, packed-thick, pushed-more, pushed-stays}
use Rattle.rrb_core.proofs.RowLists.{rows-append, rows-take, rows-drop, rows-around, one-row, take-thick, rows-live, IsOver, over, inner-thick, leaf-thick, child-at, good-row, root-row, at-place}
use Rattle.rrb_core.proofs.FillRule.{height-is, seq-leaf, well-most, thick-links, thick-low, well-pos}

module _ {T : Type 0} {old mid : Heap T} (graph : IsGraph old) (ext : Extends old mid) where
  -- the first i children, a new one, and those from `skip` on, in the heap that has the new one
  pub replaced : (n l i skip child : ℕ) (xs : List ℕ) → IsOver old n l → i ≤ length (links_at old l) → All (IsThick (form_at old) n) (take i (links_at old l)) → IsRowOf mid n child xs → 1 ≤ length xs
      → (skip < length (links_at old l) → IsThick (form_at mid) n child)
      → AreRows mid n (links_with (links_at mid l) i child skip)
      × (flat_map (seq_at (form_at mid) n) (links_with (links_at mid l) i child skip) ≡ flat_map (seq_at (form_at old) n) (take i (links_at old l)) ++ (xs ++ flat_map (seq_at (form_at old) n) (drop skip (links_at old l))))
      × (links_at mid l ≡ links_at old l)
  replaced n l i skip child xs o le thick row some close =
      let stays = live-stays graph ext in
      let ks : List ℕ = links_at old l in
      let same : links_at mid l ≡ ks = links-stay stays l o.live in
      let front : AreRows old n (take i ks) = rows-take old n i ks o.rows le in
      let back : AreRows old n (drop skip ks) = rows-drop old n skip ks o.rows in
      let front-live = rows-live old n (take i ks) front in
      let back-live = rows-live old n (drop skip ks) back in
      let seam : AreRows mid n (child ∷ []) = one-row mid n child xs row some in
      let rows = rows-around mid n (take i ks) (child ∷ []) (drop skip ks) (rows-stay stays n (take i ks) front-live front) (all-thick-stay stays n (take i ks) front-live thick) seam (rows-stay stays n (drop skip ks) back-live back)
      (λ more. All-cons (IsThick (form_at mid) n) child [] (close (omega (arith, length-drop skip ks, more))) (All-nil (IsThick (form_at mid) n))) in (
        rw same rows,
        rw (same, items-around (seq_at (form_at mid) n) (take i ks) (drop skip ks) child, items-stay stays n (take i ks) front-live, items-stay stays n (drop skip ks) back-live, row.items) refl,
        same,
      )

-- the elements of a row whose last child was pushed to
pub pushed-last : (f : ℕ → List ℕ) (ks ys : List ℕ) → 1 ≤ length ks → flat_map f (take (length ks - 1) ks) ++ (f (get_or ks (length ks - 1) 0) ++ ys) ≡ flat_map f ks ++ ys
pushed-last f ks ys some =
    let cut = items-cut f ks (length ks - 1) (omega arith) in
    let none : drop (length ks - 1 + 1) ks ≡ [] = drop_all (length ks - 1 + 1) ks (omega arith) in
    let cut' : flat_map f ks ≡ flat_map f (take (length ks - 1) ks) ++ (f (get_or ks (length ks - 1) 0) ++ []) = rw none at cut in
    rw (cut', append-nil) (simp append_assoc)

-- a list that is taken up to the end of its row has nothing behind it
pub none-behind : (f : ℕ → List ℕ) (ks : List ℕ) (stop : ℕ) → length ks ≤ stop → flat_map f (drop stop ks) ≡ []
none-behind f ks stop past = rw (drop_all stop ks past) refl

pub around-length : (ks : List ℕ) (i skip child : ℕ) → i ≤ length ks → length (links_with ks i child skip) ≡ i + 1 + (length ks - skip)
around-length ks i skip child le = omega (arith, length-append (take i ks ++ child ∷ []) (drop skip ks), length-append (take i ks) (child ∷ []), length-take-le i ks le, length-drop skip ks)

-- a row over links_with of the children of l can be made, and has the elements zs
pub record IsPlaced {T : Type 0} (old mid : Heap T) (n l i skip child : ℕ) (zs : List ℕ) : Type 0 where
  pub can : CanPlace mid n l i child skip
  pub items : flat_map (seq_at (form_at mid) n) (links_with (links_at mid l) i child skip) ≡ zs
  pub same : links_at mid l ≡ links_at old l
  pub size : length (links_with (links_at mid l) i child skip) ≡ i + 1 + (length (links_at mid l) - skip)

-- the row l of height n + 1 is edited: its new child, of at most n + 1 nodes, stands in the middle heap
module _ {T : Type 0} {old mid : Heap T} {spent : List ℕ} {n l child : ℕ} (row : CanEdit old (suc n) l) (b : Builds old mid spent (child ∷ []) 0 (n + 1)) where
  of : IsOver old n l
  of = over old n l row.well row.sums

  place : ((k : ℕ) → count k spent ≤ holds_at old k) → (i skip : ℕ) (xs zs : List ℕ) → i ≤ length (links_at old l) → skip ≤ length (links_at old l) → i + 1 + (length (links_at old l) - skip) ≤ 32 → All (IsThick (form_at old) n) (take i (links_at old l)) → IsRowOf mid n child xs → 1 ≤ length xs
      → (skip < length (links_at old l) → IsThick (form_at mid) n child)
      → flat_map (seq_at (form_at old) n) (take i (links_at old l)) ++ (xs ++ flat_map (seq_at (form_at old) n) (drop skip (links_at old l))) ≡ zs → length zs < 2 ^ 32
      → IsPlaced old mid n l i skip child zs
  place held i skip xs zs le le' few thick new some close items short =
      let r = replaced row.graph b.extends n l i skip child xs of le thick new some close in
      let keep : i ≤ length (links_at mid l) = rw r.2 le in
      let all : flat_map (seq_at (form_at mid) n) (links_with (links_at mid l) i child skip) ≡ zs = r.1 ∙ items in
      record {
        can = record {
          graph = b.graph;
          live = b.extends.live l of.live;
          sums = rw ((live-stays row.graph b.extends).kept l of.live) (keeps-stay (live-stays row.graph b.extends) n (links_at old l) (sums_at old l) (rows-live old n (links_at old l) of.rows) of.sums);
          keep_in = keep;
          skip_in = rw r.2 le';
          few = rw r.2 few;
          rows = r.0;
          low = omega (arith, row.low);
          short = rw all short;
          held = gained-held b held;
          spare = omega (arith, b.makes.spare_nodes, b.few_nodes, row.spare);
          holds = omega (arith, b.total, row.holds);
        };
        items = all;
        same = r.2;
        size = around-length (links_at mid l) i skip child keep;
      }

  -- the row that was made
  module _ {new : Heap T} {i skip k : ℕ} {zs : List ℕ} (placed : IsPlaced old mid n l i skip child zs) (made : IsRowOf new (suc n) k (flat_map (seq_at (form_at mid) n) (links_with (links_at mid l) i child skip))) (more : Builds mid new (child ∷ []) (k ∷ []) 0 1) (links : links_at new k ≡ links_with (links_at mid l) i child skip) where
    pub placed-edits : MakesRow old new spent (suc n) k zs
    placed-edits = record { row = rw placed.items at made; builds = Builds-more 0 (suc n + 1) (Builds-then b more) (omega arith) (omega arith) }

    -- its links, over forms, where nothing stands behind the child
    placed-links : length (links_at old l) ≤ skip → links_in (form_at new) k ≡ take i (links_in (form_at old) l) ++ child ∷ []
    placed-links past = rw (links-form new k, links-form old l, links, placed.same, drop_all skip (links_at old l) past, append-nil) refl

-- a child of a row that can be edited
pub edit-at : {T : Type 0} {h : Heap T} {n l : ℕ} (i child : ℕ) → CanEdit h (suc n) l → i < length (links_at h l) → child ≡ get_or (links_at h l) i 0 → CanEdit h n child × (length (seq_at (form_at h) n child) ≤ length (seq_at (form_at h) (suc n) l))
edit-at {T} {h} {n} {l} i child row lt is =
    let there = child-at h n l i child (over h n l row.well row.sums) lt is in (
      record {
        graph = row.graph;
        well = there.well;
        sums = there.sums;
        low = omega (arith, row.low);
        short = omega (arith, there.short, row.short);
        spare = omega (arith, row.spare);
        holds = omega (arith, row.holds);
      },
      there.short,
    )

pub edit-last : {T : Type 0} {h : Heap T} {n l : ℕ} (child : ℕ) → CanEdit h (suc n) l → child ≡ last_in (form_at h) l → CanEdit h n child × (length (seq_at (form_at h) n child) ≤ length (seq_at (form_at h) (suc n) l))
edit-last {T} {h} {n} {l} child row is = edit-at (length (links_at h l) - 1) child row (omega (arith, (over h n l row.well row.sums).some)) (rw (links-form h l) at is)

-- a root after room was made
pub root-after : {T : Type 0} {old mid : Heap T} {root spares : ℕ} → Unchanged old mid → IsGoodVector old root → HasSpares mid 0 spares → hold_count old < half_holds → CanEditRoot mid root spares
root-after {root = root} same good spares few = record { graph = same.graph; good = (unchanged-good root same good).0; spare = spares.1; holds = omega (arith, same.count, few) }

-- a root that can be edited
pub edit-root : {T : Type 0} {h : Heap T} {root n spares : ℕ} → CanEditRoot h root spares → 8 ≤ spares → n ≡ height_at h root → CanEdit h n root
edit-root r enough is =
    let good = r.good in
    record {
      graph = r.graph;
      well = rw is good.shape.well;
      sums = rw is good.sums;
      low = omega (arith, is, good.shape.low);
      short = rw is good.shape.short;
      spare = omega (arith, is, good.shape.low, r.spare, enough);
      holds = omega (arith, is, good.shape.low, r.holds);
    }

-- the elements of a row with more are few
push-short : (xs : List ℕ) (e : ℕ) → length xs + 1 < 2 ^ 32 → length (xs ++ e ∷ []) < 2 ^ 32
push-short xs e short = omega (arith, length_push xs e)

-- a row that was pushed to, in the place of the last child
module _ {T : Type 0} {old mid : Heap T} {n l e child : ℕ} (row : CanEdit old (suc n) l) (short : length (seq_at (form_at old) (suc n) l) + 1 < 2 ^ 32) (held : 1 ≤ holds_at old e) (sub : Pushes old mid n (last_in (form_at old) l) e child) where
  pub place-last : IsPlaced old mid n l (length (links_at old l) - 1) (length (links_at old l)) child (seq_at (form_at old) (suc n) l ++ e ∷ [])
  place-last =
      let o = over old n l row.well row.sums in
      let ks : List ℕ = links_at old l in
      let f : ℕ → List ℕ = seq_at (form_at old) n in
      let made : IsRowOf mid n child (f (get_or ks (length ks - 1) 0) ++ e ∷ []) = rw (links-form old l) at sub.edits.row in
      let items : flat_map f (take (length ks - 1) ks) ++ ((f (get_or ks (length ks - 1) 0) ++ e ∷ []) ++ flat_map f (drop (length ks) ks)) ≡ seq_at (form_at old) (suc n) l ++ e ∷ [] =
      rw (none-behind f ks (length ks) (omega arith), append-nil, o.items) (pushed-last f ks (e ∷ []) o.some) in
      place row sub.edits.builds (one-held e 0 (holds_at old) held) (length ks - 1) (length ks) (f (get_or ks (length ks - 1) 0) ++ e ∷ []) _ (omega arith) (omega arith) (omega (arith, o.some, o.most)) (take-thick old n (length ks - 1) ks o.rows (omega (arith, o.some))) made (omega (arith, length-append (f (get_or ks (length ks - 1) 0)) (e ∷ []))) (λ lt. absurd (omega arith)) items (push-short (seq_at (form_at old) (suc n) l) e short)

  pub pushes-last : {new : Heap T} {k : ℕ} → IsRowOf new (suc n) k (flat_map (seq_at (form_at mid) n) (links_with (links_at mid l) (length (links_at old l) - 1) child (length (links_at old l)))) → Builds mid new (child ∷ []) (k ∷ []) 0 1
      → links_at new k ≡ links_with (links_at mid l) (length (links_at old l) - 1) child (length (links_at old l)) → Pushes old new (suc n) l e k
  pushes-last {new} {k} made more links =
      let stays = live-stays sub.edits.builds.graph more.extends in
      record {
        edits = placed-edits row sub.edits.builds place-last made more links;
        rule = into_last n l k child (pushed-stays stays (well-live mid n child sub.edits.row.well) sub.rule) (rw (ap length (links-form old l)) (placed-links row sub.edits.builds place-last made more links (omega arith)));
      }

-- a row over one element, beside the children, of which the last is packed
module _ {T : Type 0} {old mid : Heap T} {n l e child : ℕ} (row : CanEdit old (suc n) l) (short : length (seq_at (form_at old) (suc n) l) + 1 < 2 ^ 32) (held : 1 ≤ holds_at old e) (packed : IsPacked (form_at old) n (last_in (form_at old) l)) (narrow : length (links_at old l) ≡ 32 → ⊥) (sub : MakesRow old mid (e ∷ []) n child (e ∷ [])) where
  room : length (links_at old l) < 32
  room = omega (arith, (over old n l row.well row.sums).most, narrow)

  pub place-beside : IsPlaced old mid n l (length (links_at old l)) (length (links_at old l)) child (seq_at (form_at old) (suc n) l ++ e ∷ [])
  place-beside =
      let o = over old n l row.well row.sums in
      let ks : List ℕ = links_at old l in
      let f : ℕ → List ℕ = seq_at (form_at old) n in
      let last : IsPacked (form_at old) n (get_or ks (length ks - 1) 0) = rw (links-form old l) at packed in
      let thick : All (IsThick (form_at old) n) ks = all-last (IsThick (form_at old) n) ks o.rows.thick (packed-thick (form_at old) n (get_or ks (length ks - 1) 0) (o.rows.well (length ks - 1) 0 (omega (arith, o.some))) last) in
      let whole : take (length ks) ks ≡ ks = take_all (length ks) ks (omega arith) in
      let items : flat_map f (take (length ks) ks) ++ (e ∷ [] ++ flat_map f (drop (length ks) ks)) ≡ seq_at (form_at old) (suc n) l ++ e ∷ [] =
      rw (whole, none-behind f ks (length ks) (omega arith), o.items) refl in
      place row sub.builds (one-held e 0 (holds_at old) held) (length ks) (length ks) (e ∷ []) _ (omega arith) (omega arith) (omega (arith, room)) (rw whole thick) sub.row (omega arith) (λ lt. absurd (omega arith)) items (push-short (seq_at (form_at old) (suc n) l) e short)

  pub pushes-beside : {new : Heap T} {k : ℕ} → IsRowOf new (suc n) k (flat_map (seq_at (form_at mid) n) (links_with (links_at mid l) (length (links_at old l)) child (length (links_at old l)))) → Builds mid new (child ∷ []) (k ∷ []) 0 1
      → links_at new k ≡ links_with (links_at mid l) (length (links_at old l)) child (length (links_at old l)) → Pushes old new (suc n) l e k
  pushes-beside {new} {k} made more links =
      let stays = live-stays sub.builds.graph more.extends in
      let fewer : length (links_in (form_at old) l) < 32 = rw (links-form old l) room in
      let all : take (length (links_at old l)) (links_in (form_at old) l) ≡ links_in (form_at old) l = take_all (length (links_at old l)) (links_in (form_at old) l) (omega (arith, ap length (links-form old l))) in
      record {
        edits = placed-edits row sub.builds place-beside made more links;
        rule = into_new n l k child packed (seq-stays stays n child (well-live mid n child sub.row.well) ∙ sub.row.items) (record { room = fewer; links = rw all at (placed-links row sub.builds place-beside made more links (omega arith)) });
      }

-- the child with the element at an index, by its place and the index in it
pub record IsSpot {T : Type 0} (h : Heap T) (n l i within index : ℕ) : Type 0 where
  pub place : i < length (links_at h l)
  pub inside : within < length (seq_at (form_at h) n (get_or (links_at h l) i 0))
  pub before : length (flat_map (seq_at (form_at h) n) (take i (links_at h l))) + within ≡ index

-- a child with one element set, in its own place
module _ {T : Type 0} {old mid : Heap T} {n l i within index e child : ℕ} (row : CanEdit old (suc n) l) (held : 1 ≤ holds_at old e) (spot : IsSpot old n l i within index) (sub : SetsAt old mid n (get_or (links_at old l) i 0) within e child) where
  pub place-set : IsPlaced old mid n l i (i + 1) child (set (seq_at (form_at old) (suc n) l) index e)
  place-set =
      let o = over old n l row.well row.sums in
      let ks : List ℕ = links_at old l in
      let f : ℕ → List ℕ = seq_at (form_at old) n in
      let items : flat_map f (take i ks) ++ (set (f (get_or ks i 0)) within e ++ flat_map f (drop (i + 1) ks)) ≡ set (seq_at (form_at old) (suc n) l) index e = rw o.items (sym (items-set f ks i within index e spot.place spot.inside spot.before)) in
      place row sub.edits.builds (one-held e 0 (holds_at old) held) i (i + 1) (set (f (get_or ks i 0)) within e) _ (omega (arith, spot.place)) (omega (arith, spot.place)) (omega (arith, o.most, spot.place)) (take-thick old n i ks o.rows spot.place) sub.edits.row (omega (arith, length-set (f (get_or ks i 0)) within e, spot.inside)) (λ more. sub.thick (before more)) items (omega (arith, length-set (seq_at (form_at old) (suc n) l) index e, row.short))
    where
      before : i + 1 < length (links_at old l) → IsThick (form_at old) n (get_or (links_at old l) i 0)
      before more =
          let o = over old n l row.well row.sums in
          let at : get_or (take (i + 1) (links_at old l)) i 0 ≡ get_or (links_at old l) i 0 = get_or-take (i + 1) (links_at old l) i 0 (omega arith) in
          rw at at (take-thick old n (i + 1) (links_at old l) o.rows more i 0 (omega (arith, length-take-le (i + 1) (links_at old l) (omega arith))))

  pub sets-inner : {new : Heap T} {k : ℕ} → IsRowOf new (suc n) k (flat_map (seq_at (form_at mid) n) (links_with (links_at mid l) i child (i + 1))) → Builds mid new (child ∷ []) (k ∷ []) 0 1
      → links_at new k ≡ links_with (links_at mid l) i child (i + 1) → SetsAt old new (suc n) l index e k
  sets-inner {new} {k} made more links =
      let o = over old n l row.well row.sums in
      let placed = place-set in
      let ks : List ℕ = links_at old l in
      let stays = live-stays row.graph sub.edits.builds.extends in
      let width : length (links_at new k) ≡ length ks = rw links (omega (arith, placed.size, ap length placed.same, spot.place)) in
      let all-thick : IsThick (form_at old) (suc n) l → All (IsThick (form_at mid) n) (links_with (links_at mid l) i child (i + 1)) = λ thick.
      let later : All (IsThick (form_at mid) n) ks = all-thick-stay stays n ks (rows-live old n ks o.rows) (o.thick thick).1 in
      let new' : IsThick (form_at mid) n child = sub.thick ((o.thick thick).1 i 0 spot.place) in
      rw placed.same (All-append (IsThick (form_at mid) n) (take i ks ++ child ∷ []) (drop (i + 1) ks) (All-append (IsThick (form_at mid) n) (take i ks) (child ∷ []) (All-take (IsThick (form_at mid) n) i ks later) (All-cons (IsThick (form_at mid) n) child [] new' (All-nil (IsThick (form_at mid) n)))) (All-drop (IsThick (form_at mid) n) (i + 1) ks later)) in
      record {
        edits = placed-edits row sub.edits.builds placed made more links;
        thick = λ thick. inner-thick new mid n k (links_with (links_at mid l) i child (i + 1)) (live-stays sub.edits.builds.graph more.extends) placed.can.rows links (omega (arith, ap length links, width, (o.thick thick).0)) (all-thick thick);
        count = width;
      }

-- a take that gives a row itself, where that has no more elements, keeps of each height, and of the row's own, the rows that end within the count
takes-kept : {T : Type 0} {old new : Heap T} {n l count k : ℕ} → Takes old new n l count k → (count ≡ length (seq_at (form_at old) n l) → k ≡ l) → count ≤ length (seq_at (form_at old) n l) → (m : ℕ) → m ≤ n → HasFrontTo (seq_at (form_at old) m) count (rows_at (links_at old) n m l) (rows_at (links_at new) n m k)
takes-kept {T} {old} {new} {n} {l} {count} {k} t itself fits m low = elim (cases_lt m n) as (λ _. HasFrontTo (seq_at (form_at old) m) count (rows_at (links_at old) n m l) (rows_at (links_at new) n m k)) [
  | inl lower ↦ t.rows m lower
  | inr own ↦
      let same : m ≡ n = omega (arith, own, low) in
      let here : HasFrontTo (seq_at (form_at old) n) count (l ∷ []) (k ∷ []) = elim (cases_lt count (length (seq_at (form_at old) n l))) as (λ _. HasFrontTo (seq_at (form_at old) n) count (l ∷ []) (k ∷ [])) [
        | inl cut ↦ keeps-none (seq_at (form_at old) n) count l (k ∷ []) (omega arith) cut
        | inr all ↦ rw (itself (omega (arith, all, fits))) (keeps-all (seq_at (form_at old) n) count (l ∷ []))
      ] in
      rw (same, rows-own (links_at old) n l, rows-own (links_at new) n k) here
]

-- the front of a child, after the children before it
module _ {T : Type 0} {old mid : Heap T} {n l i within count' child : ℕ} (row : CanEdit old (suc n) l) (some : 1 ≤ count') (fits : count' ≤ length (seq_at (form_at old) (suc n) l)) (spot : IsSpot old n l i within (count' - 1)) (sub : Takes old mid n (get_or (links_at old l) i 0) (within + 1) child) where
  pub place-take : IsPlaced old mid n l i (length (links_at old l)) child (take count' (seq_at (form_at old) (suc n) l))
  place-take =
      let o = over old n l row.well row.sums in
      let ks : List ℕ = links_at old l in
      let f : ℕ → List ℕ = seq_at (form_at old) n in
      let items : flat_map f (take i ks) ++ (take (within + 1) (f (get_or ks i 0)) ++ flat_map f (drop (length ks) ks)) ≡ take count' (seq_at (form_at old) (suc n) l) =
      rw (none-behind f ks (length ks) (omega arith), append-nil, o.items) (sym (items-front f ks i (within + 1) count' spot.place (omega (arith, spot.before)) (omega (arith, spot.inside)))) in
      place row sub.edits.builds (λ k. omega arith) i (length ks) (take (within + 1) (f (get_or ks i 0))) _ (omega (arith, spot.place)) (omega arith) (omega (arith, o.most, spot.place)) (take-thick old n i ks o.rows spot.place) sub.edits.row (omega (arith, length-take-le (within + 1) (f (get_or ks i 0)) (omega (arith, spot.inside)))) (λ more. absurd (omega arith)) items (omega (arith, length-take-le count' (seq_at (form_at old) (suc n) l) fits, row.short, fits))

  -- of each height its rows are those below the links before the child, and then the child's
  takes-rows : {new : Heap T} {k : ℕ} → (within + 1 ≡ length (seq_at (form_at old) n (get_or (links_at old l) i 0)) → child ≡ get_or (links_at old l) i 0) → Builds mid new (child ∷ []) (k ∷ []) 0 1 → links_at new k ≡ links_with (links_at mid l) i child (length (links_at old l)) → (m : ℕ) → m < suc n → HasFrontTo (seq_at (form_at old) m) count' (rows_at (links_at old) (suc n) m l) (rows_at (links_at new) (suc n) m k)
  takes-rows {new} {k} itself more links m less =
      let low : m ≤ n = omega (arith, less) in
      let o = over old n l row.well row.sums in
      let ks : List ℕ = links_at old l in
      let f : ℕ → List ℕ = rows_at (links_at old) n m in
      let s : ℕ → List ℕ = seq_at (form_at old) m in
      let before : List ℕ = flat_map f (take i ks) in
      let own : List ℕ = f (get_or ks i 0) in
      let live = rows-live old n (take i ks) (rows-take old n i ks o.rows (omega (arith, spot.place))) in
      let over-links : links_at new k ≡ take i ks ++ child ∷ [] = links ∙ rw (place-take.same, drop_all (length ks) ks (omega arith), append-nil) refl in
      let first : flat_map (rows_at (links_at new) n m) (take i ks) ≡ before = all-kept (live-stays row.graph (Builds-then sub.edits.builds more).extends) n m (take i ks) live in
      let last : rows_at (links_at new) n m child ≡ rows_at (links_at mid) n m child = rows-kept (live-stays sub.edits.builds.graph more.extends) n m child (well-live mid n child sub.edits.row.well) in
      let all : rows_at (links_at new) (suc n) m k ≡ before ++ rows_at (links_at mid) n m child =
      rows-inner (links_at new) n m k low ∙ ap (flat_map (rows_at (links_at new) n m)) over-links ∙ flat_map-append (rows_at (links_at new) n m) (take i ks) (child ∷ []) ∙ rw (first, append-nil, last) refl in
      let rows : rows_at (links_at old) (suc n) m l ≡ (before ++ own) ++ flat_map f (drop (i + 1) ks) = rows-inner (links_at old) n m l low ∙ items-cut f ks i spot.place ∙ sym (append_assoc before own (flat_map f (drop (i + 1) ks))) in
      let size : length (flat_map s before) + (within + 1) ≡ count' = omega (arith, ap length (items-before old n m (take i ks) low), spot.before, some) in
      let kept : HasFrontTo s count' (before ++ own) (before ++ rows_at (links_at mid) n m child) = rw size at (keeps-behind s before own (rows_at (links_at mid) n m child) (within + 1) (takes-kept sub itself (omega (arith, spot.inside)) m low)) in
      let enough : count' ≤ length (flat_map s (before ++ own)) = rw (flat_map-append s before own) (omega (arith, length-append (flat_map s before) (flat_map s own), ap length (items-of-rows old n m (get_or ks i 0) low), spot.inside, size)) in
      let not-empty = rows-not-empty old (suc n) m l row.well o.some (omega (arith, low)) in
      rw all (keeps-on s count' (before ++ own) (rows_at (links_at old) (suc n) m l) (before ++ rows_at (links_at mid) n m child) (front-of (rows_at (links_at old) (suc n) m l) (before ++ own) (flat_map f (drop (i + 1) ks)) (before ++ own) refl rows) enough not-empty kept)

  pub takes-inner : {new : Heap T} {k : ℕ} → (within + 1 ≡ length (seq_at (form_at old) n (get_or (links_at old l) i 0)) → child ≡ get_or (links_at old l) i 0) → IsRowOf new (suc n) k (flat_map (seq_at (form_at mid) n) (links_with (links_at mid l) i child (length (links_at old l)))) → Builds mid new (child ∷ []) (k ∷ []) 0 1
      → links_at new k ≡ links_with (links_at mid l) i child (length (links_at old l)) → Takes old new (suc n) l count' k
  takes-inner {new} {k} itself made more links =
      let placed = place-take in
      let down : suc n - 1 ≡ n = omega arith in
      record {
        edits = placed-edits row sub.edits.builds placed made more links;
        two = λ _ past. omega (arith, ap length links, placed.size, ap length placed.same, not-first (seq_at (form_at old) n) (links_at old l) i within count' spot.inside spot.before (rw down at past));
        rows = takes-rows itself more links;
      }

-- the elements of a leaf are its links
pub leaf-items : {T : Type 0} (h : Heap T) (l : ℕ) → seq_at (form_at h) 0 l ≡ links_at h l
leaf-items h l = seq-leaf (form_at h) 0 l (omega arith) ∙ links-form h l

pub leaf-most : {T : Type 0} {h : Heap T} {l : ℕ} → CanEdit h 0 l → length (links_at h l) ≤ 32
leaf-most {T} {h} {l} row = rw (← links-form h l) (well-most (form_at h) 0 l row.well)

module _ {T : Type 0} {old new : Heap T} {l k : ℕ} where
  pub pushes-leaf : (e : ℕ) → (length (links_at old l) ≡ 32 → ⊥) → CanEdit old 0 l → MakesRow old new (e ∷ []) 0 k (links_with (links_at old l) (length (links_at old l)) e (length (links_at old l))) → links_at new k ≡ links_with (links_at old l) (length (links_at old l)) e (length (links_at old l)) → Pushes old new 0 l e k
  pushes-leaf e narrow row edits links =
      let end = leaf-end (links_at old l) e (length (links_at old l)) refl in
      record {
        edits = rw (leaf-items old l) (rw end at edits);
        rule = into_leaf l k (record { room = rw (links-form old l) (omega (arith, leaf-most row, narrow)); links = rw (links-form old l, links-form new k) (links ∙ end) });
      }

  pub sets-leaf : (i e : ℕ) → i < length (links_at old l) → MakesRow old new (e ∷ []) 0 k (links_with (links_at old l) i e (i + 1)) → links_at new k ≡ links_with (links_at old l) i e (i + 1) → SetsAt old new 0 l i e k
  sets-leaf i e lt edits links =
      let parts = set-parts (links_at old l) i e lt in
      let width : length (links_with (links_at old l) i e (i + 1)) ≡ length (links_at old l) = rw (← parts) (length-set (links_at old l) i e) in
      record {
        edits = rw (leaf-items old l) (rw (← parts) at edits);
        thick = λ thick. leaf-thick new k (links_with (links_at old l) i e (i + 1)) links (omega (arith, width, thick-links (form_at old) 0 l thick, ap length (links-form old l)));
        count = ap length links ∙ width;
      }

  pub takes-leaf : (count : ℕ) → IsRowOf new 0 k (take count (links_at old l)) → Builds old new [] (k ∷ []) 0 1 → Takes old new 0 l count k
  takes-leaf count row builds =
      record {
        edits = record { row = rw (leaf-items old l) row; builds = builds };
        two = λ some. absurd (omega (arith, some));
        rows = λ m low. absurd (omega (arith, low));
      }

-- an inner row whose first child has too few elements has another one
two-links : {T : Type 0} (h : Heap T) (n l count : ℕ) → 1 ≤ n → IsWell (form_at h) n l → HasSums h n l → count ≡ length (seq_at (form_at h) n l) → length (seq_at (form_at h) (n - 1) (get_or (links_at h l) 0 0)) < count → 2 ≤ length (links_at h l)
two-links h zero l count some well sums whole past = absurd (omega (arith, some))
two-links h (suc n) l count some well sums whole past =
    let down : suc n - 1 ≡ n = omega arith in
    let o = over h n l well sums in
    let ks : List ℕ = links_at h l in
    let f : ℕ → List ℕ = seq_at (form_at h) n in
    let few : length (f (get_or ks 0 0)) < count = rw down at past in
    elim (cases_lt 1 (length ks)) as (λ _. 2 ≤ length ks) [
      | inl lt ↦ omega (arith, lt)
      | inr one ↦
          let none : flat_map f (drop 1 ks) ≡ [] = none-behind f ks 1 one in
          let all : seq_at (form_at h) (suc n) l ≡ f (get_or ks 0 0) = o.items ∙ items-cut f ks 0 (omega (arith, o.some)) ∙ rw (none, append-nil) refl in
          absurd (omega (arith, few, whole, ap length all))
    ]

-- a row with all its elements is the row itself, held once more
module _ {T : Type 0} {old new : Heap T} {n l count : ℕ} (row : CanEdit old n l) (builds : Builds old new [] (l ∷ []) 0 0) (whole : count ≡ length (seq_at (form_at old) n l)) where
  keeps : Stays (λ x. IsSome (row_at old x)) old new
  keeps = live-stays row.graph builds.extends

  alive : IsSome (row_at old l)
  alive = well-live old n l row.well

  pub takes-itself : Takes old new n l count l
  takes-itself =
      let all : take count (seq_at (form_at old) n l) ≡ seq_at (form_at old) n l = take_all count (seq_at (form_at old) n l) (omega (arith, whole)) in
      record {
        edits = record { row = rw all (row-stays keeps n l (seq_at (form_at old) n l) alive (record { well = row.well; sums = row.sums; items = refl })); builds = Builds-more 0 (n + 1) builds (omega arith) (omega arith) };
        two = λ some past. rw (links-stay keeps l alive) (two-links old n l count some row.well row.sums whole past);
        rows = λ m low. rw (rows-kept keeps n m l alive) (keeps-all (seq_at (form_at old) m) count (rows_at (links_at old) n m l));
      }

-- a packed root and a row with one element beside it: what the new root over them wants
pub record IsPair {T : Type 0} (old new : Heap T) (n root child e : ℕ) : Type 0 where
  pub rows : AreRows new n (root ∷ child ∷ [])
  pub items : flat_map (seq_at (form_at new) n) (root ∷ child ∷ []) ≡ elements old root ++ e ∷ []
  pub low : n < MOST_HEIGHT
  pub builds : Builds old new (e ∷ []) (root ∷ child ∷ []) 0 (n + 1)
  pub beside : seq_at (form_at new) n child ≡ e ∷ []
  pub live : IsSome (row_at new child)

module _ {T : Type 0} {old mid new : Heap T} {n root child e : ℕ} (graph : IsGraph old) (good : IsGoodVector old root) (is : n ≡ height_at old root) (packed : IsPacked (form_at old) n root) (short : length (elements old root) + 1 < 2 ^ 32) (sub : MakesRow old mid (e ∷ []) n child (e ∷ [])) (held : Builds mid new [] (root ∷ []) 0 0) where
  pub root-pair : IsPair old new n root child e
  root-pair =
      let row : IsRowOf old n root (elements old root) = rw is (root-row old root good) in
      let both = builds-pair e sub.builds held in
      let stays = live-stays graph both.extends in
      let live = well-live old n root row.well in
      let thick = packed-thick (form_at old) n root row.well packed in
      let some : 1 ≤ length (elements old root) = rw (← row.items) (well-pos (form_at old) n root row.well (omega (arith, thick-links (form_at old) n root thick))) in
      let root' = row-stays stays n root (elements old root) live row in
      let live' = well-live mid n child sub.row.well in
      let child' = row-stays (live-stays sub.builds.graph held.extends) n child (e ∷ []) live' sub.row in
      record {
        rows = rows-append new n (root ∷ []) (child ∷ []) (one-row new n root (elements old root) root' some) (one-row new n child (e ∷ []) child' (omega arith)) (λ _. All-cons (IsThick (form_at new) n) root [] (thick-stays stays n root live thick) (All-nil (IsThick (form_at new) n)));
        items = rw (root'.items, child'.items) refl;
        low = thick-low (form_at old) n root thick (rw is good.shape.low) (rw row.items (omega (arith, short)));
        builds = both;
        beside = child'.items;
        live = held.extends.live child live';
      }

  -- the root over them
  pub pair-vector : {top : Heap T} {k : ℕ} → IsRowOf top (suc n) k (flat_map (seq_at (form_at new) n) (root ∷ child ∷ [])) → links_at top k ≡ root ∷ child ∷ [] → IsVectorOf top k (elements old root ++ e ∷ [])
  pair-vector {top} {k} made links = good-row top (suc n) k (elements old root ++ e ∷ []) (rw root-pair.items at made) root-pair.low (λ _. rw links (omega arith)) (push-short (elements old root) e short)

  pub pair-rule : {top : Heap T} {k : ℕ} → IsRowOf top (suc n) k (flat_map (seq_at (form_at new) n) (root ∷ child ∷ [])) → links_at top k ≡ root ∷ child ∷ [] → Extends new top → IsPushedRoot (form_at old) (form_at top) e root k
  pair-rule {top} {k} made links ext =
      let stays = live-stays held.graph ext in
      let one : seq_at (form_at top) n child ≡ e ∷ [] = seq-stays stays n child root-pair.live ∙ root-pair.beside in
      let up : height_at top k ≡ suc n = height-is (form_at top) (suc n) k made.well in
      over_root child (up ∙ ap suc is) (rw is at packed) (rw is at one) (links-form top k ∙ links)

-- a row that was pushed to as a root
module _ {T : Type 0} {old new : Heap T} {root e k : ℕ} (good : IsGoodVector old root) (short : length (elements old root) + 1 < 2 ^ 32) (pushes : Pushes old new (height_at old root) root e k) where
  pub pushed-vector : IsVectorOf new k (elements old root ++ e ∷ [])
  pushed-vector = good-row new (height_at old root) k (elements old root ++ e ∷ []) pushes.edits.row good.shape.low (λ some. omega (arith, ap length (links-form new k), pushed-more pushes.rule, good.shape.two some)) (push-short (elements old root) e short)

  pub pushed-root : IsPushedRoot (form_at old) (form_at new) e root k
  pushed-root = into_root (height-is (form_at new) (height_at old root) k pushes.edits.row.well) pushes.rule

-- a root with one element set
pub set-vector : {T : Type 0} {old new : Heap T} {root i e k : ℕ} → IsGoodVector old root → SetsAt old new (height_at old root) root i e k → IsVectorOf new k (set (elements old root) i e)
set-vector {T} {old} {new} {root} {i} {e} {k} good s =
    good-row new (height_at old root) k (set (elements old root) i e) s.edits.row good.shape.low (λ some. omega (arith, s.count, ap length (links-form old root), good.shape.two some)) (omega (arith, length-set (elements old root) i e, good.shape.short))

-- a root with the first elements of a row
pub takes-vector : {T : Type 0} {old new : Heap T} {n l count k : ℕ} → Takes old new n l count k → n ≤ MOST_HEIGHT → (1 ≤ n → length (seq_at (form_at old) (n - 1) (get_or (links_at old l) 0 0)) < count) → count ≤ length (seq_at (form_at old) n l) → length (seq_at (form_at old) n l) < 2 ^ 32 → IsVectorOf new k (take count (seq_at (form_at old) n l))
takes-vector {T} {old} {new} {n} {l} {count} {k} t low past fits short =
    good-row new n k (take count (seq_at (form_at old) n l)) t.edits.row low (λ some. t.two some (past some)) (omega (arith, length-take-le count (seq_at (form_at old) n l) fits, short))

-- its rows of each height
pub takes-front : {T : Type 0} {old new : Heap T} {root n l count k : ℕ} → IsGoodVector old root → 1 ≤ length (elements old root) → n ≤ height_at old root → count ≤ length (seq_at (form_at old) n l) → IsAtFront old root n l → Takes old new n l count k → (count ≡ length (seq_at (form_at old) n l) → k ≡ l) → TakesFirstRows old new root count k
takes-front {T} {old} {new} {root} {n} {l} {count} {k} good some high fits edge t itself m low =
    let height : height_at new k ≡ n = height-is (form_at new) n k t.edits.row.well in
    let inner : m ≤ n = omega (arith, low, height) in
    let first : List ℕ = rows_at (links_at old) n m l in
    let kept : HasFrontTo (seq_at (form_at old) m) count (rows_of old m root) (rows_at (links_at new) n m k) =
    keeps-on (seq_at (form_at old) m) count first (rows_of old m root) (rows_at (links_at new) n m k) (edge.first m inner) (omega (arith, fits, ap length (items-of-rows old n m l inner))) (vector-not-empty old m root good some (omega (arith, inner, high))) (takes-kept t itself fits m inner) in
    rw height kept

-- the empty vector, as the first elements of one that has some
pub takes-none : {T : Type 0} {old : Heap T} {root : ℕ} (new : Heap T) (k : ℕ) → IsGoodVector old root → 1 ≤ length (elements old root) → height_at new k ≡ 0 → TakesFirstRows old new root 0 k
takes-none {T} {old} {root} new k good some flat m low =
    let few : length (rows_of new m k) ≤ 1 = rw flat (rows-few (links_at new) 0 m k (omega arith)) in
    record {
      front = front-few few;
      past = λ lt.
          let not-empty = vector-not-empty old m root good some (omega (arith, low, flat)) in
          let one = not-empty-before (seq_at (form_at old) m) (take 1 (rows_of old m root)) 0 (All-take (λ l. 1 ≤ length (seq_at (form_at old) m l)) 1 (rows_of old m root) not-empty) (omega (arith, lt, length-take-le 1 (rows_of old m root) (omega (arith, lt)))) in
          omega (arith, one);
    }

-- the first child of an inner row, in the words of the code
pub record IsFirst {T : Type 0} (h : Heap T) (n l child : ℕ) : Type 0 where
  pub well : IsWell (form_at h) (n - 1) child
  pub sums : HasSums h (n - 1) child
  pub short : length (seq_at (form_at h) (n - 1) child) ≤ length (seq_at (form_at h) n l)
  pub is : child ≡ get_or (links_at h l) 0 0
  pub front : (count : ℕ) → count ≤ length (seq_at (form_at h) (n - 1) child) → take count (seq_at (form_at h) (n - 1) child) ≡ take count (seq_at (form_at h) n l)
  pub edge : (root : ℕ) → IsAtFront h root n l → IsAtFront h root (n - 1) child

pub first-child : {T : Type 0} (h : Heap T) (n l child : ℕ) (ls : List ℕ) → 0 < n → IsWell (form_at h) n l → HasSums h n l → child ≡ get_or ls 0 child → ls ≡ links_at h l → IsFirst h n l child
first-child h zero l child ls some well sums is links = absurd (omega arith)
first-child h (suc n) l child ls some well sums is links =
    let down : suc n - 1 ≡ n = omega arith in
    let o = over h n l well sums in
    let at = at-place ls (links_at h l) 0 child is links (omega (arith, o.some)) in
    let first = child-at h n l 0 child o (omega (arith, o.some)) at in
    let front : (count : ℕ) → count ≤ length (seq_at (form_at h) n child) → take count (seq_at (form_at h) n child) ≡ take count (seq_at (form_at h) (suc n) l) = λ count fits.
    rw (o.items, at) (sym (take-first (seq_at (form_at h) n) (links_at h l) count (omega (arith, o.some)) (rw at at fits))) in
    let child-is = at in
    let edge : (root : ℕ) → IsAtFront h root (suc n) l → IsAtFront h root n child = λ root e.
    record {
      first = λ m le. first-of (rows_at (links_at h) n m child) (rows_at (links_at h) (suc n) m l) (rows_of h m root) (rw child-is (first-rows (links_at h) n m l le o.some)) (e.first m (omega arith));
    } in
    record {
      well = rw down first.well;
      sums = rw down first.sums;
      short = rw down first.short;
      is = at;
      front = rw down front;
      edge = rw down edge;
    }

-- the children that a row is made with, after their links were gathered
module _ {T : Type 0} {old mid : Heap T} {n l i child skip : ℕ} {ks : List ℕ} (can : CanPlace old n l i child skip) (ext : Extends old mid) (is : ks ≡ links_with (links_at old l) i child skip) where
  pub gathered-rows : AreRows mid n ks
  gathered-rows = rw is (rows-stay (live-stays can.graph ext) n (links_with (links_at old l) i child skip) (rows-live old n (links_with (links_at old l) i child skip) can.rows) can.rows)

  pub gathered-same : flat_map (seq_at (form_at mid) n) ks ≡ flat_map (seq_at (form_at old) n) (links_with (links_at old l) i child skip)
  gathered-same = rw is (items-stay (live-stays can.graph ext) n (links_with (links_at old l) i child skip) (rows-live old n (links_with (links_at old l) i child skip) can.rows))

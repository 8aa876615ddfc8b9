-- One step of a pop down its path: a row whose last child was popped from.
use Rattle.std.proofs.Common.{Bool, false, ◌≡◌, ◌≢◌, ℕ, suc, ◌-◌, ◌+◌, ◌<◌, ◌≤◌, List, [], ◌∷◌, ◌++◌, length, take, drop, get_or, set, refl, ap, sym, subst, ◌∙◌, arith, length-append, length-set, append-nil, append_assoc, Option, Some, None, IsSome, inl, inr}
use Rattle.std.specs.Prelude.{IsTrue, option_map, ◌↔◌}
use Rattle.std.specs.List.{flat_map}
use Rattle.std.proofs.lemmas.Bool.{cases_eq, cases_lt}
use Rattle.std.proofs.lemmas.List.{drop_all, get_or-set_same}
use Rattle.node_heap.specs.Links.{count, HasLink, Reaches, here}
use Rattle.node_heap.specs.Forms.{Row, node, inner, form_of, links_in}
use Rattle.node_heap.specs.Heap.{Heap, row_at, form_at, links_at, holds_at, owners_at}
use Rattle.node_heap.specs.declared.row.Head.TheVariants.{Inner}
use Rattle.node_heap.specs.Calls.{Makes}
use Rattle.node_heap.specs.InPlace.{child_at, path_start, Writes, Changes}
use Rattle.node_heap.specs.Owner.{alone, written, KeepsAlone}
use Rattle.node_heap.proofs.Counts.{count-cons, test_same}
use Rattle.node_heap.proofs.Reach.{Reaches-then}
use Rattle.node_heap.proofs.Edited.{count-at, Changes-path, Changes-beside, Changes-more}
use Rattle.node_heap.proofs.AloneLemmas.{alone-yes, written-cons, written-own, KeepsAlone-cons, KeepsAlone-own, alone-copied}
use Rattle.rrb_core.specs.Seq.{seq_at, IsThick, IsWell}
use Rattle.rrb_core.specs.Vector.{KeepsSums, sums_at}
use Rattle.rrb_core.specs.Push.{last_in}
use Rattle.rrb_core.specs.Build.{IsRowOf, AreRows}
use Rattle.rrb_core.proofs.Lists.{items-cut, last-sum}
use Rattle.rrb_core.proofs.Stays.{links-form, well-live, well-stays, keeps-stay}
use Rattle.rrb_core.proofs.RowLists.{IsOver, over, child-at, at-place, keeps-some}
use Rattle.edit_vec.specs.Path.{spine_at}
use Rattle.edit_vec.specs.Steps.{pop_rows, CanPop, PopsIn, shrunk}
use Rattle.edit_vec.proofs.RowLemmas.{form-rewritten, sums-rewritten}
use Rattle.edit_vec.proofs.PathLemmas.{spine-below, spine-stays}
use Rattle.edit_vec.proofs.PopPath.{pop_tail, rows-first, tail-more, tail-same, tail-stays, tail-linked, is-last}
use Rattle.edit_vec.proofs.OwnLemmas.{OwnsChild, linked-now, stays-below, child-below, down, soles-above}
use Rattle.edit_vec.proofs.StepLemmas.{row-is, row-moved}
use Rattle.edit_vec.proofs.StepRows.{links-new, head-new, whole, items-new, sizes-beside}
use Rattle.edit_vec.proofs.ShrinkLemmas.{keeps-shrunk}
use Rattle.edit_vec.proofs.GrowLemmas.{row-headed, stays-under, all-under, IsUnder}
use Rattle.edit_vec.proofs.PopLemmas.{room-trans, room-makes}

-- a test that holds doesn't fail
pub not-both : {b : Bool} → IsTrue b → b ≡ false → ⊥
not-both holds fails = absurd cc

-- an index that isn't past the end
pub within : {b : Bool} {index m n : ℕ} → m ≡ n → (IsTrue b ↔ (m ≤ index)) → b ≡ false → index < n
within {b} {index} {m} {n} same told fails = elim (cases_lt index m) as (λ _. index < n) [
  | inl low ↦ omega (arith, low, same)
  | inr past ↦ absurd (not-both (told.1 past) fails)
]

some-list : (xs : List ℕ) → (xs ≡ [] → ⊥) → 1 ≤ length xs
some-list [] other = absurd (other refl)
some-list (x ∷ xs) other = omega arith

-- a list that isn't empty
pub not-empty : {b : Bool} {xs ys : List ℕ} → xs ≡ ys → (IsTrue b ↔ (xs ≡ [])) → b ≡ false → 1 ≤ length ys
not-empty {b} {xs} {ys} same told fails = some-list ys (λ none. not-both (told.1 (same ∙ none)) fails)

gone-live : {T : Type 0} (r : Option (Row T)) → r ≡ None → IsSome r → ⊥
gone-live r e live = absurd cc

-- a child that may be popped from
pub can-pop-child : {T : Type 0} {old mid : Heap T} {n row place c : ℕ} → OwnsChild old mid row place c → CanPop old (suc n) row → CanPop mid n c
can-pop-child {T} {old} {mid} {n} {row} {place} {c} o can =
    let moved = row-moved n o can.well can.sums in
    let there = child-at old n row place (child_at old row place) (over old n row can.well can.sums) o.inside refl in
    record {
      graph = o.changes.trades.graph;
      well = moved.well;
      sums = moved.sums;
      low = omega (arith, can.low);
      short = rw moved.items (omega (arith, there.short, can.short));
      sole = o.sole;
      holds = omega (arith, can.holds, o.changes.trades.total);
    }

-- the last child by its place
pub last-at : {T : Type 0} (old : Heap T) (row place : ℕ) → place ≡ length (links_at old row) - 1 → last_in (form_at old) row ≡ child_at old row place
last-at old row place is = rw (links-form old row, is) refl

pub last-is : {T : Type 0} (h : Heap T) (row child : ℕ) (ls ms : List ℕ) → child ≡ get_or ms (length ls - 1) child → ls ≡ links_at h row → ms ≡ links_at h row → 1 ≤ length (links_at h row) → child ≡ last_in (form_at h) row
last-is h row child ls ms is a b some = at-place ms (links_at h row) (length ls - 1) child is b (omega (arith, ap length a, some)) ∙ rw (a, links-form h row) refl

-- one that hasn't one element has more
pub child-more : {T : Type 0} {old : Heap T} {n row place : ℕ} → CanPop old (suc n) row → place ≡ length (links_at old row) - 1 → length (seq_at (form_at old) n (last_in (form_at old) row)) ≢ 1 → 2 ≤ length (seq_at (form_at old) n (child_at old row place))
child-more {T} {old} {n} {row} {place} can is other = rw (← last-at old row place is) (omega (arith, (is-last (form_at old) n row can.well).more, other))

-- a row of two elements or more whose last child has one has two children
pub two-links : {T : Type 0} {old : Heap T} {n row : ℕ} → CanPop old (suc n) row → 2 ≤ length (seq_at (form_at old) (suc n) row) → length (seq_at (form_at old) n (last_in (form_at old) row)) ≡ 1 → 2 ≤ length (links_at old row)
two-links {T} {old} {n} {row} can more one =
    let last = is-last (form_at old) n row can.well in
    elim (cases_eq (length (links_in (form_at old) row)) 1) as (λ _. 2 ≤ length (links_at old row)) [
      | inl single ↦ absurd (omega (arith, last.whole single, one, more))
      | inr other ↦ omega (arith, other, last.some, ap length (links-form old row))
    ]

-- a row whose last child was popped from
module _ {T : Type 0} {old mid new : Heap T} {n row place c given : ℕ} (o : OwnsChild old mid row place c) (can : CanPop old (suc n) row) (is : place ≡ length (links_at old row) - 1) (other : length (seq_at (form_at old) n (last_in (form_at old) row)) ≢ 1) (sub : PopsIn mid new n c given) where
  abbrev kids : List ℕ
  kids = links_at old row

  abbrev d : ℕ
  d = child_at old row place

  more : 2 ≤ length (seq_at (form_at old) n d)
  more = child-more can is other

  moved : IsRowOf mid n c (seq_at (form_at old) n d)
  moved = row-moved n o can.well can.sums

  was-child : seq_at (form_at old) n d ≡ sub.left ++ given ∷ []
  was-child = sym moved.items ∙ sub.was

  some : 1 ≤ length sub.left
  some = omega (arith, more, ap length was-child, length-append sub.left (given ∷ []))

  up : (u : ℕ) × (count u [] < holds_at mid u) × Reaches (links_at mid) u row
  up = let at = o.changes.trades.graph.reached row (o.changes.paths.live row (here row) (well-live old (suc n) row can.well)) in (at.0, at.1, at.2)

  close : place + 1 < length kids → IsThick (form_at new) n c
  close past = absurd (omega (arith, past, is, o.inside))

  under-step : IsOver old n row
  under-step = over old n row can.well can.sums

  links-step : links_at new row ≡ set kids place c
  links-step = links-new o can.well can.sums up sub.changes.apart sub.row some close

  rows-step : AreRows new n (links_at new row)
  rows-step = rw links-step (whole o can.well can.sums up sub.changes.apart sub.row some close)

  size-step : length (links_at new row) ≡ length kids
  size-step = ap length links-step ∙ length-set kids place c

  abbrev left-step : List ℕ
  left-step = flat_map (seq_at (form_at old) n) (take place kids) ++ sub.left

  items-step : flat_map (seq_at (form_at new) n) (links_at new row) ≡ left-step
  items-step =
      let none : drop (place + 1) kids ≡ [] = drop_all (place + 1) kids (omega (arith, is, o.inside)) in
      let all = items-new o can.well can.sums up sub.changes.apart sub.row some close in
      rw links-step (rw (none, append-nil) at all)

  was-step : seq_at (form_at old) (suc n) row ≡ left-step ++ given ∷ []
  was-step =
      let f : ℕ → List ℕ = seq_at (form_at old) n in
      let none : drop (place + 1) kids ≡ [] = drop_all (place + 1) kids (omega (arith, is, o.inside)) in
      let cut : flat_map f kids ≡ flat_map f (take place kids) ++ (f (get_or kids place 0) ++ flat_map f (drop (place + 1) kids)) = items-cut f kids place o.inside in
      under-step.items ∙ rw (none, append-nil, was-child) at cut ∙ sym (append_assoc (flat_map f (take place kids)) sub.left (given ∷ []))

  above : Reaches (links_at mid) row c
  above = Reaches-then (links_at mid) row row c (here row) (linked-now o)

  pub live-step : IsSome (row_at new row)
  live-step = sub.changes.paths.live row above (o.changes.paths.live row (here row) (well-live old (suc n) row can.well))

  pub sole-step : owners_at new row ≡ 1
  sole-step = sub.changes.paths.soles row above (soles-above o row (here row) can.sole)

  pub form-step : form_at new row ≡ Some (node (inner (suc n)) (links_at new row))
  unfolding IsWell
  form-step = form-rewritten (row_at old row) (row_at new row) (inner (suc n)) (links_in (form_at old) row) (head-new o can.well can.sums up sub.changes.apart sub.row some close) can.well.kind

  -- the path
  well-child : IsWell (form_at old) n d
  well-child = under-step.rows.well place 0 o.inside

  abbrev tail : List ℕ
  tail = pop_tail (form_at old) n d

  rows-old : pop_rows (form_at old) (suc n) row ≡ row ∷ d ∷ tail
  rows-old =
      let last = is-last (form_at old) n row can.well in
      rows-first (form_at old) (suc n) row can.well (omega (arith, last.some, last.wide))
      ∙ ap (λ (xs : List ℕ). row ∷ xs) (tail-more (form_at old) n row other ∙ ap (pop_rows (form_at old) n) (last-at old row place is) ∙ rows-first (form_at old) n d well-child (omega (arith, more)))

  rows-mid : pop_rows (form_at mid) n c ≡ c ∷ tail
  rows-mid =
      let there : IsWell (form_at mid) n d = well-stays (stays-below o) n d (child-below o) well-child in
      rows-first (form_at mid) n c moved.well (omega (arith, more, ap length moved.items))
      ∙ ap (λ (xs : List ℕ). c ∷ xs) (tail-same (form_at mid) n c d (ap (option_map form_of) (row-is o)) ∙ tail-stays (stays-below o) n d (child-below o) well-child there)

  next : 1 ≤ length tail → HasLink (links_at old) d (get_or tail 0 0)
  next many = tail-linked old n d well-child many

  -- the sums as they were, which are written then where there are some
  sums-new : sums_at new row ≡ sums_at old row
  sums-new = sums-rewritten (row_at old row) (row_at new row) (head-new o can.well can.sums up sub.changes.apart sub.row some close)

  pub sums-few : length (sums_at new row) ≤ 32
  sums-few = rw sums-new (elim (cases_eq (length (sums_at old row)) 0) as (λ _. length (sums_at old row) ≤ 32) [
    | inl none ↦ omega (arith, none)
    | inr many ↦ omega (arith, (keeps-some under-step.sums (omega (arith, many))).count, under-step.most)
  ])

  pub sums-some : 1 ≤ length (sums_at new row) → 1 ≤ get_or (sums_at new row) (length (sums_at new row) - 1) 0
  sums-some = rw sums-new (λ many. omega (arith, (last-sum (sums_at old row) kids (seq_at (form_at old) n) (keeps-some under-step.sums many) under-step.some).1, ap length (sym under-step.items), ap length was-step, length-append left-step (given ∷ [])))

  module _ {last : Heap T} {height : ℕ} (tall : height ≡ suc n) (writes : Writes new last row (Some (Inner height (shrunk (sums_at new row)))) (links_at new row)) (changes : Changes row new last [] [] 0 0) (makes : Makes new last 0 0) where
    own : get_or (set kids place c) place 0 ≡ c
    own = get_or-set_same kids place c 0 o.inside

    sums : KeepsSums (form_at new) n (links_at new row) (shrunk (sums_at new row))
    sums =
        let size : length (seq_at (form_at new) n (get_or (set kids place c) (length kids - 1) 0)) + 1 ≡ length (seq_at (form_at old) n (get_or kids (length kids - 1) 0)) =
        rw (← is, own, sub.row.items, was-child) (omega (arith, length-append sub.left (given ∷ []))) in
        rw (links-step, sums-new) (keeps-shrunk {F = form_at old} {G = form_at new} n kids (set kids place c) (sums_at old row) under-step.some (length-set kids place c)
        (λ j low lt. sizes-beside o can.well can.sums up sub.changes.apart sub.row some close j lt (λ e. absurd (omega (arith, low, is, e)))) size under-step.sums)

    row-last : IsRowOf last (suc n) row left-step
    row-last = row-headed sub.changes.trades.graph writes tall rows-step (omega (arith, size-step, under-step.some)) (omega (arith, size-step, under-step.most)) (keeps-stay (stays-under sub.changes.trades.graph writes) n (links_at new row) (shrunk (sums_at new row)) (all-under sub.changes.trades.graph writes) sums) items-step

    spine-last : spine_at (form_at last) (suc n) row ≡ row ∷ spine_at (form_at new) n c
    spine-last =
        let at : length (set kids place c) - 1 ≡ place = omega (arith, length-set kids place c, is) in
        let there : IsUnder sub.changes.trades.graph writes c = (c, rw links-step (count-at (set kids place c) place c (omega (arith, length-set kids place c, o.inside)) own), here c) in
        spine-below (form_at last) (suc n) row
        ∙ ap (λ (xs : List ℕ). row ∷ spine_at (form_at last) n (get_or xs (length xs - 1) 0)) (links-form last row ∙ writes.new_links ∙ links-step)
        ∙ ap (λ (j : ℕ). row ∷ spine_at (form_at last) n (get_or (set kids place c) j 0)) at
        ∙ ap (λ (j : ℕ). row ∷ spine_at (form_at last) n j) own
        ∙ ap (λ (xs : List ℕ). row ∷ xs) (spine-stays (stays-under sub.changes.trades.graph writes) n c there sub.row.well)

    path-step : KeepsAlone old (pop_rows (form_at old) (suc n) row) (take (length (pop_rows (form_at old) (suc n) row)) (spine_at (form_at last) (suc n) row))
    path-step =
        let kept : List ℕ = take (length (c ∷ tail)) (spine_at (form_at new) n c) in
        let was : KeepsAlone mid (c ∷ tail) kept = rw rows-mid at sub.path in
        rw (rows-old, spine-last) (KeepsAlone-cons old row (d ∷ tail) kept can.sole (KeepsAlone-own old mid d c tail o.same o.sole o.owners can.graph next kept was))

    others-step : (m : ℕ) → IsSome (row_at old m) → IsSome (row_at last m) → count m (written old (pop_rows (form_at old) (suc n) row)) ≡ 0 → row_at last m ≡ row_at old m
    others-step m live live' off =
        let rows : count m (row ∷ written old (d ∷ tail)) ≡ 0 = rw (rows-old, written-cons old row (d ∷ tail) can.sole) at off in
        let parts = count-cons m row (written old (d ∷ tail)) in
        let not_row : m ≢ row = λ e. absurd (omega (arith, rows, parts, test_same row m (sym e))) in
        let fresh : c ≢ d → m ≢ c = λ copy e. gone-live (row_at old m) (ap (row_at old) e ∙ o.fresh copy) live in
        let before : row_at mid m ≡ row_at old m = o.stays m not_row live in
        let left : count m (written mid (c ∷ tail)) ≡ 0 = written-own old mid d c tail o.same o.sole o.owners can.graph next m fresh (omega (arith, rows, parts)) in
        let there : IsSome (row_at new m) = subst IsSome (writes.others m not_row) live' in
        writes.others m not_row ∙ sub.others m (rw before live) there (rw rows-mid left) ∙ before

    made-step : last.made ≤ old.made + (length (pop_rows (form_at old) (suc n) row) - alone old (pop_rows (form_at old) (suc n) row))
    made-step =
        let below : new.made ≤ mid.made + (length (c ∷ tail) - alone mid (c ∷ tail)) = rw rows-mid at sub.made in
        let copied = alone-copied old mid d c tail o.same o.sole o.owners in
        rw rows-old (omega (arith, makes.made, below, copied, o.makes.made, alone-yes old row (d ∷ tail) can.sole))

    pub pops-step : PopsIn old last (suc n) row given
    pops-step =
        let c2 : Changes row mid new [] (given ∷ []) 0 n = Changes-path (down o row path_start) sub.changes in
        let all = Changes-beside (Changes-beside o.changes c2) changes in
        record {
          left = left-step;
          was = was-step;
          row = row-last;
          two = λ _ enough _. omega (arith, ap length writes.new_links, size-step, enough);
          changes = Changes-more 0 (suc n) all (omega arith) (omega arith);
          path = path-step;
          others = others-step;
          made = made-step;
          room = room-trans (room-makes o.makes) (room-trans sub.room (room-makes makes));
        }

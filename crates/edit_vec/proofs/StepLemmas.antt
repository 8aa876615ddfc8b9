-- One step of an edit down its path: a row of which a child was edited in place.
use Rattle.node_heap.specs.declared.row.Head.{Head}
use Rattle.std.proofs.Common.{◌≡◌, ◌≢◌, ℕ, suc, zero, ◌+◌, ◌<◌, ◌≤◌, List, [], ◌∷◌, ◌++◌, length, take, drop, get_or, set, refl, ap, sym, ◌∙◌, arith, length-set, Option, Some, None, IsSome, inl, inr}
use Rattle.std.specs.Prelude.{option_map}
use Rattle.std.specs.List.{flat_map}
use Rattle.std.proofs.lemmas.Bool.{cases_eq}
use Rattle.std.proofs.lemmas.List.{length-take-le, get_or-take, get_or-set_same, get_or_append_left, get_or-append-add}
use Rattle.node_heap.specs.Links.{count, HasLink, Reaches}
use Rattle.node_heap.specs.Forms.{Row, Kind, cell, node, leaf, inner, form_of, head_of, links_in, is_node}
use Rattle.node_heap.specs.Heap.{Heap, row_at, form_at, links_at, holds_at, live_count}
use Rattle.node_heap.specs.Calls.{Makes}
use Rattle.node_heap.specs.InPlace.{child_at, path_start, Writes, Changes}
use Rattle.node_heap.proofs.Counts.{count-cons, test_same}
use Rattle.node_heap.proofs.Edited.{Changes-path, Changes-beside, Changes-more}
use Rattle.rrb_core.specs.Seq.{seq_at, IsThick, IsWell}
use Rattle.rrb_core.specs.Vector.{HasSums, sums_at}
use Rattle.rrb_core.specs.Build.{IsRowOf, AreRows}
use Rattle.rrb_core.proofs.Lists.{items-cut, items-set}
use Rattle.rrb_core.proofs.Stays.{links-form, thick-stays, row-stays}
use Rattle.rrb_core.proofs.RowLists.{IsOver, over, IsChild, child-at, take-thick}
use Rattle.rrb_core.proofs.EditLemmas.{IsSpot}
use Rattle.edit_vec.specs.Path.{rows_over}
use Rattle.node_heap.specs.InPlace.{other_at}
use Rattle.node_heap.specs.Owner.{alone, written, KeepsAlone}
use Rattle.edit_vec.specs.Steps.{CanWrite, SetsIn}
use Rattle.rrb_core.proofs.SameRows.{row-same, thick-same}
use Rattle.edit_vec.proofs.RowLemmas.{form-rewritten, sums-rewritten, keeps-same, sizes-take}
use Rattle.edit_vec.proofs.PathLemmas.{rows-over-at, rows_below, rows-below, below-linked, below-same, below-stays}
use Rattle.node_heap.proofs.AloneLemmas.{alone-yes, written-cons, written-own, KeepsAlone-none, KeepsAlone-cons, KeepsAlone-own, alone-own}
use Rattle.node_heap.proofs.EditLaws.{Gains-trans, Gains-Changes}
use Rattle.edit_vec.proofs.StepRows.{links-new, head-new, whole, all-thick, items-new, sizes-beside}
use Rattle.edit_vec.proofs.OwnLemmas.{OwnsChild, stays-below, child-below, down, held-now, apart-child, holder, gains-child, OwnsHeaded}

-- the element at an index of the children of a row
pub items-get : (f : ℕ → List ℕ) (ks : List ℕ) (i within index : ℕ) → i < length ks → within < length (f (get_or ks i 0)) → length (flat_map f (take i ks)) + within ≡ index → get_or (flat_map f ks) index 0 ≡ get_or (f (get_or ks i 0)) within 0
items-get f ks i within index lt small is =
    rw (items-cut f ks i lt, ← is) (get_or-append-add (flat_map f (take i ks)) (f (get_or ks i 0) ++ flat_map f (drop (i + 1) ks)) within 0 ∙ get_or_append_left (f (get_or ks i 0)) (flat_map f (drop (i + 1) ks)) 0 within small)

-- a well formed row is a node
form-node : {T : Type 0} (r : Option (Row T)) (k : Kind) (ls : List ℕ) → option_map form_of r ≡ Some (node k ls) → is_node r ≡ 1
form-node None k ls e = absurd cc
form-node (Some (cell x)) k ls e = absurd cc
form-node (Some (node h l)) k ls e = refl

pub well-node : {T : Type 0} (h : Heap T) (n l : ℕ) → IsWell (form_at h) n l → is_node (row_at h l) ≡ 1
unfolding IsWell
well-node h zero l w = form-node (row_at h l) leaf (links_in (form_at h) l) w.kind
well-node h (suc n) l w = form-node (row_at h l) (inner (suc n)) (links_in (form_at h) l) w.kind

-- a leaf that was written
pub sets-leaf : {T : Type 0} {old new : Heap T} {row place e given : ℕ} → CanWrite old 0 row e → place < length (seq_at (form_at old) 0 row) → given ≡ child_at old row place
    → Writes old new row (head_of (row_at old row)) (set (links_at old row) place e) → Changes row old new (e ∷ []) (given ∷ []) 0 0 → Makes old new 0 0 → SetsIn old new 0 row place e given
unfolding IsWell HasSums seq_at IsThick
sets-leaf {T} {old} {new} {row} {place} {e} {given} can inside back writes changes makes =
    let was : links_in (form_at old) row ≡ links_at old row = links-form old row in
    let now : links_in (form_at new) row ≡ set (links_at old row) place e = links-form new row ∙ writes.new_links in
    let width : length (set (links_at old row) place e) ≡ length (links_at old row) = length-set (links_at old row) place e in
    record {
      row = record {
        well = record {
          kind = form-rewritten (row_at old row) (row_at new row) leaf (links_in (form_at old) row) writes.new_head can.well.kind ∙ ap (λ (ls : List ℕ). Some (node leaf ls)) (sym (links-form new row));
          most = omega (arith, ap length now, width, ap length was, can.well.most);
        };
        sums = tt;
        items = now ∙ ap (λ (ls : List ℕ). set ls place e) (sym was);
      };
      thick = λ t. omega (arith, t, ap length now, width, ap length was);
      wide = ap length writes.new_links ∙ width;
      back = back ∙ ap (λ (ls : List ℕ). get_or ls place 0) (sym was);
      changes = changes;
      gains = Gains-Changes changes (λ k other live. writes.others k other) makes;
      path = rw (rows-below (form_at old) 0 row place, rows-below (form_at new) 0 row place) (KeepsAlone-cons old row [] [] can.sole (KeepsAlone-none old));
      came =
          let one : live_count new + alone old (row ∷ []) ≡ live_count old + length (row ∷ []) = omega (arith, makes.live, alone-yes old row [] can.sole) in
          rw (rows-below (form_at old) 0 row place) one;
      others = λ m live off.
          let one : count m (row ∷ []) ≡ 0 = rw (rows-below (form_at old) 0 row place, written-cons old row [] can.sole) at off in
          writes.others m (λ e. absurd (omega (arith, one, count-cons m row [], test_same row m (sym e))));
    }

-- a row of which a child was made its own
pub row-is : {T : Type 0} {head : Option Head} {old mid : Heap T} {row place c : ℕ} → OwnsHeaded head old mid row place c → row_at mid c ≡ row_at mid (child_at old row place)
row-is {old = old} {row = row} {place = place} o = o.row_same ∙ sym ((stays-below o).kept (child_at old row place) (child-below o))

module _ {T : Type 0} {head : Option Head} {old mid : Heap T} (n : ℕ) {row place c : ℕ} (o : OwnsHeaded head old mid row place c) (well : IsWell (form_at old) (suc n) row) (sums : HasSums old (suc n) row) where
  the-child : IsChild old n row (child_at old row place)
  the-child = child-at old n row place (child_at old row place) (over old n row well sums) o.inside refl

  pub row-moved : IsRowOf mid n c (seq_at (form_at old) n (child_at old row place))
  row-moved = row-same mid (child_at old row place) c (row-is o) (row-stays (stays-below o) n (child_at old row place) (seq_at (form_at old) n (child_at old row place)) (child-below o) (record { well = the-child.well; sums = the-child.sums; items = refl }))

  pub thick-moved : IsThick (form_at old) n (child_at old row place) → IsThick (form_at mid) n c
  thick-moved t = thick-same (form_at mid) (child_at old row place) c (ap (option_map form_of) (row-is o)) n (thick-stays (stays-below o) n (child_at old row place) (child-below o) t)

pub can-child : {T : Type 0} {head : Option Head} {old mid : Heap T} {n row place c e : ℕ} → OwnsHeaded head old mid row place c → CanWrite old (suc n) row e → CanWrite mid n c e
can-child {T} {head} {old} {mid} {n} {row} {place} {c} {e} o can =
    let moved = row-moved n o can.well can.sums in
    let there = child-at old n row place (child_at old row place) (over old n row can.well can.sums) o.inside refl in
    record {
      graph = o.changes.trades.graph;
      well = moved.well;
      sums = moved.sums;
      low = omega (arith, can.low);
      short = rw moved.items (omega (arith, there.short, can.short));
      spare = omega (arith, can.spare, o.changes.trades.balance.spare_nodes, o.changes.trades.nodes);
      sole = o.sole;
      held = held-now o can.held can.apart;
      apart = apart-child o can.held can.apart;
    }

-- the child was edited then
module _ {T : Type 0} {old mid new : Heap T} {n row place within index e c given : ℕ} (o : OwnsChild old mid row place c) (can : CanWrite old (suc n) row e) (spot : IsSpot old n row place within index) (sub : SetsIn mid new n c within e given) where
  abbrev ks : List ℕ
  ks = links_at old row

  abbrev f : ℕ → List ℕ
  f = seq_at (form_at old) n

  abbrev g : ℕ → List ℕ
  g = seq_at (form_at new) n

  under : IsOver old n row
  under = over old n row can.well can.sums

  moved : IsRowOf mid n c (f (get_or ks place 0))
  moved = row-moved n o can.well can.sums

  up : (u : ℕ) × (count u (e ∷ []) < holds_at mid u) × Reaches (links_at mid) u row
  up = holder o can.held can.apart

  -- the child now
  made : IsRowOf new n c (set (f (get_or ks place 0)) within e)
  made = rw moved.items at sub.row

  some : 1 ≤ length (set (f (get_or ks place 0)) within e)
  some = omega (arith, length-set (f (get_or ks place 0)) within e, spot.inside)

  thick-child : IsThick (form_at old) n (get_or ks place 0) → IsThick (form_at new) n c
  thick-child t = sub.thick (thick-moved n o can.well can.sums t)

  thick-last : place + 1 < length ks → IsThick (form_at new) n c
  thick-last more =
      let at : get_or (take (place + 1) ks) place 0 ≡ get_or ks place 0 = get_or-take (place + 1) ks place 0 (omega arith) in
      thick-child (rw at at (take-thick old n (place + 1) ks under.rows more place 0 (omega (arith, length-take-le (place + 1) ks (omega (arith, more))))))

  links-now : links_at new row ≡ set ks place c
  links-now = links-new o can.well can.sums up sub.changes.apart made some thick-last

  head-now : head_of (row_at new row) ≡ head_of (row_at old row)
  head-now = head-new o can.well can.sums up sub.changes.apart made some thick-last

  count-now : length (set ks place c) ≡ length ks
  count-now = length-set ks place c

  child-there : get_or (set ks place c) place 0 ≡ c
  child-there = get_or-set_same ks place c 0 o.inside

  all-rows : AreRows new n (set ks place c)
  all-rows = whole o can.well can.sums up sub.changes.apart made some thick-last

  items-now : flat_map g (set ks place c) ≡ set (seq_at (form_at old) (suc n) row) index e
  items-now = items-new o can.well can.sums up sub.changes.apart made some thick-last ∙ sym (items-set f ks place within index e spot.place spot.inside spot.before) ∙ ap (λ (xs : List ℕ). set xs index e) (sym under.items)

  sizes : (j : ℕ) → j < length ks → length (g (get_or (set ks place c) j 0)) ≡ length (f (get_or ks j 0))
  sizes j lt = elim (cases_eq j place) as (λ _. length (g (get_or (set ks place c) j 0)) ≡ length (f (get_or ks j 0))) [
    | inl same ↦ rw (same, child-there, made.items) (length-set (f (get_or ks place 0)) within e)
    | inr other ↦ sizes-beside o can.well can.sums up sub.changes.apart made some thick-last j lt other
  ]

  links-form-new : links_in (form_at new) row ≡ set ks place c
  links-form-new = links-form new row ∙ links-now

  row-new : IsRowOf new (suc n) row (set (seq_at (form_at old) (suc n) row) index e)
  unfolding IsWell HasSums seq_at
  row-new = record {
    well = record {
      kind = form-rewritten (row_at old row) (row_at new row) (inner (suc n)) (links_in (form_at old) row) head-now can.well.kind ∙ ap (λ (ls : List ℕ). Some (node (inner (suc n)) ls)) (sym (links-form new row));
      some = rw links-form-new (omega (arith, count-now, under.some));
      most = rw links-form-new (omega (arith, count-now, under.most));
      children = rw links-form-new all-rows.well;
      thick = rw links-form-new all-rows.thick;
      not_empty = rw links-form-new (λ k d b. rw (links-form new (get_or (set ks place c) k d)) (all-rows.not_empty k d b));
    };
    sums = (rw (links-now, sums-rewritten (row_at old row) (row_at new row) head-now) (keeps-same n ks (set ks place c) (sums_at old row) count-now sizes under.sums), rw links-now all-rows.sums);
    items = rw links-form-new items-now;
  }

  thick-new : IsThick (form_at old) (suc n) row → IsThick (form_at new) (suc n) row
  unfolding IsThick
  thick-new t =
      let was = under.thick t in
      rw links-form-new (omega (arith, count-now, was.0), all-thick o can.well can.sums up sub.changes.apart made some thick-last was.1 (thick-child (was.1 place 0 o.inside)))

  tail-moved : rows_below (form_at mid) n c within ≡ rows_below (form_at old) n (get_or ks place 0) within
  tail-moved = below-same (form_at mid) n c (get_or ks place 0) within (ap (option_map form_of) (row-is o)) ∙ below-stays (stays-below o) n (get_or ks place 0) within (child-below o) spot.inside

  -- the row behind the child on the path
  next : 1 ≤ length (rows_below (form_at old) n (get_or ks place 0) within) → HasLink (links_at old) (get_or ks place 0) (get_or (rows_below (form_at old) n (get_or ks place 0) within) 0 0)
  next some = below-linked old n (get_or ks place 0) within spot.inside some

  path-old : rows_over (form_at old) (suc n) row index ≡ row ∷ get_or ks place 0 ∷ rows_below (form_at old) n (get_or ks place 0) within
  path-old =
      let same : links_in (form_at old) row ≡ ks = links-form old row in
      rows-over-at (form_at old) n row place within index (rw same spot.place) (rw same spot.inside) (rw same spot.before)
      ∙ ap (λ (xs : List ℕ). row ∷ rows_over (form_at old) n (get_or xs place 0) within) same
      ∙ ap (λ (xs : List ℕ). row ∷ xs) (rows-below (form_at old) n (get_or ks place 0) within)

  path-made : rows_over (form_at new) (suc n) row index ≡ row ∷ rows_over (form_at new) n c within
  path-made =
      rows-over-at (form_at new) n row place within index
      (rw links-form-new (omega (arith, count-now, o.inside)))
      (rw (links-form-new, child-there, made.items) (omega (arith, length-set (f (get_or ks place 0)) within e, spot.inside)))
      (rw links-form-new (omega (arith, sizes-take f g ks (set ks place c) place count-now sizes, spot.before)))
      ∙ ap (λ (xs : List ℕ). row ∷ rows_over (form_at new) n (get_or xs place 0) within) links-form-new
      ∙ ap (λ (x : ℕ). row ∷ rows_over (form_at new) n x within) child-there

  path-new : KeepsAlone old (rows_over (form_at old) (suc n) row index) (rows_over (form_at new) (suc n) row index)
  path-new =
      let k : ℕ = get_or ks place 0 in
      let tail : List ℕ = rows_below (form_at old) n k within in
      let was : KeepsAlone mid (c ∷ tail) (rows_over (form_at new) n c within) = rw (rows-below (form_at mid) n c within, tail-moved) at sub.path in
      rw (path-old, path-made) (KeepsAlone-cons old row (k ∷ tail) (rows_over (form_at new) n c within) can.sole (KeepsAlone-own old mid k c tail o.same o.sole o.owners can.graph next (rows_over (form_at new) n c within) was))

  came-new : live_count new + alone old (rows_over (form_at old) (suc n) row index) ≡ live_count old + length (rows_over (form_at old) (suc n) row index)
  came-new =
      let d : ℕ = get_or ks place 0 in
      let tail : List ℕ = rows_below (form_at old) n d within in
      let below : live_count new + alone mid (c ∷ tail) ≡ live_count mid + length (c ∷ tail) = rw (rows-below (form_at mid) n c within, tail-moved) at sub.came in
      let own : alone mid (c ∷ tail) ≡ alone old (d ∷ tail) + other_at d c = alone-own old mid d c tail o.same o.sole o.owners can.graph next in
      let all : live_count new + alone old (row ∷ d ∷ tail) ≡ live_count old + length (row ∷ d ∷ tail) = omega (arith, below, own, o.makes.live, alone-yes old row (d ∷ tail) can.sole) in
      rw path-old all

  others-new : (m : ℕ) → IsSome (row_at old m) → count m (written old (rows_over (form_at old) (suc n) row index)) ≡ 0 → row_at new m ≡ row_at old m
  others-new m live off =
      let d : ℕ = get_or ks place 0 in
      let tail : List ℕ = rows_below (form_at old) n d within in
      let rows : count m (row ∷ written old (d ∷ tail)) ≡ 0 = rw (path-old, written-cons old row (d ∷ tail) can.sole) at off in
      let parts = count-cons m row (written old (d ∷ tail)) in
      let not_row : m ≢ row = λ e. absurd (omega (arith, rows, parts, test_same row m (sym e))) in
      let fresh : c ≢ d → m ≢ c = λ copy e. let gone : row_at old m ≡ None = ap (row_at old) e ∙ o.fresh copy in absurd cc in
      let before : row_at mid m ≡ row_at old m = elim (cases_eq m c) as (λ _. row_at mid m ≡ row_at old m) [
        | inl e ↦ elim (cases_eq c d) as (λ _. row_at mid m ≡ row_at old m) [
          | inl itself ↦ ap (row_at mid) e ∙ o.row_same ∙ ap (row_at old) (sym (e ∙ itself))
          | inr copy ↦ absurd (fresh copy e)
        ]
        | inr other ↦ o.others m not_row other
      ] in
      let left : count m (written mid (c ∷ tail)) ≡ 0 = written-own old mid d c tail o.same o.sole o.owners can.graph next m fresh (omega (arith, rows, parts)) in
      sub.others m (rw before live) (rw (rows-below (form_at mid) n c within, tail-moved) left) ∙ before

  pub sets-step : SetsIn old new (suc n) row index e given
  sets-step = record {
    row = row-new;
    thick = thick-new;
    wide = ap length links-now ∙ count-now;
    back = sub.back ∙ ap (λ (xs : List ℕ). get_or xs within 0) moved.items ∙ sym (items-get f ks place within index spot.place spot.inside spot.before) ∙ ap (λ (xs : List ℕ). get_or xs index 0) (sym under.items);
    changes = Changes-more 0 (suc n) (Changes-beside o.changes (Changes-path (down o row path_start) sub.changes)) (omega arith) (omega arith);
    gains = Gains-trans (gains-child o) sub.gains;
    path = path-new;
    came = came-new;
    others = others-new;
  }

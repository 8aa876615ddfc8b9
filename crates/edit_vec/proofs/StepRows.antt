-- A row of which a child was edited in place, but for its sums.
use Rattle.node_heap.specs.declared.row.Head.{Head}
use Rattle.std.proofs.Common.{◌≡◌, ◌≢◌, ℕ, suc, ◌+◌, ◌<◌, ◌≤◌, List, [], ◌∷◌, ◌++◌, length, take, drop, get_or, set, refl, ap, sym, subst, ◌∙◌, arith, length-drop, length-set, Option, None}
use Rattle.std.specs.List.{All, flat_map}
use Rattle.std.proofs.lemmas.List.{length-take-le, get_or-take, get_or-drop, get_or-set_same, get_or-set_other}
use Rattle.std.proofs.lemmas.List.Elements.{All-append, All-cons, All-nil, All-take, All-drop, All-from_get_or}
use Rattle.node_heap.specs.Links.{count, HasLink, Reaches, here}
use Rattle.node_heap.specs.Forms.{Row, head_of, links_of}
use Rattle.node_heap.specs.Heap.{Heap, row_at, form_at, links_at, holds_at}
use Rattle.node_heap.specs.InPlace.{KeepsApart}
use Rattle.node_heap.proofs.Ways.{Reaches-avoids}
use Rattle.node_heap.proofs.Counts.{le-sum_by}
use Rattle.node_heap.proofs.Reach.{Reaches-then}
use Rattle.node_heap.proofs.GraphLemmas.{IsGraph-acyclic}
use Rattle.node_heap.proofs.Edited.{count-at, KeepsBelow-sibling}
use Rattle.rrb_core.specs.Seq.{seq_at, IsThick, IsWell}
use Rattle.rrb_core.specs.Vector.{HasSums}
use Rattle.rrb_core.specs.Build.{IsRowOf, AreRows}
use Rattle.rrb_core.proofs.ClosedRows.{Stays}
use Rattle.rrb_core.proofs.LinkCounts.{all-counted}
use Rattle.rrb_core.proofs.Lists.{items-around, set-parts}
use Rattle.rrb_core.proofs.Stays.{seq-stays, items-stay, all-thick-stay, rows-stay}
use Rattle.rrb_core.proofs.RowLists.{IsOver, over, rows-take, rows-drop, take-thick, one-row, rows-around}
use Rattle.node_heap.proofs.OwnerLemmas.{count-two}
use Rattle.edit_vec.proofs.OwnLemmas.{OwnsHeaded, linked-now, IsBelow, stays-below}

-- the child was edited then
module _ {T : Type 0} {old mid new : Heap T} {n row place c : ℕ} {spent : ℕ → ℕ} {xs : List ℕ} {head : Option Head} (o : OwnsHeaded head old mid row place c) (well : IsWell (form_at old) (suc n) row) (sums : HasSums old (suc n) row) (up : (u : ℕ) × (spent u < holds_at mid u) × Reaches (links_at mid) u row)
    (edit : KeepsApart c spent mid new) (made : IsRowOf new n c xs) (some : 1 ≤ length xs) (thick-last : place + 1 < length (links_at old row) → IsThick (form_at new) n c) where
  abbrev ks : List ℕ
  ks = links_at old row

  abbrev f : ℕ → List ℕ
  f = seq_at (form_at old) n

  abbrev g : ℕ → List ℕ
  g = seq_at (form_at new) n

  under : IsOver old n row
  under = over old n row well sums

  pub row-stays-new : row_at new row ≡ row_at mid row
  row-stays-new = edit.kept up.0 row up.1 (Reaches-avoids (links_at mid) c up.0 row up.2 (IsGraph-acyclic mid o.changes.trades.graph row c (linked-now o)))

  pub links-new : links_at new row ≡ set ks place c
  links-new = ap links_of row-stays-new ∙ o.parent_links

  pub head-new : head_of (row_at new row) ≡ head
  head-new = ap head_of row-stays-new ∙ o.parent_head

  -- all below the other children
  abbrev IsBeside : ℕ → Type 0
  IsBeside m = (k : ℕ) × HasLink (links_at mid) row k × (k ≢ c) × Reaches (links_at mid) k m

  stays-beside : Stays IsBeside mid new
  stays-beside = record {
    closed = λ l b. all-counted IsBeside (links_at mid l) (λ j some. (b.0, b.1, b.2, Reaches-then (links_at mid) b.0 l j b.3 some));
    kept = λ m b. KeepsBelow-sibling row c b.0 up.0 o.changes.trades.graph o.sole (linked-now o) b.1 b.2 up.1 up.2 edit m b.3;
  }

  pub width : length (set ks place c) ≡ length ks
  width = length-set ks place c

  pub at-place : get_or (set ks place c) place 0 ≡ c
  at-place = get_or-set_same ks place c 0 o.inside

  beside : (j : ℕ) → j < length ks → j ≢ place → IsBeside (get_or ks j 0)
  beside j lt other =
      let at : get_or (set ks place c) j 0 ≡ get_or ks j 0 = get_or-set_other ks place j c 0 other in
      let inside : j < length (set ks place c) = omega (arith, lt, width) in
      let has : HasLink (links_at mid) row (get_or ks j 0) = rw o.parent_links (count-at (set ks place c) j (get_or ks j 0) inside at) in
      let few : count c (links_at mid row) ≤ 1 = omega (arith, le-sum_by (λ (w : Option (Row T)). count c (links_of w)) None refl mid.rows row, o.sole) in
      let apart : get_or ks j 0 ≢ c = λ same. absurd (omega (arith, few, ap (count c) o.parent_links, count-two (set ks place c) place j c (λ e. other (sym e)) (omega (arith, o.inside, width)) inside at-place (at ∙ same))) in
      (get_or ks j 0, has, apart, here (get_or ks j 0))

  abbrev front : List ℕ
  front = take place ks

  abbrev back : List ℕ
  back = drop (place + 1) ks

  front-length : length front ≡ place
  front-length = length-take-le place ks (omega (arith, o.inside))

  front-beside : All IsBeside front
  front-beside = All-from_get_or IsBeside front 0 (λ j lt. subst IsBeside (sym (get_or-take place ks j 0 (omega (arith, lt, front-length)))) (beside j (omega (arith, lt, front-length, o.inside)) (λ e. absurd (omega (arith, lt, front-length, e)))))

  back-beside : All IsBeside back
  back-beside = All-from_get_or IsBeside back 0 (λ j lt. subst IsBeside (sym (get_or-drop (place + 1) ks j 0)) (beside (place + 1 + j) (omega (arith, lt, length-drop (place + 1) ks)) (λ e. absurd (omega (arith, e)))))

  all-below : All (IsBelow o) ks
  all-below = all-counted (IsBelow o) ks (λ k has. (k, has, here k))

  front-below : All (IsBelow o) front
  front-below = All-take (IsBelow o) place ks all-below

  back-below : All (IsBelow o) back
  back-below = All-drop (IsBelow o) (place + 1) ks all-below

  -- both moves of the rows beside
  rows-on : (xs : List ℕ) → All (IsBelow o) xs → All IsBeside xs → AreRows old n xs → AreRows new n xs
  rows-on xs one two rows = rows-stay stays-beside n xs two (rows-stay (stays-below o) n xs one rows)

  thick-on : (xs : List ℕ) → All (IsBelow o) xs → All IsBeside xs → All (IsThick (form_at old) n) xs → All (IsThick (form_at new) n) xs
  thick-on xs one two rows = all-thick-stay stays-beside n xs two (all-thick-stay (stays-below o) n xs one rows)

  items-on : (xs : List ℕ) → All (IsBelow o) xs → All IsBeside xs → flat_map g xs ≡ flat_map f xs
  items-on xs one two = items-stay stays-beside n xs two ∙ items-stay (stays-below o) n xs one

  parts : set ks place c ≡ (front ++ c ∷ []) ++ back
  parts = set-parts ks place c o.inside

  close : 1 ≤ length back → All (IsThick (form_at new) n) (c ∷ [])
  close more = All-cons (IsThick (form_at new) n) c [] (thick-last (omega (arith, more, length-drop (place + 1) ks))) (All-nil (IsThick (form_at new) n))

  pub whole : AreRows new n (set ks place c)
  whole =
      rw parts (rows-around new n front (c ∷ []) back
      (rows-on front front-below front-beside (rows-take old n place ks under.rows (omega (arith, o.inside))))
      (thick-on front front-below front-beside (take-thick old n place ks under.rows o.inside))
      (one-row new n c xs made some)
      (rows-on back back-below back-beside (rows-drop old n (place + 1) ks under.rows))
      close)

  -- and they are all thick where they were
  pub all-thick : All (IsThick (form_at old) n) ks → IsThick (form_at new) n c → All (IsThick (form_at new) n) (set ks place c)
  all-thick all thick =
      let seam : All (IsThick (form_at new) n) (c ∷ []) = All-cons (IsThick (form_at new) n) c [] thick (All-nil (IsThick (form_at new) n)) in
      let first : All (IsThick (form_at new) n) (front ++ c ∷ []) = All-append (IsThick (form_at new) n) front (c ∷ []) (thick-on front front-below front-beside (All-take (IsThick (form_at old) n) place ks all)) seam in
      rw parts (All-append (IsThick (form_at new) n) (front ++ c ∷ []) back first (thick-on back back-below back-beside (All-drop (IsThick (form_at old) n) (place + 1) ks all)))

  pub items-new : flat_map g (set ks place c) ≡ flat_map f front ++ (xs ++ flat_map f back)
  items-new = rw (parts, items-around g front back c, items-on front front-below front-beside, items-on back back-below back-beside, made.items) refl

  -- each other child has as many elements
  pub sizes-beside : (j : ℕ) → j < length ks → j ≢ place → length (g (get_or (set ks place c) j 0)) ≡ length (f (get_or ks j 0))
  sizes-beside j lt other = rw (get_or-set_other ks place j c 0 other) (ap length (seq-stays stays-beside n (get_or ks j 0) (beside j lt other) ∙ seq-stays (stays-below o) n (get_or ks j 0) (all-below j 0 lt)))

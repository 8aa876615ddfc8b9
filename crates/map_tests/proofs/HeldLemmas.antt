-- Maps of cells, each with a hold of its own, and one of them edited in place.
use Rattle.std.proofs.Common.{◌≡◌, ℕ, ◌+◌, ◌<◌, ◌≤◌, List, [], ◌∷◌, ◌++◌, length, length-append, get_or, map, Result, Ok, Err, Option, Some, None, refl, ap, sym, subst, ◌∙◌, arith, inl, inr}
use Rattle.std.specs.Prelude.{IfOk, IfSome, IsOk, IsSome, MatchOption, option_map, option_to_list}
use Rattle.std.specs.List.{All}
use Rattle.std.specs.declared.cmp.Ordering.{Ordering}
use Rattle.std.proofs.lemmas.Bool.{cases_eq}
use Rattle.std.proofs.lemmas.List.{get_or-map, length-map, map-append}
use Rattle.std.proofs.lemmas.List.Elements.{All-cons, All-filter, All-head, All-nil, All-push, All-tail}
use Rattle.node_heap.specs.Links.{count, Reaches, here, below}
use Rattle.node_heap.specs.Forms.{cell, form_of}
use Rattle.node_heap.specs.Heap.{Heap, row_at, form_at, links_at, holds_at, hold_count, one_at, IsGraph}
use Rattle.node_heap.specs.Calls.{HasHolds, KeepsBelow, Unchanged, Extends, Adds}
use Rattle.node_heap.specs.declared.owner.Owner.TheVariants.{Hold as by_hold}
use Rattle.node_heap.specs.Owner.{EditsBy}
use Rattle.node_heap.proofs.Counts.{one_at-flip, test_same, test_other}
use Rattle.node_heap.proofs.Edited.{count-at}
use Rattle.node_heap.proofs.BuildLemmas.{count-cons, count-one, count-append}
use Rattle.champ_kinds.specs.Root.{Root}
use Rattle.champ_kinds.specs.Binding.{Binding, bind, unbind}
use Rattle.champ_kinds.specs.Kinds.{IsMapOf}
use Rattle.champ_kinds.proofs.StayLemmas.{container-stays, map-reaches, map-live}
use Rattle.same_value.specs.Cells.{IsCellLink}
use Rattle.edit_trie.specs.Edit.{by_bits, PutsValue, CutsKey, OwnsPair}
use Rattle.edit_trie.specs.Laws.{EditsKeepValues, CutsKeepValues, CutsKeepHeld}
use Rattle.map_tests.specs.Stands.{IsCellMap, Keeps, GivesUp, EditsMap, AreHeld}
use Rattle.map_tests.proofs.StandLemmas.{cell-maps-stay}

-- a root and bits that are those of a map
pub same-root : (s r : Root) (root bits : ℕ) → s ≡ by_bits bits root → root ≡ r.root → bits ≡ r.bits → s ≡ r
same-root s r root bits is at by = is ∙ (ap (by_bits bits) at ∙ ap (λ (k : ℕ). by_bits k r.root) by)

-- the roots of these maps
abbrev pub roots : List Root → List ℕ
roots maps = map (λ (r : Root). r.root) maps

-- the root of each map is among their roots
root-counted : (maps : List Root) (k : ℕ) (d : Root) → k < length maps → 0 < count ((get_or maps k d).root) (roots maps)
root-counted maps k d inside =
    let q : Root = get_or maps k d in
    count-at (roots maps) k q.root (omega (arith, inside, length-map maps (λ (r : Root). r.root))) (get_or-map (λ (r : Root). r.root) maps k d 0 inside)

module _ {T : Type 0} where
  -- a cell stays wherever all that its link reaches is the same
  pub cell-kept : (old new : Heap T) (l : ℕ) → KeepsBelow old new l → IsCellLink (form_at old) l → IsCellLink (form_at new) l
  cell-kept old new l keeps is = (is.0, ap (option_map form_of) (keeps l (here l)) ∙ is.1)

  -- what is held has at least its own hold
  pub held-one : (h : Heap T) (root k : ℕ) → 0 < holds_at h root → one_at root k ≤ holds_at h k
  held-one h root k held = elim (cases_eq k root) as (λ _. one_at root k ≤ holds_at h k) [
    | inl same ↦ omega (arith, test_same k root same, ap (holds_at h) same, held)
    | inr other ↦ omega (arith, test_other k root other)
  ]

  -- a new cell has its hold, and the root has its own
  pub rise : (old mid new : Heap T) (value : ℕ) (x : T) → Unchanged old mid → Adds mid new value (cell x) → (k : ℕ) → holds_at new k ≡ holds_at old k + one_at value k
  rise old mid new value x same adds k = omega (arith, same.holds k, adds.holds k)

  pub both-held : (old mid : Heap T) (r : Root) (value : ℕ) → 0 < holds_at old r.root → ((k : ℕ) → holds_at mid k ≡ holds_at old k + one_at value k) → HasHolds mid (r.root ∷ value ∷ [])
  both-held old mid r value held more k = omega (arith, held-one old r.root k held, more k, count-cons k r.root (value ∷ []), count-one k value)

  -- all that a row reaches is there
  live-down : (h : Heap T) → IsGraph h → (k m : ℕ) → Reaches (links_at h) k m → IsSome (row_at h k) → IsSome (row_at h m)
  live-down h graph k m (here l) live = live
  live-down h graph k m (below l j n has way) live = live-down h graph j m way (graph.closed l j has)

module _ {T : Type 0} (cmp : T → T → Ordering) (code : T → ℕ) where
  -- a map of cells stays wherever all that its root reaches is the same
  values-kept : (old new : Heap T) (r : Root) → KeepsBelow old new r.root → (is : IsCellMap cmp code old r) → All (λ (b : Binding T). IsCellLink (form_at new) b.value) is.0
  values-kept old new r keeps is k d inside =
      let b : Binding T = get_or is.0 k d in
      let down : Reaches (links_at old) r.root b.value = map-reaches cmp code old r is.0 is.1.map k d inside in
      let cell : IsCellLink (form_at old) b.value = is.1.values k d inside in
      (cell.0, ap (option_map form_of) (keeps b.value down) ∙ cell.1)

  pub cells-kept : (old new : Heap T) (r : Root) → KeepsBelow old new r.root → IsCellMap cmp code old r → IsCellMap cmp code new r
  cells-kept old new r keeps is = (is.0, record { map = (container-stays old new r keeps).map cmp code is.0 is.1.map; values = values-kept old new r keeps is })

  -- a map of cells was edited in place: holds were spent for it and gained, and each other map that is held stays
  pub record Edited (old new : Heap T) (was is : Root) (spent gained : List ℕ) : Type 0 where
    pub cells : IsCellMap cmp code new is
    pub others : (r : Root) → one_at was.root r.root < holds_at old r.root → IsCellMap cmp code old r → IsCellMap cmp code new r
    pub holds : (k : ℕ) → holds_at new k + (one_at was.root k + count k spent) ≡ holds_at old k + (one_at is.root k + count k gained)
    pub total : hold_count new + length spent ≡ hold_count old + length gained

  -- an opening for edits beside another hold
  opens-edited : (old new : Heap T) (r s : Root) (M : IsCellMap cmp code old r) (c n : ℕ) → one_at r.root r.root < holds_at old r.root → IsMapOf cmp code new s M.0 → EditsBy (by_hold r.root) old new s.root [] [] c n → Edited old new r s [] []
  opens-edited old new r s M c n held same edits = record {
    cells = (M.0, record { map = same; values = values-kept old new r (λ m way. edits.beside r.root m (omega (arith, held)) way) M });
    others = λ q some is. cells-kept old new q (λ m way. edits.beside q.root m (omega (arith, some)) way) is;
    holds = λ k. omega (arith, edits.trades.holds k, count-one k r.root, count-one k s.root);
    total = omega (arith, edits.trades.total);
  }

  module _ (old new : Heap T) (r s : Root) (key : T) (graph : IsGraph old) (M : IsCellMap cmp code old r) (bits : s.bits ≡ r.bits) where
    IsCell : Binding T → Type 0
    IsCell b = IsCellLink (form_at new) b.value

    -- by the bits that it had
    seen : IsCellMap cmp code new (by_bits r.bits s.root) → IsCellMap cmp code new s
    seen is = subst (λ b. IsCellMap cmp code new (by_bits b s.root)) (sym bits) is

    cells-stay : All (λ (b : Binding T). KeepsBelow old new b.value) M.0 → All (λ (b : Binding T). IsCellLink (form_at new) b.value) M.0
    cells-stay keeps k d inside = let b : Binding T = get_or M.0 k d in cell-kept old new b.value (keeps k d inside) (M.1.values k d inside)

    -- an insertion
    pub puts-edited : EditsKeepValues cmp code → (value : ℕ) (given : Option ℕ) → HasHolds old (r.root ∷ value ∷ []) → IsCellLink (form_at old) value
        → PutsValue cmp code (by_hold r.root) r.bits old new s.root M.0 key value given → Edited old new r s (value ∷ []) (option_to_list given)
    puts-edited law value given held celled did =
        let own : 0 < holds_at old r.root = omega (arith, held r.root, count-cons r.root r.root (value ∷ []), test_same r.root r.root refl) in
        let kept = law (by_hold r.root) old new s.root r.bits M.0 key graph own M.1.map did.others in
        let more : one_at r.root value < holds_at old value = omega (arith, held value, count-cons value r.root (value ∷ []), count-one value value, one_at-flip value r.root, one_at-flip r.root value, test_same value value refl) in
        let there : IsCellLink (form_at new) value = cell-kept old new value (λ m way. kept.beside value m (omega (arith, more)) way) celled in
        record {
          cells = seen (
            bind cmp M.0 key value,
            record {
              map = did.map;
              values = All-cons (λ (b : Binding T). IsCellLink (form_at new) b.value) _ _ there (All-filter _ (λ (b : Binding T). IsCellLink (form_at new) b.value) M.0 (cells-stay kept.below));
            },
          );
          others = λ q some is. cells-kept old new q (λ m way. kept.beside q.root m (omega (arith, some)) way) is;
          holds = λ k. omega (arith, did.edits.trades.holds k, count-cons k r.root (value ∷ []), count-cons k s.root (option_to_list given));
          total = omega (arith, did.edits.trades.total);
        }

    -- the way to a pair made the map's own
    pub owns-edited : EditsKeepValues cmp code → (link : ℕ) → 0 < holds_at old r.root → OwnsPair cmp code (by_hold r.root) r.bits old new s.root M.0 key link → Edited old new r s [] []
    owns-edited law link held did =
        let kept = law (by_hold r.root) old new s.root r.bits M.0 key graph held M.1.map did.others in
        record {
          cells = seen (M.0, record { map = did.map; values = cells-stay kept.below });
          others = λ q some is. cells-kept old new q (λ m way. kept.beside q.root m (omega (arith, some)) way) is;
          holds = λ k. omega (arith, did.edits.trades.holds k, count-one k r.root, count-one k s.root);
          total = omega (arith, did.edits.trades.total);
        }

    -- a removal
    pub cuts-edited : CutsKeepValues cmp code → CutsKeepHeld cmp code → (given : ℕ) → 0 < holds_at old r.root → CutsKey cmp code (by_hold r.root) r.bits old new s.root M.0 key given → Edited old new r s [] (given ∷ [])
    cuts-edited law beside given held did =
        let after = did.edits.trades.graph in
        let left = unbind cmp key M.0 in
        let kept = law (by_hold r.root) old new s.root r.bits M.0 key graph after held M.1.map did.others in
        let top : IsSome (row_at new s.root) = map-live new (by_bits r.bits s.root) s.root refl did.map in
        let Live = λ (b : Binding T). IsSome (row_at new b.value) → IsCellLink (form_at new) b.value in
        let cells : All Live M.0 = λ k d inside live. let b : Binding T = get_or M.0 k d in cell-kept old new b.value (kept k d inside live) (M.1.values k d inside) in
        record {
          cells = seen (
            left,
            record {
              map = did.map;
              values = λ k d inside.
                  let b : Binding T = get_or left k d in
                  let down : Reaches (links_at new) s.root b.value = map-reaches cmp code new (by_bits r.bits s.root) left did.map k d inside in
                  All-filter _ Live M.0 cells k d inside (live-down new after s.root b.value down top);
            },
          );
          others = λ q some is.
              let there : IsSome (row_at new q.root) = after.held q.root (omega (arith, some, did.edits.trades.holds q.root, count-one q.root r.root)) in
              cells-kept old new q (beside old new r.root s.root r.bits M.0 key graph after held M.1.map did.others q.root (omega (arith, some)) there) is;
          holds = λ k. omega (arith, did.edits.trades.holds k, count-one k r.root, count-cons k s.root (given ∷ []));
          total = omega (arith, did.edits.trades.total);
        }

  -- a map that stays has a hold more, by which it is opened
  pub record Opens (old new : Heap T) (s : Root) : Type 0 where
    pub cells : IsCellMap cmp code new s
    pub others : (q : Root) → 0 < holds_at old q.root → IsCellMap cmp code old q → IsCellMap cmp code new q
    pub holds : (k : ℕ) → holds_at new k ≡ holds_at old k + one_at s.root k
    pub total : hold_count new ≡ hold_count old + 1

  pub map-opened : (old mid new : Heap T) (r q s : Root) (c n : ℕ) → q ≡ r → IsCellMap cmp code old r → 0 < holds_at old r.root → Extends old mid → ((k : ℕ) → holds_at mid k ≡ holds_at old k + one_at r.root k) → hold_count mid ≡ hold_count old + 1
      → ((M : List (Binding T)) → IsMapOf cmp code mid q M → IsMapOf cmp code new s M) → EditsBy (by_hold q.root) mid new s.root [] [] c n → Opens old new s
  map-opened old mid new r q s c n same is held more holds total contents edits =
      let M : IsCellMap cmp code mid q = subst (IsCellMap cmp code mid) (sym same) (cell-maps-stay more cmp code r is) in
      let root : q.root ≡ r.root = ap (λ (p : Root). p.root) same in
      let own : one_at q.root q.root < holds_at mid q.root = omega (arith, test_same q.root q.root refl, ap (holds_at mid) root, holds r.root, held, test_same r.root r.root refl) in
      let did = opens-edited mid new q s M c n own (contents M.0 M.1.map) edits in
      let one = λ (k : ℕ). ap (λ (l : ℕ). one_at l k) root in
      record {
        cells = did.cells;
        others = λ p some there. did.others p (omega (arith, some, holds p.root, one p.root)) (cell-maps-stay more cmp code p there);
        holds = λ k. omega (arith, did.holds k, holds k, one k);
        total = omega (arith, did.total, total);
      }

  -- nothing was edited
  same-edited : (h : Heap T) (r : Root) → IsCellMap cmp code h r → Edited h h r r [] []
  same-edited h r is = record { cells = is; others = λ q some there. there; holds = λ k. omega arith; total = omega arith }

  -- a removal, as a call answers it
  pub cuts-answered : CutsKeepValues cmp code → CutsKeepHeld cmp code → (old new : Heap T) (r s : Root) (key : T) (given : Option ℕ) → IsGraph old → (M : IsCellMap cmp code old r) → s.bits ≡ r.bits → 0 < holds_at old r.root → (given ≡ None → (new ≡ old) × (s ≡ r))
      → IfSome given (λ l. CutsKey cmp code (by_hold r.root) r.bits old new s.root M.0 key l) → Edited old new r s [] (option_to_list given)
  cuts-answered law beside old new r s key None graph M bits held nothing did =
      let same = nothing refl in
      subst (λ h. Edited old h r s [] []) (sym same.0) (subst (λ q. Edited old old r q [] []) (sym same.1) (same-edited old r M))
  cuts-answered law beside old new r s key (Some l) graph M bits held nothing did = cuts-edited old new r s key graph M bits law beside l held did

  pub edits-edited : (old new : Heap T) (r s : Root) → Edited old new r s [] [] → EditsMap cmp code old new r s
  edits-edited old new r s did = record { cells = did.cells; others = did.others; holds = λ k. omega (arith, did.holds k); count = omega (arith, did.total) }

  -- a cell was made for it before
  pub cell-edited : (old mid new : Heap T) (r s : Root) (value : ℕ) (gained : List ℕ) → Extends old mid → ((k : ℕ) → holds_at mid k ≡ holds_at old k + one_at value k) → hold_count mid ≡ hold_count old + 1
      → Edited mid new r s (value ∷ []) gained → Edited old new r s [] gained
  cell-edited old mid new r s value gained more holds count did = record {
    cells = did.cells;
    others = λ q some is. did.others q (omega (arith, some, holds q.root)) (cell-maps-stay more cmp code q is);
    holds = λ k. omega (arith, did.holds k, holds k, count-one k value);
    total = omega (arith, did.total, count);
  }

  -- what came back is given up
  pub gives-up : (old mid new : Heap T) (r s : Root) (given : Option ℕ) → 0 < holds_at old r.root → Edited old mid r s [] (option_to_list given) → MatchOption given (new ≡ mid) (λ l. GivesUp mid new l) → EditsMap cmp code old new r s
  gives-up old mid new r s None held did same = subst (λ h. EditsMap cmp code old h r s) (sym same) (edits-edited old mid r s did)
  gives-up old mid new r s (Some l) held did gives =
      let own = held-one old r.root in
      record {
        cells = cells-kept mid new s (gives.keeps.kept s.root (omega (arith, own s.root held, did.holds s.root, count-one s.root l, one_at-flip s.root l, test_same s.root s.root refl))) did.cells;
        others = λ q some is. cells-kept mid new q (gives.keeps.kept q.root (omega (arith, some, did.holds q.root, count-one q.root l))) (did.others q some is);
        holds = λ k. omega (arith, did.holds k, gives.releases.holds k, count-one k l);
        count = omega (arith, did.total, gives.releases.count);
      }

  -- what came back is held
  pub given-held : (old mid : Heap T) (r s : Root) (l : ℕ) → 0 < holds_at old r.root → Edited old mid r s [] (l ∷ []) → 0 < holds_at mid l
  given-held old mid r s l held did = omega (arith, held-one old r.root l held, did.holds l, count-one l l, test_same l l refl)

  pub some-held : (old mid : Heap T) (r s : Root) (given : Option ℕ) → 0 < holds_at old r.root → Edited old mid r s [] (option_to_list given) → IfSome given (λ l. 0 < holds_at mid l)
  some-held old mid r s None held did = tt
  some-held old mid r s (Some l) held did = given-held old mid r s l held did

  -- each of the maps is held
  pub each-held : (h : Heap T) (maps : List Root) → HasHolds h (roots maps) → (k : ℕ) (d : Root) → k < length maps → 0 < holds_at h ((get_or maps k d).root)
  each-held h maps holds k d inside =
      let q : Root = get_or maps k d in
      omega (arith, holds q.root, root-counted maps k d inside)

  -- one of the maps is edited
  pub are-edited : (old new : Heap T) (r s : Root) (maps : List Root) → AreHeld cmp code old (r ∷ maps) → EditsMap cmp code old new r s → AreHeld cmp code new (s ∷ maps)
  are-edited old new r s maps are did = record {
    are = All-cons (IsCellMap cmp code new) s maps did.cells (λ k d inside.
        let q : Root = get_or maps k d in
        did.others q (omega (arith, are.holds q.root, count-cons q.root r.root (roots maps), root-counted maps k d inside)) (All-tail (IsCellMap cmp code old) r maps are.are k d inside));
    holds = λ k. omega (arith, are.holds k, did.holds k, count-cons k r.root (roots maps), count-cons k s.root (roots maps));
    few = omega (arith, are.few, did.count);
  }

  -- a map was made beside them, the first of them now
  pub are-front : (old new : Heap T) (maps : List Root) (r : Root) → IsCellMap cmp code new r → ((q : Root) → 0 < holds_at old q.root → IsCellMap cmp code old q → IsCellMap cmp code new q)
      → ((k : ℕ) → holds_at new k ≡ holds_at old k + one_at r.root k) → hold_count new ≡ hold_count old + 1 → AreHeld cmp code old maps → AreHeld cmp code new (r ∷ maps)
  are-front old new maps r is others holds total are = record {
    are = All-cons (IsCellMap cmp code new) r maps is (λ k d inside. let q : Root = get_or maps k d in others q (each-held old maps are.holds k d inside) (are.are k d inside));
    holds = λ k. omega (arith, are.holds k, holds k, count-cons k r.root (roots maps));
    few = omega (arith, are.few, total);
  }

  -- the first of them comes last
  pub are-turned : (h : Heap T) (first : Root) (maps : List Root) → AreHeld cmp code h (first ∷ maps) → AreHeld cmp code h (maps ++ first ∷ [])
  are-turned h first maps are = record {
    are = All-push (IsCellMap cmp code h) maps first (All-tail (IsCellMap cmp code h) first maps are.are) (All-head (IsCellMap cmp code h) first maps are.are);
    holds = λ k. omega (arith, are.holds k, count-cons k first.root (roots maps), ap (count k) (map-append (λ (q : Root). q.root) maps (first ∷ [])), count-append k (roots maps) (first.root ∷ []), count-one k first.root);
    few = omega (arith, are.few, length-append maps (first ∷ []));
  }

  -- the same as a call answers it, the last of them now
  pub are-made : {E : Type 0} (old new : Heap T) (first : Root) (maps after : List Root) (made : Result Root E) → IsOk made → IfOk made (IsCellMap cmp code new) → IfOk made (λ _. Keeps (IsCellMap cmp code) old new)
      → IfOk made (λ _. hold_count new ≡ hold_count old + 1) → IfOk made (λ r. (k : ℕ) → holds_at new k ≡ holds_at old k + one_at r.root k) → IfOk made (λ r. after ≡ maps ++ r ∷ []) → AreHeld cmp code old (first ∷ maps) → AreHeld cmp code new (first ∷ after)
  are-made old new first maps after (Ok r) ok is keeps total holds list are =
      subst (λ ms. AreHeld cmp code new (first ∷ ms)) (sym list) (are-turned new r (first ∷ maps) (are-front old new (first ∷ maps) r is (λ q held there. keeps q there) holds total are))
  are-made old new first maps after (Err e) ok is keeps total holds list are = absurd (let h = ok in cc)

  -- a map has a hold more, and is the last of them too
  pub are-kept : (old new : Heap T) (first r : Root) (maps after : List Root) → r ≡ first → after ≡ maps ++ r ∷ [] → Extends old new → ((k : ℕ) → holds_at new k ≡ holds_at old k + one_at r.root k) → hold_count new ≡ hold_count old + 1 → AreHeld cmp code old (first ∷ maps) → AreHeld cmp code new (first ∷ after)
  are-kept old new first r maps after same list more holds total are =
      let stay = cell-maps-stay more cmp code in
      let is : IsCellMap cmp code new r = stay r (subst (IsCellMap cmp code old) (sym same) (All-head (IsCellMap cmp code old) first maps are.are)) in
      subst (λ ms. AreHeld cmp code new (first ∷ ms)) (sym list) (are-turned new r (first ∷ maps) (are-front old new (first ∷ maps) r is (λ q held there. stay q there) holds total are))

  -- the first map of all
  pub first-made : (old new : Heap T) (r : Root) → IsCellMap cmp code new r → hold_count old ≡ 0 → ((k : ℕ) → holds_at new k ≡ holds_at old k + one_at r.root k) → hold_count new ≡ hold_count old + 1 → AreHeld cmp code new (r ∷ [])
  first-made old new r is none holds total = record {
    are = All-cons (IsCellMap cmp code new) r [] is (All-nil (IsCellMap cmp code new));
    holds = λ k. omega (arith, holds k, count-one k r.root);
    few = omega (arith, none, total);
  }

  -- the one that is edited, and the one of a turn
  pub first-is : (h : Heap T) (r : Root) (maps : List Root) → AreHeld cmp code h (r ∷ maps) → IsCellMap cmp code h r
  first-is h r maps are = All-head (IsCellMap cmp code h) r maps are.are

  pub first-held : (h : Heap T) (r : Root) (maps : List Root) → AreHeld cmp code h (r ∷ maps) → 0 < holds_at h r.root
  first-held h r maps are = omega (arith, are.holds r.root, count-cons r.root r.root (roots maps), test_same r.root r.root refl)

  pub turn-is : (h : Heap T) (r : Root) (maps : List Root) (k : ℕ) (d : Root) → k < length maps → AreHeld cmp code h (r ∷ maps) → IsCellMap cmp code h (get_or maps k d)
  turn-is h r maps k d inside are = All-tail (IsCellMap cmp code h) r maps are.are k d inside

  pub turn-held : (h : Heap T) (r : Root) (maps : List Root) (k : ℕ) (d : Root) → k < length maps → AreHeld cmp code h (r ∷ maps) → 0 < holds_at h ((get_or maps k d).root)
  turn-held h r maps k d inside are = each-held h maps (λ j. omega (arith, are.holds j, count-cons j r.root (roots maps))) k d inside

  -- one of them is given up, the first or the last
  pub first-given : (h new : Heap T) (r : Root) (maps : List Root) → AreHeld cmp code h (r ∷ maps) → ((k : ℕ) → holds_at new k + one_at r.root k ≡ holds_at h k) → HasHolds new (roots maps)
  first-given h new r maps are holds = λ k. omega (arith, are.holds k, holds k, count-cons k r.root (roots maps))

-- the last of these is held, and is given up
pub last-held : {T : Type 0} (h : Heap T) (maps left : List Root) (r : Root) → maps ≡ left ++ r ∷ [] → HasHolds h (roots maps) → 0 < holds_at h r.root
last-held h maps left r list holds =
    omega (arith, holds r.root, ap (λ (ms : List Root). count r.root (roots ms)) list, ap (count r.root) (map-append (λ (q : Root). q.root) left (r ∷ [])), count-append r.root (roots left) (r.root ∷ []), count-one r.root r.root, test_same r.root r.root refl)

pub last-given : {T : Type 0} (h new : Heap T) (maps left : List Root) (r : Root) → maps ≡ left ++ r ∷ [] → HasHolds h (roots maps) → ((k : ℕ) → holds_at new k + one_at r.root k ≡ holds_at h k) → HasHolds new (roots left)
last-given h new maps left r list holds gives =
    λ k. omega (arith, holds k, gives k, ap (λ (ms : List Root). count k (roots ms)) list, ap (count k) (map-append (λ (q : Root). q.root) left (r ∷ [])), count-append k (roots left) (r.root ∷ []), count-one k r.root)

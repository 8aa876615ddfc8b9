-- Edits by an owner, and what stays beside it.
use Rattle.std.proofs.Common.{◌≡◌, ◌≢◌, ℕ, suc, zero, ◌+◌, ◌-◌, ◌<◌, ◌≤◌, List, [], ◌∷◌, ◌++◌, length, take, drop, get_or, set, refl, ap, sym, subst, ◌∙◌, arith, length-set, length-drop, append-nil, Bool, true, false, Option, Some, None, inl, inr}
use Rattle.std.specs.Prelude.{◌==◌, insert, remove, if◌then◌else◌}
use Rattle.std.proofs.lemmas.Bool.{cases_eq, cases_lt}
use Rattle.std.proofs.lemmas.Bool.Decides.{nat_tests}
use Rattle.std.proofs.lemmas.List.{get_or-set_same, get_or-set_other, get_or-take, get_or-drop, length-take, drop_all}
use Rattle.node_heap.specs.Links.{count, HasLink, Reaches, here, below}
use Rattle.node_heap.specs.Forms.{Row, cell, node, head_of, links_of}
use Rattle.node_heap.specs.Heap.{Heap, row_at, links_at, holds_at, owners_at, one_at, IsGraph}
use Rattle.node_heap.specs.Calls.{KeepsBelow, KeepsHeld, Unchanged, Builds, Trades}
use Rattle.node_heap.specs.InPlace.{ReachesAround, at_once, by_link, Changes}
use Rattle.node_heap.specs.Owner.{Owner, by_hold, by_place, owned, held_by, holds_beside, links_beside, relinked, with_root, EditsBy}
use Rattle.node_heap.proofs.Counts.{count-cons, one_at-flip, test_same, test_other, le-sum_by}
use Rattle.node_heap.proofs.Reach.{HasLink-same, Reaches-by}
use Rattle.node_heap.proofs.Frames.{KeepsBelow-trans}
use Rattle.node_heap.proofs.BuildLemmas.{count-one, count-append}
use Rattle.node_heap.proofs.Ways.{ReachesAround-end}
use Rattle.node_heap.proofs.Edited.{count-at, IsOwners-heap, Trades-Builds, Trades-Unchanged, Trades-both, Trades-more}
use Rattle.node_heap.proofs.EditLaws.{KeepsHeld-own}

-- a node by its head and its links
pub relinked-is : {T : Type 0} (r s : Option (Row T)) (index link : ℕ) → 0 < length (links_of r) → head_of s ≡ head_of r → links_of s ≡ set (links_of r) index link → s ≡ relinked index link r
relinked-is None s index link some heads links = absurd (omega (arith, some))
relinked-is (Some (cell x)) s index link some heads links = absurd (omega (arith, some))
relinked-is (Some (node h l)) None index link some heads links = absurd cc
relinked-is (Some (node h l)) (Some (cell y)) index link some heads links = absurd cc
relinked-is (Some (node h l)) (Some (node h' l')) index link some heads links = cc

-- what stands at two places is counted twice
pub count-two : (xs : List ℕ) (i j x : ℕ) → i ≢ j → i < length xs → j < length xs → get_or xs i 0 ≡ x → get_or xs j 0 ≡ x → 2 ≤ count x xs
count-two [] i j x other at_i at_j found found' = absurd (omega (arith, at_i))
count-two (y ∷ ys) zero zero x other at_i at_j found found' = absurd (other refl)
count-two (y ∷ ys) zero (suc j) x other at_i at_j found found' = omega (arith, count-cons x y ys, test_same y x found, count-at ys j x (omega (arith, at_j)) found')
count-two (y ∷ ys) (suc i) zero x other at_i at_j found found' = omega (arith, count-cons x y ys, test_same y x found', count-at ys i x (omega (arith, at_i)) found)
count-two (y ∷ ys) (suc i) (suc j) x other at_i at_j found found' = omega (arith, count-cons x y ys, count-two ys i j x (λ e. other (ap suc e)) (omega (arith, at_i)) (omega (arith, at_j)) found found')

-- a list of which a place was taken out and filled again
pub insert-removed : (xs : List ℕ) (i x : ℕ) → i < length xs → insert (remove xs i) i x ≡ set xs i x
insert-removed [] i x lt = absurd (omega (arith, lt))
insert-removed (y ∷ ys) zero x lt = refl
insert-removed (y ∷ ys) (suc i) x lt = ap (λ (zs : List ℕ). y ∷ zs) (insert-removed ys i x (omega (arith, lt)))

-- without the last, the others stay
pub remove-last : {X : Type 0} (xs : List X) (i : ℕ) → i + 1 ≡ length xs → take i xs ≡ remove xs i
remove-last xs i is = sym (append-nil (take i xs)) ∙ sym (ap (λ zs. take i xs ++ zs) (drop_all (suc i) xs (omega (arith, is))))

-- what is counted stands at a place
pub found-at : (xs : List ℕ) (y : ℕ) → 0 < count y xs → (j : ℕ) × (j < length xs) × (get_or xs j 0 ≡ y)
found-at [] y some = absurd (omega (arith, some))
found-at (x ∷ xs) y some = elim (cases_eq y x) as (λ _. (j : ℕ) × (j < length (x ∷ xs)) × (get_or (x ∷ xs) j 0 ≡ y)) [
  | inl same ↦ (0, omega arith, sym same)
  | inr other ↦ let f = found-at xs y (omega (arith, some, count-cons y x xs, test_other x y (λ e. other (sym e)))) in (suc f.0, omega (arith, f.1), f.2)
]

-- what is left of a list without one place stands at another
pub left-at : (xs : List ℕ) (index y : ℕ) → 0 < count y (remove xs index) → (j : ℕ) × (j ≢ index) × (j < length xs) × (get_or xs j 0 ≡ y)
left-at xs index y some = elim (cases_lt 0 (count y (take index xs))) as (λ _. (j : ℕ) × (j ≢ index) × (j < length xs) × (get_or xs j 0 ≡ y)) [
  | inl front ↦
      let f = found-at (take index xs) y front in
      let low : f.0 < index = omega (arith, f.1, length-take index xs) in
      (f.0, λ e. absurd (omega (arith, low, e)), omega (arith, f.1, length-take index xs), sym (get_or-take index xs f.0 0 low) ∙ f.2)
  | inr none ↦
      let f = found-at (drop (suc index) xs) y (omega (arith, some, none, count-append y (take index xs) (drop (suc index) xs))) in
      (suc index + f.0, λ e. absurd (omega (arith, e)), omega (arith, f.1, length-drop (suc index) xs), sym (get_or-drop (suc index) xs f.0 0) ∙ f.2)
]

module _ {T : Type 0} {old mid : Heap T} {root r : ℕ} (graph : IsGraph old) (held : 0 < holds_at old root) (sole : owners_at mid r ≡ 1) (builds : Builds old mid (root ∷ []) (r ∷ []) 0 1) where
  pub held-root : 0 < holds_at mid r
  held-root = elim (cases_eq root r) as (λ _. 0 < holds_at mid r) [
    | inl same ↦ omega (arith, builds.holds r, count-one r root, count-one r r, test_same r r refl, test_same r root (sym same), ap (holds_at old) same, held)
    | inr other ↦ omega (arith, builds.holds r, count-one r root, count-one r r, test_same r r refl, test_other r root (λ e. other (sym e)))
  ]

  -- a held node is made one's own and changed then
  pub EditsBy-hold : {new : Heap T} {spent gained : List ℕ} {c n : ℕ} → Changes r mid new spent gained c n → EditsBy (by_hold root) old new r spent gained c (1 + n)
  EditsBy-hold {new} {spent} {gained} {c} {n} change = record {
    beside = λ l m some way.
        let left : count l (r ∷ spent) < holds_at mid l = omega (arith, some, count-cons l r spent, builds.holds l, count-one l root, count-one l r, one_at-flip l r) in
        let on = (KeepsHeld-own r held-root sole change).kept l left in
        KeepsBelow-trans old mid new l (builds.extends.kept l (graph.held l (omega (arith, some)))) on m way;
    trades = Trades-more c (1 + n) (Trades-both (root ∷ spent) (r ∷ gained) (Trades-Builds builds) change.trades
        (λ k. omega (arith, count-one k root, count-one k r, count-cons k root spent, count-cons k r gained, one_at-flip k root, one_at-flip k r)) (omega arith)) (omega arith) (omega arith);
  }

module _ {T : Type 0} (old mid : Heap T) (parent index r : ℕ) (inside : index < length (links_at old parent)) (sole : owners_at mid r ≡ 1) (heads : head_of (row_at mid parent) ≡ head_of (row_at old parent)) (links : links_at mid parent ≡ set (links_at old parent) index r)
    (others : (k : ℕ) → k ≢ parent → k ≢ r → row_at mid k ≡ row_at old k) where
  linked-now : HasLink (links_at mid) parent r
  linked-now = rw links (count-at (set (links_at old parent) index r) index r (omega (arith, inside, length-set (links_at old parent) index r)) (get_or-set_same (links_at old parent) index r 0 inside))

  -- a step beside the place goes around the row that has the place alone
  step : (x y : ℕ) → x ≢ r → HasLink (links_beside old (by_place parent index)) x y → HasLink (links_at mid) x y × (y ≢ r)
  step x y off has = elim (cases_eq x parent) as (λ _. HasLink (links_at mid) x y × (y ≢ r)) [
    | inl same ↦ at_parent same
    | inr other ↦
        let test : (x == parent) ≡ false = grind (arith, nat_tests, other) in
        let was : HasLink (links_at old) x y = subst (λ (b : Bool). 0 < count y (if b then remove (links_at old x) index else links_at old x)) test has in
        let now : HasLink (links_at mid) x y = HasLink-same (links_at old) (links_at mid) x y (ap links_of (others x other off)) was in
        (now, λ e. other ((IsOwners-heap mid).only parent x r linked-now (subst (HasLink (links_at mid) x) e now) sole))
  ]
    where
      at_parent : x ≡ parent → HasLink (links_at mid) x y × (y ≢ r)
      at_parent same =
          let test : (x == parent) ≡ true = grind (arith, nat_tests, same) in
          let was : 0 < count y (remove (links_at old x) index) = subst (λ (b : Bool). 0 < count y (if b then remove (links_at old x) index else links_at old x)) test has in
          let found = left-at (links_at old parent) index y (subst (λ j. 0 < count y (remove (links_at old j) index)) same was) in
          let ks : List ℕ = set (links_at old parent) index r in
          let at : get_or ks found.0 0 ≡ y = get_or-set_other (links_at old parent) index found.0 r 0 found.1 ∙ found.3 in
          let within : found.0 < length ks = omega (arith, found.2, length-set (links_at old parent) index r) in
          let few : count r (links_at mid parent) ≤ 1 = omega (arith, le-sum_by (λ (w : Option (Row T)). count r (links_of w)) None refl mid.rows parent, sole) in (
            subst (λ j. HasLink (links_at mid) j y) (sym same) (rw links (count-at ks found.0 y within at)),
            λ e. absurd (omega (arith, few, ap (count r) links, count-two ks found.0 index r found.1 within (omega (arith, inside, length-set (links_at old parent) index r)) (at ∙ e) (get_or-set_same (links_at old parent) index r 0 inside))),
          )

  around : (x m : ℕ) → x ≢ r → Reaches (links_beside old (by_place parent index)) x m → ReachesAround (links_at mid) r x m
  around x m off (here l) = at_once l off
  around x m off (below l k j has rest) = let on = step l k off has in by_link l k j off on.0 (around k j on.1 rest)

  -- the rows once the place has the new link
  pub rows-placed : (m : ℕ) → m ≢ r → row_at mid m ≡ with_root (by_place parent index) r m (row_at old m)
  rows-placed m off = elim (cases_eq m parent) as (λ _. row_at mid m ≡ with_root (by_place parent index) r m (row_at old m)) [
    | inl same ↦
        let test : (m == parent) ≡ true = grind (arith, nat_tests, same) in
        let is : row_at mid m ≡ relinked index r (row_at old m) = subst (λ j. row_at mid j ≡ relinked index r (row_at old j)) (sym same) (relinked-is (row_at old parent) (row_at mid parent) index r (omega (arith, inside)) heads links) in
        is ∙ sym (ap (λ (b : Bool). if b then relinked index r (row_at old m) else row_at old m) test)
    | inr other ↦
        let test : (m == parent) ≡ false = grind (arith, nat_tests, other) in
        others m other off ∙ sym (ap (λ (b : Bool). if b then relinked index r (row_at old m) else row_at old m) test)
  ]

  -- a child is made its parent's own and changed then
  pub EditsBy-place : Changes parent old mid [] [] 0 1 → {new : Heap T} {spent gained : List ℕ} {c n : ℕ} → Changes r mid new spent gained c n → EditsBy (by_place parent index) old new r spent gained c (1 + n)
  EditsBy-place first {new} {spent} {gained} {c} {n} change = record {
    beside = λ l m some way.
        let left : count l spent < holds_at mid l = omega (arith, some, first.trades.holds l) in
        let off : l ≢ r = λ e. absurd (omega (arith, left, ap (holds_at mid) e, (IsOwners-heap mid).unheld parent r linked-now sole)) in
        let on = around l m off way in
        change.apart.kept l m left on ∙ rows-placed m (ReachesAround-end (links_at mid) r l m on);
    trades = Trades-more c (1 + n) (Trades-both spent gained first.trades change.trades (λ k. omega arith) (omega arith)) (omega arith) (omega arith);
  }

module _ {T : Type 0} where
  -- what is held beside a hold that is edited by
  pub KeepsHeld-EditsBy : {old new : Heap T} {root root' c n : ℕ} {spent gained : List ℕ} → EditsBy (by_hold root) old new root' spent gained c n → KeepsHeld (λ l. count l (root ∷ spent)) old new
  KeepsHeld-EditsBy {old} {new} {root} {root'} {spent = spent} edit = record {
    live = λ l some. edit.trades.graph.held l (omega (arith, some, edit.trades.holds l));
    kept = λ l some m down. edit.beside l m (omega (arith, some, count-cons l root spent, one_at-flip l root)) down;
    left = λ l. omega (arith, edit.trades.holds l);
  }

  -- what is held and doesn't reach the parent of the place that is edited by
  pub KeepsBelow-EditsBy : {old new : Heap T} {parent index root' c n : ℕ} {spent gained : List ℕ} → EditsBy (by_place parent index) old new root' spent gained c n → (l : ℕ) → count l spent < holds_at old l → ¬ Reaches (links_at old) l parent → KeepsBelow old new l
  KeepsBelow-EditsBy {old} {new} {parent} {index} {root'} edit l some off m down =
      edit.beside l m some (way l m down off) ∙ ap (λ (b : Bool). if b then relinked index root' (row_at old m) else row_at old m) (test m (λ same. off (subst (Reaches (links_at old) l) same down)))
    where
      test : (x : ℕ) → x ≢ parent → (x == parent) ≡ false
      test x other = grind (arith, nat_tests, other)

      way : (x y : ℕ) → Reaches (links_at old) x y → ¬ Reaches (links_at old) x parent → Reaches (links_beside old (by_place parent index)) x y
      way x y (here k) off = here k
      way x y (below k j z has rest) off =
          let other : k ≢ parent = λ same. off (subst (Reaches (links_at old) k) same (here k)) in
          below k j z (subst (λ (b : Bool). 0 < count j (if b then remove (links_at old k) index else links_at old k)) (sym (test k other)) has) (way j z rest (λ up. off (below k j parent has up)))

  pub EditsBy-more : {owner : Owner} {old new : Heap T} {root c n : ℕ} {spent gained : List ℕ} (c' n' : ℕ) → EditsBy owner old new root spent gained c n → c ≤ c' → n ≤ n' → EditsBy owner old new root spent gained c' n'
  EditsBy-more c' n' edit more_cells more_nodes = record { beside = edit.beside; trades = Trades-more c' n' edit.trades more_cells more_nodes }

  -- room was made before
  module _ (old mid : Heap T) (same : Unchanged old mid) where
    same-links : (owner : Owner) (l : ℕ) → links_beside mid owner l ≡ links_beside old owner l
    same-links (by_hold _) l = ap links_of (same.rows l)
    same-links (by_place parent index) l = ap (λ w. if l == parent then remove (links_of w) index else links_of w) (same.rows l)

    same-holds : (owner : Owner) (l : ℕ) → holds_beside mid owner l ≡ holds_beside old owner l
    same-holds (by_hold root) l = ap (λ (n : ℕ). n - one_at root l) (same.holds l)
    same-holds (by_place _ _) l = same.holds l

    same-root : (owner : Owner) → owned mid owner ≡ owned old owner
    same-root (by_hold _) = refl
    same-root (by_place parent index) = ap (λ w. get_or (links_of w) index 0) (same.rows parent)

    pub EditsBy-Unchanged : {new : Heap T} {root c n : ℕ} {spent gained : List ℕ} (owner : Owner) → EditsBy owner mid new root spent gained c n → EditsBy owner old new root spent gained c n
    EditsBy-Unchanged {new} {root} {c} {n} {spent} {gained} owner edit = record {
      beside = λ l m some way.
          edit.beside l m (omega (arith, some, same-holds owner l)) (Reaches-by (links_beside old owner) (links_beside mid owner) (same-links owner) l m way)
          ∙ ap (with_root owner root m) (same.rows m);
      trades =
          let was : Trades mid new (held_by owner (owned old owner) ++ spent) (held_by owner root ++ gained) c n = subst (λ r. Trades mid new (held_by owner r ++ spent) (held_by owner root ++ gained) c n) (same-root owner) edit.trades in
          Trades-more c n (Trades-both (held_by owner (owned old owner) ++ spent) (held_by owner root ++ gained) (Trades-Unchanged same) was (λ k. omega arith) (omega arith)) (omega arith) (omega arith);
    }

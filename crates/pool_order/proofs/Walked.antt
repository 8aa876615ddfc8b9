-- Each step of a walk.
use Rattle.std.proofs.Common.{◌≡◌, ℕ, zero, suc, ◌+◌, ◌*◌, ◌<◌, ◌≤◌, List, [], ◌∷◌, ◌++◌, length, get_or, take, drop, drop-cons, add-one, refl, ap, sym, subst, ◌∙◌, arith, inl, inr, length-append, append_assoc}
use Rattle.std.specs.List.{flat_map}
use Rattle.std.proofs.lemmas.List.Concat.{flat_map-append}
use Rattle.std.proofs.lemmas.Bool.{cases_eq}
use Rattle.std.proofs.lemmas.List.{take-append-le, append-nil}
use Rattle.node_heap.specs.Links.{Links, count, HasLink, Reaches, here, below}
use Rattle.node_heap.proofs.Counts.{test_same, test_other, count-cons}
use Rattle.pool_order.specs.declared.walk.Visit.{Visit}
use Rattle.pool_order.specs.Order.{with_new, with_all_new, firsts, places}
use Rattle.pool_order.specs.Laws.{IsReady}
use Rattle.pool_order.proofs.Pending.{below_visit, pending, steps_left, AreThere, IsWalk}
use Rattle.pool_order.proofs.Firsts.{with_new-cases, with_all-append, with_all-absorbs}
use Rattle.pool_order.proofs.Places.{places-is, places-reached}
use Rattle.pool_order.proofs.Grounded.{IsGrounded}

-- lists that are ready
get_or-before : (ks more : List ℕ) (i : ℕ) → i < length ks → get_or (ks ++ more) i 0 ≡ get_or ks i 0
get_or-before [] more i low = absurd (omega arith)
get_or-before (k ∷ ks) more zero low = refl
get_or-before (k ∷ ks) more (suc i) low = get_or-before ks more i (omega arith)

found_at : (ks : List ℕ) (l : ℕ) → 0 < count l ks → (i : ℕ) × (i < length ks) × (get_or ks i 0 ≡ l)
found_at [] l some = absurd (omega arith)
found_at (k ∷ ks) l some = elim (cases_eq k l) as (λ _. (i : ℕ) × (i < length (k ∷ ks)) × (get_or (k ∷ ks) i 0 ≡ l)) [
  | inl same ↦ (0, omega arith, same)
  | inr other ↦
      let later = found_at ks l (omega (arith, count-cons l k ks, test_other k l other, some)) in
      (suc later.0, omega (arith, later.1), later.2)
]

count-take : (k i : ℕ) (ks : List ℕ) → count k (take i ks) ≤ count k ks
count-take k zero ks = omega arith
count-take k (suc i) [] = omega arith
count-take k (suc i) (x ∷ ks) = omega (arith, count-take k i ks, count-cons k x ks, count-cons k x (take i ks))

pub with_all-before : (ks xs : List ℕ) → (more : List ℕ) × (with_all_new ks xs ≡ ks ++ more)
with_all-before ks [] = ([], sym (append-nil ks))
with_all-before ks (x ∷ xs) =
    let later = with_all-before (with_new ks x) xs in
    elim (with_new-cases ks x) as (λ _. (more : List ℕ) × (with_all_new ks (x ∷ xs) ≡ ks ++ more)) [
      | inl old ↦ (later.0, later.1 ∙ ap (λ ys. ys ++ later.0) old.0)
      | inr new ↦ (x ∷ later.0, later.1 ∙ ap (λ ys. ys ++ later.0) new.0 ∙ append_assoc ks (x ∷ []) later.0)
    ]

drop-all : (ks : List ℕ) (i : ℕ) → length ks ≤ i → drop i ks ≡ []
drop-all [] zero h = refl
drop-all [] (suc i) h = refl
drop-all (k ∷ ks) zero h = absurd (omega arith)
drop-all (k ∷ ks) (suc i) h = drop-all ks i (omega arith)

pub ready-before : (L : Links) (ks more : List ℕ) → IsReady L (ks ++ more) → IsReady L ks
ready-before L ks more ready i low k has =
    let has' : HasLink L (get_or (ks ++ more) i 0) k = omega (arith, ap (λ l. count k (L l)) (get_or-before ks more i low), has) in
    omega (arith, ready i (omega (arith, low, length-append ks more)) k has', ap (count k) (take-append-le i ks more (omega (arith, low))))

pub ready-closed : (L : Links) (ks : List ℕ) → IsReady L ks → (l m : ℕ) → Reaches L l m → 0 < count l ks → 0 < count m ks
ready-closed L ks ready a b (here l) some = some
ready-closed L ks ready a b (below l k m has down) some =
    let at = found_at ks l some in
    let has' : HasLink L (get_or ks at.0 0) k = omega (arith, ap (λ j. count k (L j)) at.2, has) in
    ready-closed L ks ready k m down (omega (arith, ready at.0 at.1 k has', count-take k at.0 ks))

pub get_or-default : (xs : List ℕ) (i d e : ℕ) → i < length xs → get_or xs i d ≡ get_or xs i e
get_or-default [] i d e low = absurd (omega arith)
get_or-default (x ∷ xs) zero d e low = refl
get_or-default (x ∷ xs) (suc i) d e low = get_or-default xs i d e (omega arith)

pub count-get_or : (xs : List ℕ) (i : ℕ) → i < length xs → 0 < count (get_or xs i 0) xs
count-get_or [] i low = absurd (omega arith)
count-get_or (x ∷ xs) zero low = omega (arith, count-cons x x xs, test_same x x refl)
count-get_or (x ∷ xs) (suc i) low = omega (arith, count-cons (get_or xs i 0) x xs, count-get_or xs i (omega arith))

-- the visits before and after a link of the last one is looked at
pub record IsTurn (L : Links) (old vs mid : List (Visit ℕ)) (v : Visit ℕ) (links : List ℕ) (child : ℕ) : Type 0 where
  pub popped : old ≡ vs ++ v ∷ []
  pub pushed : mid ≡ vs ++ record { link = v.link; next = v.next + 1 } ∷ []
  pub linked : links ≡ L v.link
  pub is : child ≡ get_or links v.next child
  pub low : v.next < length links

module _ (n : ℕ) (L : Links) (Is : ℕ → Type 0) (ground : IsGrounded n L Is) where
  pub pending-last : (vs : List (Visit ℕ)) (v : Visit ℕ) → pending n L (vs ++ v ∷ []) ≡ (below_visit n L v ++ v.link ∷ []) ++ pending n L vs
  unfolding pending
  pending-last [] v = sym (append-nil (below_visit n L v ++ v.link ∷ []))
  pending-last (e ∷ vs) v =
      ap (λ ys. ys ++ (below_visit n L e ++ e.link ∷ [])) (pending-last vs v) ∙ append_assoc (below_visit n L v ++ v.link ∷ []) (pending n L vs) (below_visit n L e ++ e.link ∷ [])

  pub steps-last : (vs : List (Visit ℕ)) (v : Visit ℕ) → steps_left n L (vs ++ v ∷ []) ≡ steps_left n L vs + (2 * length (below_visit n L v) + 1)
  unfolding steps_left
  steps-last [] v = omega arith
  steps-last (e ∷ vs) v = omega (arith, steps-last vs v)

  pub live-last : (vs : List (Visit ℕ)) (v : Visit ℕ) → AreThere Is (vs ++ v ∷ []) → AreThere Is vs × Is v.link
  live-last [] v live = (tt, live.0)
  live-last (e ∷ vs) v live = let later = live-last vs v live.1 in ((live.0, later.0), later.1)

  pub live-more : (vs : List (Visit ℕ)) (v : Visit ℕ) → AreThere Is vs → Is v.link → AreThere Is (vs ++ v ∷ [])
  live-more [] v live here_live = (here_live, tt)
  live-more (e ∷ vs) v live here_live = (live.0, live-more vs v live.1 here_live)

  -- the places below a visit are those of its next link, and those after it
  pub below-next : (l i : ℕ) → i < length (L l) → below_visit n L (record { link = l; next = i }) ≡ places n L (get_or (L l) i 0) ++ below_visit n L (record { link = l; next = i + 1 })
  below-next l i low = rw (add-one, drop-cons (L l) i 0) refl

  pub walk-start : (root : ℕ) (seen : List ℕ) → Is root → IsWalk n L Is seen (with_all_new seen (places n L root)) (record { link = root; next = 0 } ∷ [])
  unfolding pending
  walk-start root seen live = record {
    total = ap (with_all_new seen) (sym (places-is ground.rank L ground.falls n root (ground.low root live)));
    live = (live, tt);
  }

  -- the last visit's row is listed, where no link of it is left
  pub walk-list : (seen whole : List ℕ) (vs : List (Visit ℕ)) (v : Visit ℕ) → IsWalk n L Is seen whole (vs ++ v ∷ []) → length (L v.link) ≤ v.next → IsWalk n L Is (with_new seen v.link) whole vs
  unfolding pending
  walk-list seen whole vs v walk done = record {
    total =
        let none : below_visit n L v ≡ [] = ap (flat_map (places n L)) (drop-all (L v.link) v.next done) in
        let all : pending n L (vs ++ v ∷ []) ≡ v.link ∷ pending n L vs = pending-last vs v ∙ ap (λ ys. (ys ++ v.link ∷ []) ++ pending n L vs) none in
        sym (ap (with_all_new seen) all) ∙ walk.total;
    live = (live-last vs v walk.live).0;
  }

  -- the next link of the last visit is listed already
  pub walk-skip : (seen whole : List ℕ) (vs : List (Visit ℕ)) (l i : ℕ) → IsReady L whole → IsWalk n L Is seen whole (vs ++ record { link = l; next = i } ∷ []) → i < length (L l) → 0 < count (get_or (L l) i 0) seen → IsWalk n L Is seen whole (vs ++ record { link = l; next = i + 1 } ∷ [])
  unfolding pending
  walk-skip seen whole vs l i ready walk low has = record {
    total =
        let old : Visit ℕ = record { link = l; next = i } in
        let new : Visit ℕ = record { link = l; next = i + 1 } in
        let child : ℕ = get_or (L l) i 0 in
        let after : List ℕ = (below_visit n L new ++ l ∷ []) ++ pending n L vs in
        let all : pending n L (vs ++ old ∷ []) ≡ places n L child ++ after =
        pending-last vs old ∙ ap (λ ys. (ys ++ l ∷ []) ++ pending n L vs) (below-next l i low)
        ∙ ap (λ ys. ys ++ pending n L vs) (append_assoc (places n L child) (below_visit n L new) (l ∷ []))
        ∙ append_assoc (places n L child) (below_visit n L new ++ l ∷ []) (pending n L vs) in
        let before = with_all-before seen (pending n L (vs ++ old ∷ [])) in
        let seen_ready : IsReady L seen = ready-before L seen before.0 (subst (IsReady L) (sym walk.total ∙ before.1) ready) in
        let none : with_all_new seen (places n L child) ≡ seen = with_all-absorbs seen (places n L child) (λ j some. ready-closed L seen seen_ready child j (places-reached n L child j some) has) in
        ap (with_all_new seen) (pending-last vs new) ∙ sym (ap (λ ys. with_all_new ys after) none) ∙ sym (with_all-append seen (places n L child) after) ∙ sym (ap (with_all_new seen) all) ∙ walk.total;
    live = let live = live-last vs (record { link = l; next = i }) walk.live in live-more vs (record { link = l; next = i + 1 }) live.0 live.1;
  }

  -- the next link of the last visit gets a visit
  pub walk-enter : (seen whole : List ℕ) (vs : List (Visit ℕ)) (l i : ℕ) → IsWalk n L Is seen whole (vs ++ record { link = l; next = i } ∷ []) → i < length (L l) → Is (get_or (L l) i 0) → IsWalk n L Is seen whole ((vs ++ record { link = l; next = i + 1 } ∷ []) ++ record { link = get_or (L l) i 0; next = 0 } ∷ [])
  unfolding pending
  walk-enter seen whole vs l i walk low there = record {
    total =
        let old : Visit ℕ = record { link = l; next = i } in
        let new : Visit ℕ = record { link = l; next = i + 1 } in
        let child : ℕ = get_or (L l) i 0 in
        let entered : Visit ℕ = record { link = child; next = 0 } in
        let after : List ℕ = (below_visit n L new ++ l ∷ []) ++ pending n L vs in
        let all : pending n L (vs ++ old ∷ []) ≡ places n L child ++ after =
        pending-last vs old ∙ ap (λ ys. (ys ++ l ∷ []) ++ pending n L vs) (below-next l i low)
        ∙ ap (λ ys. ys ++ pending n L vs) (append_assoc (places n L child) (below_visit n L new) (l ∷ []))
        ∙ append_assoc (places n L child) (below_visit n L new ++ l ∷ []) (pending n L vs) in
        let all' : pending n L ((vs ++ new ∷ []) ++ entered ∷ []) ≡ places n L child ++ after =
        pending-last (vs ++ new ∷ []) entered ∙ ap (λ ys. (below_visit n L entered ++ child ∷ []) ++ ys) (pending-last vs new)
        ∙ ap (λ ys. ys ++ after) (sym (places-is ground.rank L ground.falls n child (ground.low child there))) in
        ap (with_all_new seen) (all' ∙ sym all) ∙ walk.total;
    live =
        let live = live-last vs (record { link = l; next = i }) walk.live in
        live-more (vs ++ record { link = l; next = i + 1 } ∷ []) (record { link = get_or (L l) i 0; next = 0 }) (live-more vs (record { link = l; next = i + 1 }) live.0 live.1) there;
  }

  pub steps-list : (vs : List (Visit ℕ)) (v : Visit ℕ) → steps_left n L vs < steps_left n L (vs ++ v ∷ [])
  steps-list vs v = omega (arith, steps-last vs v)

  places-some : (k : ℕ) → Is k → length (places n L k) ≡ length (flat_map (places n L) (L k)) + 1
  places-some k there = ap length (places-is ground.rank L ground.falls n k (ground.low k there)) ∙ length-append (flat_map (places n L) (L k)) (k ∷ [])

  pub steps-skip : (vs : List (Visit ℕ)) (l i : ℕ) → i < length (L l) → Is (get_or (L l) i 0) → steps_left n L (vs ++ record { link = l; next = i + 1 } ∷ []) < steps_left n L (vs ++ record { link = l; next = i } ∷ [])
  steps-skip vs l i low there =
      let old : Visit ℕ = record { link = l; next = i } in
      let new : Visit ℕ = record { link = l; next = i + 1 } in
      let child : ℕ = get_or (L l) i 0 in
      omega (arith, steps-last vs old, steps-last vs new, ap length (below-next l i low), length-append (places n L child) (below_visit n L new), places-some child there)

  pub steps-enter : (vs : List (Visit ℕ)) (l i : ℕ) → i < length (L l) → Is (get_or (L l) i 0) → steps_left n L ((vs ++ record { link = l; next = i + 1 } ∷ []) ++ record { link = get_or (L l) i 0; next = 0 } ∷ []) < steps_left n L (vs ++ record { link = l; next = i } ∷ [])
  steps-enter vs l i low there =
      let old : Visit ℕ = record { link = l; next = i } in
      let new : Visit ℕ = record { link = l; next = i + 1 } in
      let child : ℕ = get_or (L l) i 0 in
      let entered : Visit ℕ = record { link = child; next = 0 } in
      omega (arith, steps-last vs old, steps-last vs new, steps-last (vs ++ new ∷ []) entered, ap length (below-next l i low), length-append (places n L child) (below_visit n L new), places-some child there)

  turn-low : (old vs mid : List (Visit ℕ)) (v : Visit ℕ) (links : List ℕ) (child : ℕ) → IsTurn L old vs mid v links child → v.next < length (L v.link)
  turn-low old vs mid v links child turn = omega (arith, turn.low, ap length turn.linked)

  turn-child : (old vs mid : List (Visit ℕ)) (v : Visit ℕ) (links : List ℕ) (child : ℕ) → IsTurn L old vs mid v links child → child ≡ get_or (L v.link) v.next 0
  turn-child old vs mid v links child turn = turn.is ∙ get_or-default links v.next child 0 turn.low ∙ ap (λ ys. get_or ys v.next 0) turn.linked

  turn-live : (old vs mid : List (Visit ℕ)) (v : Visit ℕ) (links : List ℕ) (child : ℕ) → IsTurn L old vs mid v links child → Is (get_or (L v.link) v.next 0)
  turn-live old vs mid v links child turn = ground.closed v.link (get_or (L v.link) v.next 0) (count-get_or (L v.link) v.next (turn-low old vs mid v links child turn))

  pub turn-skip : (seen whole : List ℕ) → IsReady L whole → (old vs mid : List (Visit ℕ)) (v : Visit ℕ) (links : List ℕ) (child : ℕ) → IsTurn L old vs mid v links child → IsWalk n L Is seen whole old → 0 < count child seen → IsWalk n L Is seen whole mid
  turn-skip seen whole ready old vs mid v links child turn walk has =
      subst (IsWalk n L Is seen whole) (sym turn.pushed)
      (walk-skip seen whole vs v.link v.next ready (subst (IsWalk n L Is seen whole) turn.popped walk) (turn-low old vs mid v links child turn) (subst (λ k. 0 < count k seen) (turn-child old vs mid v links child turn) has))

  pub turn-enter : (seen whole : List ℕ) → (old vs mid new : List (Visit ℕ)) (v : Visit ℕ) (links : List ℕ) (child : ℕ) → IsTurn L old vs mid v links child → new ≡ mid ++ record { link = child; next = 0 } ∷ [] → IsWalk n L Is seen whole old → IsWalk n L Is seen whole new
  turn-enter seen whole old vs mid new v links child turn is_entered walk =
      let last : Visit ℕ = record { link = get_or (L v.link) v.next 0; next = 0 } in
      let e : new ≡ (vs ++ record { link = v.link; next = v.next + 1 } ∷ []) ++ last ∷ [] =
      is_entered ∙ ap (λ ys. ys ++ record { link = child; next = 0 } ∷ []) turn.pushed ∙ ap (λ k. (vs ++ record { link = v.link; next = v.next + 1 } ∷ []) ++ record { link = k; next = 0 } ∷ []) (turn-child old vs mid v links child turn) in
      subst (IsWalk n L Is seen whole) (sym e)
      (walk-enter seen whole vs v.link v.next (subst (IsWalk n L Is seen whole) turn.popped walk) (turn-low old vs mid v links child turn) (turn-live old vs mid v links child turn))

  pub turn-skip-steps : (old vs mid : List (Visit ℕ)) (v : Visit ℕ) (links : List ℕ) (child : ℕ) → IsTurn L old vs mid v links child → steps_left n L mid < steps_left n L old
  turn-skip-steps old vs mid v links child turn =
      omega (arith, ap (steps_left n L) turn.popped, ap (steps_left n L) turn.pushed, steps-skip vs v.link v.next (turn-low old vs mid v links child turn) (turn-live old vs mid v links child turn))

  pub turn-enter-steps : (old vs mid new : List (Visit ℕ)) (v : Visit ℕ) (links : List ℕ) (child : ℕ) → IsTurn L old vs mid v links child → new ≡ mid ++ record { link = child; next = 0 } ∷ [] → steps_left n L new < steps_left n L old
  turn-enter-steps old vs mid new v links child turn is_entered =
      let last : Visit ℕ = record { link = get_or (L v.link) v.next 0; next = 0 } in
      let e : new ≡ (vs ++ record { link = v.link; next = v.next + 1 } ∷ []) ++ last ∷ [] =
      is_entered ∙ ap (λ ys. ys ++ record { link = child; next = 0 } ∷ []) turn.pushed ∙ ap (λ k. (vs ++ record { link = v.link; next = v.next + 1 } ∷ []) ++ record { link = k; next = 0 } ∷ []) (turn-child old vs mid v links child turn) in
      omega (arith, ap (steps_left n L) turn.popped, ap (steps_left n L) e, steps-enter vs v.link v.next (turn-low old vs mid v links child turn) (turn-live old vs mid v links child turn))

  pub walk-done : (seen whole : List ℕ) (stack : List (Visit ℕ)) → IsWalk n L Is seen whole stack → length stack ≡ 0 → seen ≡ whole
  unfolding pending
  walk-done seen whole [] walk e = walk.total
  walk-done seen whole (v ∷ vs) walk e = absurd (omega arith)

-- the list after one more root
pub firsts-more : (f : ℕ → List ℕ) (seen new : List ℕ) (i r : ℕ) (roots : List ℕ) → seen ≡ firsts (flat_map f (take i roots)) → i < length roots → r ≡ get_or roots i r → new ≡ with_all_new seen (f r) → new ≡ firsts (flat_map f (take (i + 1) roots))
firsts-more f seen new i r roots before low is e =
    let more : take (i + 1) roots ≡ take i roots ++ r ∷ [] = take-more roots i r low is in
    let split : flat_map f (take (i + 1) roots) ≡ flat_map f (take i roots) ++ f r = ap (flat_map f) more ∙ flat_map-append f (take i roots) (r ∷ []) ∙ ap (λ ys. flat_map f (take i roots) ++ ys) (append-nil (f r)) in
    e ∙ ap (λ ys. with_all_new ys (f r)) before ∙ sym (with_all-append [] (flat_map f (take i roots)) (f r)) ∙ ap firsts (sym split)
  where
    take-more : (roots : List ℕ) (i r : ℕ) → i < length roots → r ≡ get_or roots i r → take (i + 1) roots ≡ take i roots ++ r ∷ []
    take-more [] i r low is = absurd (omega arith)
    take-more (x ∷ xs) zero r low is = ap (λ y. y ∷ []) (sym is)
    take-more (x ∷ xs) (suc i) r low is = rw add-one (ap (λ ys. x ∷ ys) (rw add-one at (take-more xs i r (omega arith) is)))

pub item_is : (xs : List ℕ) (i r : ℕ) → i < length xs → r ≡ get_or xs i r → r ≡ get_or xs i 0
item_is xs i r low is = is ∙ get_or-default xs i r 0 low

pub take_all : (xs : List ℕ) (i : ℕ) → length xs ≤ i → take i xs ≡ xs
take_all [] zero h = refl
take_all [] (suc i) h = refl
take_all (x ∷ xs) zero h = absurd (omega arith)
take_all (x ∷ xs) (suc i) h = ap (λ ys. x ∷ ys) (take_all xs i (omega arith))

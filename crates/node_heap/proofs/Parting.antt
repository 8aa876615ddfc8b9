-- What becomes of rooms apart, and of what is seen, where lists of nodes are written.
use Rattle.std.proofs.Common.{◌≡◌, ◌≢◌, ℕ, ◌+◌, ◌-◌, ◌<◌, ◌≤◌, ◌/◌, ◌%◌, List, map, get_or, set, length, refl, sym, ap, subst, ◌∙◌, arith, Option, Some, None, IsSome, is_some, count_by, inl, inr}
use Rattle.std.proofs.lemmas.Bool.{cases_eq}
use Rattle.std.proofs.lemmas.List.{get_or-set_same, get_or-set_other, length-set}
use Rattle.node_heap.specs.Nodes.{SameBut, NodeOf}
use Rattle.node_heap.specs.Small.{Lies, room_in}
use Rattle.node_heap.specs.Inside.{IsFree, FillsSlot, Covers}
use Rattle.node_heap.specs.Rooms.{small_node, nodes_in, Parts}
use Rattle.node_heap.proofs.Counts.{get_or-map_default, sum_by-apart}
use Rattle.node_heap.proofs.Free.{IsFree-set}
use Rattle.node_heap.proofs.Stored.{one_if_some}
use Rattle.node_heap.proofs.Written.{count-written}
use Rattle.node_heap.proofs.Woven.{even, odd, apart-even, apart-odd, slot-inside}
use Rattle.node_heap.proofs.Housed.{same-node}

module _ {X : Type 0} where
  pub set-apart : (xs : List (Option X)) (i : ℕ) (o : Option X) → SameBut xs (set xs i o) i
  set-apart xs i o k other = get_or-set_other xs i k o None other

  pub set-there : (xs : List (Option X)) (i : ℕ) (x : X) (o : Option X) → get_or xs i None ≡ Some x → get_or (set xs i o) i None ≡ o
  set-there xs i x o is = get_or-set_same xs i o None (slot-inside xs i (rw is refl))

  -- how many are in use, where one slot changes
  pub count-apart : (xs ys : List (Option X)) (i : ℕ) → SameBut xs ys i → count_by is_some ys + one_if_some (get_or xs i None) ≡ count_by is_some xs + one_if_some (get_or ys i None)
  count-apart xs ys i same = sum_by-apart one_if_some None refl xs ys i same

  pub Covers-set : (xs : List (Option X)) (free : List ℕ) (a b t i : ℕ) (x y : X) → get_or xs i None ≡ Some x → Covers xs free a b t → Covers (set xs i (Some y)) free a b t
  Covers-set xs free a b t i x y is c = record {
    listed = IsFree-set xs free i x y is c.listed;
    short = omega (arith, c.short, length-set xs i (Some y));
    room = c.room;
    free_room = c.free_room;
  }

  -- one more is in use
  pub Covers-put : (xs xs' : List (Option X)) (free free' : List ℕ) (a b a' b' t i : ℕ) (x : X) → a' ≡ a → b' ≡ b → count_by is_some xs < t → FillsSlot xs free xs' free' i x → Covers xs free a b t → Covers xs' free' a' b' t
  Covers-put xs xs' free free' a b a' b' t i x same_a same_b below fills c = record {
    listed = fills.listed;
    short = omega (arith, below, fills.one, fills.fewer, c.short, c.listed.all_slots);
    room = omega (arith, same_a, c.room);
    free_room = omega (arith, same_b, c.free_room);
  }

  -- one fewer is in use
  pub Covers-take : (xs xs' : List (Option X)) (free free' : List ℕ) (a b a' b' t i : ℕ) → a' ≡ a → b' ≡ b → xs' ≡ set xs i None → IsFree xs' free' → Covers xs free a b t → Covers xs' free' a' b' t
  Covers-take xs xs' free free' a b a' b' t i same_a same_b gone listed c = record {
    listed = listed;
    short = omega (arith, ap length gone, length-set xs i None, c.short);
    room = omega (arith, same_a, c.room);
    free_room = omega (arith, same_b, c.free_room);
  }

  -- so many more, where there is room
  pub Covers-grow : (xs : List (Option X)) (free : List ℕ) (a b t a' b' t' : ℕ) → t ≤ t' → t' ≤ a' → t' ≤ b' → Covers xs free a b t → Covers xs free a' b' t'
  Covers-grow xs free a b t a' b' t' more room free_room c = record { listed = c.listed; short = omega (arith, c.short, more); room = room; free_room = free_room }

  -- one more has room among the slots
  pub Covers-room : (xs : List (Option X)) (free : List ℕ) (a b t : ℕ) → count_by is_some xs < t → Covers xs free a b t → length xs < a + length free
  Covers-room xs free a b t below c = omega (arith, below, c.room, c.listed.all_slots)

  -- room for one more of those in use
  pub Covers-free : (xs : List (Option X)) (free : List ℕ) (a b t i : ℕ) → IsSome (get_or xs i None) → Covers xs free a b t → length free < b
  Covers-free xs free a b t i live c = of_slot (get_or xs i None) refl live
    where
      of_slot : (o : Option X) → get_or xs i None ≡ o → IsSome o → length free < b
      of_slot None is some = absurd cc
      of_slot (Some x) is some = omega (arith, c.short, c.free_room, c.listed.all_slots, count-written xs i x None is)

-- how many slots name a place, where one is written
named-apart : {S : Type 0} (place_in : Option S → Option ℕ) → place_in None ≡ None → (slots slots' : List (Option S)) (i : ℕ) → SameBut slots slots' i
    → count_by (λ s. is_some (place_in s)) slots' + one_if_some (place_in (get_or slots i None)) ≡ count_by (λ s. is_some (place_in s)) slots + one_if_some (place_in (get_or slots' i None))
named-apart place_in none_in slots slots' i same = sum_by-apart (λ s. one_if_some (place_in s)) None (ap one_if_some none_in) slots slots' i same

-- slots that name places, of which one is written
module _ {S X : Type 0} (place_in : Option S → Option ℕ) (none_in : place_in None ≡ None) (slots slots' : List (Option S)) (i : ℕ) (same : SameBut slots slots' i) where
  -- the slot names the same place as before
  pub Parts-kept : (places : List (Option X)) → place_in (get_or slots' i None) ≡ place_in (get_or slots i None) → Parts place_in slots places → Parts place_in slots' places
  Parts-kept places kept p = record {
    used = omega (arith, p.used, named-apart place_in none_in slots slots' i same, ap one_if_some kept);
    there = λ j place named. p.there j place (sym (all j) ∙ named);
    apart = λ j k place named also. p.apart j k place (sym (all j) ∙ named) (sym (all k) ∙ also);
  }
    where
      all : (j : ℕ) → place_in (get_or slots' j None) ≡ place_in (get_or slots j None)
      all j = elim (cases_eq j i) as (λ _. place_in (get_or slots' j None) ≡ place_in (get_or slots j None)) [
        | inl is ↦ subst (λ l. place_in (get_or slots' l None) ≡ place_in (get_or slots l None)) (sym is) kept
        | inr other ↦ ap place_in (same j other)
      ]

  module _ (places places' : List (Option X)) (place : ℕ) (same_places : SameBut places places' place) (p : Parts place_in slots places) where
    -- no other slot names the place
    pub others-name : place_in (get_or slots i None) ≡ Some place → (j : ℕ) → j ≢ i → place_in (get_or slots j None) ≢ Some place
    others-name named j other also = other (p.apart j i place also named)

    pub none-names : get_or places place None ≡ None → (j : ℕ) → place_in (get_or slots j None) ≢ Some place
    none-names none j named = let there = p.there j place named in absurd cc

    -- the slot names a place that was free
    pub Parts-named : place_in (get_or slots i None) ≡ None → place_in (get_or slots' i None) ≡ Some place → get_or places place None ≡ None → IsSome (get_or places' place None)
        → count_by is_some places' ≡ count_by is_some places + 1 → Parts place_in slots' places'
    Parts-named was now free filled more = record {
      used = omega (arith, p.used, more, named-apart place_in none_in slots slots' i same, ap one_if_some was, ap one_if_some now);
      there = there;
      apart = apart;
    }
      where
        there : (j r : ℕ) → place_in (get_or slots' j None) ≡ Some r → IsSome (get_or places' r None)
        there j r named = elim (cases_eq j i) as (λ _. IsSome (get_or places' r None)) [
          | inl is ↦
              let here : place_in (get_or slots' i None) ≡ Some r = subst (λ l. place_in (get_or slots' l None) ≡ Some r) is named in
              let it : place ≡ r = cc in
              subst (λ l. IsSome (get_or places' l None)) it filled
          | inr other ↦
              let before : place_in (get_or slots j None) ≡ Some r = ap place_in (sym (same j other)) ∙ named in
              let elsewhere : r ≢ place = λ e. none-names free j (before ∙ ap Some e) in
              rw (same_places r elsewhere) (p.there j r before)
        ]

        apart : (j k r : ℕ) → place_in (get_or slots' j None) ≡ Some r → place_in (get_or slots' k None) ≡ Some r → j ≡ k
        apart j k r named also =
            elim (cases_eq j i) as (λ _. j ≡ k) [
              | inl is ↦
                  let here : place_in (get_or slots' i None) ≡ Some r = subst (λ l. place_in (get_or slots' l None) ≡ Some r) is named in
                  let it : place ≡ r = cc in
                  elim (cases_eq k i) as (λ _. j ≡ k) [
                    | inl same_k ↦ is ∙ sym same_k
                    | inr other ↦ absurd (none-names free k (ap place_in (sym (same k other)) ∙ also ∙ ap Some (sym it)))
                  ]
              | inr other ↦
                  elim (cases_eq k i) as (λ _. j ≡ k) [
                    | inl same_k ↦
                        let here : place_in (get_or slots' i None) ≡ Some r = subst (λ l. place_in (get_or slots' l None) ≡ Some r) same_k also in
                        let it : place ≡ r = cc in
                        absurd (none-names free j (ap place_in (sym (same j other)) ∙ named ∙ ap Some (sym it)))
                    | inr apart_k ↦ p.apart j k r (ap place_in (sym (same j other)) ∙ named) (ap place_in (sym (same k apart_k)) ∙ also)
                  ]
            ]

    -- the slot is free, and its place with it
    pub Parts-left : place_in (get_or slots i None) ≡ Some place → get_or slots' i None ≡ None → count_by is_some places' + 1 ≡ count_by is_some places → Parts place_in slots' places'
    Parts-left was gone fewer = record {
      used = omega (arith, p.used, fewer, named-apart place_in none_in slots slots' i same, ap one_if_some was, ap one_if_some (ap place_in gone ∙ none_in));
      there = λ j r named.
          let other = elsewhere j r named in
          let before : place_in (get_or slots j None) ≡ Some r = ap place_in (sym (same j other)) ∙ named in
          rw (same_places r (λ e. others-name was j other (before ∙ ap Some e))) (p.there j r before);
      apart = λ j k r named also. p.apart j k r (ap place_in (sym (same j (elsewhere j r named))) ∙ named) (ap place_in (sym (same k (elsewhere k r also))) ∙ also);
    }
      where
        elsewhere : (j r : ℕ) → place_in (get_or slots' j None) ≡ Some r → j ≢ i
        elsewhere j r named is =
            let here : place_in (get_or slots' i None) ≡ Some r = subst (λ l. place_in (get_or slots' l None) ≡ Some r) is named in
            let none : place_in (get_or slots' i None) ≡ None = ap place_in gone ∙ none_in in
            absurd cc

-- what the slot's place holds is written
pub Parts-written : {S X : Type 0} (place_in : Option S → Option ℕ) (slots : List (Option S)) (places : List (Option X)) (place : ℕ) (x y : X) → get_or places place None ≡ Some x → Parts place_in slots places → Parts place_in slots (set places place (Some y))
Parts-written place_in slots places place x y is p = record {
  used = omega (arith, p.used, count-apart places (set places place (Some y)) place (set-apart places place (Some y)), ap one_if_some is, ap one_if_some (set-there places place x (Some y) is));
  there = λ j r named. filled r (p.there j r named);
  apart = p.apart;
}
  where
    filled : (r : ℕ) → IsSome (get_or places r None) → IsSome (get_or (set places place (Some y)) r None)
    filled r live =
        elim (cases_eq r place) as (λ _. IsSome (get_or (set places place (Some y)) r None)) [
          | inl same ↦ rw (same, set-there places place x (Some y) is) refl
          | inr other ↦ rw (set-apart places place (Some y) r other) live
        ]

-- a small slot is written
module _ {S L : Type 0} (full : S → L) (unread : L) (small small' : List (Option (NodeOf (Lies S)))) (large : List (Option (NodeOf L))) where
  module _ (rooms rooms' : List (Option (NodeOf L))) (index room : ℕ) (e : index % 2 ≡ 0) (same : SameBut small small' (index / 2)) (same_rooms : SameBut rooms rooms' room) (p : Parts room_in small rooms) where
    -- other nodes are seen as before
    seen-apart : ((j : ℕ) → j ≢ index / 2 → room_in (get_or small j None) ≢ Some room) → SameBut (nodes_in full unread small large rooms) (nodes_in full unread small' large rooms') index
    seen-apart unnamed k other =
        apart-even (map (small_node full unread rooms) small) (map (small_node full unread rooms') small') large (index / 2) each k (λ is. other (is ∙ sym (even index e)))
      where
        each : SameBut (map (small_node full unread rooms) small) (map (small_node full unread rooms') small') (index / 2)
        each j apart_j =
            get_or-map_default (small_node full unread rooms') small' j None ∙ ap (small_node full unread rooms') (same j apart_j) ∙ same-node full unread rooms rooms' room (get_or small j None) same_rooms (unnamed j apart_j)
            ∙ sym (get_or-map_default (small_node full unread rooms) small j None)

    pub seen-moved : get_or rooms room None ≡ None → SameBut (nodes_in full unread small large rooms) (nodes_in full unread small' large rooms') index
    seen-moved free = seen-apart (λ j other. none-names room_in refl small small' (index / 2) same rooms rooms' room same_rooms p free j)

    pub seen-left : room_in (get_or small (index / 2) None) ≡ Some room → SameBut (nodes_in full unread small large rooms) (nodes_in full unread small' large rooms') index
    seen-left was = seen-apart (others-name room_in refl small small' (index / 2) same rooms rooms' room same_rooms p was)

  pub seen-small : (rooms : List (Option (NodeOf L))) (index : ℕ) → index % 2 ≡ 0 → SameBut small small' (index / 2) → SameBut (nodes_in full unread small large rooms) (nodes_in full unread small' large rooms) index
  seen-small rooms index e same k other =
      apart-even (map (small_node full unread rooms) small) (map (small_node full unread rooms) small') large (index / 2) each k (λ is. other (is ∙ sym (even index e)))
    where
      each : SameBut (map (small_node full unread rooms) small) (map (small_node full unread rooms) small') (index / 2)
      each j apart_j = get_or-map_default (small_node full unread rooms) small' j None ∙ ap (small_node full unread rooms) (same j apart_j) ∙ sym (get_or-map_default (small_node full unread rooms) small j None)

pub seen-large : {S L : Type 0} (full : S → L) (unread : L) (small : List (Option (NodeOf (Lies S)))) (large large' rooms : List (Option (NodeOf L))) (index : ℕ) → index % 2 ≢ 0 → SameBut large large' (index / 2)
    → SameBut (nodes_in full unread small large rooms) (nodes_in full unread small large' rooms) index
seen-large full unread small large large' rooms index e same k other =
    apart-odd (map (small_node full unread rooms) small) large large' (index / 2) same k (λ is. other (is ∙ sym (odd index e)))

-- What is true of the fields of nodes, where one list is written.
use Rattle.std.proofs.Common.{◌≡◌, ◌≢◌, ℕ, zero, suc, ◌+◌, ◌*◌, ◌<◌, ◌≤◌, ◌/◌, ◌%◌, List, [], ◌∷◌, get_or, set, length, refl, sym, ap, ◌∙◌, arith, Option, Some, None, IsSome, is_some, count_by}
use Rattle.std.specs.Prelude.{option_map}
use Rattle.std.proofs.lemmas.List.Sums.{sum_by-cons}
use Rattle.node_heap.specs.Nodes.{SameBut, NodeOf, node_at, node_links, owned_by, Becomes}
use Rattle.node_heap.specs.Small.{Lies, room_of, room_in}
use Rattle.node_heap.specs.Inside.{IsFree, FillsSlot}
use Rattle.node_heap.specs.Rooms.{small_node, nodes_in, Parts, AreRooms}
use Rattle.node_heap.proofs.Counts.{le-sum_by}
use Rattle.node_heap.proofs.Stored.{one_if_some}
use Rattle.node_heap.proofs.Housed.{len-nodes, at-small, at-large, read-small, set-small, set-large, moved-node}
use Rattle.node_heap.proofs.Parting.{set-apart, set-there, count-apart, Covers-set, Covers-put, Covers-take, Parts-kept, Parts-named, Parts-left, Parts-written, seen-moved, seen-left, seen-small, seen-large}

pub some-counted : {X : Type 0} (xs : List (Option X)) (i : ℕ) → IsSome (get_or xs i None) → 1 ≤ count_by is_some xs
some-counted {X = X} xs i live = of_slot (get_or xs i None) refl live
  where
    of_slot : (o : Option X) → get_or xs i None ≡ o → IsSome o → 1 ≤ count_by is_some xs
    of_slot None is some = absurd cc
    of_slot (Some x) is some = omega (arith, le-sum_by one_if_some None refl xs i, ap one_if_some is)

-- a node is made
pub record Puts {H : Type 0} (old new : List (Option (NodeOf H))) (index : ℕ) (node : NodeOf H) : Type 0 where
  pub was : node_at old index ≡ None
  pub now : node_at new index ≡ Some node
  pub others : SameBut old new index
  pub len : count_by is_some new ≡ count_by is_some old + 1

-- a node is gone
pub record Frees {H : Type 0} (old new : List (Option (NodeOf H))) (index : ℕ) : Type 0 where
  pub gone : node_at new index ≡ None
  pub others : SameBut old new index
  pub len : count_by is_some new + 1 ≡ count_by is_some old

module _ {H : Type 0} where
  pub frees-set : (xs : List (Option (NodeOf H))) (index : ℕ) (x : NodeOf H) → node_at xs index ≡ Some x → Frees xs (set xs index None) index
  frees-set xs index x is =
      let gone = set-there xs index x None is in
      record {
        gone = gone;
        others = set-apart xs index None;
        len = omega (arith, count-apart xs (set xs index None) index (set-apart xs index None), ap one_if_some is, ap one_if_some gone);
      }

  -- an index with a link has a node
  pub linked-some : (o : Option (NodeOf H)) (n : ℕ) → n < length (node_links o) → IsSome o
  linked-some None n below = absurd (omega (arith, below))
  linked-some (Some x) n below = refl

  -- a write is a change
  pub becomes-set : (xs : List (Option (NodeOf H))) (index : ℕ) (x y : NodeOf H) (f : NodeOf H → NodeOf H) → node_at xs index ≡ Some x → y ≡ f x → Becomes xs (set xs index (Some y)) index f
  becomes-set xs index x y f is same =
      let now = set-there xs index x (Some y) is in
      record {
        here = now ∙ ap Some same ∙ sym (ap (option_map f) is);
        others = set-apart xs index (Some y);
        len = omega (arith, count-apart xs (set xs index (Some y)) index (set-apart xs index (Some y)), ap one_if_some is, ap one_if_some now);
      }

module _ {S : Type 0} where
  le-moved : (small : List (Option (NodeOf (Lies S)))) → count_by (λ s. is_some (room_in s)) small ≤ count_by is_some small
  le-moved [] = omega arith
  le-moved (o ∷ os) = omega (arith, at_one o, le-moved os, sum_by-cons (λ s. one_if_some (room_in s)) o os, sum_by-cons one_if_some o os)
    where
      at_one : (o : Option (NodeOf (Lies S))) → one_if_some (room_in o) ≤ one_if_some o
      at_one None = omega arith
      at_one (Some s) = of_room (room_of s.head)
        where
          of_room : (r : Option ℕ) → one_if_some r ≤ 1
          of_room None = omega arith
          of_room (Some k) = omega arith

  -- a node that lies in its slot has no room apart
  pub few-moved : (small : List (Option (NodeOf (Lies S)))) (i : ℕ) → IsSome (get_or small i None) → room_in (get_or small i None) ≡ None → count_by (λ s. is_some (room_in s)) small < count_by is_some small
  few-moved [] i live none = absurd cc
  few-moved (None ∷ os) zero live none = absurd cc
  few-moved (Some s ∷ os) zero live none = omega (arith, ap one_if_some none, le-moved os, sum_by-cons (λ s. one_if_some (room_in s)) (Some s) os, sum_by-cons one_if_some (Some s) os)
  few-moved (o ∷ os) (suc i) live none =
      omega (arith, le-moved (o ∷ []), few-moved os i live none, sum_by-cons (λ s. one_if_some (room_in s)) o os, sum_by-cons one_if_some o os, sum_by-cons (λ s. one_if_some (room_in s)) o [], sum_by-cons one_if_some o [])

module _ {S L : Type 0} {small : List (Option (NodeOf (Lies S)))} {fs : List ℕ} {a b : ℕ} {large : List (Option (NodeOf L))} {fl : List ℕ} {a' b' : ℕ} {rooms : List (Option (NodeOf L))} {fr : List ℕ} {a'' b'' room : ℕ} (are : AreRooms small fs a b large fl a' b' rooms fr a'' b'' room) where
  -- a small slot is written, which names the same room as before
  pub AreRooms-small : (i : ℕ) (x y : NodeOf (Lies S)) → get_or small i None ≡ Some x → room_of y.head ≡ room_of x.head → AreRooms (set small i (Some y)) fs a b large fl a' b' rooms fr a'' b'' room
  AreRooms-small i x y is same =
      let apart = set-apart small i (Some y) in
      let there = set-there small i x (Some y) is in
      record {
        of_small = Covers-set small fs a b room i x y is are.of_small;
        of_large = are.of_large;
        of_rooms = are.of_rooms;
        within = omega (arith, are.within, count-apart small (set small i (Some y)) i apart, ap one_if_some is, ap one_if_some there);
        parts = Parts-kept room_in refl small (set small i (Some y)) i apart rooms (ap room_in there ∙ same ∙ sym (ap room_in is)) are.parts;
      }

  pub AreRooms-large : (i : ℕ) (x y : NodeOf L) → get_or large i None ≡ Some x → AreRooms small fs a b (set large i (Some y)) fl a' b' rooms fr a'' b'' room
  AreRooms-large i x y is = record {
    of_small = are.of_small;
    of_large = Covers-set large fl a' b' room i x y is are.of_large;
    of_rooms = are.of_rooms;
    within = omega (arith, are.within, count-apart large (set large i (Some y)) i (set-apart large i (Some y)), ap one_if_some is, ap one_if_some (set-there large i x (Some y) is));
    parts = are.parts;
  }

  pub AreRooms-room : (i : ℕ) (x y : NodeOf L) → get_or rooms i None ≡ Some x → AreRooms small fs a b large fl a' b' (set rooms i (Some y)) fr a'' b'' room
  AreRooms-room i x y is = record {
    of_small = are.of_small;
    of_large = are.of_large;
    of_rooms = Covers-set rooms fr a'' b'' room i x y is are.of_rooms;
    within = are.within;
    parts = Parts-written room_in small rooms i x y is are.parts;
  }

  -- a node is made
  pub AreRooms-put : (small' : List (Option (NodeOf (Lies S)))) (fs' : List ℕ) (i a1 b1 : ℕ) (y : NodeOf (Lies S)) → a1 ≡ a → b1 ≡ b → count_by is_some small + count_by is_some large < room → FillsSlot small fs small' fs' i y → room_of y.head ≡ None
      → AreRooms small' fs' a1 b1 large fl a' b' rooms fr a'' b'' room
  AreRooms-put small' fs' i a1 b1 y same_a same_b below fills none = record {
    of_small = Covers-put small small' fs fs' a b a1 b1 room i y same_a same_b (omega (arith, below)) fills are.of_small;
    of_large = are.of_large;
    of_rooms = are.of_rooms;
    within = omega (arith, below, count-apart small small' i fills.others, ap one_if_some fills.was, ap one_if_some fills.now);
    parts = Parts-kept room_in refl small small' i fills.others rooms (ap room_in fills.now ∙ none ∙ sym (ap room_in fills.was)) are.parts;
  }

  pub AreRooms-put-large : (large' : List (Option (NodeOf L))) (fl' : List ℕ) (i a1 b1 : ℕ) (y : NodeOf L) → a1 ≡ a' → b1 ≡ b' → count_by is_some small + count_by is_some large < room → FillsSlot large fl large' fl' i y
      → AreRooms small fs a b large' fl' a1 b1 rooms fr a'' b'' room
  AreRooms-put-large large' fl' i a1 b1 y same_a same_b below fills = record {
    of_small = are.of_small;
    of_large = Covers-put large large' fl fl' a' b' a1 b1 room i y same_a same_b (omega (arith, below)) fills are.of_large;
    of_rooms = are.of_rooms;
    within = omega (arith, below, count-apart large large' i fills.others, ap one_if_some fills.was, ap one_if_some fills.now);
    parts = are.parts;
  }

  -- a node in a large slot goes
  pub AreRooms-gone-large : (i : ℕ) (x : NodeOf L) (large' : List (Option (NodeOf L))) (fl' : List ℕ) (a1 b1 : ℕ) → a1 ≡ a' → b1 ≡ b' → get_or large i None ≡ Some x → large' ≡ set large i None → IsFree large' fl' → AreRooms small fs a b large' fl' a1 b1 rooms fr a'' b'' room
  AreRooms-gone-large i x large' fl' a1 b1 same_a same_b is gone free = record {
    of_small = are.of_small;
    of_large = Covers-take large large' fl fl' a' b' a1 b1 room i same_a same_b gone free are.of_large;
    of_rooms = are.of_rooms;
    within = omega (arith, are.within, ap (count_by is_some) gone, count-apart large (set large i None) i (set-apart large i None), ap one_if_some is, ap one_if_some (set-there large i x None is));
    parts = are.parts;
  }

  module _ (i : ℕ) (x : NodeOf (Lies S)) (is : get_or small i None ≡ Some x) (small' : List (Option (NodeOf (Lies S)))) (fs' : List ℕ) (a1 b1 : ℕ) (same_a : a1 ≡ a) (same_b : b1 ≡ b) (gone : small' ≡ set small i None) (free : IsFree small' fs') where
    same : SameBut small small' i
    same = rw gone (set-apart small i None)

    none : get_or small' i None ≡ None
    none = rw gone (set-there small i x None is)

    fewer : count_by is_some small' + count_by is_some large ≤ room
    fewer = omega (arith, are.within, count-apart small small' i same, ap one_if_some none, ap one_if_some is)

    -- a node in a small slot goes
    pub AreRooms-gone : room_of x.head ≡ None → AreRooms small' fs' a1 b1 large fl a' b' rooms fr a'' b'' room
    AreRooms-gone here = record {
      of_small = Covers-take small small' fs fs' a b a1 b1 room i same_a same_b gone free are.of_small;
      of_large = are.of_large;
      of_rooms = are.of_rooms;
      within = fewer;
      parts = Parts-kept room_in refl small small' i same rooms (ap room_in none ∙ sym (ap room_in is ∙ here)) are.parts;
    }

    -- a node goes that had a room apart
    pub AreRooms-left : (k : ℕ) (z : NodeOf L) (rooms' : List (Option (NodeOf L))) (fr' : List ℕ) (a2 b2 : ℕ) → a2 ≡ a'' → b2 ≡ b'' → room_of x.head ≡ Some k → get_or rooms k None ≡ Some z → rooms' ≡ set rooms k None → IsFree rooms' fr'
        → AreRooms small' fs' a1 b1 large fl a' b' rooms' fr' a2 b2 room
    AreRooms-left k z rooms' fr' a2 b2 same_a2 same_b2 named is_room left free_room =
        let same_rooms : SameBut rooms rooms' k = rw left (set-apart rooms k None) in
        let gone_room : get_or rooms' k None ≡ None = rw left (set-there rooms k z None is_room) in
        record {
          of_small = Covers-take small small' fs fs' a b a1 b1 room i same_a same_b gone free are.of_small;
          of_large = are.of_large;
          of_rooms = Covers-take rooms rooms' fr fr' a'' b'' a2 b2 room k same_a2 same_b2 left free_room are.of_rooms;
          within = fewer;
          parts = Parts-left room_in refl small small' i same rooms rooms' k same_rooms are.parts (ap room_in is ∙ named) none (omega (arith, count-apart rooms rooms' k same_rooms, ap one_if_some is_room, ap one_if_some gone_room));
        }

  -- fewer rooms apart than nodes in small slots are in use, where one lies in its slot
  pub few-rooms : (i : ℕ) (x : NodeOf (Lies S)) → get_or small i None ≡ Some x → room_of x.head ≡ None → count_by is_some rooms < room
  few-rooms i x is none = omega (arith, are.within, are.parts.used, few-moved small i (rw is refl) (ap room_in is ∙ none))

  -- a node moves to a room of its own
  pub AreRooms-moved : (i k : ℕ) (x y : NodeOf (Lies S)) (z : NodeOf L) (rooms' : List (Option (NodeOf L))) (fr' : List ℕ) (a2 b2 : ℕ) → a2 ≡ a'' → b2 ≡ b'' → get_or small i None ≡ Some x → room_of x.head ≡ None → room_of y.head ≡ Some k
      → FillsSlot rooms fr rooms' fr' k z → AreRooms (set small i (Some y)) fs a b large fl a' b' rooms' fr' a2 b2 room
  AreRooms-moved i k x y z rooms' fr' a2 b2 same_a same_b is none named fills =
      let small' = set small i (Some y) in
      let apart = set-apart small i (Some y) in
      let there = set-there small i x (Some y) is in
      record {
        of_small = Covers-set small fs a b room i x y is are.of_small;
        of_large = are.of_large;
        of_rooms = Covers-put rooms rooms' fr fr' a'' b'' a2 b2 room k z same_a same_b (few-rooms i x is none) fills are.of_rooms;
        within = omega (arith, are.within, count-apart small small' i apart, ap one_if_some is, ap one_if_some there);
        parts = Parts-named room_in refl small small' i apart rooms rooms' k fills.others are.parts (ap room_in is ∙ none) (ap room_in there ∙ named) fills.was (rw fills.now refl)
            (omega (arith, count-apart rooms rooms' k fills.others, ap one_if_some fills.was, ap one_if_some fills.now));
      }

module _ {S L : Type 0} (full : S → L) (unread : L) (small : List (Option (NodeOf (Lies S)))) (large rooms : List (Option (NodeOf L))) where
  pub puts-small : (small' : List (Option (NodeOf (Lies S)))) (fs fs' : List ℕ) (i : ℕ) (s : NodeOf (Lies S)) (n : NodeOf L) → FillsSlot small fs small' fs' i s → small_node full unread rooms (Some s) ≡ Some n
      → Puts (nodes_in full unread small large rooms) (nodes_in full unread small' large rooms) (2 * i) n
  puts-small small' fs fs' i s n fills seen =
      let half : (2 * i) / 2 ≡ i = omega arith in
      let e : (2 * i) % 2 ≡ 0 = omega arith in
      record {
        was = at-small full unread small large rooms (2 * i) e ∙ rw half (ap (small_node full unread rooms) fills.was);
        now = at-small full unread small' large rooms (2 * i) e ∙ rw half (ap (small_node full unread rooms) fills.now ∙ seen);
        others = seen-small full unread small small' large rooms (2 * i) e (rw half fills.others);
        len = omega (arith, len-nodes full unread small large rooms, len-nodes full unread small' large rooms, count-apart small small' i fills.others, ap one_if_some fills.was, ap one_if_some fills.now);
      }

  pub puts-large : (large' : List (Option (NodeOf L))) (fl fl' : List ℕ) (i : ℕ) (n : NodeOf L) → FillsSlot large fl large' fl' i n → Puts (nodes_in full unread small large rooms) (nodes_in full unread small large' rooms) (2 * i + 1) n
  puts-large large' fl fl' i n fills =
      let half : (2 * i + 1) / 2 ≡ i = omega arith in
      let e : (2 * i + 1) % 2 ≢ 0 = λ e. omega (arith, e) in
      record {
        was = at-large full unread small large rooms (2 * i + 1) e ∙ rw half fills.was;
        now = at-large full unread small large' rooms (2 * i + 1) e ∙ rw half fills.now;
        others = seen-large full unread small large large' rooms (2 * i + 1) e (rw half fills.others);
        len = omega (arith, len-nodes full unread small large rooms, len-nodes full unread small large' rooms, count-apart large large' i fills.others, ap one_if_some fills.was, ap one_if_some fills.now);
      }

  -- the owners of a node are written
  pub small-owners : (index k : ℕ) (x : NodeOf (Lies S)) → index % 2 ≡ 0 → get_or small (index / 2) None ≡ Some x
      → nodes_in full unread (set small (index / 2) (owned_by k (get_or small (index / 2) None))) large rooms ≡ set (nodes_in full unread small large rooms) index (owned_by k (node_at (nodes_in full unread small large rooms) index))
  small-owners index k x e is =
      rw (read-small full unread small large rooms index x e is, is) (set-small full unread small large rooms index _ e (rw is refl))

  pub large-owners : (index k : ℕ) → index % 2 ≢ 0 → IsSome (get_or large (index / 2) None)
      → nodes_in full unread small (set large (index / 2) (owned_by k (get_or large (index / 2) None))) rooms ≡ set (nodes_in full unread small large rooms) index (owned_by k (node_at (nodes_in full unread small large rooms) index))
  large-owners index k e live = rw (at-large full unread small large rooms index e) (set-large full unread small large rooms index _ e live)

  -- a node in a large slot is changed, or goes
  pub becomes-large : (index : ℕ) (x y : NodeOf L) (f : NodeOf L → NodeOf L) → index % 2 ≢ 0 → get_or large (index / 2) None ≡ Some x → y ≡ f x
      → Becomes (nodes_in full unread small large rooms) (nodes_in full unread small (set large (index / 2) (Some y)) rooms) index f
  becomes-large index x y f e is same =
      rw (set-large full unread small large rooms index (Some y) e (rw is refl)) (becomes-set (nodes_in full unread small large rooms) index x y f (at-large full unread small large rooms index e ∙ is) same)

  pub frees-large : (index : ℕ) (x : NodeOf L) → index % 2 ≢ 0 → get_or large (index / 2) None ≡ Some x → Frees (nodes_in full unread small large rooms) (nodes_in full unread small (set large (index / 2) None) rooms) index
  frees-large index x e is =
      rw (set-large full unread small large rooms index None e (rw is refl)) (frees-set (nodes_in full unread small large rooms) index x (at-large full unread small large rooms index e ∙ is))

  module _ (index : ℕ) (e : index % 2 ≡ 0) (x : NodeOf (Lies S)) (is : get_or small (index / 2) None ≡ Some x) where
    -- a node in a small slot is changed there, or goes
    pub becomes-small : (y : NodeOf (Lies S)) (n m : NodeOf L) (f : NodeOf L → NodeOf L) → small_node full unread rooms (Some x) ≡ Some n → small_node full unread rooms (Some y) ≡ Some m → m ≡ f n
        → Becomes (nodes_in full unread small large rooms) (nodes_in full unread (set small (index / 2) (Some y)) large rooms) index f
    becomes-small y n m f was now same =
        rw (set-small full unread small large rooms index (Some y) e (rw is refl), now) (becomes-set (nodes_in full unread small large rooms) index n m f (read-small full unread small large rooms index x e is ∙ was) same)

    pub frees-small : Frees (nodes_in full unread small large rooms) (nodes_in full unread (set small (index / 2) None) large rooms) index
    frees-small =
        rw (set-small full unread small large rooms index None e (rw is refl)) (frees-set (nodes_in full unread small large rooms) index _ (read-small full unread small large rooms index x e is))

    module _ (k : ℕ) (p : Parts room_in small rooms) (rooms' : List (Option (NodeOf L))) (same : SameBut rooms rooms' k) where
      -- a node in a room apart goes
      pub frees-left : room_of x.head ≡ Some k → Frees (nodes_in full unread small large rooms) (nodes_in full unread (set small (index / 2) None) large rooms') index
      frees-left named =
          let small' = set small (index / 2) None in
          let apart = set-apart small (index / 2) None in
          let gone = set-there small (index / 2) x None is in
          record {
            gone = at-small full unread small' large rooms' index e ∙ ap (small_node full unread rooms') gone;
            others = seen-left full unread small small' large rooms rooms' index k e apart same p (ap room_in is ∙ named);
            len = omega (arith, len-nodes full unread small large rooms, len-nodes full unread small' large rooms', count-apart small small' (index / 2) apart, ap one_if_some is, ap one_if_some gone);
          }

      -- a node is changed in its room apart
      pub becomes-room : (w z : NodeOf L) (f : NodeOf L → NodeOf L) → room_of x.head ≡ Some k → get_or rooms k None ≡ Some w → get_or rooms' k None ≡ Some z → record { owners = x.owners; head = z.head; links = z.links } ≡ f (record { owners = x.owners; head = w.head; links = w.links })
          → Becomes (nodes_in full unread small large rooms) (nodes_in full unread small large rooms') index f
      becomes-room w z f named was now alike = record {
        here = read-small full unread small large rooms' index x e is ∙ moved-node full unread rooms' x k z named now ∙ ap Some alike ∙ sym (ap (option_map f) (read-small full unread small large rooms index x e is ∙ moved-node full unread rooms x k w named was));
        others = seen-left full unread small small large rooms rooms' index k e (λ j other. refl) same p (ap room_in is ∙ named);
        len = omega (arith, len-nodes full unread small large rooms, len-nodes full unread small large rooms');
      }

      -- a node moves to a room apart that was free
      pub becomes-moved : (y : NodeOf (Lies S)) (n z : NodeOf L) (f : NodeOf L → NodeOf L) → small_node full unread rooms (Some x) ≡ Some n → room_of y.head ≡ Some k → get_or rooms k None ≡ None → get_or rooms' k None ≡ Some z
          → record { owners = y.owners; head = z.head; links = z.links } ≡ f n
          → Becomes (nodes_in full unread small large rooms) (nodes_in full unread (set small (index / 2) (Some y)) large rooms') index f
      becomes-moved y n z f seen named was now alike =
          let small' = set small (index / 2) (Some y) in
          let apart = set-apart small (index / 2) (Some y) in
          let there = set-there small (index / 2) x (Some y) is in
          record {
            here = read-small full unread small' large rooms' index y e there ∙ moved-node full unread rooms' y k z named now ∙ ap Some alike ∙ sym (ap (option_map f) (read-small full unread small large rooms index x e is ∙ seen));
            others = seen-moved full unread small small' large rooms rooms' index k e apart same p was;
            len = omega (arith, len-nodes full unread small large rooms, len-nodes full unread small' large rooms', count-apart small small' (index / 2) apart, ap one_if_some is, ap one_if_some there);
          }

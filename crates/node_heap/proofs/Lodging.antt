-- What nodes become where a slot is written that may be empty.
use Rattle.std.proofs.Common.{◌≡◌, ◌≢◌, ℕ, ◌<◌, ◌≤◌, ◌/◌, ◌%◌, List, [], get_or, set, refl, sym, ap, ◌∙◌, arith, Option, Some, None, IsSome, Bool, false, true, IsTrue}
use Rattle.std.specs.Prelude.{option_map}
use Rattle.node_heap.specs.Nodes.{NodeOf, node_at, node_owners, node_head, node_links, owned_by, with_links, Becomes}
use Rattle.node_heap.specs.Small.{Lies, here, moved, room_in}
use Rattle.node_heap.specs.Inside.{FillsSlot}
use Rattle.node_heap.specs.Rooms.{small_node, nodes_in, Parts, AreRooms}
use Rattle.node_heap.proofs.Free.{value_in}
use Rattle.node_heap.proofs.Housed.{lies-here, at-small, at-large, here-node, moved-node}
use Rattle.node_heap.proofs.Parting.{set-apart, set-there}
use Rattle.node_heap.proofs.Rooming.{Frees, AreRooms-small, AreRooms-large, AreRooms-room, becomes-large, becomes-small, becomes-room, becomes-moved, frees-small, frees-large, frees-left}

module _ {S L : Type 0} (full : S → L) (unread : L) where
  same-owners : (rooms : List (Option (NodeOf L))) (r : Option (NodeOf (Lies S))) → node_owners (small_node full unread rooms r) ≡ node_owners r
  same-owners rooms None = refl
  same-owners rooms (Some s) = refl

  here-links : (rooms : List (Option (NodeOf L))) (r : Option (NodeOf (Lies S))) → room_in r ≡ None → node_links (small_node full unread rooms r) ≡ node_links r
  here-links rooms None none = refl
  here-links rooms (Some s) none = let h = lies-here s.head none in ap node_links (here-node full unread rooms s h.0 h.1)

  here-head : (rooms : List (Option (NodeOf L))) (r : Option (NodeOf (Lies S))) (h : S) → node_head r ≡ Some (here h) → node_head (small_node full unread rooms r) ≡ Some (full h)
  here-head rooms None h is = absurd cc
  here-head rooms (Some s) h is = let same : s.head ≡ here h = cc in ap node_head (here-node full unread rooms s h same)

  moved-seen : (rooms : List (Option (NodeOf L))) (r : Option (NodeOf (Lies S))) (k : ℕ) (z : NodeOf L) → room_in r ≡ Some k → get_or rooms k None ≡ Some z → small_node full unread rooms r ≡ Some (record { owners = node_owners r; head = z.head; links = z.links })
  moved-seen rooms None k z named is = absurd cc
  moved-seen rooms (Some s) k z named is = moved-node full unread rooms s k z named is

  module _ (small : List (Option (NodeOf (Lies S)))) (large rooms : List (Option (NodeOf L))) (index : ℕ) where
    module _ (e : index % 2 ≡ 0) (r : Option (NodeOf (Lies S))) (is : get_or small (index / 2) None ≡ r) where
      seen : node_at (nodes_in full unread small large rooms) index ≡ small_node full unread rooms r
      seen = at-small full unread small large rooms index e ∙ ap (small_node full unread rooms) is

      pub owners-small : node_owners r ≡ node_owners (node_at (nodes_in full unread small large rooms) index)
      owners-small = sym (ap node_owners seen ∙ same-owners rooms r)

      pub links-here : room_in r ≡ None → node_links (node_at (nodes_in full unread small large rooms) index) ≡ node_links r
      links-here none = ap node_links seen ∙ here-links rooms r none

      pub head-here : (h : S) → node_head r ≡ Some (here h) → node_head (node_at (nodes_in full unread small large rooms) index) ≡ Some (full h)
      head-here h says = ap node_head seen ∙ here-head rooms r h says

      module _ (k : ℕ) (named : room_in r ≡ Some k) (w : Option (NodeOf L)) (there : get_or rooms k None ≡ w) (live : IsSome w) where
        pub links-far : node_links (node_at (nodes_in full unread small large rooms) index) ≡ node_links w
        links-far = let z = value_in w live in ap node_links (seen ∙ moved-seen rooms r k z.0 named (there ∙ z.1)) ∙ sym (ap node_links z.1)

        pub head-far : node_head (node_at (nodes_in full unread small large rooms) index) ≡ node_head w
        head-far = let z = value_in w live in ap node_head (seen ∙ moved-seen rooms r k z.0 named (there ∙ z.1)) ∙ sym (ap node_head z.1)

        -- a node is changed in its room apart
        pub becomes-far : (w' : Option (NodeOf L)) (x z : NodeOf L) (f : NodeOf L → NodeOf L) → Parts room_in small rooms → w ≡ Some x → w' ≡ Some z
            → record { owners = node_owners r; head = z.head; links = z.links } ≡ f (record { owners = node_owners r; head = x.head; links = x.links })
            → Becomes (nodes_in full unread small large rooms) (nodes_in full unread small large (set rooms k w')) index f
        becomes-far w' x z f p was now alike =
            let s = value_in r (named-some r named) in
            rw now (becomes-room full unread small large rooms index e s.0 (is ∙ s.1) k p (set rooms k (Some z)) (set-apart rooms k (Some z)) x z f (ap room_in (sym s.1) ∙ named) (there ∙ was) (set-there rooms k x (Some z) (there ∙ was))
            (rw s.1 at alike))
          where
            named-some : (o : Option (NodeOf (Lies S))) → room_in o ≡ Some k → IsSome o
            named-some None says = absurd cc
            named-some (Some s) says = refl

      -- a node is changed in its slot
      pub becomes-here : (r' : Option (NodeOf (Lies S))) (h h' : S) (links : List ℕ) (f : NodeOf L → NodeOf L) → node_head r ≡ Some (here h) → r' ≡ Some (record { owners = node_owners r; head = here h'; links = links })
          → record { owners = node_owners r; head = full h'; links = links } ≡ f (record { owners = node_owners r; head = full h; links = node_links r })
          → Becomes (nodes_in full unread small large rooms) (nodes_in full unread (set small (index / 2) r') large rooms) index f
      becomes-here r' h h' links f says now alike = of_slot r refl says alike
        where
          of_slot : (o : Option (NodeOf (Lies S))) → r ≡ o → node_head o ≡ Some (here h) → record { owners = node_owners r; head = full h'; links = links } ≡ f (record { owners = node_owners r; head = full h; links = node_links r })
              → Becomes (nodes_in full unread small large rooms) (nodes_in full unread (set small (index / 2) r') large rooms) index f
          of_slot None was told alike = absurd cc
          of_slot (Some x) was told alike =
              let same : x.head ≡ here h = cc in
              rw now (becomes-small full unread small large rooms index e x (is ∙ was) (record { owners = node_owners r; head = here h'; links = links }) (record { owners = x.owners; head = full h; links = x.links })
              (record { owners = node_owners r; head = full h'; links = links }) f (here-node full unread rooms x h same) refl (alike ∙ ap (λ o. f (record { owners = node_owners o; head = full h; links = node_links o })) was))

      -- a node moves to a room apart
      pub becomes-apart : (r' : Option (NodeOf (Lies S))) (fr fr' : List ℕ) (rooms' : List (Option (NodeOf L))) (k : ℕ) (z : NodeOf L) (f : NodeOf L → NodeOf L) → Parts room_in small rooms → IsSome r → room_in r ≡ None → r' ≡ Some (record { owners = node_owners r; head = moved k; links = [] }) → FillsSlot rooms fr rooms' fr' k z
          → ((h : S) → record { owners = node_owners r; head = z.head; links = z.links } ≡ f (record { owners = node_owners r; head = full h; links = node_links r }))
          → Becomes (nodes_in full unread small large rooms) (nodes_in full unread (set small (index / 2) r') large rooms') index f
      becomes-apart r' fr fr' rooms' k z f p live none now fills alike = of_slot r refl live none
        where
          of_slot : (o : Option (NodeOf (Lies S))) → r ≡ o → IsSome o → room_in o ≡ None → Becomes (nodes_in full unread small large rooms) (nodes_in full unread (set small (index / 2) r') large rooms') index f
          of_slot None was some lies = absurd cc
          of_slot (Some x) was some lies =
              let h = lies-here x.head lies in
              rw now (becomes-moved full unread small large rooms index e x (is ∙ was) k p rooms' fills.others (record { owners = node_owners r; head = moved k; links = [] }) (record { owners = x.owners; head = full h.0; links = x.links }) z f
              (here-node full unread rooms x h.0 h.1) refl fills.was fills.now (alike h.0 ∙ ap (λ o. f (record { owners = node_owners o; head = full h.0; links = node_links o })) was))

      -- a node goes
      pub frees-here : (small' : List (Option (NodeOf (Lies S)))) → small' ≡ set small (index / 2) None → IsSome r → Frees (nodes_in full unread small large rooms) (nodes_in full unread small' large rooms) index
      frees-here small' gone live = let x = value_in r live in rw gone (frees-small full unread small large rooms index e x.0 (is ∙ x.1))

      pub frees-far : (small' : List (Option (NodeOf (Lies S)))) (k : ℕ) (rooms' : List (Option (NodeOf L))) → small' ≡ set small (index / 2) None → rooms' ≡ set rooms k None → Parts room_in small rooms → room_in r ≡ Some k → IsSome r
          → Frees (nodes_in full unread small large rooms) (nodes_in full unread small' large rooms') index
      frees-far small' k rooms' gone left p named live =
          let x = value_in r live in
          rw (gone, left) (frees-left full unread small large rooms index e x.0 (is ∙ x.1) k p (set rooms k None) (set-apart rooms k None) (ap room_in (sym x.1) ∙ named))

    module _ (e : index % 2 ≢ 0) (r : Option (NodeOf L)) (is : get_or large (index / 2) None ≡ r) where
      pub read-large : node_at (nodes_in full unread small large rooms) index ≡ r
      read-large = at-large full unread small large rooms index e ∙ is

      -- a node is changed in a large slot, or goes
      pub becomes-wide : (r' : Option (NodeOf L)) (x y : NodeOf L) (f : NodeOf L → NodeOf L) → r ≡ Some x → r' ≡ Some y → y ≡ f x → Becomes (nodes_in full unread small large rooms) (nodes_in full unread small (set large (index / 2) r') rooms) index f
      becomes-wide r' x y f was now alike = rw now (becomes-large full unread small large rooms index x y f e (is ∙ was) alike)

      pub frees-wide : (large' : List (Option (NodeOf L))) → large' ≡ set large (index / 2) None → IsSome r → Frees (nodes_in full unread small large rooms) (nodes_in full unread small large' rooms) index
      frees-wide large' gone live = let x = value_in r live in rw gone (frees-large full unread small large rooms index x.0 e (is ∙ x.1))

-- changed links of a slot
pub linked-as : {H : Type 0} (r r' : Option (NodeOf H)) (f : List ℕ → List ℕ) (x : NodeOf H) → r ≡ Some x → r' ≡ with_links (f (node_links r)) r → r' ≡ Some (record { owners = x.owners; head = x.head; links = f x.links })
linked-as r r' f x is now = now ∙ rw is refl

pub linked-here : {S : Type 0} (r : Option (NodeOf (Lies S))) (links : List ℕ) (h : S) → node_head r ≡ Some (here h) → with_links links r ≡ Some (record { owners = node_owners r; head = here h; links = links })
linked-here None links h says = absurd cc
linked-here (Some x) links h says = let same : x.head ≡ here h = cc in rw same refl

-- the head of a node that lies in its slot
pub says-here : {S : Type 0} (r : Option (NodeOf (Lies S))) → IsSome r → room_in r ≡ None → (h : S) × (node_head r ≡ Some (here h))
says-here None live none = absurd cc
says-here (Some x) live none = let h = lies-here x.head none in (h.0, ap Some h.1)

module _ {S L : Type 0} {small : List (Option (NodeOf (Lies S)))} {fs : List ℕ} {a b : ℕ} {large : List (Option (NodeOf L))} {fl : List ℕ} {a' b' : ℕ} {rooms : List (Option (NodeOf L))} {fr : List ℕ} {a'' b'' room : ℕ} (are : AreRooms small fs a b large fl a' b' rooms fr a'' b'' room) where
  -- slots in use are written
  pub AreRooms-wrote : (i : ℕ) (r r' : Option (NodeOf (Lies S))) → get_or small i None ≡ r → IsSome r → IsSome r' → room_in r' ≡ room_in r → AreRooms (set small i r') fs a b large fl a' b' rooms fr a'' b'' room
  AreRooms-wrote i r r' is live live' same =
      let x = value_in r live in
      let y = value_in r' live' in
      rw y.1 (AreRooms-small are i x.0 y.0 (is ∙ x.1) (ap room_in (sym y.1) ∙ same ∙ ap room_in x.1))

  pub AreRooms-wrote-large : (i : ℕ) (r r' : Option (NodeOf L)) → get_or large i None ≡ r → IsSome r → IsSome r' → AreRooms small fs a b (set large i r') fl a' b' rooms fr a'' b'' room
  AreRooms-wrote-large i r r' is live live' =
      let x = value_in r live in
      let y = value_in r' live' in
      rw y.1 (AreRooms-large are i x.0 y.0 (is ∙ x.1))

  pub AreRooms-wrote-room : (i : ℕ) (r r' : Option (NodeOf L)) → get_or rooms i None ≡ r → IsSome r → IsSome r' → AreRooms small fs a b large fl a' b' (set rooms i r') fr a'' b'' room
  AreRooms-wrote-room i r r' is live live' =
      let x = value_in r live in
      let y = value_in r' live' in
      rw y.1 (AreRooms-room are i x.0 y.0 (is ∙ x.1))

pub linked-live : {H : Type 0} (r : Option (NodeOf H)) (links : List ℕ) → IsSome r → IsSome (with_links links r)
linked-live None links live = absurd cc
linked-live (Some x) links live = refl

pub linked-room : {S : Type 0} (r : Option (NodeOf (Lies S))) (links : List ℕ) → room_in (with_links links r) ≡ room_in r
linked-room None links = refl
linked-room (Some x) links = refl

pub owned-live : {H : Type 0} (n : ℕ) (r : Option (NodeOf H)) → IsSome r → IsSome (owned_by n r)
owned-live n None live = absurd cc
owned-live n (Some x) live = refl

pub owned-room : {S : Type 0} (n : ℕ) (r : Option (NodeOf (Lies S))) → room_in (owned_by n r) ≡ room_in r
owned-room n None = refl
owned-room n (Some x) = refl

-- a place is left where the test for a full slot says no
pub not-full : (b : Bool) (room len : ℕ) → (room ≤ len → IsTrue b) → b ≡ false → len < room
not-full b room len full is =
    let not : ¬ (room ≤ len) = λ le. let yes : b ≡ true = full le in absurd cc in
    omega (arith, not)

-- a node is given what it has
module _ {H : Type 0} where
  pub becomes-as : {old new : List (Option (NodeOf H))} {index : ℕ} (f g : NodeOf H → NodeOf H) → option_map f (node_at old index) ≡ option_map g (node_at old index) → Becomes old new index f → Becomes old new index g
  becomes-as f g same b = record { here = b.here ∙ same; others = b.others; len = b.len }

  pub keeps-links : (o : Option (NodeOf H)) (head : H) (links : List ℕ) → links ≡ node_links o → option_map {U = NodeOf H} (λ (n : NodeOf H). record { owners = n.owners; head = head; links = links }) o ≡ option_map {U = NodeOf H} (λ (n : NodeOf H). record { owners = n.owners; head = head; links = n.links }) o
  keeps-links None head links is = refl
  keeps-links (Some x) head links is = rw is refl

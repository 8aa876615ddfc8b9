-- What becomes of nodes whose full heads lie apart.
use Rattle.std.proofs.Common.{◌≡◌, ◌≢◌, ℕ, zero, suc, ◌+◌, ◌-◌, ◌<◌, ◌≤◌, List, [], ◌∷◌, map, get_or, set, length, refl, sym, ap, ◌∙◌, arith, Option, Some, None, IsSome, is_some, count_by}
use Rattle.std.specs.Prelude.{option_map}
use Rattle.std.proofs.lemmas.List.{map-set}
use Rattle.std.proofs.lemmas.List.Sums.{sum_by-cons}
use Rattle.node_heap.specs.Nodes.{SameBut, NodeOf, RoomsOf, Node, node_at, node_owners, node_head, node_links, owned_by, Becomes}
use Rattle.node_heap.specs.Inside.{IsFree, FillsSlot}
use Rattle.node_heap.specs.Rooms.{Parts}
use Rattle.node_heap.specs.Tags.{plain_head, place_of, place_in, head_by, full_node, headed, IsHeaded}
use Rattle.node_heap.specs.declared.row.Head.{Head}
use Rattle.node_heap.specs.declared.tags.Tag.{Tag}
use Rattle.node_heap.specs.declared.tags.Tag.TheVariants.{Leaf, Inner, Chain, Pair, State, Apart}
use Rattle.node_heap.proofs.Counts.{get_or-map_default}
use Rattle.node_heap.proofs.Free.{value_in}
use Rattle.node_heap.proofs.Stored.{one_if_some}
use Rattle.node_heap.proofs.Parting.{set-apart, set-there, count-apart, Covers-set, Covers-put, Covers-take, Parts-kept, Parts-named, Parts-left, Parts-written}
use Rattle.node_heap.proofs.Rooming.{Puts, Frees}
use Rattle.node_heap.proofs.Written.{count-written}

-- there are as many nodes, whatever their owners
pub len-owned : {H : Type 0} (nodes : List (Option (NodeOf H))) (i n : ℕ) → IsSome (get_or nodes i None) → count_by is_some (set nodes i (owned_by n (get_or nodes i None))) ≡ count_by is_some nodes
len-owned {H = H} nodes i n live = of_slot (get_or nodes i None) refl live
  where
    of_slot : (o : Option (NodeOf H)) → get_or nodes i None ≡ o → IsSome o → count_by is_some (set nodes i (owned_by n (get_or nodes i None))) ≡ count_by is_some nodes
    of_slot None is some = absurd cc
    of_slot (Some x) is some = rw is (omega (arith, count-written nodes i x (owned_by n (Some x)) is))

-- a tag that says all of a head
pub plain-place : (t : Tag) (head : Head) → plain_head t ≡ Some head → place_of t ≡ None
plain-place Leaf head is = refl
plain-place (Inner height) head is = refl
plain-place Chain head is = refl
plain-place Pair head is = refl
plain-place State head is = refl
plain-place (Apart place) head is = absurd cc

pub place-told : (o : Option (NodeOf Tag)) (t : Tag) → node_head o ≡ Some t → place_in o ≡ place_of t
place-told None t is = absurd cc
place-told (Some n) t is = let same : n.head ≡ t = cc in rw same refl

module _ (heads : List (Option Head)) where
  pub plain-by : (t : Tag) (head : Head) → plain_head t ≡ Some head → head_by heads t ≡ head
  plain-by Leaf head is = cc
  plain-by (Inner height) head is = cc
  plain-by Chain head is = cc
  plain-by Pair head is = cc
  plain-by State head is = cc
  plain-by (Apart place) head is = absurd cc

  pub full-by : (t : Tag) (place : ℕ) (head : Head) → place_of t ≡ Some place → get_or heads place None ≡ Some head → head_by heads t ≡ head
  full-by Leaf place head named is = absurd cc
  full-by (Inner height) place head named is = absurd cc
  full-by Chain place head named is = absurd cc
  full-by Pair place head named is = absurd cc
  full-by State place head named is = absurd cc
  full-by (Apart other) place head named is = let same : other ≡ place = cc in rw (same, is) refl

  some_headed : (o : Option (NodeOf Tag)) → IsSome (full_node heads o) → IsSome o
  some_headed None live = cc
  some_headed (Some n) live = refl

  head-told : (o : Option (NodeOf Tag)) (t : Tag) → node_head o ≡ Some t → node_head (full_node heads o) ≡ Some (head_by heads t)
  head-told None t is = absurd cc
  head-told (Some n) t is = let same : n.head ≡ t = cc in rw same refl

  same-owners : (o : Option (NodeOf Tag)) → node_owners (full_node heads o) ≡ node_owners o
  same-owners None = refl
  same-owners (Some n) = refl

  same-links : (o : Option (NodeOf Tag)) → node_links (full_node heads o) ≡ node_links o
  same-links None = refl
  same-links (Some n) = refl

  same-owned : (k : ℕ) (o : Option (NodeOf Tag)) → full_node heads (owned_by k o) ≡ owned_by k (full_node heads o)
  same-owned k None = refl
  same-owned k (Some n) = refl

  pub place-owned : (k : ℕ) (o : Option (NodeOf Tag)) → place_in (owned_by k o) ≡ place_in o
  place-owned k None = refl
  place-owned k (Some n) = refl

  pub len-headed : (slots : List (Option (NodeOf Tag))) → count_by is_some (map (full_node heads) slots) ≡ count_by is_some slots
  len-headed [] = refl
  len-headed (o ∷ os) = omega (arith, len-headed os, at_one o, sum_by-cons one_if_some (full_node heads o) (map (full_node heads) os), sum_by-cons one_if_some o os)
    where
      at_one : (o : Option (NodeOf Tag)) → one_if_some (full_node heads o) ≡ one_if_some o
      at_one None = refl
      at_one (Some n) = refl

  pub at-headed : (slots : List (Option (NodeOf Tag))) (i : ℕ) → node_at (map (full_node heads) slots) i ≡ full_node heads (node_at slots i)
  at-headed slots i = get_or-map_default (full_node heads) slots i None

  -- nodes that are seen as their rooms and their heads
  module _ (rooms : RoomsOf Tag) {nodes : RoomsOf Head} (view_is : headed rooms heads ≡ nodes) where
    seen : (i : ℕ) → node_at nodes.slots i ≡ full_node heads (node_at rooms.slots i)
    seen i = rw (← view_is) (at-headed rooms.slots i)

    pub live-room : (i : ℕ) → IsSome (node_at nodes.slots i) → IsSome (node_at rooms.slots i)
    live-room i live = some_headed (node_at rooms.slots i) (rw (seen i) at live)

    pub owners-headed : (i : ℕ) → node_owners (node_at nodes.slots i) ≡ node_owners (node_at rooms.slots i)
    owners-headed i = ap node_owners (seen i) ∙ same-owners (node_at rooms.slots i)

    pub links-headed : (i : ℕ) → node_links (node_at nodes.slots i) ≡ node_links (node_at rooms.slots i)
    links-headed i = ap node_links (seen i) ∙ same-links (node_at rooms.slots i)

    pub linked-room : (i n : ℕ) → n < length (node_links (node_at nodes.slots i)) → IsSome (node_at rooms.slots i)
    linked-room i n below = linked_some (node_at rooms.slots i) (omega (arith, below, ap length (links-headed i)))
      where
        linked_some : (o : Option (NodeOf Tag)) → n < length (node_links o) → IsSome o
        linked_some None less = absurd (omega (arith, less))
        linked_some (Some x) less = refl

    pub head-headed : (i : ℕ) (t : Tag) (head : Head) → node_head (node_at rooms.slots i) ≡ Some t → head_by heads t ≡ head → node_head (node_at nodes.slots i) ≡ Some head
    head-headed i t head is by = ap node_head (seen i) ∙ head-told (node_at rooms.slots i) t is ∙ ap Some by

    pub owned-headed : (i k : ℕ) → headed (record { slots = set rooms.slots i (owned_by k (node_at rooms.slots i)); room = rooms.room }) heads ≡ record { slots = set nodes.slots i (owned_by k (node_at nodes.slots i)); room = nodes.room }
    owned-headed i k =
        rw (seen i, ← same-owned k (node_at rooms.slots i), ← view_is)
        (ap (λ xs. record { slots = xs; room = rooms.room }) (map-set (full_node heads) rooms.slots i (owned_by k (node_at rooms.slots i))))

-- a node whose head lies elsewhere is the same
same-headed : (heads heads' : List (Option Head)) (place : ℕ) (o : Option (NodeOf Tag)) → SameBut heads heads' place → place_in o ≢ Some place → full_node heads' o ≡ full_node heads o
same-headed heads heads' place None same other = refl
same-headed heads heads' place (Some n) same other = rw (by n.head other) refl
  where
    by : (t : Tag) → place_of t ≢ Some place → head_by heads' t ≡ head_by heads t
    by Leaf e = refl
    by (Inner height) e = refl
    by Chain e = refl
    by Pair e = refl
    by State e = refl
    by (Apart k) e = rw (same k (λ is. e (ap Some is))) refl

pub headed-same : (heads : List (Option Head)) (slots slots' : List (Option (NodeOf Tag))) (i : ℕ) → SameBut slots slots' i → SameBut (map (full_node heads) slots) (map (full_node heads) slots') i
headed-same heads slots slots' i same k other = at-headed heads slots' k ∙ ap (full_node heads) (same k other) ∙ sym (at-headed heads slots k)

pub headed-apart : (heads heads' : List (Option Head)) (place : ℕ) (slots slots' : List (Option (NodeOf Tag))) (i : ℕ) → SameBut slots slots' i → SameBut heads heads' place → ((j : ℕ) → j ≢ i → place_in (get_or slots j None) ≢ Some place)
    → SameBut (map (full_node heads) slots) (map (full_node heads') slots') i
headed-apart heads heads' place slots slots' i same same_heads unnamed k other =
    at-headed heads' slots' k ∙ ap (full_node heads') (same k other) ∙ same-headed heads heads' place (get_or slots k None) same_heads (unnamed k other) ∙ sym (at-headed heads slots k)

module _ (heads heads' : List (Option Head)) (slots slots' : List (Option (NodeOf Tag))) (i : ℕ) (others : SameBut (map (full_node heads) slots) (map (full_node heads') slots') i) where
  pub puts-headed : (n : NodeOf Tag) (node : Node) → node_at slots i ≡ None → node_at slots' i ≡ Some n → full_node heads' (Some n) ≡ Some node → count_by is_some slots' ≡ count_by is_some slots + 1
      → Puts (map (full_node heads) slots) (map (full_node heads') slots') i node
  puts-headed n node was now is len = record {
    was = at-headed heads slots i ∙ ap (full_node heads) was;
    now = at-headed heads' slots' i ∙ ap (full_node heads') now ∙ is;
    others = others;
    len = omega (arith, len, len-headed heads slots, len-headed heads' slots');
  }

  pub frees-headed : node_at slots' i ≡ None → count_by is_some slots' + 1 ≡ count_by is_some slots → Frees (map (full_node heads) slots) (map (full_node heads') slots') i
  frees-headed gone len = record {
    gone = at-headed heads' slots' i ∙ ap (full_node heads') gone;
    others = others;
    len = omega (arith, len, len-headed heads slots, len-headed heads' slots');
  }

  pub becomes-headed : (f : Node → Node) (x y : NodeOf Tag) → node_at slots i ≡ Some x → node_at slots' i ≡ Some y → full_node heads' (Some y) ≡ option_map f (full_node heads (Some x)) → count_by is_some slots' ≡ count_by is_some slots
      → Becomes (map (full_node heads) slots) (map (full_node heads') slots') i f
  becomes-headed f x y was now seen len = record {
    here = at-headed heads' slots' i ∙ ap (full_node heads') now ∙ seen ∙ sym (ap (option_map f) (at-headed heads slots i ∙ ap (full_node heads) was));
    others = others;
    len = omega (arith, len, len-headed heads slots, len-headed heads' slots');
  }

-- the links of a node are changed
pub becomes-links : (heads : List (Option Head)) (slots slots' : List (Option (NodeOf Tag))) (i : ℕ) (F : List ℕ → List ℕ) → IsSome (node_at slots i) → Becomes slots slots' i (λ n. record { owners = n.owners; head = n.head; links = F n.links })
    → Becomes (map (full_node heads) slots) (map (full_node heads) slots') i (λ n. record { owners = n.owners; head = n.head; links = F n.links })
becomes-links heads slots slots' i F live b =
    let value = value_in (node_at slots i) live in
    let change : NodeOf Tag → NodeOf Tag = λ n. record { owners = n.owners; head = n.head; links = F n.links } in
    becomes-headed heads heads slots slots' i (headed-same heads slots slots' i b.others) _ value.0 (change value.0) value.1 (b.here ∙ ap (option_map change) value.1) refl b.len

-- the tag of a node is changed, and with it the head
pub becomes-tagged : (heads heads' : List (Option Head)) (slots slots' : List (Option (NodeOf Tag))) (i : ℕ) (t : Tag) (head : Head) → SameBut (map (full_node heads) slots) (map (full_node heads') slots') i → IsSome (node_at slots i) → head_by heads' t ≡ head
    → Becomes slots slots' i (λ n. record { owners = n.owners; head = t; links = n.links })
    → Becomes (map (full_node heads) slots) (map (full_node heads') slots') i (λ n. record { owners = n.owners; head = head; links = n.links })
becomes-tagged heads heads' slots slots' i t head others live by b =
    let value = value_in (node_at slots i) live in
    let change : NodeOf Tag → NodeOf Tag = λ n. record { owners = n.owners; head = t; links = n.links } in
    becomes-headed heads heads' slots slots' i others _ value.0 (change value.0) value.1 (b.here ∙ ap (option_map change) value.1) (rw by refl) b.len

module _ (rooms : RoomsOf Tag) (heads : List (Option Head)) (free : List ℕ) (a b : ℕ) (nodes : IsHeaded rooms heads free a b) where
  -- a node is changed that has the same place for its head
  pub IsHeaded-kept : (rooms' : RoomsOf Tag) (i : ℕ) → SameBut rooms.slots rooms'.slots i → place_in (node_at rooms'.slots i) ≡ place_in (node_at rooms.slots i) → count_by is_some rooms'.slots ≤ rooms.room → rooms'.room ≡ rooms.room → IsHeaded rooms' heads free a b
  IsHeaded-kept rooms' i same kept within room = record {
    of_heads = rw room nodes.of_heads;
    parts = Parts-kept place_in refl rooms.slots rooms'.slots i same heads kept nodes.parts;
    within = omega (arith, within, room);
  }

  -- the links of a node are changed
  pub IsHeaded-linked : (rooms' : RoomsOf Tag) (i : ℕ) (F : List ℕ → List ℕ) → Becomes rooms.slots rooms'.slots i (λ n. record { owners = n.owners; head = n.head; links = F n.links }) → rooms'.room ≡ rooms.room → IsHeaded rooms' heads free a b
  IsHeaded-linked rooms' i F b room =
      IsHeaded-kept rooms' i b.others (ap place_in b.here ∙ same (node_at rooms.slots i)) (omega (arith, b.len, nodes.within)) room
    where
      same : (o : Option (NodeOf Tag)) → place_in (option_map (λ n. record { owners = n.owners; head = n.head; links = F n.links }) o) ≡ place_in o
      same None = refl
      same (Some n) = refl

  -- a node has a new place for its head
  pub IsHeaded-named : (rooms' : RoomsOf Tag) (heads' : List (Option Head)) (free' : List ℕ) (a' b' i place : ℕ) (head : Head) → a' ≡ a → b' ≡ b → SameBut rooms.slots rooms'.slots i → place_in (node_at rooms.slots i) ≡ None → place_in (node_at rooms'.slots i) ≡ Some place
      → count_by is_some rooms'.slots ≤ rooms.room → rooms'.room ≡ rooms.room → count_by is_some heads < rooms.room → FillsSlot heads free heads' free' place head → IsHeaded rooms' heads' free' a' b'
  IsHeaded-named rooms' heads' free' a' b' i place head same_a same_b same was now within room below fills = record {
    of_heads = rw room (Covers-put heads heads' free free' a b a' b' rooms.room place head same_a same_b below fills nodes.of_heads);
    parts = Parts-named place_in refl rooms.slots rooms'.slots i same heads heads' place fills.others nodes.parts was now fills.was (rw fills.now refl)
        (omega (arith, count-apart heads heads' place fills.others, ap one_if_some fills.was, ap one_if_some fills.now));
    within = omega (arith, within, room);
  }

  -- a node goes, and its head with it
  pub IsHeaded-left : (rooms' : RoomsOf Tag) (heads' : List (Option Head)) (free' : List ℕ) (a' b' i place : ℕ) → a' ≡ a → b' ≡ b → SameBut rooms.slots rooms'.slots i → place_in (node_at rooms.slots i) ≡ Some place → node_at rooms'.slots i ≡ None
      → count_by is_some rooms'.slots ≤ rooms.room → rooms'.room ≡ rooms.room → heads' ≡ set heads place None → IsFree heads' free' → IsHeaded rooms' heads' free' a' b'
  IsHeaded-left rooms' heads' free' a' b' i place same_a same_b same was gone within room left listed =
      let value = value_in (get_or heads place None) (nodes.parts.there i place was) in
      let same_heads : SameBut heads heads' place = rw left (set-apart heads place None) in
      let none : get_or heads' place None ≡ None = rw left (set-there heads place value.0 None value.1) in
      record {
        of_heads = rw room (Covers-take heads heads' free free' a b a' b' rooms.room place same_a same_b left listed nodes.of_heads);
        parts = Parts-left place_in refl rooms.slots rooms'.slots i same heads heads' place same_heads nodes.parts was gone (omega (arith, count-apart heads heads' place same_heads, ap one_if_some value.1, ap one_if_some none));
        within = omega (arith, within, room);
      }

  -- a head is written where it lies
  pub IsHeaded-written : (i place : ℕ) (head : Head) → place_in (node_at rooms.slots i) ≡ Some place → IsHeaded rooms (set heads place (Some head)) free a b
  IsHeaded-written i place head named =
      let value = value_in (get_or heads place None) (nodes.parts.there i place named) in
      record {
        of_heads = Covers-set heads free a b rooms.room place value.0 head value.1 nodes.of_heads;
        parts = Parts-written place_in rooms.slots heads place value.0 head value.1 nodes.parts;
        within = nodes.within;
      }

-- at most so many heads are in use as there are nodes
pub le-named : (slots : List (Option (NodeOf Tag))) → count_by (λ s. is_some (place_in s)) slots ≤ count_by is_some slots
le-named [] = omega arith
le-named (o ∷ os) = omega (arith, at_one o, le-named os, sum_by-cons (λ s. one_if_some (place_in s)) o os, sum_by-cons one_if_some o os)
  where
    at_one : (o : Option (NodeOf Tag)) → one_if_some (place_in o) ≤ one_if_some o
    at_one None = omega arith
    at_one (Some n) = of_place (place_of n.head)
      where
        of_place : (r : Option ℕ) → one_if_some r ≤ 1
        of_place None = omega arith
        of_place (Some k) = omega arith

-- a node whose tag says all has no head apart
pub few-named : (slots : List (Option (NodeOf Tag))) (i : ℕ) → IsSome (get_or slots i None) → place_in (get_or slots i None) ≡ None → count_by (λ s. is_some (place_in s)) slots < count_by is_some slots
few-named [] i live none = absurd cc
few-named (None ∷ os) zero live none = absurd cc
few-named (Some n ∷ os) zero live none = omega (arith, ap one_if_some none, le-named os, sum_by-cons (λ s. one_if_some (place_in s)) (Some n) os, sum_by-cons one_if_some (Some n) os)
few-named (o ∷ os) (suc i) live none = omega (arith, le-named (o ∷ []), few-named os i live none, sum_by-cons (λ s. one_if_some (place_in s)) o os, sum_by-cons one_if_some o os, sum_by-cons (λ s. one_if_some (place_in s)) o [], sum_by-cons one_if_some o [])

-- no node names a free place
pub none-named : (slots : List (Option (NodeOf Tag))) (heads : List (Option Head)) (place : ℕ) → Parts place_in slots heads → get_or heads place None ≡ None → (j : ℕ) → place_in (get_or slots j None) ≢ Some place
none-named slots heads place p none j named = let there = p.there j place named in absurd cc

-- no other node names its place
pub alone-named : (slots : List (Option (NodeOf Tag))) (heads : List (Option Head)) (i place : ℕ) → Parts place_in slots heads → place_in (get_or slots i None) ≡ Some place → (j : ℕ) → j ≢ i → place_in (get_or slots j None) ≢ Some place
alone-named slots heads i place p named j other also = other (p.apart j i place also named)

-- the place of a changed tag
pub tagged-place : (slots slots' : List (Option (NodeOf Tag))) (i : ℕ) (t : Tag) → IsSome (node_at slots i) → Becomes slots slots' i (λ n. record { owners = n.owners; head = t; links = n.links }) → place_in (node_at slots' i) ≡ place_of t
tagged-place slots slots' i t live b =
    let value = value_in (node_at slots i) live in
    let change : NodeOf Tag → NodeOf Tag = λ n. record { owners = n.owners; head = t; links = n.links } in
    ap place_in (b.here ∙ ap (option_map change) value.1)

-- a full head is written where it lies
pub becomes-full : (heads : List (Option Head)) (slots : List (Option (NodeOf Tag))) (i place : ℕ) (head : Head) → IsSome (node_at slots i) → Parts place_in slots heads → place_in (node_at slots i) ≡ Some place
    → Becomes (map (full_node heads) slots) (map (full_node (set heads place (Some head))) slots) i (λ n. record { owners = n.owners; head = head; links = n.links })
becomes-full heads slots i place head live p named =
    let heads' = set heads place (Some head) in
    let value = value_in (node_at slots i) live in
    let was = value_in (get_or heads place None) (p.there i place named) in
    let by : head_by heads' value.0.head ≡ head = full-by heads' value.0.head place head (sym (ap place_in value.1) ∙ named) (set-there heads place was.0 (Some head) was.1) in
    becomes-headed heads heads' slots slots i (headed-apart heads heads' place slots slots i (λ k other. refl) (set-apart heads place (Some head)) (alone-named slots heads i place p named)) _ value.0 value.0 value.1 value.1 (rw by refl) refl

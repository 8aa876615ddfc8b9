-- What becomes of nodes that have whole heads beside them.
use Rattle.std.proofs.Common.{◌≡◌, ◌≢◌, ℕ, zero, suc, ◌+◌, ◌<◌, ◌≤◌, ◌/◌, ◌%◌, List, [], ◌∷◌, get_or, set, length, refl, sym, ap, subst, ◌∙◌, arith, Option, Some, None, IsSome, is_some, count_by, inl, inr}
use Rattle.std.specs.Prelude.{option_map}
use Rattle.std.proofs.lemmas.Bool.{cases_eq}
use Rattle.std.proofs.lemmas.List.Sums.{sum_by-cons}
use Rattle.node_heap.specs.Nodes.{SameBut, NodeOf, RoomsOf, Node, node_at, node_owners, node_head, node_links, owned_by, Becomes}
use Rattle.node_heap.specs.Sets.{sets_said}
use Rattle.node_heap.specs.Tries.{head_beside, with_head, with_heads, sets_in, AreTries}
use Rattle.node_heap.specs.declared.row.Head.{Head}
use Rattle.node_heap.specs.declared.row.Head.TheVariants.{Leaf}
use Rattle.node_heap.specs.declared.row.Head.TheVariants as lent_head
use Rattle.node_heap.specs.declared.sets.Sets.{Sets}
use Rattle.node_heap.specs.declared.sets.Sets.TheVariants.{Trie}
use Rattle.node_heap.proofs.Free.{value_in}
use Rattle.node_heap.proofs.Stored.{one_if_some}
use Rattle.node_heap.proofs.Rooming.{Puts, Frees}

module _ {X : Type 0} where
  pub read-inside : (xs : List X) (k : ℕ) (d d' : X) → k < length xs → get_or xs k d ≡ get_or xs k d'
  read-inside [] k d d' below = absurd (omega (arith, below))
  read-inside (x ∷ xs) zero d d' below = refl
  read-inside (x ∷ xs) (suc k) d d' below = read-inside xs k d d' (omega (arith, below))

some-told : (head : Head) (o : Option (NodeOf Sets)) → IsSome (with_head head o) → IsSome o
some-told head None live = cc
some-told head (Some n) live = refl

told-owned : (k : ℕ) (head : Head) (o : Option (NodeOf Sets)) → with_head head (owned_by k o) ≡ owned_by k (with_head head o)
told-owned k head None = refl
told-owned k head (Some n) = refl

told-owners : (head : Head) (o : Option (NodeOf Sets)) → node_owners (with_head head o) ≡ node_owners o
told-owners head None = refl
told-owners head (Some n) = refl

told-links : (head : Head) (o : Option (NodeOf Sets)) → node_links (with_head head o) ≡ node_links o
told-links head None = refl
told-links head (Some n) = refl

module _ (heads : ℕ → Head) where
  at-from : (j : ℕ) (slots : List (Option (NodeOf Sets))) (i : ℕ) → node_at (with_heads heads j slots) i ≡ with_head (heads (j + i)) (node_at slots i)
  at-from j [] i = refl
  at-from j (n ∷ ns) zero =
      let same : j ≡ j + 0 = omega arith in
      ap (λ k. with_head (heads k) n) same
  at-from j (n ∷ ns) (suc i) =
      let same : suc j + i ≡ j + suc i = omega arith in
      at-from (suc j) ns i ∙ ap (λ k. with_head (heads k) (node_at ns i)) same

  pub at-told : (slots : List (Option (NodeOf Sets))) (i : ℕ) → node_at (with_heads heads 0 slots) i ≡ with_head (heads i) (node_at slots i)
  at-told slots i =
      let same : 0 + i ≡ i = omega arith in
      rw same at (at-from 0 slots i)

  len-from : (j : ℕ) (slots : List (Option (NodeOf Sets))) → count_by is_some (with_heads heads j slots) ≡ count_by is_some slots
  len-from j [] = refl
  len-from j (o ∷ os) = omega (arith, len-from (suc j) os, at_one o, sum_by-cons one_if_some (with_head (heads j) o) (with_heads heads (suc j) os), sum_by-cons one_if_some o os)
    where
      at_one : (o : Option (NodeOf Sets)) → one_if_some (with_head (heads j) o) ≡ one_if_some o
      at_one None = refl
      at_one (Some n) = refl

  -- there are as many nodes
  pub len-told : (slots : List (Option (NodeOf Sets))) → count_by is_some (with_heads heads 0 slots) ≡ count_by is_some slots
  len-told slots = len-from 0 slots

  set-from : (j : ℕ) (slots : List (Option (NodeOf Sets))) (i : ℕ) (o : Option (NodeOf Sets)) → with_heads heads j (set slots i o) ≡ set (with_heads heads j slots) i (with_head (heads (j + i)) o)
  set-from j [] i o = refl
  set-from j (n ∷ ns) zero o =
      let same : j ≡ j + 0 = omega arith in
      ap (λ k. with_head (heads k) o ∷ with_heads heads (suc j) ns) same
  set-from j (n ∷ ns) (suc i) o =
      let same : suc j + i ≡ j + suc i = omega arith in
      ap (λ xs. with_head (heads j) n ∷ xs) (set-from (suc j) ns i o ∙ ap (λ k. set (with_heads heads (suc j) ns) i (with_head (heads k) o)) same)

  -- the owners of a node are written
  pub owned-told : (slots : List (Option (NodeOf Sets))) (i k : ℕ) → with_heads heads 0 (set slots i (owned_by k (node_at slots i))) ≡ set (with_heads heads 0 slots) i (owned_by k (node_at (with_heads heads 0 slots) i))
  owned-told slots i k =
      let same : 0 + i ≡ i = omega arith in
      rw (at-told slots i, ← told-owned k (heads i) (node_at slots i)) (rw same at (set-from 0 slots i (owned_by k (node_at slots i))))

  module _ (slots : List (Option (NodeOf Sets))) (i : ℕ) where
    pub live-told : IsSome (node_at (with_heads heads 0 slots) i) → IsSome (node_at slots i)
    live-told live = some-told (heads i) (node_at slots i) (rw (at-told slots i) at live)

    pub owners-told : node_owners (node_at (with_heads heads 0 slots) i) ≡ node_owners (node_at slots i)
    owners-told = ap node_owners (at-told slots i) ∙ told-owners (heads i) (node_at slots i)

    pub links-told : node_links (node_at (with_heads heads 0 slots) i) ≡ node_links (node_at slots i)
    links-told = ap node_links (at-told slots i) ∙ told-links (heads i) (node_at slots i)

    pub head-told : IsSome (node_at slots i) → node_head (node_at (with_heads heads 0 slots) i) ≡ Some (heads i)
    head-told live = let value = value_in _ live in ap node_head (at-told slots i) ∙ rw value.1 refl

    pub linked-told : (n : ℕ) → n < length (node_links (node_at (with_heads heads 0 slots) i)) → IsSome (node_at slots i)
    linked-told n below = linked_some (node_at slots i) (omega (arith, below, ap length links-told))
      where
        linked_some : (o : Option (NodeOf Sets)) → n < length (node_links o) → IsSome o
        linked_some None less = absurd (omega (arith, less))
        linked_some (Some x) less = refl

module _ (heads heads' : ℕ → Head) (slots slots' : List (Option (NodeOf Sets))) (i : ℕ) (same_heads : (k : ℕ) → k ≢ i → heads' k ≡ heads k) (same : SameBut slots slots' i) where
  pub told-same : SameBut (with_heads heads 0 slots) (with_heads heads' 0 slots') i
  told-same k other = at-told heads' slots' k ∙ ap (with_head (heads' k)) (same k other) ∙ ap (λ h. with_head h (node_at slots k)) (same_heads k other) ∙ sym (at-told heads slots k)

  pub puts-told : (n : NodeOf Sets) → node_at slots i ≡ None → node_at slots' i ≡ Some n → count_by is_some slots' ≡ count_by is_some slots + 1 → Puts (with_heads heads 0 slots) (with_heads heads' 0 slots') i (record { owners = n.owners; head = heads' i; links = n.links })
  puts-told n was now len = record {
    was = at-told heads slots i ∙ ap (with_head (heads i)) was;
    now = at-told heads' slots' i ∙ ap (with_head (heads' i)) now;
    others = told-same;
    len = omega (arith, len, len-told heads slots, len-told heads' slots');
  }

  pub frees-told : node_at slots' i ≡ None → count_by is_some slots' + 1 ≡ count_by is_some slots → Frees (with_heads heads 0 slots) (with_heads heads' 0 slots') i
  frees-told gone len = record {
    gone = at-told heads' slots' i ∙ ap (with_head (heads' i)) gone;
    others = told-same;
    len = omega (arith, len, len-told heads slots, len-told heads' slots');
  }

  pub becomes-told : (f : NodeOf Sets → NodeOf Sets) (g : Node → Node) (n : NodeOf Sets) → node_at slots i ≡ Some n → Becomes slots slots' i f → record { owners = (f n).owners; head = heads' i; links = (f n).links } ≡ g (record { owners = n.owners; head = heads i; links = n.links })
      → Becomes (with_heads heads 0 slots) (with_heads heads' 0 slots') i g
  becomes-told f g n is b alike = record {
    here = at-told heads' slots' i ∙ ap (with_head (heads' i)) (b.here ∙ ap (option_map f) is) ∙ ap Some alike ∙ sym (ap (option_map g) (at-told heads slots i ∙ ap (with_head (heads i)) is));
    others = told-same;
    len = omega (arith, b.len, len-told heads slots, len-told heads' slots');
  }

pub beside-even : (twigs forks : List Head) (index : ℕ) → index % 2 ≡ 0 → head_beside twigs forks index ≡ get_or twigs (index / 2) Leaf
beside-even twigs forks index e = rw e refl

pub beside-odd : (twigs forks : List Head) (index : ℕ) → index % 2 ≢ 0 → head_beside twigs forks index ≡ get_or forks (index / 2) Leaf
beside-odd twigs forks index e =
    let one : index % 2 ≡ 1 = omega (arith, e) in
    rw one refl

-- the head beside an index is written
pub record Beside (twigs forks twigs' forks' : List Head) (index : ℕ) (head : Head) : Type 0 where
  pub here : head_beside twigs' forks' index ≡ head
  pub others : (k : ℕ) → k ≢ index → head_beside twigs' forks' k ≡ head_beside twigs forks k
  pub more_twigs : length twigs ≤ length twigs'
  pub more_forks : length forks ≤ length forks'
  pub twig : index % 2 ≡ 0 → index / 2 < length twigs'
  pub fork : index % 2 ≢ 0 → index / 2 < length forks'

module _ (twigs forks : List Head) (index : ℕ) (head : Head) where
  pub beside-twig : (twigs' : List Head) → index % 2 ≡ 0 → get_or twigs' (index / 2) Leaf ≡ head → ((k : ℕ) → k ≢ index / 2 → get_or twigs' k Leaf ≡ get_or twigs k Leaf) → length twigs ≤ length twigs' → index / 2 < length twigs' → Beside twigs forks twigs' forks index head
  beside-twig twigs' e here others more inside = record {
    here = beside-even twigs' forks index e ∙ here;
    others = λ k other. elim (cases_eq (k % 2) 0) as (λ _. head_beside twigs' forks k ≡ head_beside twigs forks k) [
      | inl even ↦ beside-even twigs' forks k even ∙ others (k / 2) (λ same. other (omega (arith, same, even, e))) ∙ sym (beside-even twigs forks k even)
      | inr odd ↦ beside-odd twigs' forks k odd ∙ sym (beside-odd twigs forks k odd)
    ];
    more_twigs = more;
    more_forks = omega arith;
    twig = λ _. inside;
    fork = λ odd. absurd (odd e);
  }

  pub beside-fork : (forks' : List Head) → index % 2 ≢ 0 → get_or forks' (index / 2) Leaf ≡ head → ((k : ℕ) → k ≢ index / 2 → get_or forks' k Leaf ≡ get_or forks k Leaf) → length forks ≤ length forks' → index / 2 < length forks' → Beside twigs forks twigs forks' index head
  beside-fork forks' e here others more inside = record {
    here = beside-odd twigs forks' index e ∙ here;
    others = λ k other. elim (cases_eq (k % 2) 0) as (λ _. head_beside twigs forks' k ≡ head_beside twigs forks k) [
      | inl even ↦ beside-even twigs forks' k even ∙ sym (beside-even twigs forks k even)
      | inr odd ↦ beside-odd twigs forks' k odd ∙ others (k / 2) (λ same. other (omega (arith, same, odd, e))) ∙ sym (beside-odd twigs forks k odd)
    ];
    more_twigs = omega arith;
    more_forks = more;
    twig = λ even. absurd (e even);
    fork = λ _. inside;
  }

module _ {rooms : RoomsOf Sets} {twigs : List Head} {a : ℕ} {forks : List Head} {b : ℕ} (are : AreTries rooms twigs a forks b) where
  -- a node is made or changed, and the head beside it says what it does
  pub AreTries-written : (rooms' : RoomsOf Sets) (twigs' forks' : List Head) (a' b' index : ℕ) (head : Head) → a' ≡ a → b' ≡ b → SameBut rooms.slots rooms'.slots index → ((n : NodeOf Sets) → node_at rooms'.slots index ≡ Some n → n.head ≡ sets_said head) → rooms'.room ≡ rooms.room
      → Beside twigs forks twigs' forks' index head → length twigs' ≤ rooms.room → length forks' ≤ rooms.room → AreTries rooms' twigs' a' forks' b'
  AreTries-written rooms' twigs' forks' a' b' index head same_a same_b others said room w short_twigs short_forks = record {
    same = λ k n is. elim (cases_eq k index) as (λ _. n.head ≡ sets_said (head_beside twigs' forks' k)) [
      | inl it ↦ said n (subst (λ j. node_at rooms'.slots j ≡ Some n) it is) ∙ sym (ap sets_said (ap (head_beside twigs' forks') it ∙ w.here))
      | inr other ↦ are.same k n (sym (others k other) ∙ is) ∙ sym (ap sets_said (w.others k other))
    ];
    twig_inside = λ k even live. elim (cases_eq k index) as (λ _. k / 2 < length twigs') [
      | inl it ↦ omega (arith, w.twig (omega (arith, it, even)), it)
      | inr other ↦ omega (arith, are.twig_inside k even (rw (others k other) at live), w.more_twigs)
    ];
    fork_inside = λ k odd live. elim (cases_eq k index) as (λ _. k / 2 < length forks') [
      | inl it ↦ omega (arith, w.fork (λ e. odd (omega (arith, it, e))), it)
      | inr other ↦ omega (arith, are.fork_inside k odd (rw (others k other) at live), w.more_forks)
    ];
    twig_short = omega (arith, short_twigs, room);
    fork_short = omega (arith, short_forks, room);
    twig_room = omega (arith, are.twig_room, same_a, room);
    fork_room = omega (arith, are.fork_room, same_b, room);
  }

  -- nodes go, or keep their heads
  pub AreTries-kept : (rooms' : RoomsOf Sets) → ((k : ℕ) (n : NodeOf Sets) → node_at rooms'.slots k ≡ Some n → (m : NodeOf Sets) × (node_at rooms.slots k ≡ Some m) × (n.head ≡ m.head)) → rooms'.room ≡ rooms.room → AreTries rooms' twigs a forks b
  AreTries-kept rooms' old room = record {
    same = λ k n is. let was = old k n is in was.2 ∙ are.same k was.0 was.1;
    twig_inside = λ k even live. let n = value_in _ live in let was = old k n.0 n.1 in are.twig_inside k even (rw was.1 refl);
    fork_inside = λ k odd live. let n = value_in _ live in let was = old k n.0 n.1 in are.fork_inside k odd (rw was.1 refl);
    twig_short = omega (arith, are.twig_short, room);
    fork_short = omega (arith, are.fork_short, room);
    twig_room = omega (arith, are.twig_room, room);
    fork_room = omega (arith, are.fork_room, room);
  }

-- a node keeps its head where it is changed otherwise
pub kept-becomes : (slots slots' : List (Option (NodeOf Sets))) (i : ℕ) (f : NodeOf Sets → NodeOf Sets) → ((n : NodeOf Sets) → (f n).head ≡ n.head) → Becomes slots slots' i f
    → (k : ℕ) (n : NodeOf Sets) → node_at slots' k ≡ Some n → (m : NodeOf Sets) × (node_at slots k ≡ Some m) × (n.head ≡ m.head)
kept-becomes slots slots' i f keeps b k n is =
    elim (cases_eq k i) as (λ _. (m : NodeOf Sets) × (node_at slots k ≡ Some m) × (n.head ≡ m.head)) [
      | inl it ↦ of_slot (node_at slots k) refl (ap (λ j. option_map f (node_at slots j)) it ∙ sym b.here ∙ ap (node_at slots') (sym it) ∙ is)
      | inr other ↦ (n, sym (b.others k other) ∙ is, refl)
    ]
  where
    of_slot : (o : Option (NodeOf Sets)) → node_at slots k ≡ o → option_map f (node_at slots k) ≡ Some n → (m : NodeOf Sets) × (node_at slots k ≡ Some m) × (n.head ≡ m.head)
    of_slot None was now = let none : option_map f (node_at slots k) ≡ None = ap (option_map f) was in absurd cc
    of_slot (Some m) was now =
        let some : Some (f m) ≡ Some n = sym (ap (option_map f) was) ∙ now in
        let same : f m ≡ n = cc in
        (m, was, sym (ap (λ x. x.head) same) ∙ keeps m)

-- and where a node goes
pub kept-freed : (slots slots' : List (Option (NodeOf Sets))) (i : ℕ) → SameBut slots slots' i → node_at slots' i ≡ None → (k : ℕ) (n : NodeOf Sets) → node_at slots' k ≡ Some n → (m : NodeOf Sets) × (node_at slots k ≡ Some m) × (n.head ≡ m.head)
kept-freed slots slots' i same gone k n is =
    elim (cases_eq k i) as (λ _. (m : NodeOf Sets) × (node_at slots k ≡ Some m) × (n.head ≡ m.head)) [
      | inl it ↦ let none : node_at slots' k ≡ None = ap (node_at slots') it ∙ gone in absurd cc
      | inr other ↦ (n, sym (same k other) ∙ is, refl)
    ]

-- the sets of a node, and what lies of them with its links
pub sets-told : {rooms : RoomsOf Sets} {twigs : List Head} {a : ℕ} {forks : List Head} {b : ℕ} (are : AreTries rooms twigs a forks b) (i : ℕ) (sets : Sets) → node_head (node_at rooms.slots i) ≡ Some sets
    → sets_in (node_at (with_heads (head_beside twigs forks) 0 rooms.slots) i) ≡ Some sets
sets-told {rooms = rooms} {twigs = twigs} {forks = forks} are i sets is = of_slot (node_at rooms.slots i) refl is
  where
    of_slot : (o : Option (NodeOf Sets)) → node_at rooms.slots i ≡ o → node_head o ≡ Some sets → sets_in (node_at (with_heads (head_beside twigs forks) 0 rooms.slots) i) ≡ Some sets
    of_slot None was said = absurd cc
    of_slot (Some n) was said =
        let same : n.head ≡ sets = cc in
        ap sets_in (at-told (head_beside twigs forks) rooms.slots i ∙ ap (with_head (head_beside twigs forks i)) was) ∙ ap Some (sym (are.same i n was) ∙ same)

-- the head with these sets
said-trie : (head : Head) (depth entries nodes : ℕ) → sets_said head ≡ Trie depth entries nodes → head ≡ lent_head.Trie depth entries nodes
said-trie Leaf depth entries nodes is = absurd cc
said-trie (lent_head.Inner height sums) depth entries nodes is = absurd cc
said-trie (lent_head.Trie d e n) depth entries nodes is = cc
said-trie lent_head.Chain depth entries nodes is = absurd cc
said-trie lent_head.Pair depth entries nodes is = absurd cc
said-trie lent_head.State depth entries nodes is = absurd cc

-- the head of a node whose sets are known
pub trie-told : {rooms : RoomsOf Sets} {twigs : List Head} {a : ℕ} {forks : List Head} {b : ℕ} (are : AreTries rooms twigs a forks b) (i depth entries nodes : ℕ) → node_head (node_at rooms.slots i) ≡ Some (Trie depth entries nodes)
    → node_head (node_at (with_heads (head_beside twigs forks) 0 rooms.slots) i) ≡ Some (lent_head.Trie depth entries nodes)
trie-told {rooms = rooms} {twigs = twigs} {forks = forks} are i depth entries nodes is = of_slot (node_at rooms.slots i) refl is
  where
    of_slot : (o : Option (NodeOf Sets)) → node_at rooms.slots i ≡ o → node_head o ≡ Some (Trie depth entries nodes) → node_head (node_at (with_heads (head_beside twigs forks) 0 rooms.slots) i) ≡ Some (lent_head.Trie depth entries nodes)
    of_slot None was said = absurd cc
    of_slot (Some n) was said =
        let same : n.head ≡ Trie depth entries nodes = cc in
        head-told (head_beside twigs forks) rooms.slots i (rw was refl) ∙ ap Some (said-trie (head_beside twigs forks i) depth entries nodes (sym (are.same i n was) ∙ same))

-- the sets of the node at a place
pub said-head : (o : Option (NodeOf Sets)) (n m : NodeOf Sets) → o ≡ Some m → o ≡ Some n → n.head ≡ m.head
said-head o n m is was = let same : Some n ≡ Some m = sym was ∙ is in let it : n ≡ m = cc in ap (λ x. x.head) it

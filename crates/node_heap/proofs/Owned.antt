-- What the slots say of a node that is made the caller's own.
use Rattle.std.proofs.Common.{◌≡◌, ◌≢◌, ℕ, zero, suc, ◌+◌, ◌*◌, ◌-◌, ◌^◌, ◌<◌, ◌≤◌, List, [], ◌∷◌, length, get_or, set, refl, sym, ap, subst, ◌∙◌, arith, Option, None, IsSome, inl, inr, min}
use Rattle.std.specs.Prelude.{◌↔◌, sum_by, sum}
use Rattle.std.proofs.lemmas.Bool.{cases_eq}
use Rattle.node_heap.specs.Links.{count, HasLink, Reaches, here, below}
use Rattle.node_heap.specs.Forms.{links_of, head_of, links_in, is_cell, is_node}
use Rattle.node_heap.specs.Heap.{Heap, row_at, links_at, holds_at, owners_at, one_at, IsGraph}
use Rattle.node_heap.specs.Calls.{Extends, Makes}
use Rattle.node_heap.specs.InPlace.{other_at, Changes}
use Rattle.node_heap.specs.Layout.{Slot, row_of_slot, owners_in, rows_of_slots, holds_in, slot_at, places_at, graph_of, cells_in, nodes_in, IsCounted, SetsOwners, Rewrites, Copies, IsHeap, seen}
use Rattle.node_heap.proofs.Counts.{count-cons, one_at-flip, test_same, test_other, sum-exchanged, le-sum}
use Rattle.node_heap.proofs.Reach.{Reaches-by, reach-falls}
use Rattle.node_heap.proofs.Slots.{row_at-slots, holds_at-slots, owners_at-slots, placed, live-owned, holds-less, places_at-le, IsCounted-owners}
use Rattle.node_heap.proofs.Stored.{IsGraph-stored, Makes-stored, live_row, live_slot, row-seen, owners-seen}
use Rattle.node_heap.proofs.Edited.{Extends-live, Changes-own_child, count-at}
use Rattle.node_heap.proofs.Rewritten.{Moves, Moves-replace, counted-moved, holds-moved, owners-moved, places-moved, nodes-moved, cells-moved}
use Rattle.node_heap.proofs.Copied.{other_at-other, places-copied, fresh-unlinked, self-unlinked, holds-copied, copy-apart}

module _ {T : Type 0} where
  -- there is always room for 32 owners more
  pub owners-room : {slots : List (Option (Slot T))} {a b n : ℕ} → IsHeap slots a b n → (l : ℕ) → owners_in (slot_at slots l) + 32 < 2 ^ 64
  owners-room {slots} stored l = omega (arith, owners_at-slots slots stored.counted l, stored.few_holds, places_at-le slots stored.counted.short l, le-sum (holds_in slots) l, stored.few)

  -- the owners of each row, once the copied one has an owner less
  owners-step : (old mid wrote new : List (Option (Slot T))) (place key n a b m a' b' m' : ℕ) → IsCounted old → IsCounted new → Copies old mid place key → ((k : ℕ) → owners_in (slot_at wrote k) ≡ owners_in (slot_at mid k)) → SetsOwners wrote new place n → n + 1 ≡ owners_in (slot_at old place) → place ≢ key → (k : ℕ)
      → owners_at (seen new a' b' m') k + one_at place k ≡ owners_at (seen old a b m) k + (one_at key k + other_at place key * count k (links_at (seen old a b m) place))
  owners-step old mid wrote new place key n a b m a' b' m' counted counted' copies same_owners sets fewer apart k =
      let links = count k (links_at (seen old a b m) place) in
      let once : other_at place key * links ≡ links = rw (other_at-other place key apart) (omega arith) in
      let read = ap (λ r. count k (links_of r)) (row_at-slots old place) in
      let at_old = owners_at-slots old counted k in
      let at_new = owners_at-slots new counted' k in
      elim (cases_eq k key) as (λ _. owners_at (seen new a' b' m') k + one_at place k ≡ owners_at (seen old a b m) k + (one_at key k + other_at place key * links)) [
        | inl same ↦
            let off = λ (e : k ≡ place). apart (sym e ∙ same) in
            omega (
              arith,
              test_same k key same,
              test_other k place off,
              ap owners_in (sets.others k off),
              same_owners k,
              ap (λ j. owners_in (slot_at mid j)) same,
              copies.one,
              ap (λ j. owners_in (slot_at old j)) same,
              ap owners_in copies.fresh,
              ap (λ j. count j (links_of (graph_of old place))) same,
              fresh-unlinked old mid place key counted copies,
            )
        | inr other ↦
            elim (cases_eq k place) as (λ _. owners_at (seen new a' b' m') k + one_at place k ≡ owners_at (seen old a b m) k + (one_at key k + other_at place key * links)) [
              | inl same ↦
                  omega (
                    arith,
                    test_other k key other,
                    test_same k place same,
                    ap (λ j. owners_in (slot_at new j)) same,
                    sets.owners,
                    fewer,
                    ap (λ j. owners_in (slot_at old j)) same,
                    ap (λ j. count j (links_of (graph_of old place))) same,
                    self-unlinked old place counted,
                  )
              | inr off ↦
                  omega (arith, test_other k key other, test_other k place off, ap owners_in (sets.others k off), same_owners k, copies.owners k other)
            ]
      ]

  -- a copy was made, and then the row has an owner less
  pub record Owns (old mid new : List (Option (Slot T))) (place key n : ℕ) : Type 0 where
    pub copies : Copies old mid place key
    pub counted : IsCounted mid
    pub sets : SetsOwners mid new place n
    pub rows : rows_of_slots new ≡ rows_of_slots mid
    pub fewer : n + 1 ≡ owners_in (slot_at old place)
    pub some : 0 < n
    pub free : places_at old place ≤ n

  module _ {old mid new : List (Option (Slot T))} {place key n : ℕ} (counted : IsCounted old) (o : Owns old mid new place key n) where
    pub other-owned : place ≢ key
    other-owned = copy-apart o.copies place (live-owned (slot_at old place) (omega (arith, o.fewer)))

    graph-owned : (l : ℕ) → graph_of new l ≡ graph_of mid l
    graph-owned l = sym (row_at-slots new l) ∙ ap (λ xs. get_or xs l None) o.rows ∙ row_at-slots mid l

    mid-owners : owners_in (slot_at mid place) ≡ n + 1
    mid-owners = omega (arith, o.copies.owners place other-owned, self-unlinked old place counted, o.fewer)

    mid-places : places_at mid place ≤ n
    mid-places = omega (arith, places-copied old mid place key o.copies place, self-unlinked old place counted, o.free)

    pub counted-owned : IsCounted new
    counted-owned = IsCounted-owners mid new place n o.sets o.rows o.counted (live-owned (slot_at mid place) (omega (arith, mid-owners))) mid-places o.some

    pub holds-owned : (k : ℕ) → get_or (holds_in new) k 0 + count k (place ∷ []) ≡ get_or (holds_in old) k 0 + count k (key ∷ [])
    holds-owned k =
        let copied = holds-copied old mid place key counted o.copies k in
        let less = holds-less mid new place n (holds_in mid) (holds_in new) refl refl o.sets o.rows mid-places (omega (arith, mid-owners)) k in
        omega (arith, copied, less, count-cons k place [], count-cons k key [], one_at-flip k place, one_at-flip k key)

    pub total-owned : sum (holds_in new) + length (place ∷ []) ≡ sum (holds_in old) + length (key ∷ [])
    total-owned = sum-exchanged (place ∷ []) (key ∷ []) (holds_in old) (holds_in new) holds-owned

    module _ (a b m a' b' m' : ℕ) where
      pub owners-owned : (k : ℕ) → owners_at (seen new a' b' m') k + one_at place k ≡ owners_at (seen old a b m) k + (one_at key k + other_at place key * count k (links_at (seen old a b m) place))
      owners-owned = owners-step old mid mid new place key n a b m a' b' m' counted counted-owned o.copies (λ k. refl) o.sets o.fewer other-owned

      pub sole-owned : owners_at (seen new a' b' m') key ≡ 1
      sole-owned = omega (arith, owners_at-slots new counted-owned key, ap owners_in (o.sets.others key (λ e. other-owned (sym e))), o.copies.one)

      pub row-owned : row_at (seen new a' b' m') key ≡ row_at (seen old a b m) place
      row-owned = row_at-slots new key ∙ graph-owned key ∙ o.copies.row ∙ sym (row_at-slots old place)

      pub fresh-owned : row_at (seen old a b m) key ≡ None
      fresh-owned = row_at-slots old key ∙ ap row_of_slot o.copies.fresh

      pub extends-owned : IsGraph (seen old a b m) → Extends (seen old a b m) (seen new a' b' m')
      extends-owned graph =
          Extends-live (seen old a b m) (seen new a' b' m') graph
          (λ k live.
          let was = live_slot (slot_at old k) (rw (← row_at-slots old k) live) in
          row_at-slots new k ∙ graph-owned k ∙ o.copies.others k (copy-apart o.copies k was) ∙ sym (row_at-slots old k))

  pub Owns-held : (old mid new : List (Option (Slot T))) (place key owners a b m : ℕ) → Copies old mid place key → IsCounted mid → SetsOwners mid new place (owners - 1) → rows_of_slots new ≡ rows_of_slots mid → owners_in (slot_at old place) ≡ owners → 0 < holds_at (seen old a b m) place → owners ≢ 1 → Owns old mid new place key (owners - 1)
  Owns-held old mid new place key owners a b m copies counted sets rows read held more = record {
    copies = copies;
    counted = counted;
    sets = sets;
    rows = rows;
    fewer = omega (arith, read, holds_at-slots old place, held);
    some = omega (arith, read, holds_at-slots old place, held, more);
    free = omega (arith, read, holds_at-slots old place, held);
  }

  -- a copy of a child was made and put in its place, and then the child has an owner less
  pub record OwnsChild (old mid wrote new : List (Option (Slot T))) (parent index child key n : ℕ) : Type 0 where
    pub copies : Copies old mid child key
    pub counted : IsCounted mid
    pub rewrites : Rewrites mid wrote parent (head_of (graph_of mid parent)) (set (links_of (graph_of mid parent)) index key)
    pub sets : SetsOwners wrote new child n
    pub rows : rows_of_slots new ≡ rows_of_slots wrote
    pub fewer : n + 1 ≡ owners_in (slot_at old child)
    pub some : 0 < n
    pub sole : owners_in (slot_at old parent) ≡ 1
    pub inside : index < length (links_of (graph_of old parent))
    pub child_is : child ≡ get_or (links_of (graph_of old parent)) index 0

  module _ {old mid wrote new : List (Option (Slot T))} {parent index child key n : ℕ} (counted : IsCounted old) (o : OwnsChild old mid wrote new parent index child key n) where
    parent-live : IsSome (slot_at old parent)
    parent-live = live-owned (slot_at old parent) (omega (arith, o.sole))

    apart-child : child ≢ key
    apart-child = copy-apart o.copies child (live-owned (slot_at old child) (omega (arith, o.fewer)))

    apart-parent : parent ≢ key
    apart-parent = copy-apart o.copies parent parent-live

    parent-mid : graph_of mid parent ≡ graph_of old parent
    parent-mid = o.copies.others parent apart-parent

    child-mid : graph_of mid child ≡ graph_of old child
    child-mid = o.copies.others child apart-child

    child-linked : 0 < count child (links_of (graph_of old parent))
    child-linked = omega (arith, count-at (links_of (graph_of old parent)) index child o.inside (sym o.child_is))

    child-linked-mid : HasLink (links_in (graph_of mid)) parent child
    child-linked-mid = omega (arith, child-linked, ap (λ r. count child (links_of r)) parent-mid)

    -- no link of the child reaches the parent
    below-off : (k : ℕ) → 0 < count k (links_of (graph_of old child)) → ¬ Reaches (links_in (graph_of mid)) k parent
    below-off k has way =
        let linked : HasLink (links_in (graph_of mid)) child k = omega (arith, has, ap (λ r. count k (links_of r)) child-mid) in
        absurd (omega (arith, o.counted.falls parent child child-linked-mid, o.counted.falls child k linked, reach-falls (links_in (graph_of mid)) o.counted.rank o.counted.falls k parent way))

    copy-off : ¬ Reaches (links_in (graph_of mid)) key parent
    copy-off way = start key parent way refl refl
      where
        start : (a b : ℕ) → Reaches (links_in (graph_of mid)) a b → a ≡ key → b ≡ parent → ⊥
        start a b (here l) same top = apart-parent (sym top ∙ same)
        start a b (below l k m has rest) same top =
            below-off k (omega (arith, has, ap (λ j. count k (links_of (graph_of mid j))) same, ap (λ r. count k (links_of r)) o.copies.row)) (subst (Reaches (links_in (graph_of mid)) k) top rest)

    mid-parent-owners : owners_in (slot_at mid parent) ≡ 1
    mid-parent-owners = omega (arith, o.copies.owners parent apart-parent, o.sole, parent-unlinked)
      where
        parent-unlinked : count parent (links_of (graph_of old child)) ≡ 0
        parent-unlinked = by_count (count parent (links_of (graph_of old child))) refl
          where
            by_count : (x : ℕ) → count parent (links_of (graph_of old child)) ≡ x → count parent (links_of (graph_of old child)) ≡ 0
            by_count zero e = e
            by_count (suc x) e = absurd (omega (arith, counted.falls parent child child-linked, counted.falls child parent (omega (arith, e))))

    moves-child : Moves mid wrote parent (head_of (row_at (seen mid 0 0 0) parent)) (set (links_at (seen mid 0 0 0) parent) index key) (key ∷ []) (child ∷ [])
    moves-child =
        let row = row_at-slots mid parent ∙ parent-mid in
        Moves-replace {a = 0} {b = 0} {n = 0} o.counted refl refl index key child
        (omega (arith, owners_at-slots mid o.counted parent, mid-parent-owners))
        (omega (arith, o.inside, ap (λ r. length (links_of r)) row))
        (omega (arith, holds-copied old mid child key counted o.copies key, test_same key key refl))
        (λ way. copy-off (Reaches-by (links_at (seen mid 0 0 0)) (links_in (graph_of mid)) (λ l. ap links_of (sym (row_at-slots mid l))) key parent way))
        (o.child_is ∙ sym (ap (λ r. get_or (links_of r) index 0) row)) o.rewrites

    wrote-owners : (k : ℕ) → owners_in (slot_at wrote k) ≡ owners_in (slot_at mid k)
    wrote-owners = owners-moved moves-child

    child-owners : owners_in (slot_at wrote child) ≡ n + 1
    child-owners = omega (arith, wrote-owners child, o.copies.owners child apart-child, self-unlinked old child counted, o.fewer)

    child-places : places_at wrote child ≤ n
    child-places =
        let moved = places-moved moves-child child in
        let copied = places-copied old mid child key o.copies child in
        omega (arith, moved, copied, count-cons child key [], test_other key child (λ e. apart-child (sym e)), count-cons child child [], test_same child child refl, self-unlinked old child counted, counted.places child, o.fewer)

    pub counted-child : IsCounted new
    counted-child = IsCounted-owners wrote new child n o.sets o.rows (counted-moved moves-child o.counted) (live-owned (slot_at wrote child) (omega (arith, child-owners))) child-places o.some

    holds-child : (k : ℕ) → get_or (holds_in new) k 0 ≡ get_or (holds_in old) k 0
    holds-child k =
        let copied = holds-copied old mid child key counted o.copies k in
        let moved = holds-moved moves-child o.counted k in
        let less = holds-less wrote new child n (holds_in wrote) (holds_in new) refl refl o.sets o.rows child-places (omega (arith, child-owners)) k in
        omega (arith, copied, moved, less, count-cons k key [], count-cons k child [], one_at-flip key k, one_at-flip child k)

    pub total-child : sum (holds_in new) ≡ sum (holds_in old)
    total-child = omega (arith, sum-exchanged [] [] (holds_in old) (holds_in new) (λ k. omega (arith, holds-child k)))

    graph-new : (k : ℕ) → graph_of new k ≡ graph_of wrote k
    graph-new k = sym (row_at-slots new k) ∙ ap (λ xs. get_or xs k None) o.rows ∙ row_at-slots wrote k

    nodes-child : nodes_in new ≡ nodes_in mid
    nodes-child = ap (λ xs. sum_by is_node xs) o.rows ∙ nodes-moved moves-child

    cells-child : cells_in new ≡ cells_in mid
    cells-child = ap (λ xs. sum_by is_cell xs) o.rows ∙ cells-moved moves-child

  -- what contracts say of a child that was copied in its place
  pub record OwnsCopy (old new : Heap T) (parent index child key : ℕ) : Type 0 where
    pub same : (key ≡ child) ↔ (owners_at old child ≡ 1)
    pub row : row_at new key ≡ row_at old child
    pub sole : owners_at new key ≡ 1
    pub fresh : row_at old key ≡ None
    pub parent_head : head_of (row_at new parent) ≡ head_of (row_at old parent)
    pub parent_links : links_at new parent ≡ set (links_at old parent) index key
    pub stays : (k : ℕ) → k ≢ parent → IsSome (row_at old k) → row_at new k ≡ row_at old k
    pub others : (k : ℕ) → k ≢ parent → k ≢ key → row_at new k ≡ row_at old k
    pub owners : (k : ℕ) → owners_at new k + one_at child k ≡ owners_at old k + (one_at key k + other_at child key * count k (links_at old child))
    pub changes : Changes parent old new [] [] 0 1
    pub makes : Makes old new 0 (other_at child key)

  pub OwnsCopy-child : {old mid wrote new : List (Option (Slot T))} {place index child key n a b m a' b' m' parent : ℕ} {heap : Heap T} → IsHeap old a b m → seen old a b m ≡ heap → place ≡ parent → IsHeap new a' b' m' → OwnsChild old mid wrote new place index child key n
      → cells_in mid ≡ cells_in old → nodes_in mid ≡ nodes_in old + 1 → a' ≡ a → b' + 1 ≡ b → m' ≡ min (m + 1) (2 ^ 64 - 1) → OwnsCopy heap (seen new a' b' m') parent index child key
  OwnsCopy-child {old} {mid} {wrote} {new} {place} {index} {child} {key} {n} {a} {b} {m} {a'} {b'} {m'} stored heap_is parent_is stored' o cells nodes spare_cells spare_nodes made =
      rw (← heap_is, ← parent_is) (record {
        same = (λ e. absurd (apart (sym e)), λ one. absurd (omega (arith, one, owners_at-slots old counted child, o.fewer, o.some)));
        row = row_at-slots new key ∙ graph-new counted o key ∙ ap row_of_slot (o.rewrites.others key (λ e. apart-parent counted o (sym e))) ∙ o.copies.row ∙ sym (row_at-slots old child);
        sole = omega (arith, owners_at-slots new stored'.counted key, ap owners_in (o.sets.others key (λ e. apart (sym e))), wrote-owners counted o key, o.copies.one);
        fresh = fresh;
        parent_head = ap head_of at_parent ∙ o.rewrites.new_head ∙ ap head_of was_parent;
        parent_links = ap links_of at_parent ∙ o.rewrites.new_links ∙ ap (λ r. set (links_of r) index key) was_parent;
        stays = stays;
        others = others;
        owners = owners;
        changes = Changes-own_child (seen old a b m) (seen new a' b' m') place child key (IsGraph-stored _ _ _ _ stored) (IsGraph-stored _ _ _ _ stored') (rw at_parent (live_row (slot_at wrote place) o.rewrites.live))
            (omega (arith, child-linked counted o, ap (λ r. count child (links_of r)) (row_at-slots old place))) fresh stays owners (holds-child counted o) (total-child counted o) makes;
        makes = rw (other_at-other child key apart) makes;
      })
    where
      counted : IsCounted old
      counted = stored.counted

      apart : child ≢ key
      apart = apart-child counted o

      at_parent : row_at (seen new a' b' m') place ≡ graph_of wrote place
      at_parent = row_at-slots new place ∙ graph-new counted o place

      was_parent : graph_of mid place ≡ row_at (seen old a b m) place
      was_parent = parent-mid counted o ∙ sym (row_at-slots old place)

      fresh : row_at (seen old a b m) key ≡ None
      fresh = row_at-slots old key ∙ ap row_of_slot o.copies.fresh

      makes : Makes (seen old a b m) (seen new a' b' m') 0 1
      makes = Makes-stored old new _ _ _ _ _ _ 0 1 (omega (arith, cells-child counted o, cells)) (nodes-child counted o ∙ nodes) (omega (arith, spare_cells)) spare_nodes stored.fits made

      others : (k : ℕ) → k ≢ place → k ≢ key → row_at (seen new a' b' m') k ≡ row_at (seen old a b m) k
      others k off_parent off_copy = row_at-slots new k ∙ graph-new counted o k ∙ ap row_of_slot (o.rewrites.others k off_parent) ∙ o.copies.others k off_copy ∙ sym (row_at-slots old k)

      stays : (k : ℕ) → k ≢ place → IsSome (row_at (seen old a b m) k) → row_at (seen new a' b' m') k ≡ row_at (seen old a b m) k
      stays k off live = others k off (λ same. absurd (let gone = ap (row_at (seen old a b m)) same ∙ fresh in cc))

      owners : (k : ℕ) → owners_at (seen new a' b' m') k + one_at child k ≡ owners_at (seen old a b m) k + (one_at key k + other_at child key * count k (links_at (seen old a b m) child))
      owners = owners-step old mid wrote new child key n a b m a' b' m' counted stored'.counted o.copies (wrote-owners counted o) o.sets o.fewer apart

  -- the same, from what contracts and the calls below say
  pub OwnsChild-seen : {old mid wrote new : List (Option (Slot T))} {place index child key owners a b m parent : ℕ} {heap : Heap T} → IsCounted old → seen old a b m ≡ heap → place ≡ parent → Copies old mid child key → IsCounted mid → Rewrites mid wrote place (head_of (graph_of mid place)) (set (links_of (graph_of mid place)) index key) → SetsOwners wrote new child (owners - 1) → rows_of_slots new ≡ rows_of_slots wrote
      → owners ≡ owners_in (slot_at old child) → owners ≢ 1 → owners_at heap parent ≡ 1 → index < length (links_at heap parent) → child ≡ get_or (links_at heap parent) index 0 → OwnsChild old mid wrote new place index child key (owners - 1)
  OwnsChild-seen {old} {place = place} {index} {child} counted heap_is parent_is copies counted' rewrites sets rows read more sole inside child_is =
      let row = row-seen counted heap_is parent_is in
      let within : index < length (links_of (graph_of old place)) = omega (arith, inside, ap (λ r. length (links_of r)) row) in
      let child_was : child ≡ get_or (links_of (graph_of old place)) index 0 = child_is ∙ ap (λ r. get_or (links_of r) index 0) row in
      let owned = placed old place child (count-at (links_of (graph_of old place)) index child within (sym child_was)) in
      record {
        copies = copies;
        counted = counted';
        rewrites = rewrites;
        sets = sets;
        rows = rows;
        fewer = omega (arith, read, owned, counted.places child);
        some = omega (arith, read, owned, counted.places child, more);
        sole = owners-seen counted heap_is parent_is ∙ sole;
        inside = within;
        child_is = child_was;
      }

  -- the parent still has its links once the copy is made
  pub inside-copied : {old mid : List (Option (Slot T))} {place child key index a b m parent : ℕ} {heap : Heap T} → IsCounted old → seen old a b m ≡ heap → place ≡ parent → Copies old mid child key → owners_at heap parent ≡ 1 → index < length (links_at heap parent) → index < length (links_of (graph_of mid place))
  inside-copied {old} {place = place} counted heap_is parent_is copies sole within =
      let live = live-owned (slot_at old place) (omega (arith, owners-seen counted heap_is parent_is, sole)) in
      omega (arith, within, ap (λ r. length (links_of r)) (row-seen counted heap_is parent_is), ap (λ r. length (links_of r)) (copies.others place (copy-apart copies place live)))

-- What else goes into changes at a row: what is built, what is held beside, and releases.
use Rattle.std.proofs.Common.{◌≡◌, ◌≢◌, ◌⊎◌, ℕ, suc, zero, ◌+◌, ◌<◌, ◌≤◌, List, [], ◌∷◌, get_or, refl, sym, ap, subst, ◌∙◌, arith, Option, Some, None, IsSome, inl, inr}
use Rattle.std.specs.Prelude.{sum_by}
use Rattle.std.proofs.lemmas.Bool.{cases_eq, cases_lt}
use Rattle.std.proofs.lemmas.List.Sums.{sum_by-cons}
use Rattle.node_heap.specs.Links.{count, HasLink, Reaches, here, below}
use Rattle.node_heap.specs.Forms.{Row, cell, node, links_of, is_cell, is_node}
use Rattle.node_heap.specs.Heap.{Heap, row_at, links_at, holds_at, owners_at, live_count, places_in, one_at, IsGraph}
use Rattle.node_heap.specs.Calls.{AddsOwner, KeepsHeld, Unchanged, Makes, MakesJust, Builds, Releases, Gains}
use Rattle.node_heap.specs.InPlace.{OwnsDown, KeepsApart, Changes}
use Rattle.node_heap.proofs.Counts.{count-cons, one_at-flip, test_same, test_other, le-sum_by, sum_by-fewer, sum_by-apart}
use Rattle.node_heap.proofs.Reach.{HasLink-same, Reaches-trans}
use Rattle.node_heap.proofs.Frames.{KeepsHeld-Extends, KeepsHeld-Releases, KeepsHeld-Unchanged, Extends-Unchanged, Makes-trans, Balances-Releases}
use Rattle.node_heap.proofs.BuildLemmas.{count-one}
use Rattle.node_heap.proofs.GraphLemmas.{linked-places, IsGraph-acyclic, IsGraph-owned, IsGraph-kinds}
use Rattle.node_heap.proofs.Ways.{Reaches-last, Reaches-around, Reaches-avoids, around-path}
use Rattle.node_heap.proofs.Edited.{IsOwners-heap, linked_live, Reaches-back, KeepsBelow-apart, KeepsApart-KeepsHeld, KeepsPaths-Extends, Trades-Builds, Trades-Unchanged}
use Rattle.node_heap.proofs.Owners.{KeepsOwners-Unchanged}

-- where no term falls, and one was nothing, the sum rises by that one
sum-fresh : {X : Type 0} (f : X → ℕ) (d : X) → f d ≡ 0 → (xs ys : List X) (key : ℕ) → f (get_or xs key d) ≡ 0 → ((k : ℕ) → f (get_or xs k d) ≤ f (get_or ys k d)) → sum_by f xs + f (get_or ys key d) ≤ sum_by f ys
sum-fresh f d none [] ys key at each = omega (arith, le-sum_by f d none ys key)
sum-fresh f d none (x ∷ xs) [] key at each = omega (arith, none, sum_by-fewer f d none [] (x ∷ xs) each)
sum-fresh f d none (x ∷ xs) (y ∷ ys) zero at each = omega (arith, at, sum_by-cons f x xs, sum_by-cons f y ys, sum_by-fewer f d none ys xs (λ k. each (suc k)))
sum-fresh f d none (x ∷ xs) (y ∷ ys) (suc key) at each = omega (arith, each 0, sum_by-cons f x xs, sum_by-cons f y ys, sum-fresh f d none xs ys key at (λ k. each (suc k)))

module _ {T : Type 0} where
  row_or : (r : Option (Row T)) → (IsSome r) ⊎ (r ≡ None)
  row_or None = inr refl
  row_or (Some x) = inl refl

  -- no row was freed, and each that came was made of a spare
  pub Gains-trans : {old mid new : Heap T} → Gains old mid → Gains mid new → Gains old new
  Gains-trans one two = record {
    stays = λ l live. two.stays l (one.stays l live);
    cells = one.cells + two.cells;
    nodes = one.nodes + two.nodes;
    makes = Makes-trans one.makes two.makes;
  }

  pub Gains-Builds : {old new : Heap T} {spent gained : List ℕ} {c n : ℕ} → Builds old new spent gained c n → Gains old new
  Gains-Builds builds = record { stays = builds.extends.live; cells = builds.cells; nodes = builds.nodes; makes = builds.makes }

  pub Gains-Changes : {first : ℕ} {old new : Heap T} {spent gained : List ℕ} {c n cells nodes : ℕ} → Changes first old new spent gained c n → ((k : ℕ) → k ≢ first → IsSome (row_at old k) → row_at new k ≡ row_at old k) → Makes old new cells nodes → Gains old new
  Gains-Changes {first} {old} {new} {cells = cells} {nodes = nodes} change others makes = record { stays = stays; cells = cells; nodes = nodes; makes = makes }
    where
      stays : (l : ℕ) → IsSome (row_at old l) → IsSome (row_at new l)
      stays l live = elim (cases_eq l first) as (λ _. IsSome (row_at new l)) [
        | inl same ↦ change.paths.live l (subst (Reaches (links_at old) l) same (here l)) live
        | inr other ↦ rw (others l other live) live
      ]

  pub MakesJust-Gains : {old new : Heap T} → Gains old new → MakesJust old new
  MakesJust-Gains gains = omega (arith, gains.makes.made, gains.makes.live)

  -- a held link that doesn't reach a path's first row doesn't reach its last
  pub paths-off : (h : Heap T) (first last l : ℕ) → OwnsDown h first last → 0 < holds_at h l → ¬ Reaches (links_at h) l first → ¬ Reaches (links_at h) l last
  paths-off h first last l path held off way = around-path (holds_at h) (owners_at h) (links_at h) (IsOwners-heap h) first last l path held (Reaches-around (links_at h) first l last way off)

  -- no other hold reaches a row whose one owner is a hold
  pub roots-off : (h : Heap T) (first l : ℕ) → 0 < holds_at h first → owners_at h first ≡ 1 → one_at first l < holds_at h l → ¬ Reaches (links_at h) l first
  roots-off h first l held one some way = elim (Reaches-last (links_at h) l first way) as (λ _. ⊥) [
    | inl same ↦ absurd (omega (arith, some, ap (λ k. one_at first k) same, test_same first first refl, ap (holds_at h) same, one))
    | inr last ↦ absurd (omega (arith, held, one, linked-places h.rows last.0 first last.2))
  ]

  -- what is built, where the rows above that had one owner have one still
  pub Changes-Builds : {old new : Heap T} {spent gained : List ℕ} {c n : ℕ} (first : ℕ) → IsGraph old → ((k : ℕ) → Reaches (links_at old) k first → owners_at old k ≡ 1 → owners_at new k ≡ 1) → Builds old new spent gained c n → Changes first old new spent gained c n
  Changes-Builds {old} {new} {spent} first graph soles builds = record {
    apart = KeepsApart-KeepsHeld first (KeepsHeld-Extends (λ l. count l spent) old new graph builds.extends (λ l. omega (arith, builds.holds l)));
    paths = KeepsPaths-Extends first builds.extends soles;
    trades = Trades-Builds builds;
  }

  -- one hold more of a link that doesn't reach the row
  pub Changes-hold : {old new : Heap T} (first link : ℕ) → IsGraph old → AddsOwner old new link → Builds old new [] (link ∷ []) 0 0 → ¬ Reaches (links_at old) link first → Changes first old new [] (link ∷ []) 0 0
  Changes-hold {old} first link graph owners builds off =
      Changes-Builds first graph (λ k up one. omega (arith, one, owners k, test_other k link (λ same. off (subst (λ j. Reaches (links_at old) j first) same up)))) builds

  -- nothing but spares has changed
  pub Changes-Unchanged : {old new : Heap T} (first : ℕ) → IsGraph old → Unchanged old new → Changes first old new [] [] 0 0
  Changes-Unchanged {old} {new} first graph same = record {
    apart = KeepsApart-KeepsHeld first (KeepsHeld-Unchanged old new graph same);
    paths = KeepsPaths-Extends first (Extends-Unchanged same) (λ k up one. KeepsOwners-Unchanged old new same k ∙ one);
    trades = Trades-Unchanged same;
  }

  -- a row above the first is reached around it
  above-off : (h : Heap T) → IsGraph h → (m first : ℕ) → Reaches (links_at h) m first → m ≢ first → ¬ Reaches (links_at h) first m
  above-off h graph a b (here l) other back = other refl
  above-off h graph a b (below l k m has rest) other back = IsGraph-acyclic h graph l k has (Reaches-trans (links_at h) k m l rest back)

  pub rows-above : {first : ℕ} {spent : ℕ → ℕ} {old new : Heap T} → IsGraph old → KeepsApart first spent old new → (l m : ℕ) → spent l < holds_at old l → Reaches (links_at old) l m → Reaches (links_at old) m first → m ≢ first → row_at new m ≡ row_at old m
  rows-above {first} {spent} {old} graph keeps l m some down up other = keeps.kept l m some (Reaches-avoids (links_at old) first l m down (above-off old graph m first up other))

  -- at a row whose one owner is a hold: no other held link reaches it
  pub KeepsHeld-own : {old new : Heap T} {spent gained : List ℕ} {c n : ℕ} (first : ℕ) → 0 < holds_at old first → owners_at old first ≡ 1 → Changes first old new spent gained c n → KeepsHeld (λ l. count l (first ∷ spent)) old new
  KeepsHeld-own {old} {new} {spent} first held one change = record {
    live = λ l some. change.trades.graph.held l (omega (arith, left l some, change.trades.holds l));
    kept = λ l some. KeepsBelow-apart change.apart l (left l some) (roots-off old first l held one (omega (arith, some, count-cons l first spent, one_at-flip l first)));
    left = λ l. omega (arith, change.trades.holds l, count-cons l first spent);
  }
    where
      left : (l : ℕ) → count l (first ∷ spent) < holds_at old l → count l spent < holds_at old l
      left l some = omega (arith, some, count-cons l first spent)

  -- what stands in rows stands in one of them
  placed-at : (rows : List (Option (Row T))) (k : ℕ) → 0 < places_in rows k → (l : ℕ) × (0 < count k (links_of (get_or rows l None)))
  placed-at [] k some = absurd (omega (arith, some))
  placed-at (r ∷ rows) k some = elim (cases_lt 0 (count k (links_of r))) as (λ _. (l : ℕ) × (0 < count k (links_of (get_or (r ∷ rows) l None)))) [
    | inl has ↦ (0, has)
    | inr none ↦ let rest = placed-at rows k (omega (arith, some, none, sum_by-cons (λ (o : Option (Row T)). count k (links_of o)) r rows)) in (suc rest.0, rest.1)
  ]

  -- what has an owner is a row
  pub owned-live : (h : Heap T) → IsGraph h → (k : ℕ) → 0 < owners_at h k → IsSome (row_at h k)
  owned-live h graph k some = elim (cases_lt 0 (holds_at h k)) as (λ _. IsSome (row_at h k)) [
    | inl held ↦ graph.held k held
    | inr none ↦ let place = placed-at h.rows k (omega (arith, some, none)) in graph.closed place.0 k place.1
  ]

  -- a row that is gone or the same has no more places of a link
  thin_row : (r s : Option (Row T)) (k : ℕ) → (IsSome r → r ≡ s) → count k (links_of r) ≤ count k (links_of s)
  thin_row None s k same = omega arith
  thin_row (Some x) s k same = omega (arith, ap (λ o. count k (links_of o)) (same refl))

  module _ (old new : Heap T) (link : ℕ) (graph : IsGraph old) (rel : Releases old new link) where
    -- the rows above a row that the link doesn't reach stay
    module _ (first : ℕ) (off : ¬ Reaches (links_at old) link first) where
      above : (k : ℕ) → Reaches (links_at old) k first → IsSome (row_at old k) → IsSome (row_at new k)
      above k up live =
          let from = graph.reached k live in
          let other = test_other from.0 link (λ same. off (subst (λ j. Reaches (links_at old) j first) same (Reaches-trans (links_at old) from.0 k first from.2 up))) in
          (rel.stays k).1 (from.0, omega (arith, rel.holds from.0, from.1, other), from.2)

      fewer : (k : ℕ) → places_in new.rows k ≤ places_in old.rows k
      fewer k = sum_by-fewer (λ r. count k (links_of r)) None refl old.rows new.rows (λ l. thin_row (row_at new l) (row_at old l) k (rel.same l))

      pub Changes-Releases : IsGraph new → Changes first old new (link ∷ []) [] 0 0
      Changes-Releases graph' = record {
        apart = record { kept = λ l m some. (KeepsApart-KeepsHeld first (KeepsHeld-Releases old new link rel graph')).kept l m (omega (arith, some, count-one l link)) };
        paths = record {
          live = above;
          links = λ l k has up. HasLink-same (links_at old) (links_at new) l k (ap links_of (rel.same l (above l (below l k first has up) (linked_live (row_at old l) k has)))) has;
          soles = λ k up one. omega (arith, one, rel.holds k, fewer k, IsGraph-owned new graph' k (above k up (owned-live old graph k (omega (arith, one)))));
        };
        trades = record {
          graph = graph';
          holds = λ k. omega (arith, rel.holds k, count-one k link);
          total = omega (arith, rel.count);
          cells = omega (arith, rel.fewer_cells);
          nodes = omega (arith, rel.fewer_nodes);
          balance = Balances-Releases rel;
          made = omega (arith, rel.made);
        };
      }

    -- a link without links frees no other row
    module _ (leaf : links_at old link ≡ []) where
      alone-reached : (a b : ℕ) → Reaches (links_at old) a b → a ≡ link → b ≡ link
      alone-reached a b (here l) same = same
      alone-reached a b (below l k m has rest) same = absurd (omega (arith, has, ap (λ j. count k (links_at old j)) same, ap (count k) leaf))

      pub leaf-others : (k : ℕ) → k ≢ link → row_at new k ≡ row_at old k
      leaf-others k other = elim (row_or (row_at old k)) as (λ _. row_at new k ≡ row_at old k) [
        | inl live ↦
            let from = graph.reached k live in
            let off : from.0 ≢ link = λ same. other (alone-reached from.0 k from.2 same) in
            rel.same k ((rel.stays k).1 (from.0, omega (arith, rel.holds from.0, from.1, test_other from.0 link off), from.2))
        | inr gone ↦ elim (row_or (row_at new k)) as (λ _. row_at new k ≡ row_at old k) [
          | inl live ↦ rel.same k live
          | inr none ↦ none ∙ sym gone
        ]
      ]

      kinds-one : (r : Option (Row T)) → is_cell r + is_node r ≤ 1
      kinds-one None = omega arith
      kinds-one (Some (cell x)) = omega arith
      kinds-one (Some (node head links)) = omega arith

      pub leaf-one : live_count old ≤ live_count new + 1
      leaf-one = omega (
        arith,
        IsGraph-kinds old,
        IsGraph-kinds new,
        sum_by-apart is_cell None refl old.rows new.rows link leaf-others,
        sum_by-apart is_node None refl old.rows new.rows link leaf-others,
        kinds-one (row_at old link),
      )

  module _ (old new : Heap T) (spent gained : List ℕ) (c n : ℕ) (owners : (k : ℕ) → IsSome (row_at old k) → owners_at new k ≡ owners_at old k) (builds : Builds old new spent gained c n) where
    no_fewer : (x k : ℕ) → count x (links_of (row_at old k)) ≤ count x (links_of (row_at new k))
    no_fewer x k = elim (row_or (row_at old k)) as (λ _. count x (links_of (row_at old k)) ≤ count x (links_of (row_at new k))) [
      | inl some ↦ omega (arith, ap (λ r. count x (links_of r)) (builds.extends.kept k some k (here k)))
      | inr none ↦ omega (arith, ap (λ r. count x (links_of r)) none)
    ]

    spent-here : (l x : ℕ) → row_at old l ≡ None → IsSome (row_at old x) → HasLink (links_at new) l x → 0 < count x spent
    spent-here l x none live has =
        let more = sum-fresh (λ (r : Option (Row T)). count x (links_of r)) None refl old.rows new.rows l (ap (λ r. count x (links_of r)) none) (no_fewer x) in
        omega (arith, has, more, owners x live, builds.holds x)

    -- what a new row leads to of the old ones lies below what was spent
    pub new-reach : (l m : ℕ) → row_at old l ≡ None → IsSome (row_at old m) → Reaches (links_at new) l m → (s : ℕ) × (0 < count s spent) × Reaches (links_at old) s m
    new-reach l m none live (here k) = absurd cc
    new-reach l m none live (below k j z has rest) = elim (row_or (row_at old j)) as (λ _. (s : ℕ) × (0 < count s spent) × Reaches (links_at old) s m) [
      | inl some ↦ (j, spent-here l j none some has, Reaches-back old new j m (builds.extends.kept j some) rest)
      | inr gone ↦ new-reach j m gone live rest
    ]

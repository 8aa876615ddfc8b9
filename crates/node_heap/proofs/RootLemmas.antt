-- A root that was made its owner's own, and what an edit from there down is to the owner.
use Rattle.std.proofs.Common.{◌≡◌, ℕ, ◌+◌, ◌<◌, ◌≤◌, List, [], ◌∷◌, ◌++◌, length, refl, ap, sym, subst, ◌∙◌, arith, inl, inr}
use Rattle.std.proofs.lemmas.Bool.{cases_lt}
use Rattle.node_heap.specs.Links.{count, Reaches}
use Rattle.node_heap.specs.Forms.{links_of}
use Rattle.node_heap.specs.Heap.{Heap, links_at, holds_at, hold_count, IsGraph}
use Rattle.node_heap.specs.Calls.{Unchanged, KeepsOwners, KeepsToNeed, HasHolds, Gains, MakesWhatCame}
use Rattle.node_heap.specs.InPlace.{Changes, OwnsDown}
use Rattle.node_heap.specs.Owner.{Owner, by_hold, by_place, owned, held_by}
use Rattle.node_heap.specs.Root.{CanOwn, IsApart, ChangesUp, OwnsBy, OwnsRoot}
use Rattle.node_heap.proofs.Counts.{count-cons, test_same}
use Rattle.node_heap.proofs.Reach.{Reaches-by}
use Rattle.node_heap.proofs.Edited.{Changes-path, Changes-beside, Changes-more}
use Rattle.node_heap.proofs.EditLaws.{Changes-Unchanged, MakesJust-Gains}
use Rattle.node_heap.proofs.OwnerLemmas.{held-root, EditsBy-place, rows-placed}
use Rattle.node_heap.proofs.OwnedRows.{Owns, IsOwned, owned-hold, owned-same, after-room, graph-before, held-mid, apart-mid}
use Rattle.node_heap.proofs.OwnedChild.{OwnsChild, apart-child, own-apart, own-beneath, own-child-there, own-down, own-held, own-linked, gains-child, owned-child}
use Rattle.node_heap.proofs.Rewritten.{held-one}

-- a child that was made its parent's own
owned-place : {T : Type 0} {old mid : Heap T} {parent child r : ℕ} → IsGraph old → OwnsChild old mid parent child r → IsOwned (by_place parent child) old mid r
owned-place {old = old} {mid = mid} {parent = parent} {child = child} {r = r} graph o = record {
  graph = graph;
  below = own-beneath old mid parent child r graph o;
  row_same = o.row;
  same = o.same;
  sole = o.sole;
  fresh = o.fresh;
  owners = o.owners;
  came = omega (arith, o.makes.live);
  live = (gains-child old mid parent child r o).stays;
  kept = λ m other some. rows-placed old mid parent child r o.inside o.sole o.head o.links o.others m other;
  edits = λ new spent gained c n change. EditsBy-place old mid parent child r o.inside o.sole o.head o.links o.others o.changes change;
}

-- what `own_root` gives is what owning is
pub is-owned : {T : Type 0} {owner : Owner} {old new : Heap T} {r : ℕ} → OwnsRoot owner old new r → IsOwned owner old new r
is-owned o = record { graph = o.before; below = o.below; row_same = o.row_same; same = o.same; sole = o.sole; fresh = o.fresh; owners = o.owners; came = o.came; live = o.live; kept = o.kept; edits = o.edits }

-- where rows only came they were made of spares, and no more are spare than was needed
pub makes-gained : {T : Type 0} {old new : Heap T} → Gains old new → MakesWhatCame old new
makes-gained gains = record { stays = gains.stays; live = omega (arith, gains.makes.live); made = MakesJust-Gains gains }

pub needs-gained : {T : Type 0} {old new : Heap T} → Gains old new → KeepsToNeed old new 0 0
needs-gained gains = record { few_cells = omega (arith, gains.makes.spare_cells, gains.makes.cells); few_nodes = omega (arith, gains.makes.spare_nodes, gains.makes.nodes) }

module _ {T : Type 0} {owner : Owner} {old mid : Heap T} {r : ℕ} where
  owns-root : IsOwned owner old mid r → IsGraph mid → hold_count mid ≡ hold_count old → HasHolds mid (held_by owner r)
      → ((l : ℕ) → HasHolds old (held_by owner (owned old owner) ++ l ∷ []) → IsApart old owner l → (0 < holds_at mid l) × (¬ Reaches (links_at mid) l r) × IsApart mid owner l)
      → ((later : Heap T) (spent gained : List ℕ) (c n m : ℕ) → 1 + n ≤ m → Changes r mid later spent gained c n → ((l : ℕ) → 0 < count l spent → IsApart mid owner l) → ChangesUp owner old later r spent gained c m)
      → ((later : Heap T) (spent gained : List ℕ) (c n : ℕ) → Changes r mid later spent gained c n → ((l : ℕ) → 0 < count l spent → IsApart mid owner l) → (l : ℕ) → OwnsDown later r l → OwnsBy owner later l)
      → OwnsRoot owner old mid r
  owns-root o graph total held beside up down = record {
    before = o.graph;
    graph = graph;
    below = o.below;
    row_same = o.row_same;
    same = o.same;
    sole = o.sole;
    fresh = o.fresh;
    owners = o.owners;
    came = o.came;
    live = o.live;
    kept = o.kept;
    edits = o.edits;
    total = total;
    held = held;
    beside = beside;
    up = up;
    down = down;
  }

-- what is handed in beside an owner is held
pub handed : {T : Type 0} (h : Heap T) (owner : Owner) (root l : ℕ) → HasHolds h (held_by owner root ++ l ∷ []) → 0 < holds_at h l
handed h (by_hold _) root l held = let was : HasHolds h (root ∷ l ∷ []) = held in omega (arith, was l, count-cons l root (l ∷ []), count-cons l l [], test_same l l refl)
handed h (by_place _ _) root l held = let was : HasHolds h (l ∷ []) = held in omega (arith, was l, count-cons l l [], test_same l l refl)

module _ {T : Type 0} {old mid : Heap T} {r : ℕ} where
  pub root-held : {root : ℕ} → Owns old mid root r → OwnsRoot (by_hold root) old mid r
  root-held {root} o =
      owns-root (owned-hold o) o.builds.graph (omega (arith, o.builds.total)) (held-one mid r (held-root o.graph o.held o.sole o.builds))
      (λ l held apart. (held-mid o l held, apart-mid o l held, tt)) (λ later spent gained c n m most change off. tt) (λ later spent gained c n change off l down. tt)

  pub root-placed : {parent child : ℕ} → IsGraph old → OwnsChild old mid parent child r → OwnsRoot (by_place parent child) old mid r
  root-placed {parent} {child} graph o =
      owns-root (owned-place graph o) o.changes.trades.graph (omega (arith, o.changes.trades.total)) (λ k. omega arith)
      (λ l held apart.
      let h : 0 < holds_at old l = handed old (by_place parent child) (owned old (by_place parent child)) l held in
      let off = own-apart old mid parent child r graph o l h apart in
      (own-held old mid parent child r graph o l h, apart-child mid parent r l (own-linked old mid parent child r o) o.sole (own-held old mid parent child r graph o l h) off, off))
      (λ later spent gained c n m most change off.
      (Changes-more c m (Changes-beside o.changes (Changes-path (owned-child old mid parent child r o) change)) (omega arith) (omega (arith, most)), own-child-there old mid later parent child r graph o spent gained change (unspent spent off)))
      (λ later spent gained c n change off l down. own-down old mid later parent child r graph o spent gained change (unspent spent off) l down)
    where
      none-counted : (u : ℕ) (spent : List ℕ) → (0 < count u spent → ⊥) → count u spent ≡ 0
      none-counted u spent off = elim (cases_lt 0 (count u spent)) as (λ _. count u spent ≡ 0) [
        | inl some ↦ absurd (off some)
        | inr none ↦ omega (arith, none)
      ]

      unspent : (spent : List ℕ) → ((l : ℕ) → 0 < count l spent → ¬ Reaches (links_at mid) l parent) → (u : ℕ) → Reaches (links_at mid) u parent → count u spent ≡ 0
      unspent spent off u way = none-counted u spent (λ some. off u some way)

-- room was made first
module _ {T : Type 0} {first old : Heap T} (room : Unchanged first old) where
  -- the owner is there still
  pub can-room : (owner : Owner) → KeepsOwners first old → CanOwn first owner → CanOwn old owner
  can-room (by_hold root) owners can = let was : 0 < holds_at first root = can in let is : 0 < holds_at old root = omega (arith, was, room.holds root) in is
  can-room (by_place parent index) owners can = (omega (arith, can.0, ap (λ w. length (links_of w)) (room.rows parent)), omega (arith, can.1, owners parent))

  pub held-room : (owner : Owner) (l : ℕ) → HasHolds first (held_by owner (owned first owner) ++ l ∷ []) → HasHolds old (held_by owner (owned old owner) ++ l ∷ [])
  held-room owner l held k = omega (arith, subst (λ x. count k (held_by owner x ++ l ∷ []) ≤ holds_at first k) (sym (owned-same room owner)) (held k), room.holds k)

  pub apart-room : (owner : Owner) (l : ℕ) → IsApart first owner l → IsApart old owner l
  apart-room (by_hold _) l apart = tt
  apart-room (by_place parent _) l apart = λ way. apart (Reaches-by (links_at old) (links_at first) (λ k. ap links_of (sym (room.rows k))) l parent way)

  pub up-room : (owner : Owner) (later : Heap T) (r : ℕ) (spent gained : List ℕ) (c m n : ℕ) → m ≤ n → ChangesUp owner old later r spent gained c m → ChangesUp owner first later r spent gained c n
  up-room (by_hold _) later r spent gained c m n most up = tt
  up-room (by_place parent _) later r spent gained c m n most up = (Changes-more c n (Changes-beside (Changes-Unchanged parent (graph-before room) room) up.0) (omega arith) (omega (arith, most)), up.1)

  pub root-room : {owner : Owner} {mid : Heap T} {r : ℕ} → OwnsRoot owner old mid r → OwnsRoot owner first mid r
  root-room {owner} {mid} {r} o =
      owns-root (after-room room (is-owned o)) o.graph (o.total ∙ room.count) o.held
      (λ l held apart. o.beside l (held-room owner l held) (apart-room owner l apart))
      (λ later spent gained c n m most change off. up-room owner later r spent gained c m m (omega arith) (o.up later spent gained c n m most change off))
      o.down

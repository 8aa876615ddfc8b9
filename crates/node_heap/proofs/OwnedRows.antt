-- What an owner owns made its own, and what an edit from there down is to the owner.
use Rattle.std.proofs.Common.{◌≡◌, ◌≢◌, ℕ, ◌+◌, ◌*◌, ◌<◌, ◌≤◌, List, [], ◌∷◌, length, refl, ap, subst, sym, ◌∙◌, arith, None, IsSome, inl, inr}
use Rattle.std.specs.Prelude.{◌↔◌, slice_index}
use Rattle.node_heap.specs.Links.{count, HasLink, Reaches, here}
use Rattle.node_heap.specs.Forms.{links_of}
use Rattle.node_heap.specs.Heap.{Heap, row_at, links_at, holds_at, owners_at, live_count, one_at, IsGraph}
use Rattle.node_heap.specs.Calls.{KeepsBelow, Unchanged, HasGreater, KeepsToNeed, Makes, Builds, Gains, HasHolds, MakesWhatCame}
use Rattle.node_heap.specs.InPlace.{other_at, Changes}
use Rattle.node_heap.specs.Owner.{Owner, by_hold, by_place, owned, with_root, EditsBy}
use Rattle.node_heap.proofs.Counts.{count-cons, one_at-flip, test_same}
use Rattle.node_heap.proofs.Reach.{Reaches-by}
use Rattle.node_heap.proofs.Ways.{Reaches-last}
use Rattle.node_heap.proofs.GraphLemmas.{linked-places}
use Rattle.node_heap.proofs.Owners.{KeepsOwners-Unchanged}
use Rattle.node_heap.proofs.RoomLemmas.{KeepsToNeed-reserved}
use Rattle.node_heap.proofs.EditLaws.{MakesJust-Gains}
use Rattle.node_heap.proofs.OwnerLemmas.{held-root, EditsBy-hold, EditsBy-Unchanged}

-- a held node was made one's own: it is r now
pub record Owns {T : Type 0} (old mid : Heap T) (root r : ℕ) : Type 0 where
  pub graph : IsGraph old
  pub held : 0 < holds_at old root
  pub same : (r ≡ root) ↔ (owners_at old root ≡ 1)
  pub row_same : row_at mid r ≡ row_at old root
  pub sole : owners_at mid r ≡ 1
  pub fresh : r ≢ root → row_at old r ≡ None
  pub owners : (k : ℕ) → owners_at mid k + one_at root k ≡ owners_at old k + (one_at r k + other_at root r * count k (links_at old root))
  pub builds : Builds old mid (root ∷ []) (r ∷ []) 0 1
  pub makes : Makes old mid 0 (other_at root r)

-- from the clauses of `own`, whose argument is the edit's own root
pub owns : {T : Type 0} {old mid : Heap T} {root self r : ℕ} → root ≡ self → IsGraph old → 0 < holds_at old self → (r ≡ root) ↔ (owners_at old root ≡ 1) → row_at mid r ≡ row_at old root → owners_at mid r ≡ 1 → (r ≢ root → row_at old r ≡ None)
    → ((k : ℕ) → owners_at mid k + one_at root k ≡ owners_at old k + (one_at r k + other_at root r * count k (links_at old root))) → Builds old mid (root ∷ []) (r ∷ []) 0 1 → Makes old mid 0 (other_at root r) → Owns old mid self r
owns is graph held same row sole fresh owners builds makes =
    record { graph = graph; held = held; same = rw is at same; row_same = rw is at row; sole = sole; fresh = rw is at fresh; owners = rw is at owners; builds = rw is at builds; makes = rw is at makes }

-- what an owner owns was made its own: it is r now, and all below it stays
pub record IsOwned {T : Type 0} (owner : Owner) (old mid : Heap T) (r : ℕ) : Type 0 where
  pub graph : IsGraph old
  pub below : KeepsBelow old mid (owned old owner)
  pub row_same : row_at mid r ≡ row_at old (owned old owner)
  pub same : (r ≡ owned old owner) ↔ (owners_at old (owned old owner) ≡ 1)
  pub sole : owners_at mid r ≡ 1
  pub fresh : r ≢ owned old owner → row_at old r ≡ None
  pub owners : (k : ℕ) → owners_at mid k + one_at (owned old owner) k ≡ owners_at old k + (one_at r k + other_at (owned old owner) r * count k (links_at old (owned old owner)))
  pub came : live_count mid ≡ live_count old + other_at (owned old owner) r
  pub live : (m : ℕ) → IsSome (row_at old m) → IsSome (row_at mid m)
  pub kept : (m : ℕ) → m ≢ r → IsSome (row_at old m) → row_at mid m ≡ with_root owner r m (row_at old m)
  pub edits : (new : Heap T) (spent gained : List ℕ) (c n : ℕ) → Changes r mid new spent gained c n → EditsBy owner old new r spent gained c (1 + n)

-- a held root that was made its holder's own
pub owned-hold : {T : Type 0} {old mid : Heap T} {root r : ℕ} → Owns old mid root r → IsOwned (by_hold root) old mid r
owned-hold {root = root} o = record {
  graph = o.graph;
  below = o.builds.extends.kept root (o.graph.held root o.held);
  row_same = o.row_same;
  same = o.same;
  sole = o.sole;
  fresh = o.fresh;
  owners = o.owners;
  came = omega (arith, o.makes.live);
  live = o.builds.extends.live;
  kept = λ m other some. o.builds.extends.kept m some m (here m);
  edits = λ new spent gained c n change. EditsBy-hold o.graph o.held o.sole o.builds change;
}

-- room was made first
module _ {T : Type 0} {first old : Heap T} (u : Unchanged first old) where
  pub graph-before : IsGraph first
  graph-before = record {
    closed = λ l k has. subst IsSome (u.rows k) (u.graph.closed l k (link l k has));
    held = λ l some. subst IsSome (u.rows l) (u.graph.held l (omega (arith, some, u.holds l)));
    reached = λ l live.
        let up = u.graph.reached l (subst IsSome (sym (u.rows l)) live) in
        (up.0, omega (arith, up.1, u.holds up.0), Reaches-by (links_at old) (links_at first) (λ k. ap links_of (sym (u.rows k))) up.0 l up.2);
    rank = u.graph.rank;
    falls = λ l k has. u.graph.falls l k (link l k has);
    short = λ l. omega (arith, u.graph.short l, ap (λ w. length (links_of w)) (u.rows l));
    few_holds = omega (arith, u.graph.few_holds, u.count);
    few_rows = omega (arith, u.graph.few_rows, u.live, u.spare_cells, u.spare_nodes);
    few_made = omega (arith, u.graph.few_made, u.made);
  }
    where
      link : (l k : ℕ) → HasLink (links_at first) l k → HasLink (links_at old) l k
      link l k has = subst (λ w. 0 < count k (links_of w)) (sym (u.rows l)) has

  pub owned-same : (owner : Owner) → owned old owner ≡ owned first owner
  owned-same (by_hold _) = refl
  owned-same (by_place parent index) = ap (λ w. slice_index (links_of w) index) (u.rows parent)

  pub after-room : {owner : Owner} {mid : Heap T} {r : ℕ} → IsOwned owner old mid r → IsOwned owner first mid r
  after-room {owner} {mid} {r} o =
      let e = owned-same owner in
      let now : ℕ = owned first owner in
      let owners = KeepsOwners-Unchanged first old u in
      record {
        graph = graph-before;
        below = λ m way. o.below m (subst (λ x. Reaches (links_at old) x m) (sym e) (Reaches-by (links_at first) (links_at old) (λ k. ap links_of (u.rows k)) now m way)) ∙ u.rows m;
        row_same = o.row_same ∙ u.rows (owned old owner) ∙ ap (row_at first) e;
        same = (
          λ is. omega (arith, o.same.0 (is ∙ sym e), owners (owned old owner), ap (owners_at first) e),
          λ one. o.same.1 (omega (arith, one, owners (owned old owner), ap (owners_at first) e)) ∙ e,
        );
        sole = o.sole;
        fresh = λ other. sym (u.rows r) ∙ o.fresh (λ is. other (is ∙ e));
        owners = λ k. omega (
          arith,
          o.owners k,
          owners k,
          ap (λ (x : ℕ). one_at x k) e,
          ap (λ (x : ℕ). other_at x r * count k (links_at old x)) e,
          ap (λ w. other_at now r * count k (links_of w)) (u.rows now),
        );
        came = omega (arith, o.came, u.live, ap (λ (x : ℕ). other_at x r) e);
        live = λ m some. o.live m (subst IsSome (sym (u.rows m)) some);
        kept = λ m other some. o.kept m other (subst IsSome (sym (u.rows m)) some) ∙ ap (with_root owner r m) (u.rows m);
        edits = λ new spent gained c n change. EditsBy-Unchanged first old u owner (o.edits new spent gained c n change);
      }

  -- and the step after it made rows of spares and freed none
  module _ {new : Heap T} (gains : Gains old new) where
    pub makes-came : MakesWhatCame first new
    makes-came = record {
      stays = λ l some. gains.stays l (subst IsSome (sym (u.rows l)) some);
      live = omega (arith, gains.makes.live, u.live);
      made = let just = MakesJust-Gains gains in omega (arith, just, u.made, u.live);
    }

    pub to-need : {cells nodes : ℕ} → HasGreater first old cells nodes → KeepsToNeed first new cells nodes
    to-need room =
        let keeps : KeepsToNeed old new 0 0 = record { few_cells = omega (arith, gains.makes.spare_cells, gains.makes.cells); few_nodes = omega (arith, gains.makes.spare_nodes, gains.makes.nodes) } in
        KeepsToNeed-reserved room u (omega arith) (omega arith) keeps

-- what is handed in beside a held root that was made its holder's own
module _ {T : Type 0} {old mid : Heap T} {root r : ℕ} (o : Owns old mid root r) (e : ℕ) (held : HasHolds old (root ∷ e ∷ [])) where
  held-beside : one_at root e + 1 ≤ holds_at old e
  held-beside = omega (arith, held e, count-cons e root (e ∷ []), count-cons e e [], test_same e e refl, one_at-flip root e)

  pub held-mid : 1 ≤ holds_at mid e
  held-mid = omega (arith, held-beside, o.builds.holds e, count-cons e root [], count-cons e r [], one_at-flip root e)

  pub apart-mid : ¬ Reaches (links_at mid) e r
  apart-mid way = elim (Reaches-last (links_at mid) e r way) as (λ _. ⊥) [
    | inl same ↦ absurd (omega (arith, held-beside, o.builds.holds e, count-cons e root [], count-cons e r [], one_at-flip root e, test_same r e (sym same), ap (holds_at mid) same, o.sole))
    | inr last ↦ absurd (omega (arith, held-root o.graph o.held o.sole o.builds, o.sole, linked-places mid.rows last.0 r last.2))
  ]

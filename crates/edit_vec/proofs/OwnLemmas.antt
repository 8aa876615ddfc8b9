-- What is said of a child that is made its parent's own, and what stays through that.
use Rattle.node_heap.specs.declared.row.Head.{Head}
use Rattle.std.proofs.Common.{◌≡◌, ◌≢◌, ℕ, ◌+◌, ◌*◌, ◌<◌, ◌≤◌, [], ◌∷◌, length, set, refl, ap, sym, subst, ◌∙◌, arith, None, IsSome, inl, inr, length-set, Option, Some}
use Rattle.std.specs.Prelude.{◌↔◌}
use Rattle.std.proofs.lemmas.Bool.{cases_eq}
use Rattle.std.proofs.lemmas.List.{get_or-set_same}
use Rattle.node_heap.specs.Links.{count, HasLink, Reaches, here, below}
use Rattle.node_heap.specs.Forms.{head_of}
use Rattle.node_heap.specs.Heap.{Heap, row_at, links_at, holds_at, owners_at, one_at, IsGraph}
use Rattle.node_heap.specs.Calls.{Makes, Gains, KeepsOwners}
use Rattle.node_heap.specs.InPlace.{other_at, child_at, OwnsDown, Changes, Writes}
use Rattle.node_heap.proofs.Counts.{count-cons, test_other}
use Rattle.node_heap.proofs.Frames.{Makes-trans}
use Rattle.node_heap.proofs.Reach.{Reaches-then}
use Rattle.node_heap.proofs.Ways.{Reaches-last}
use Rattle.node_heap.proofs.GraphLemmas.{IsGraph-acyclic, linked-places}
use Rattle.node_heap.proofs.EditLaws.{Gains-Changes}
use Rattle.node_heap.proofs.Edited.{count-at, IsOwners-heap, linked_live, Reaches-back, KeepsBelow-apart, OwnsDown-child, Changes-beside, Changes-more}
use Rattle.rrb_core.proofs.ClosedRows.{Stays}
use Rattle.rrb_core.proofs.LinkCounts.{all-counted}

-- the child at a place of a row was made the row's own, which has this head then: the child is c now
pub record OwnsHeaded {T : Type 0} (head : Option Head) (old mid : Heap T) (row place c : ℕ) : Type 0 where
  pub inside : place < length (links_at old row)
  pub graph : IsGraph old
  pub same : (c ≡ child_at old row place) ↔ (owners_at old (child_at old row place) ≡ 1)
  pub row_same : row_at mid c ≡ row_at old (child_at old row place)
  pub sole : owners_at mid c ≡ 1
  pub fresh : c ≢ child_at old row place → row_at old c ≡ None
  pub parent_head : head_of (row_at mid row) ≡ head
  pub parent_links : links_at mid row ≡ set (links_at old row) place c
  pub others : (k : ℕ) → k ≢ row → k ≢ c → row_at mid k ≡ row_at old k
  pub owners : (k : ℕ) → owners_at mid k + one_at (child_at old row place) k ≡ owners_at old k + (one_at c k + other_at (child_at old row place) c * count k (links_at old (child_at old row place)))
  pub changes : Changes row old mid [] [] 0 1
  pub makes : Makes old mid 0 (other_at (child_at old row place) c)
  pub stays : (k : ℕ) → k ≢ row → IsSome (row_at old k) → row_at mid k ≡ row_at old k

-- the same, where the row has the head that it had
abbrev pub OwnsChild : {T : Type 0} → Heap T → Heap T → ℕ → ℕ → ℕ → Type 0
OwnsChild old mid row place c = OwnsHeaded (head_of (row_at old row)) old mid row place c

-- from the clauses of `own_child`
pub owns-child : {T : Type 0} {old mid : Heap T} {row place c : ℕ} → IsGraph old → place < length (links_at old row) → (c ≡ child_at old row place) ↔ (owners_at old (child_at old row place) ≡ 1) → row_at mid c ≡ row_at old (child_at old row place) → owners_at mid c ≡ 1
    → (c ≢ child_at old row place → row_at old c ≡ None) → head_of (row_at mid row) ≡ head_of (row_at old row) → links_at mid row ≡ set (links_at old row) place c → ((k : ℕ) → k ≢ row → IsSome (row_at old k) → row_at mid k ≡ row_at old k)
    → ((k : ℕ) → k ≢ row → k ≢ c → row_at mid k ≡ row_at old k) → ((k : ℕ) → owners_at mid k + one_at (child_at old row place) k ≡ owners_at old k + (one_at c k + other_at (child_at old row place) c * count k (links_at old (child_at old row place))))
    → Changes row old mid [] [] 0 1 → Makes old mid 0 (other_at (child_at old row place) c) → OwnsChild old mid row place c
owns-child graph inside same row sole fresh head links stays others owners changes makes = record {
  inside = inside;
  graph = graph;
  same = same;
  row_same = row;
  sole = sole;
  fresh = fresh;
  parent_head = head;
  parent_links = links;
  stays = stays;
  others = others;
  owners = owners;
  changes = changes;
  makes = makes;
}

module _ {T : Type 0} {head : Option Head} {old mid : Heap T} {row place c : ℕ} (o : OwnsHeaded head old mid row place c) where
  pub linked : HasLink (links_at old) row (child_at old row place)
  linked = count-at (links_at old row) place (child_at old row place) o.inside refl

  pub linked-now : HasLink (links_at mid) row c
  linked-now = rw o.parent_links (count-at (set (links_at old row) place c) place c (omega (arith, o.inside, length-set (links_at old row) place c)) (get_or-set_same (links_at old row) place c 0 o.inside))

  -- all below the row, but the row
  abbrev pub IsBelow : ℕ → Type 0
  IsBelow m = (k : ℕ) × HasLink (links_at old) row k × Reaches (links_at old) k m

  live-below : (k m : ℕ) → Reaches (links_at old) k m → IsSome (row_at old k) → IsSome (row_at old m)
  live-below k m (here l) live = live
  live-below k m (below l j n has down) live = live-below j m down (o.graph.closed l j has)

  pub stays-below : Stays IsBelow old mid
  stays-below = record {
    closed = λ l b. all-counted IsBelow (links_at old l) (λ j some. (b.0, b.1, Reaches-then (links_at old) b.0 l j b.2 some));
    kept = kept;
  }
    where
      kept : (m : ℕ) → IsBelow m → row_at mid m ≡ row_at old m
      kept m b = elim (cases_eq m c) as (λ _. row_at mid m ≡ row_at old m) [
        | inl is ↦ elim (cases_eq c (child_at old row place)) as (λ _. row_at mid m ≡ row_at old m) [
          | inl child ↦ ap (row_at mid) is ∙ o.row_same ∙ ap (row_at old) (sym child ∙ sym is)
          | inr copy ↦
              let gone : row_at old m ≡ None = ap (row_at old) is ∙ o.fresh copy in
              let live = live-below b.0 m b.2 (o.graph.closed row b.0 b.1) in
              absurd cc
        ]
        | inr other ↦ o.others m (λ e. IsGraph-acyclic old o.graph row b.0 b.1 (subst (Reaches (links_at old) b.0) e b.2)) other
      ]

  pub child-below : IsBelow (child_at old row place)
  child-below = (child_at old row place, linked, here (child_at old row place))

  pub down : (first : ℕ) → OwnsDown mid first row → OwnsDown mid first c
  down first path = OwnsDown-child mid first row c place (links_at old row) path o.parent_links o.inside o.sole

  -- a row above with one owner has one still
  pub soles-above : (k : ℕ) → Reaches (links_at old) k row → owners_at old k ≡ 1 → owners_at mid k ≡ 1
  soles-above k up one = o.changes.paths.soles k up one

  -- no row went
  pub gains-child : Gains old mid
  gains-child = Gains-Changes o.changes o.stays o.makes

  -- what is held and doesn't reach the row doesn't reach the child either
  module _ {element : ℕ} (held : 1 ≤ holds_at old element) (apart : ¬ Reaches (links_at old) element row) where
    pub held-now : 1 ≤ holds_at mid element
    held-now = omega (arith, held, o.changes.trades.holds element)

    pub apart-now : ¬ Reaches (links_at mid) element row
    apart-now way = apart (Reaches-back old mid element row (KeepsBelow-apart o.changes.apart element (omega (arith, held)) apart) way)

    pub apart-child : ¬ Reaches (links_at mid) element c
    apart-child way = elim (Reaches-last (links_at mid) element c way) as (λ _. ⊥) [
      | inl same ↦ absurd (omega (arith, held-now, ap (holds_at mid) same, o.sole, linked-places mid.rows row c linked-now))
      | inr last ↦ apart-now (subst (Reaches (links_at mid) element) ((IsOwners-heap mid).only row last.0 c linked-now last.2 o.sole) last.1)
    ]

    -- a hold that is left leads to the row
    pub holder : (u : ℕ) × (count u (element ∷ []) < holds_at mid u) × Reaches (links_at mid) u row
    holder =
        let up = o.changes.trades.graph.reached row (linked_live (row_at mid row) c linked-now) in
        let off : up.0 ≢ element = λ same. apart-now (subst (λ j. Reaches (links_at mid) j row) same up.2) in
        (up.0, omega (arith, up.1, count-cons up.0 element [], test_other up.0 element off), up.2)

-- the head of the row was written then
pub owns-headed : {T : Type 0} {old mid last : Heap T} {row place c : ℕ} {head : Head} → OwnsChild old mid row place c → Writes mid last row (Some head) (links_at mid row) → KeepsOwners mid last → Changes row mid last [] [] 0 0 → Makes mid last 0 0 → OwnsHeaded (Some head) old last row place c
owns-headed {T} {old} {mid} {last} {row} {place} {c} o writes owners edit makes =
    let off : c ≢ row = λ e. IsGraph-acyclic mid o.changes.trades.graph row c (linked-now o) (subst (Reaches (links_at mid) c) e (here c)) in
    let more : ℕ = other_at (child_at old row place) c in
    let none : more + 0 ≡ more = omega arith in
    record {
      inside = o.inside;
      graph = o.graph;
      same = o.same;
      row_same = writes.others c off ∙ o.row_same;
      sole = owners c ∙ o.sole;
      fresh = o.fresh;
      parent_head = writes.new_head;
      parent_links = writes.new_links ∙ o.parent_links;
      stays = λ k other live. writes.others k other ∙ o.stays k other live;
      others = λ k other off'. writes.others k other ∙ o.others k other off';
      owners = λ k. omega (arith, owners k, o.owners k);
      changes = Changes-more 0 1 (Changes-beside o.changes edit) (omega arith) (omega arith);
      makes = subst (λ m. Makes old last 0 m) none (Makes-trans o.makes makes);
    }

-- A child that was made its parent's own, and what a change from there down is to the parent.
use Rattle.std.proofs.Common.{◌≡◌, ◌≢◌, ℕ, ◌+◌, ◌*◌, ◌<◌, List, [], ◌∷◌, length, get_or, set, refl, ap, subst, ◌∙◌, arith, IsSome, None, inl, inr}
use Rattle.std.specs.Prelude.{◌↔◌}
use Rattle.std.proofs.lemmas.Bool.{cases_eq}
use Rattle.std.proofs.lemmas.List.{get_or-set_same, length-set}
use Rattle.node_heap.specs.Links.{Links, count, HasLink, Reaches, here}
use Rattle.node_heap.specs.Forms.{links_of, head_of}
use Rattle.node_heap.specs.Heap.{Heap, row_at, links_at, holds_at, owners_at, one_at, IsGraph}
use Rattle.node_heap.specs.Calls.{KeepsBelow, Makes, Gains}
use Rattle.node_heap.specs.InPlace.{child_at, other_at, IsSolePath, path_start, path_then, OwnsDown, Changes}
use Rattle.node_heap.proofs.Counts.{count-cons, test_other}
use Rattle.node_heap.proofs.Ways.{Reaches-last, Reaches-avoids}
use Rattle.node_heap.proofs.GraphLemmas.{IsGraph-acyclic}
use Rattle.node_heap.proofs.Frames.{Reaches-live}
use Rattle.node_heap.proofs.Edited.{count-at, linked_live, IsOwners-heap, KeepsBelow-apart, Reaches-back}
use Rattle.node_heap.proofs.EditLaws.{Gains-Changes}

-- a path with one owner a row, from a row further up
pub sole-before : (O : ℕ → ℕ) (L : Links) (p k x : ℕ) → HasLink L p k → O k ≡ 1 → IsSolePath O L k x → IsSolePath O L p x
sole-before O L p k x has one path_start = path_then p k path_start has one
sole-before O L p k x has one (path_then l m path step sole) = path_then l m (sole-before O L p k l has one path) step sole

-- the only link of a list
pub only-one : (u l : ℕ) → 0 < count u (l ∷ []) → u ≡ l
only-one u l some = elim (cases_eq u l) as (λ _. u ≡ l) [
  | inl same ↦ same
  | inr other ↦ absurd (omega (arith, some, count-cons u l [], test_other u l other))
]

module _ {T : Type 0} where
  -- the child at an index is a link of the row
  pub child-linked : (h : Heap T) (parent index : ℕ) → index < length (links_at h parent) → HasLink (links_at h) parent (child_at h parent index)
  child-linked h parent index inside = count-at (links_at h parent) index (child_at h parent index) inside refl

  -- a link that is held and doesn't reach a row doesn't reach a child of it that has one owner
  pub apart-child : (h : Heap T) (row k l : ℕ) → HasLink (links_at h) row k → owners_at h k ≡ 1 → 0 < holds_at h l → ¬ Reaches (links_at h) l row → ¬ Reaches (links_at h) l k
  apart-child h row k l linked one held off way = elim (Reaches-last (links_at h) l k way) as (λ _. ⊥) [
    | inl same ↦ absurd (omega (arith, ap (holds_at h) same, (IsOwners-heap h).unheld row k linked one, held))
    | inr last ↦ off (subst (Reaches (links_at h) l) ((IsOwners-heap h).only row last.0 k linked last.2 one) last.1)
  ]

  -- the child at an index was made the row's own, as `own_child` says
  pub record OwnsChild (old new : Heap T) (parent index copy : ℕ) : Type 0 where
    pub inside : index < length (links_at old parent)
    pub same : (copy ≡ child_at old parent index) ↔ (owners_at old (child_at old parent index) ≡ 1)
    pub row : row_at new copy ≡ row_at old (child_at old parent index)
    pub sole : owners_at new copy ≡ 1
    pub fresh : copy ≢ child_at old parent index → row_at old copy ≡ None
    pub head : head_of (row_at new parent) ≡ head_of (row_at old parent)
    pub links : links_at new parent ≡ set (links_at old parent) index copy
    pub stays : (k : ℕ) → k ≢ parent → IsSome (row_at old k) → row_at new k ≡ row_at old k
    pub others : (k : ℕ) → k ≢ parent → k ≢ copy → row_at new k ≡ row_at old k
    pub owners : (k : ℕ) → owners_at new k + one_at (child_at old parent index) k ≡ owners_at old k + (one_at copy k + other_at (child_at old parent index) copy * count k (links_at old (child_at old parent index)))
    pub changes : Changes parent old new [] [] 0 1
    pub makes : Makes old new 0 (other_at (child_at old parent index) copy)

  -- from the clauses of `own_child`
  pub owns-child : {old new : Heap T} {parent index copy : ℕ} → index < length (links_at old parent) → (copy ≡ child_at old parent index) ↔ (owners_at old (child_at old parent index) ≡ 1) → row_at new copy ≡ row_at old (child_at old parent index) → owners_at new copy ≡ 1
      → (copy ≢ child_at old parent index → row_at old copy ≡ None) → head_of (row_at new parent) ≡ head_of (row_at old parent) → links_at new parent ≡ set (links_at old parent) index copy → ((k : ℕ) → k ≢ parent → IsSome (row_at old k) → row_at new k ≡ row_at old k)
      → ((k : ℕ) → k ≢ parent → k ≢ copy → row_at new k ≡ row_at old k) → ((k : ℕ) → owners_at new k + one_at (child_at old parent index) k ≡ owners_at old k + (one_at copy k + other_at (child_at old parent index) copy * count k (links_at old (child_at old parent index))))
      → Changes parent old new [] [] 0 1 → Makes old new 0 (other_at (child_at old parent index) copy) → OwnsChild old new parent index copy
  owns-child inside same row sole fresh head links stays others owners changes makes = record {
    inside = inside;
    same = same;
    row = row;
    sole = sole;
    fresh = fresh;
    head = head;
    links = links;
    stays = stays;
    others = others;
    owners = owners;
    changes = changes;
    makes = makes;
  }

  module _ (old new : Heap T) (parent index copy : ℕ) where
    pub own-there : OwnsChild old new parent index copy → child_at new parent index ≡ copy
    own-there own = ap (λ ks. get_or ks index 0) own.links ∙ get_or-set_same (links_at old parent) index copy 0 own.inside

    pub own-linked : OwnsChild old new parent index copy → HasLink (links_at new) parent copy
    own-linked own = subst (HasLink (links_at new) parent) (own-there own) (child-linked new parent index (omega (arith, own.inside, ap length own.links, length-set (links_at old parent) index copy)))

    -- the child itself has one owner
    pub owned-child : OwnsChild old new parent index copy → OwnsDown new parent copy
    owned-child own = path_then parent copy path_start (own-linked own) own.sole

    -- no row went
    pub gains-child : OwnsChild old new parent index copy → Gains old new
    gains-child own = Gains-Changes own.changes own.stays own.makes

  module _ (old new : Heap T) (parent index copy : ℕ) (graph : IsGraph old) (own : OwnsChild old new parent index copy) where
    -- each row that was there is the same, but for the parent
    pub own-row : (k : ℕ) → IsSome (row_at old k) → k ≢ parent → row_at new k ≡ row_at old k
    own-row k live other = own.stays k other live

    -- what a child reaches is there, and it isn't the parent
    pub own-below : (s m : ℕ) → HasLink (links_at old) parent s → Reaches (links_at old) s m → row_at new m ≡ row_at old m
    own-below s m has way = own-row m (Reaches-live old graph s m way (graph.closed parent s has)) (λ same. IsGraph-acyclic old graph parent s has (subst (Reaches (links_at old) s) same way))

    pub own-beneath : KeepsBelow old new (child_at old parent index)
    own-beneath m way = own-below (child_at old parent index) m (child-linked old parent index own.inside) way

    -- a held link that doesn't reach the parent doesn't then, and is held still
    pub own-held : (l : ℕ) → 0 < holds_at old l → 0 < holds_at new l
    own-held l held = omega (arith, held, own.changes.trades.holds l)

    pub own-apart : (l : ℕ) → 0 < holds_at old l → ¬ Reaches (links_at old) l parent → ¬ Reaches (links_at new) l parent
    own-apart l held off way = off (Reaches-back old new l parent (KeepsBelow-apart own.changes.apart l (omega (arith, held)) off) way)

  -- a change at a child with one owner leaves the row above it
  pub parent-same : (mid new : Heap T) (parent k : ℕ) (spent gained : List ℕ) (c n : ℕ) → IsGraph mid → HasLink (links_at mid) parent k → Changes k mid new spent gained c n
      → ((u : ℕ) → Reaches (links_at mid) u parent → count u spent ≡ 0) → row_at new parent ≡ row_at mid parent
  parent-same mid new parent k spent gained c n graph linked second unspent =
      let from = graph.reached parent (linked_live (row_at mid parent) k linked) in
      second.apart.kept from.0 parent (omega (arith, from.1, unspent from.0 from.2)) (Reaches-avoids (links_at mid) k from.0 parent from.2 (IsGraph-acyclic mid graph parent k linked))

  -- a change at the child that was made the row's own
  module _ (old mid new : Heap T) (row i k : ℕ) (graph : IsGraph old) (own : OwnsChild old mid row i k) (spent gained : List ℕ) {a b : ℕ} (second : Changes k mid new spent gained a b)
      (unspent : (u : ℕ) → Reaches (links_at mid) u row → count u spent ≡ 0) where
    same_row : row_at new row ≡ row_at mid row
    same_row = parent-same mid new row k spent gained a b own.changes.trades.graph (own-linked old mid row i k own) second unspent

    pub own-child-there : child_at new row i ≡ k
    own-child-there = ap (λ r. get_or (links_of r) i 0) same_row ∙ own-there old mid row i k own

    pub own-down : (r : ℕ) → OwnsDown new k r → OwnsDown new row r
    own-down r path =
        sole-before (owners_at new) (links_at new) row k r (omega (arith, own-linked old mid row i k own, ap (λ x. count k (links_of x)) same_row)) (second.paths.soles k (here k) own.sole) path

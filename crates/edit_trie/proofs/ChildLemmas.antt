-- Changes at a child of a row with one owner add up.
use Rattle.std.proofs.Common.{◌≡◌, ◌≢◌, ℕ, ◌+◌, ◌<◌, List, [], ◌∷◌, length, get_or, set, refl, ap, sym, subst, ◌∙◌, arith, None}
use Rattle.std.proofs.lemmas.List.{get_or-set_other, length-set}
use Rattle.node_heap.specs.Links.{Links, count, HasLink, Reaches}
use Rattle.node_heap.specs.Forms.{links_of, head_of}
use Rattle.node_heap.specs.Heap.{Heap, row_at, links_at, holds_at, owners_at, IsGraph}
use Rattle.node_heap.specs.Calls.{KeepsBelow}
use Rattle.node_heap.specs.InPlace.{child_at, IsSolePath, path_start, path_then, Changes}
use Rattle.node_heap.proofs.CallerLemmas.{count-cons, test_other, le-sum_by, KeepsBelow-trans, linked_live, KeepsBelow-sibling, Changes-path, Changes-beside, count-two, OwnsChild, child-linked, own-below, own-there, parent-same}
use Rattle.edit_trie.specs.Walk.{EditsChild}

-- the last row of a path of rows with one owner has one, if the first has
pub sole-last : (O : ℕ → ℕ) (L : Links) (a b : ℕ) → IsSolePath O L a b → O a ≡ 1 → O b ≡ 1
sole-last O L a b path_start one = one
sole-last O L a b (path_then l k path has sole) one = sole

module _ {T : Type 0} where
  -- a child with one owner stands at one index
  pub child-once : (h : Heap T) (parent i j k : ℕ) → owners_at h k ≡ 1 → i < length (links_at h parent) → j < length (links_at h parent) → child_at h parent i ≡ k → child_at h parent j ≡ k → i ≢ j → ⊥
  child-once h parent i j k one in_i in_j at_i at_j other =
      omega (arith, one, count-two (links_at h parent) i j k other in_i in_j at_i at_j, le-sum_by (λ r. count k (links_of r)) None refl h.rows parent)

  -- where a held link doesn't reach a row, none that reaches the row is that one
  pub unspent-one : (h : Heap T) (row l : ℕ) → ¬ Reaches (links_at h) l row → (u : ℕ) → Reaches (links_at h) u row → count u (l ∷ []) ≡ 0
  unspent-one h row l off u up = omega (arith, count-cons u l [], test_other u l (λ same. off (subst (λ x. Reaches (links_at h) x row) same up)))

  module _ (old new : Heap T) (parent index copy : ℕ) (graph : IsGraph old) (own : OwnsChild old new parent index copy) where
    pub own-child : EditsChild parent index old new [] [] 0 1
    own-child = record {
      changes = own.changes;
      head = own.head;
      links = own.links ∙ ap (set (links_at old parent) index) (sym (own-there old new parent index copy own));
      beside = λ i within other m way. own-below old new parent index copy graph own (child_at old parent i) m (child-linked old parent i within) way;
    }

  -- a change at a child, and then one at the child that stands there, which has one owner
  pub child-then : (old mid new : Heap T) (parent index k : ℕ) (spent gained : List ℕ) (c n c' n' : ℕ) → IsGraph mid → index < length (links_at old parent)
      → EditsChild parent index old mid [] [] c n → child_at mid parent index ≡ k → owners_at mid k ≡ 1 → Changes k mid new spent gained c' n'
      → ((u : ℕ) → Reaches (links_at mid) u parent → count u spent ≡ 0) → EditsChild parent index old new spent gained (c + c') (n + n')
  child-then old mid new parent index k spent gained c n c' n' graph inside first is_child one second unspent = record {
    changes = Changes-beside first.changes (Changes-path (path_then parent k path_start linked one) second);
    head = ap head_of same_parent ∙ first.head;
    links = ap links_of same_parent ∙ first.links ∙ ap (λ ks. set (links_at old parent) index (get_or ks index 0)) (sym (ap links_of same_parent));
    beside = λ i within other. KeepsBelow-trans old mid new (child_at old parent i) (first.beside i within other) (sibling i within other);
  }
    where
      in_mid : index < length (links_at mid parent)
      in_mid = omega (arith, inside, ap length first.links, length-set (links_at old parent) index (child_at mid parent index))

      linked : HasLink (links_at mid) parent k
      linked = subst (HasLink (links_at mid) parent) is_child (child-linked mid parent index in_mid)

      from : (u : ℕ) × (0 < holds_at mid u) × Reaches (links_at mid) u parent
      from = graph.reached parent (linked_live (row_at mid parent) k linked)

      some : count from.0 spent < holds_at mid from.0
      some = omega (arith, from.1, unspent from.0 from.2)

      same_parent : row_at new parent ≡ row_at mid parent
      same_parent = parent-same mid new parent k spent gained c' n' graph linked second unspent

      same_at : (i : ℕ) → i ≢ index → child_at mid parent i ≡ child_at old parent i
      same_at i other = ap (λ ks. get_or ks i 0) first.links ∙ get_or-set_other (links_at old parent) index i (child_at mid parent index) 0 other

      sibling : (i : ℕ) → i < length (links_at old parent) → i ≢ index → KeepsBelow mid new (child_at old parent i)
      sibling i within other =
          let in_i : i < length (links_at mid parent) = omega (arith, within, ap length first.links, length-set (links_at old parent) index (child_at mid parent index)) in
          let to_other : HasLink (links_at mid) parent (child_at old parent i) = subst (HasLink (links_at mid) parent) (same_at i other) (child-linked mid parent i in_i) in
          KeepsBelow-sibling parent k (child_at old parent i) from.0 graph one linked to_other (λ same. child-once mid parent i index k one in_i in_mid (same_at i other ∙ same) is_child other) some from.2 second.apart

  -- a change at the child that was made the row's own
  module _ (old mid new : Heap T) (row i k : ℕ) (graph : IsGraph old) (own : OwnsChild old mid row i k) (spent gained : List ℕ) {a b : ℕ} (second : Changes k mid new spent gained a b)
      (unspent : (u : ℕ) → Reaches (links_at mid) u row → count u spent ≡ 0) where
    pub own-then : EditsChild row i old new spent gained (0 + a) (1 + b)
    own-then = child-then old mid new row i k spent gained 0 1 a b own.changes.trades.graph own.inside (own-child old mid row i k graph own) (own-there old mid row i k own) own.sole second unspent

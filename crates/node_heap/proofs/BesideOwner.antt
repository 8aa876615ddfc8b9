-- What is held or reached beside an owner.
use Rattle.std.proofs.Common.{◌≡◌, ◌≢◌, ℕ, ◌<◌, refl, ap, subst, arith, Bool, true, false, IsSome, inl, inr, Option, None}
use Rattle.std.specs.Prelude.{◌==◌, remove, if◌then◌else◌}
use Rattle.std.proofs.lemmas.Bool.{cases_eq}
use Rattle.std.proofs.lemmas.Bool.Decides.{nat_tests}
use Rattle.node_heap.specs.Links.{Links, count, HasLink, Reaches}
use Rattle.node_heap.specs.Forms.{Row, links_of}
use Rattle.node_heap.specs.Heap.{Heap, row_at, links_at, holds_at, owners_at, one_at, IsGraph}
use Rattle.node_heap.specs.InPlace.{child_at}
use Rattle.node_heap.specs.Owner.{Owner, by_hold, by_place, owned, holds_beside, links_beside, relinked, with_root, IsOwner}
use Rattle.node_heap.proofs.Counts.{test_same, le-sum_by}
use Rattle.node_heap.proofs.Reach.{Reaches-then}
use Rattle.node_heap.proofs.Frames.{Reaches-live}
use Rattle.node_heap.proofs.Ways.{Reaches-last}
use Rattle.node_heap.proofs.GraphLemmas.{linked-places}
use Rattle.node_heap.proofs.Edited.{count-at, IsOwners-heap}
use Rattle.node_heap.proofs.OwnerLemmas.{count-two, left-at}

-- the name by which crates above cite it
pub live-down : {T : Type 0} (h : Heap T) → IsGraph h → (k m : ℕ) → Reaches (links_at h) k m → IsSome (row_at h k) → IsSome (row_at h m)
live-down = Reaches-live

-- the ways beside the owner
module _ {T : Type 0} (owner : Owner) (old : Heap T) (is : IsOwner old owner) where
  pub beside-in : (a b : ℕ) → HasLink (links_beside old owner) a b → HasLink (links_at old) a b
  beside-in a b has = within owner has
    where
      within : (o : Owner) → HasLink (links_beside old o) a b → HasLink (links_at old) a b
      within (by_hold r) h = h
      within (by_place parent index) h = elim (cases_eq a parent) as (λ _. HasLink (links_at old) a b) [
        | inl same ↦
            let test : (a == parent) ≡ true = grind (arith, nat_tests, same) in
            let was : 0 < count b (remove (links_at old a) index) = subst (λ (t : Bool). 0 < count b (if t then remove (links_at old a) index else links_at old a)) test h in
            let f = left-at (links_at old a) index b was in
            count-at (links_at old a) f.0 b f.2 f.3
        | inr other ↦
            let test : (a == parent) ≡ false = grind (arith, nat_tests, other) in
            subst (λ (t : Bool). 0 < count b (if t then remove (links_at old a) index else links_at old a)) test h
      ]

  pub off-root : (x : ℕ) → 0 < holds_beside old owner x → owners_at old (owned old owner) ≡ 1 → ¬ Reaches (links_beside old owner) x (owned old owner)
  off-root x held one way = by owner is held one way
    where
      by : (o : Owner) → IsOwner old o → 0 < holds_beside old o x → owners_at old (owned old o) ≡ 1 → ¬ Reaches (links_beside old o) x (owned old o)
      by (by_hold r) i some sole up = elim (Reaches-last (links_at old) x r up) as (λ _. ⊥) [
        | inl same ↦ absurd (omega (arith, some, ap (λ k. one_at r k) same, test_same r r refl, ap (holds_at old) same, sole))
        | inr last ↦ absurd (omega (arith, i, sole, linked-places old.rows last.0 r last.2))
      ]
      by (by_place parent index) i some sole up =
          let c : ℕ = child_at old parent index in
          let linked : HasLink (links_at old) parent c = count-at (links_at old parent) index c i refl in
          let beside : Links = links_beside old (by_place parent index) in
          elim (Reaches-last beside x c up) as (λ _. ⊥) [
            | inl same ↦ absurd (omega (arith, some, ap (holds_at old) same, (IsOwners-heap old).unheld parent c linked sole))
            | inr last ↦ elim (cases_eq last.0 parent) as (λ _. ⊥) [
              | inl at ↦
                  let test : (last.0 == parent) ≡ true = grind (arith, nat_tests, at) in
                  let was : 0 < count c (remove (links_at old last.0) index) = subst (λ (t : Bool). 0 < count c (if t then remove (links_at old last.0) index else links_at old last.0)) test last.2 in
                  let f = left-at (links_at old parent) index c (subst (λ j. 0 < count c (remove (links_at old j) index)) at was) in
                  absurd (omega (arith, sole, count-two (links_at old parent) f.0 index c f.1 f.2 i f.3 refl, le-sum_by (λ (w : Option (Row T)). count c (links_of w)) None refl old.rows parent))
              | inr off ↦
                  let test : (last.0 == parent) ≡ false = grind (arith, nat_tests, off) in
                  let was : HasLink (links_at old) last.0 c = subst (λ (t : Bool). 0 < count c (if t then remove (links_at old last.0) index else links_at old last.0)) test last.2 in
                  off ((IsOwners-heap old).only parent last.0 c linked was sole)
            ]
          ]

  pub held-is : (x : ℕ) → 0 < holds_beside old owner x → 0 < holds_at old x
  held-is x some = by owner some
    where
      by : (o : Owner) → 0 < holds_beside old o x → 0 < holds_at old x
      by (by_hold r) more = omega (arith, more)
      by (by_place parent index) more = more

  -- what doesn't lead to the root doesn't lead to its parent
  pub same-below : (root x : ℕ) → ¬ Reaches (links_at old) x (owned old owner) → (w : ℕ) → Reaches (links_at old) x w → with_root owner root w (row_at old w) ≡ row_at old w
  same-below root x off w on = by owner is off
    where
      by : (o : Owner) → IsOwner old o → ¬ Reaches (links_at old) x (owned old o) → with_root o root w (row_at old w) ≡ row_at old w
      by (by_hold r) i off = refl
      by (by_place parent index) i off =
          let linked : HasLink (links_at old) parent (child_at old parent index) = count-at (links_at old parent) index (child_at old parent index) i refl in
          let other : w ≢ parent = λ e. off (Reaches-then (links_at old) x parent (child_at old parent index) (subst (Reaches (links_at old) x) e on) linked) in
          let test : (w == parent) ≡ false = grind (arith, nat_tests, other) in
          ap (λ (t : Bool). if t then relinked index root (row_at old w) else row_at old w) test

-- The rows that were there, and the new rows above them.
use Rattle.std.proofs.Common.{◌≡◌, ◌≢◌, ◌⊎◌, ℕ, ◌<◌, ◌≤◌, List, [], ◌∷◌, refl, ap, sym, subst, arith, Some, None, IsSome, inl, inr}
use Rattle.std.proofs.lemmas.Bool.{cases_eq}
use Rattle.node_heap.specs.Links.{Links, count, Reaches, SameBelow, here, below}
use Rattle.node_heap.specs.Forms.{node, links_of}
use Rattle.node_heap.specs.declared.row.Head.TheVariants.{Chain}
use Rattle.node_heap.specs.Heap.{Heap, row_at, links_at, holds_at, owners_at}
use Rattle.node_heap.specs.Calls.{Extends, AddsOwner, Builds}
use Rattle.node_heap.proofs.Reach.{HasLink-same, SameBelow-link}
use Rattle.node_heap.proofs.Frames.{Extends-refl}
use Rattle.node_heap.proofs.BuildLemmas.{count-cons, count-one}
use Rattle.champ_chain.specs.Old.{ReachesOldBy}
use Rattle.champ_chain.proofs.CopyLemmas.{one_at-other}

-- where the links below are the same, the ways down were there
back : (L M : Links) (k m : ℕ) → SameBelow L L M k → Reaches M k m → Reaches L k m
back L M a b same (here k) = here k
back L M a b same (below k j m link down) =
    let link' = HasLink-same M L k j (sym (same k (here k))) link in
    below k j m link' (back L M j m (SameBelow-link L L M k j link' same) down)

-- a link among one, and among two
pub in-one : (k x : ℕ) → 0 < count k (x ∷ []) → k ≡ x
in-one k x some = elim (cases_eq k x) as (λ _. k ≡ x) [
  | inl same ↦ same
  | inr other ↦ absurd (omega (arith, some, count-one k x, one_at-other x k (λ is. other (sym is))))
]

pub in-two : (k x y : ℕ) → 0 < count k (x ∷ y ∷ []) → (k ≡ x) ⊎ (k ≡ y)
in-two k x y some = elim (cases_eq k x) as (λ _. (k ≡ x) ⊎ (k ≡ y)) [
  | inl same ↦ inl same
  | inr other ↦ inr (in-one k y (omega (arith, some, count-cons k x (y ∷ []), one_at-other x k (λ is. other (sym is)))))
]

module _ {T : Type 0} where
  -- what an old row reaches, it reached
  pub reaches-back : {old new : Heap T} → Extends old new → (k m : ℕ) → IsSome (row_at old k) → Reaches (links_at new) k m → Reaches (links_at old) k m
  reaches-back {old = old} {new = new} more k m live down = back (links_at old) (links_at new) k m (λ j at. ap links_of (more.kept k live j at)) down

  -- what is gained and held is there
  pub gained-live : {old new : Heap T} {spent gained : List ℕ} {c n : ℕ} → Builds old new spent gained c n → ((k : ℕ) → count k spent ≤ holds_at old k) → (k : ℕ) → 0 < count k gained → IsSome (row_at new k)
  gained-live b held k some = b.graph.held k (omega (arith, b.holds k, held k, some))

  -- the old rows have as many owners where a new link has one
  pub old-owners : (old new : Heap T) (link : ℕ) → AddsOwner old new link → row_at old link ≡ None → (k : ℕ) → IsSome (row_at old k) → owners_at new k ≡ owners_at old k
  old-owners old new link adds fresh k live =
      let other : link ≢ k = λ same. (let none : IsSome (row_at old link) = subst (λ j. IsSome (row_at old j)) (sym same) live in let bad = subst IsSome fresh none in cc) in
      omega (arith, adds k, one_at-other link k other)

  -- a new row reaches old rows by way of its links
  pub row-reaches : (old mid new : Heap T) (P : ℕ → Type 0) (link : ℕ) (ls : List ℕ) → Extends old mid → Extends mid new → row_at mid link ≡ None → links_at new link ≡ ls
      → ((k : ℕ) → 0 < count k ls → IsSome (row_at mid k)) → ((k m : ℕ) → 0 < count k ls → IsSome (row_at old m) → Reaches (links_at mid) k m → P m)
      → (m : ℕ) → IsSome (row_at old m) → Reaches (links_at new) link m → P m
  row-reaches old mid new P link ls first second fresh is there by m live down = by_way link m fresh is live down
    where
      by_way : (l m : ℕ) → row_at mid l ≡ None → links_at new l ≡ ls → IsSome (row_at old m) → Reaches (links_at new) l m → P m
      by_way a b fresh is live (here l) = absurd (let bad = subst IsSome fresh (first.live l live) in cc)
      by_way a b fresh is live (below l k m link down) =
          let among : 0 < count k ls = omega (arith, link, ap (count k) is) in
          by k m among live (reaches-back second k m (there k among) down)

  -- a row over one over two links reaches what these reached
  pub two-reach : (old mid new : Heap T) (first second last link : ℕ) → Extends old mid → Extends mid new → row_at old last ≡ None → row_at mid link ≡ None
      → row_at mid last ≡ Some (node Chain (second ∷ [])) → row_at new link ≡ Some (node Chain (first ∷ last ∷ [])) → IsSome (row_at old first) → IsSome (row_at old second) → ReachesOldBy old new first second link
  two-reach old mid new first second last link more later fresh_last fresh row_last row live_first live_second =
      row-reaches old mid new IsUnder link (first ∷ last ∷ []) more later fresh (ap links_of row)
      (λ k some. both-live k (in-two k first last some)) (λ k m some live down. both-under k m live down (in-two k first last some))
    where
      IsUnder : ℕ → Type 0
      IsUnder m = Reaches (links_at old) first m ⊎ Reaches (links_at old) second m

      last-under : (m : ℕ) → IsSome (row_at old m) → Reaches (links_at mid) last m → IsUnder m
      last-under = row-reaches old old mid IsUnder last (second ∷ []) (Extends-refl old) more fresh_last (ap links_of row_last)
          (λ k some. subst (λ j. IsSome (row_at old j)) (sym (in-one k second some)) live_second)
          (λ k m some live down. inr (subst (λ j. Reaches (links_at old) j m) (in-one k second some) down))

      both-live : (k : ℕ) → (k ≡ first) ⊎ (k ≡ last) → IsSome (row_at mid k)
      both-live k (inl is) = subst (λ j. IsSome (row_at mid j)) (sym is) (more.live first live_first)
      both-live k (inr is) = subst (λ j. IsSome (row_at mid j)) (sym is) (subst IsSome (sym row_last) refl)

      both-under : (k m : ℕ) → IsSome (row_at old m) → Reaches (links_at mid) k m → (k ≡ first) ⊎ (k ≡ last) → IsUnder m
      both-under k m live down (inl is) = inl (reaches-back more first m live_first (subst (λ j. Reaches (links_at mid) j m) is down))
      both-under k m live down (inr is) = last-under m live (subst (λ j. Reaches (links_at mid) j m) is down)

-- Ways down that go around a row, paths of rows with one owner, and ranks that are lifted, over links alone.
use Rattle.std.proofs.Common.{◌≡◌, ◌≢◌, ◌⊎◌, ℕ, zero, suc, ◌+◌, ◌<◌, ◌≤◌, List, [], ◌∷◌, refl, sym, ap, subst, arith, inl, inr}
use Rattle.std.specs.Prelude.{sum_by}
use Rattle.std.proofs.lemmas.Bool.{cases_eq}
use Rattle.node_heap.specs.Links.{Links, count, HasLink, Reaches, here, below, LeadsDown}
use Rattle.node_heap.specs.InPlace.{ReachesAround, at_once, by_link, IsSolePath, path_start, path_then}
use Rattle.node_heap.proofs.Counts.{count-cons, test_same, test_other, term-le-sum_by}
use Rattle.node_heap.proofs.Reach.{HasLink-same, Reaches-then}

pub ReachesAround-end : (L : Links) (first a b : ℕ) → ReachesAround L first a b → b ≢ first
ReachesAround-end L first a b (at_once l other) = other
ReachesAround-end L first a b (by_link l k m other has rest) = ReachesAround-end L first k m rest

pub ReachesAround-Reaches : (L : Links) (first a b : ℕ) → ReachesAround L first a b → Reaches L a b
ReachesAround-Reaches L first a b (at_once l other) = here l
ReachesAround-Reaches L first a b (by_link l k m other has rest) = below l k m has (ReachesAround-Reaches L first k m rest)

-- a link that does not reach the first row goes around it
pub Reaches-around : (L : Links) (first a b : ℕ) → Reaches L a b → ¬ Reaches L a first → ReachesAround L first a b
Reaches-around L first a b (here l) off = at_once l (λ same. off (subst (Reaches L l) same (here l)))
Reaches-around L first a b (below l k m has rest) off =
    by_link l k m (λ same. off (subst (Reaches L l) same (here l))) has (Reaches-around L first k m rest (λ up. off (below l k first has up)))

pub ReachesAround-then : (L : Links) (first a b c : ℕ) → ReachesAround L first a b → HasLink L b c → c ≢ first → ReachesAround L first a c
ReachesAround-then L first a b c (at_once l other) has last = by_link l c c other has (at_once c last)
ReachesAround-then L first a b c (by_link l k m other step rest) has last = by_link l k c other step (ReachesAround-then L first k m c rest has last)

-- a way is nothing, or has a last step
pub ReachesAround-last : (L : Links) (first a b : ℕ) → ReachesAround L first a b → (a ≡ b) ⊎ ((p : ℕ) × ReachesAround L first a p × HasLink L p b)
ReachesAround-last L first a b (at_once l other) = inl refl
ReachesAround-last L first a b (by_link l k m other has rest) =
    elim (ReachesAround-last L first k m rest) as (λ _. (l ≡ m) ⊎ ((p : ℕ) × ReachesAround L first l p × HasLink L p m)) [
      | inl same ↦ inr (l, at_once l other, subst (HasLink L l) same has)
      | inr up ↦ inr (up.0, by_link l k up.0 other has up.1, up.2)
    ]

-- a way to a row goes around every row that doesn't reach that
pub Reaches-avoids : (L : Links) (first a b : ℕ) → Reaches L a b → ¬ Reaches L first b → ReachesAround L first a b
Reaches-avoids L first a b (here l) off = at_once l (λ same. off (subst (λ j. Reaches L j l) same (here l)))
Reaches-avoids L first a b (below l k m has rest) off =
    by_link l k m (λ same. off (subst (λ j. Reaches L j m) same (below l k m has rest))) has (Reaches-avoids L first k m rest off)

pub ReachesAround-trans : (L : Links) (first a b c : ℕ) → ReachesAround L first a b → ReachesAround L first b c → ReachesAround L first a c
ReachesAround-trans L first a b c (at_once l other) rest = rest
ReachesAround-trans L first a b c (by_link l k m other has way) rest = by_link l k c other has (ReachesAround-trans L first k m c way rest)

-- a way down is nothing, or has a last step
pub Reaches-last : (L : Links) (a b : ℕ) → Reaches L a b → (a ≡ b) ⊎ ((p : ℕ) × Reaches L a p × HasLink L p b)
Reaches-last L a b (here l) = inl refl
Reaches-last L a b (below l k m has rest) =
    elim (Reaches-last L k m rest) as (λ _. (l ≡ m) ⊎ ((p : ℕ) × Reaches L l p × HasLink L p m)) [
      | inl same ↦ inr (l, here l, subst (HasLink L l) same has)
      | inr up ↦ inr (up.0, below l k up.0 has up.1, up.2)
    ]

-- where the rows that a way goes through have the same links, the way stays
pub ReachesAround-same : (L M : Links) (first a b : ℕ) → ReachesAround L first a b → ((m : ℕ) → ReachesAround L first a m → M m ≡ L m) → ReachesAround M first a b
ReachesAround-same L M first a b (at_once l other) same = at_once l other
ReachesAround-same L M first a b (by_link l k m other has rest) same =
    by_link l k m other (HasLink-same L M l k (same l (at_once l other)) has) (ReachesAround-same L M first k m rest (λ x way. same x (by_link l k x other has way)))

pub IsSolePath-Reaches : (O : ℕ → ℕ) (L : Links) (first last : ℕ) → IsSolePath O L first last → Reaches L first last
IsSolePath-Reaches O L first last path_start = here first
IsSolePath-Reaches O L first last (path_then l k path has one) = Reaches-then L first l k (IsSolePath-Reaches O L first l path) has

-- a row with one owner, a place, has no hold and stands in no other row
pub record IsOwners (H O : ℕ → ℕ) (L : Links) : Type 0 where
  pub unheld : (p k : ℕ) → HasLink L p k → O k ≡ 1 → H k ≡ 0
  pub only : (p q k : ℕ) → HasLink L p k → HasLink L q k → O k ≡ 1 → q ≡ p

-- no held link reaches the end of a path around its first row
pub around-path : (H O : ℕ → ℕ) (L : Links) → IsOwners H O L → (first last l : ℕ) → IsSolePath O L first last → 0 < H l → ¬ ReachesAround L first l last
around-path H O L owners first last l path_start held way = ReachesAround-end L first l first way refl
around-path H O L owners first last l (path_then p k path has one) held way =
    elim (ReachesAround-last L first l k way) as (λ _. ⊥) [
      | inl same ↦ absurd (omega (arith, ap H same, owners.unheld p k has one, held))
      | inr up ↦ around-path H O L owners first p l path held (subst (ReachesAround L first l) (owners.only p up.0 k has up.2 one) up.1)
    ]

-- what a held link reaches around the first row of a path, it reaches around the last one too
pub ReachesAround-path : (H O : ℕ → ℕ) (L : Links) → IsOwners H O L → (first last : ℕ) → IsSolePath O L first last → (l m : ℕ) → 0 < H l → ReachesAround L first l m → ReachesAround L last l m
ReachesAround-path H O L owners first last path l m held way = go l m way (λ x on. on)
  where
    go : (k m : ℕ) → ReachesAround L first k m → ((x : ℕ) → ReachesAround L first k x → ReachesAround L first l x) → ReachesAround L last k m
    go a b (at_once k other) up = at_once k (λ same. around-path H O L owners first last l path held (subst (ReachesAround L first l) same (up k (at_once k other))))
    go a b (by_link k j m other has rest) up =
        by_link k j m (λ same. around-path H O L owners first last l path held (subst (ReachesAround L first l) same (up k (at_once k other)))) has
        (go j m rest (λ x on. up x (by_link k j x other has on)))

-- one of the links reaches the row, or none does
any_reaches : (L : Links) (p : ℕ) (ks : List ℕ) → ((k : ℕ) → 0 < count k ks → (Reaches L k p) ⊎ (¬ Reaches L k p)) → ((k : ℕ) × (0 < count k ks) × Reaches L k p) ⊎ ((k : ℕ) → 0 < count k ks → ¬ Reaches L k p)
any_reaches L p [] each = inr (λ k has. absurd (omega (arith, has)))
any_reaches L p (x ∷ xs) each =
    elim (each x (omega (arith, count-cons x x xs, test_same x x refl))) as (λ _. ((k : ℕ) × (0 < count k (x ∷ xs)) × Reaches L k p) ⊎ ((k : ℕ) → 0 < count k (x ∷ xs) → ¬ Reaches L k p)) [
      | inl yes_here ↦ inl (x, omega (arith, count-cons x x xs, test_same x x refl), yes_here)
      | inr not_here ↦
          elim (any_reaches L p xs (λ k has. each k (omega (arith, count-cons k x xs, has)))) as (λ _. ((k : ℕ) × (0 < count k (x ∷ xs)) × Reaches L k p) ⊎ ((k : ℕ) → 0 < count k (x ∷ xs) → ¬ Reaches L k p)) [
            | inl found ↦ inl (found.0, omega (arith, count-cons found.0 x xs, found.1), found.2)
            | inr none ↦ inr (λ k has. elim (cases_eq k x) as (λ _. ¬ Reaches L k p) [
              | inl same ↦ λ up. not_here (subst (λ j. Reaches L j p) same up)
              | inr other ↦ none k (omega (arith, count-cons k x xs, test_other x k (λ e. other (sym e)), has))
            ])
          ]
    ]

-- a link reaches a row or does not, where that is known of its own links
decided : (L : Links) (p l : ℕ) → ((k : ℕ) → HasLink L l k → (Reaches L k p) ⊎ (¬ Reaches L k p)) → (Reaches L l p) ⊎ (¬ Reaches L l p)
decided L p l lower =
    elim (cases_eq l p) as (λ _. (Reaches L l p) ⊎ (¬ Reaches L l p)) [
      | inl same ↦ inl (subst (Reaches L l) same (here l))
      | inr other ↦
          elim (any_reaches L p (L l) lower) as (λ _. (Reaches L l p) ⊎ (¬ Reaches L l p)) [
            | inl found ↦ inl (below l found.0 p found.1 found.2)
            | inr none ↦ inr (λ way. on_way l p way other none)
          ]
    ]
  where
    on_way : (a b : ℕ) → Reaches L a b → a ≢ b → ((k : ℕ) → HasLink L a k → ¬ Reaches L k b) → ⊥
    on_way a b (here x) other none = other refl
    on_way a b (below x k m has rest) other none = none k has rest

-- where links lead down, a link reaches a row or does not
pub reaches-or-not : (L : Links) (rank : ℕ → ℕ) → LeadsDown rank L → (p n l : ℕ) → rank l ≤ n → (Reaches L l p) ⊎ (¬ Reaches L l p)
reaches-or-not L rank falls p zero l low = decided L p l (λ k has. absurd (omega (arith, falls l k has, low)))
reaches-or-not L rank falls p (suc n) l low = decided L p l (λ k has. reaches-or-not L rank falls p n k (omega (arith, falls l k has, low)))

-- the first number with the second on top where the fact holds
abbrev lifted : {A B : Type 0} → A ⊎ B → ℕ → ℕ → ℕ
lifted (inl _) n more = n + more
lifted (inr _) n more = n

lifted-yes : {A : Type 0} (d : A ⊎ (¬ A)) (n more : ℕ) → A → lifted d n more ≡ n + more
lifted-yes (inl _) n more a = refl
lifted-yes (inr off) n more a = absurd (off a)

lifted-no : {A : Type 0} (d : A ⊎ (¬ A)) (n more : ℕ) → (¬ A) → lifted d n more ≡ n
lifted-no (inl a) n more off = absurd (off a)
lifted-no (inr _) n more off = refl

lifted-least : {A : Type 0} (d : A ⊎ (¬ A)) (n more : ℕ) → n ≤ lifted d n more
lifted-least (inl _) n more = omega arith
lifted-least (inr _) n more = omega arith

-- a row may get other links that don't reach it: the ranks of what reaches it are lifted
pub LeadsDown-lifted : (L M : Links) (rank : ℕ → ℕ) (p : ℕ) → LeadsDown rank L → ((l : ℕ) → l ≢ p → M l ≡ L l) → ((k : ℕ) → HasLink M p k → ¬ Reaches L k p) → (r : ℕ → ℕ) × LeadsDown r M
LeadsDown-lifted L M rank p falls others off = (lift, each)
  where
    more : ℕ
    more = suc (sum_by rank (M p))

    test : (l : ℕ) → (Reaches L l p) ⊎ (¬ Reaches L l p)
    test l = reaches-or-not L rank falls p (rank l) l (omega arith)

    lift : ℕ → ℕ
    lift l = lifted (test l) (rank l) more

    each : LeadsDown lift M
    each l k has = elim (cases_eq l p) as (λ _. lift k < lift l) [
      | inl same ↦
          let at_p : HasLink M p k = subst (λ j. HasLink M j k) same has in
          omega (arith, lifted-no (test k) (rank k) more (off k at_p), lifted-yes (test l) (rank l) more (subst (Reaches L l) same (here l)), term-le-sum_by rank k (M p) at_p)
      | inr other ↦
          let was : HasLink L l k = HasLink-same M L l k (sym (others l other)) has in
          elim (test k) as (λ d. lifted d (rank k) more < lift l) [
            | inl up ↦ omega (arith, falls l k was, lifted-yes (test l) (rank l) more (below l k p was up))
            | inr down ↦ omega (arith, falls l k was, lifted-least (test l) (rank l) more)
          ]
    ]

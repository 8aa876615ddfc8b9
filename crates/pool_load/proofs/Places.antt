-- Places that passed a test, and the links that stand at them.
use Rattle.std.proofs.Common.{◌≡◌, ℕ, ◌+◌, ◌<◌, ◌≤◌, true, ◌&&◌, List, [], ◌∷◌, ◌++◌, map, length, take, get_or, refl, ap, sym, ◌∙◌, arith}
use Rattle.std.specs.Prelude.{slice_index, nat_lt}
use Rattle.std.specs.List.{list_all}
use Rattle.std.proofs.lemmas.Bool.{ltb-true}
use Rattle.std.proofs.lemmas.Bool.Decides.{nat_tests}
use Rattle.std.proofs.lemmas.List.{map_more, get_or_default}
use Rattle.node_heap.specs.Links.{count}
use Rattle.node_heap.proofs.Counts.{test_same, count-cons}
use Rattle.rrb_core.proofs.LinkCounts.{count-at, count-split}
use Rattle.pool_check.proofs.TestLemmas.{all-counted}
use Rattle.pool_load.specs.Making.{ArePlacesBelow}

pub place-below : (n : ℕ) (ks : List ℕ) → ArePlacesBelow n ks → (k : ℕ) → 0 < count k ks → k < n
place-below n ks h k some = ltb-true k n (all-counted (λ p. nat_lt p n) ks h k some)

less-test : (a b : ℕ) → a < b → nat_lt a b ≡ true
less-test a b h = grind (arith, nat_tests)

pub below-all : (n : ℕ) (ks : List ℕ) → ((k : ℕ) → 0 < count k ks → k < n) → ArePlacesBelow n ks
below-all n [] low = refl
below-all n (k ∷ ks) low =
    ap (λ b. b && list_all (λ p. nat_lt p n) ks) (less-test k n (low k (omega (arith, count-cons k k ks, test_same k k refl))))
    ∙ below-all n ks (λ j some. low j (omega (arith, some, count-cons j k ks)))

pub below-front : (n : ℕ) (ks : List ℕ) (i : ℕ) → ArePlacesBelow n ks → ArePlacesBelow n (take i ks)
below-front n ks i h = below-all n (take i ks) (λ k some. place-below n ks h k (omega (arith, some, count-split k i ks)))

pub below-wider : (n m : ℕ) (ks : List ℕ) → n ≤ m → ArePlacesBelow n ks → ArePlacesBelow m ks
below-wider n m ks wide h = below-all m ks (λ k some. omega (arith, wide, place-below n ks h k some))

-- the links at one place more
pub links-more : (links places : List ℕ) (i link : ℕ) → ArePlacesBelow (length links) places → i < length places → link ≡ get_or links (get_or places i 0) link → map (slice_index links) (take (i + 1) places) ≡ map (slice_index links) (take i places) ++ link ∷ []
links-more links places i link h low is =
    let place : ℕ = get_or places i 0 in
    let inside : place < length links = place-below (length links) places h place (count-at places i 0 low) in
    map_more (slice_index links) places i 0 low ∙ ap (λ (x : ℕ). map (slice_index links) (take i places) ++ x ∷ []) (get_or_default links place 0 link inside ∙ sym is)

-- Whether numbers rise, one after another.
use Rattle.std.proofs.Common.{◌≡◌, ℕ, ◌+◌, ◌<◌, ◌≤◌, true, false, ◌&&◌, List, [], ◌∷◌, length, drop, get_or, ap, sym, subst, ◌∙◌, arith}
use Rattle.std.specs.Prelude.{nat_lt, ◌-◌}
use Rattle.std.specs.List.{All}
use Rattle.std.proofs.lemmas.Bool.Decides.{nat_tests}
use Rattle.std.proofs.lemmas.List.{drop_more, drop_all}
use Rattle.std.proofs.lemmas.List.Elements.{All-nil}
use Rattle.versions_pool.specs.Saved.{rise, rise_after}
use Rattle.versions_pool.proofs.SlotLemmas.{rise-all}

less-yes : (a b : ℕ) → a < b → nat_lt a b ≡ true
less-yes a b h = grind (arith, nat_tests)

less-no : (a b : ℕ) → b ≤ a → nat_lt a b ≡ false
less-no a b h = grind (arith, nat_tests)

module _ (last : ℕ) (names : List ℕ) (i : ℕ) (low : i < length names) where
  next-is : rise_after last (drop i names) ≡ (nat_lt last (get_or names i 0) && rise_after (get_or names i 0) (drop (i + 1) names))
  next-is = ap (rise_after last) (drop_more names i 0 low)

  -- a number that is greater than the last
  pub goes-on : last < get_or names i 0 → rise_after last (drop i names) ≡ rise_after (get_or names i 0) (drop (i + 1) names)
  goes-on more = next-is ∙ ap (λ b. b && rise_after (get_or names i 0) (drop (i + 1) names)) (less-yes last (get_or names i 0) more)

  -- and one that isn't
  pub falls-off : get_or names i 0 ≤ last → rise_after last (drop i names) ≡ false
  falls-off less = next-is ∙ ap (λ b. b && rise_after (get_or names i 0) (drop (i + 1) names)) (less-no last (get_or names i 0) less)

pub all-risen : (last : ℕ) (names : List ℕ) (i : ℕ) → length names ≤ i → rise_after last (drop i names) ≡ true
all-risen last names i past = ap (rise_after last) (drop_all i names past)

-- no name is greater than the last
pub last-greatest : (names : List ℕ) → rise names ≡ true → All (λ k. k ≤ get_or names (length names - 1) 0) names
last-greatest [] h = All-nil (λ k. k ≤ 0)
last-greatest (n ∷ names) h =
    let one : length (n ∷ names) - 1 ≡ length names = omega arith in
    subst (λ i. All (λ k. k ≤ get_or (n ∷ names) i 0) (n ∷ names)) (sym one) (rise-all n names h)

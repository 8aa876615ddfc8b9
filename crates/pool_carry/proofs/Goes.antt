-- What is found under old links, and what is found under new ones.
use Rattle.std.proofs.Common.{◌≡◌, ℕ, zero, suc, ◌<◌, refl, ap, sym, subst, ◌∙◌, arith, List, [], ◌∷◌, map, Option, Some, None, is_some, option_map}
use Rattle.std.specs.Prelude.{option_and_then, slice_get}
use Rattle.node_heap.specs.Links.{count}
use Rattle.node_heap.proofs.Counts.{count-cons, test_same}

module _ (g : ℕ → ℕ) where
  -- both are there or none, the old one is such a link, and the new one is its image
  abbrev pub Goes : (ℕ → Type 0) → Option ℕ → Option ℕ → Type 0
  Goes Is None None = Unit {0}
  Goes Is (Some l) (Some k) = Is l × (k ≡ g l)
  Goes Is _ _ = ⊥

  module _ (A : ℕ → Type 0) where
    pub goes-by : (x y : Option ℕ) (l : ℕ) → x ≡ Some l → y ≡ Some (g l) → A l → Goes A x y
    goes-by x y l old new is = subst (λ z. Goes A z y) (sym old) (subst (λ z. Goes A (Some l) z) (sym new) (is, refl))

    -- at a place in a list
    pub goes-at : (xs : List ℕ) → ((k : ℕ) → 0 < count k xs → A k) → (i : ℕ) → Goes A (slice_get xs i) (slice_get (map g xs) i)
    goes-at [] each i = tt
    goes-at (x ∷ xs) each zero = (each x (omega (arith, count-cons x x xs, test_same x x refl)), refl)
    goes-at (x ∷ xs) each (suc i) = goes-at xs (λ k some. each k (omega (arith, some, count-cons k x xs))) i

    pub goes-some : (x y : Option ℕ) → Goes A x y → is_some x ≡ is_some y
    goes-some None None goes = refl
    goes-some None (Some k) goes = absurd goes
    goes-some (Some l) None goes = absurd goes
    goes-some (Some l) (Some k) goes = refl

    pub goes-image : (x y : Option ℕ) → Goes A x y → y ≡ option_map g x
    goes-image None None goes = refl
    goes-image None (Some k) goes = absurd goes
    goes-image (Some l) None goes = absurd goes
    goes-image (Some l) (Some k) goes = ap (λ j. Some j) goes.1

    -- where images of such links are apart, what is one under new links was one
    pub goes-back : ((k l : ℕ) → A k → A l → g k ≡ g l → k ≡ l) → (x y u v : Option ℕ) → Goes A x y → Goes A u v → y ≡ v → x ≡ u
    goes-back apart None y None v one two same = refl
    goes-back apart None (Some k) (Some m) v one two same = absurd one
    goes-back apart None None (Some m) None one two same = absurd two
    goes-back apart None None (Some m) (Some n) one two same = absurd cc
    goes-back apart (Some l) None u v one two same = absurd one
    goes-back apart (Some l) (Some k) None None one two same = absurd cc
    goes-back apart (Some l) (Some k) None (Some n) one two same = absurd two
    goes-back apart (Some l) (Some k) (Some m) None one two same = absurd two
    goes-back apart (Some l) (Some k) (Some m) (Some n) one two same = (let images : k ≡ n = cc in ap (λ j. Some j) (apart l m one.0 two.0 (sym one.1 ∙ images ∙ two.1)))

  module _ (A B : ℕ → Type 0) where
    pub goes-weaker : ((l : ℕ) → A l → B l) → (x y : Option ℕ) → Goes A x y → Goes B x y
    goes-weaker each None None goes = tt
    goes-weaker each None (Some k) goes = absurd goes
    goes-weaker each (Some l) None goes = absurd goes
    goes-weaker each (Some l) (Some k) goes = (each l goes.0, goes.1)

-- one step after another
pub goes-then : (g h : ℕ → ℕ) (A B : ℕ → Type 0) (p q : ℕ → Option ℕ) → ((l : ℕ) → A l → Goes h B (p l) (q (g l))) → (x y : Option ℕ) → Goes g A x y → Goes h B (option_and_then p x) (option_and_then q y)
goes-then g h A B p q each None None goes = tt
goes-then g h A B p q each None (Some k) goes = absurd goes
goes-then g h A B p q each (Some l) None goes = absurd goes
goes-then g h A B p q each (Some l) (Some k) goes = subst (λ j. Goes h B (p l) (q j)) (sym goes.1) (each l goes.0)

-- by other images that are the same here
pub goes-turned : (g h : ℕ → ℕ) (A B : ℕ → Type 0) → ((l : ℕ) → A l → (g l ≡ h l) × B l) → (x y : Option ℕ) → Goes g A x y → Goes h B x y
goes-turned g h A B each None None goes = tt
goes-turned g h A B each None (Some k) goes = absurd goes
goes-turned g h A B each (Some l) None goes = absurd goes
goes-turned g h A B each (Some l) (Some k) goes = (let one = each l goes.0 in (one.1, goes.1 ∙ one.0))

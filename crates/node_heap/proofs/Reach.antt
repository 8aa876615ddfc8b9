-- Ways down, over links alone.
use Rattle.std.proofs.Common.{◌≡◌, ℕ, ◌≤◌, ap, ◌∙◌, arith}
use Rattle.node_heap.specs.Links.{Links, count, HasLink, Reaches, here, below, LeadsDown, IsAcyclic, SameBelow}

-- what the link of a row is, is one of another row with the same links
pub HasLink-same : (L M : Links) (l k : ℕ) → M l ≡ L l → HasLink L l k → HasLink M l k
HasLink-same L M l k same has = omega (arith, ap (count k) same, has)

pub Reaches-then : (L : Links) (a b c : ℕ) → Reaches L a b → HasLink L b c → Reaches L a c
Reaches-then L a b c (here l) has = below l c c has (here c)
Reaches-then L a b c (below l k m first down) has = below l k c first (Reaches-then L k m c down has)

pub Reaches-trans : (L : Links) (a b c : ℕ) → Reaches L a b → Reaches L b c → Reaches L a c
Reaches-trans L a b c (here l) rest = rest
Reaches-trans L a b c (below l k m first down) rest = below l k c first (Reaches-trans L k m c down rest)

pub Reaches-by : (L M : Links) → ((l : ℕ) → M l ≡ L l) → (a b : ℕ) → Reaches L a b → Reaches M a b
Reaches-by L M same a b (here l) = here l
Reaches-by L M same a b (below l k m has down) = below l k m (HasLink-same L M l k (same l) has) (Reaches-by L M same k m down)

pub Reaches-within : (L M : Links) → ((l k : ℕ) → HasLink L l k → HasLink M l k) → (a b : ℕ) → Reaches L a b → Reaches M a b
Reaches-within L M more a b (here l) = here l
Reaches-within L M more a b (below l k m has down) = below l k m (more l k has) (Reaches-within L M more k m down)

pub SameBelow-link : {X : Type 0} (L : Links) (G H : ℕ → X) (l k : ℕ) → HasLink L l k → SameBelow L G H l → SameBelow L G H k
SameBelow-link L G H l k has same m down = same m (below l k m has down)

-- where the links below are the same, so are the ways down
pub Reaches-same : (L M : Links) (l m : ℕ) → Reaches L l m → SameBelow L L M l → Reaches M l m
Reaches-same L M a b (here l) same = here l
Reaches-same L M a b (below l k m has down) same =
    below l k m (HasLink-same L M l k (same l (here l)) has) (Reaches-same L M k m down (SameBelow-link L L M l k has same))

pub SameBelow-trans : {X : Type 0} (L M : Links) (G H K : ℕ → X) (l : ℕ) → SameBelow L L M l → SameBelow L G H l → SameBelow M H K l → SameBelow L G K l
SameBelow-trans L M G H K l links first second m down = second m (Reaches-same L M l m down links) ∙ first m down

-- links that lead down never lead up
pub reach-falls : (L : Links) (rank : ℕ → ℕ) → LeadsDown rank L → (a b : ℕ) → Reaches L a b → rank b ≤ rank a
reach-falls L rank falls a b (here l) = omega arith
reach-falls L rank falls a b (below l k m has rest) = omega (arith, falls l k has, reach-falls L rank falls k m rest)

pub acyclic-ranked : (L : Links) (rank : ℕ → ℕ) → LeadsDown rank L → IsAcyclic L
acyclic-ranked L rank falls l k has back = absurd (omega (arith, falls l k has, reach-falls L rank falls k l back))

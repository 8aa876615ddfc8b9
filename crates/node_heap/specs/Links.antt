-- Links on their own: what each row leads to.
use Rattle.std.specs.Prelude.{◌≡◌, ℕ, ◌<◌, List, [], ◌∷◌, insert, remove, Option, Some, None, count_by, ◌==◌}

-- the links of each row
abbrev pub Links : Type 0
Links = ℕ → List ℕ

-- how often the link stands in the list
abbrev pub count : ℕ → List ℕ → ℕ
count l links = count_by (λ k. k == l) links

-- the second link is among those of the first
abbrev pub HasLink : Links → ℕ → ℕ → Type 0
HasLink L l k = 0 < count k (L l)

-- a way down from one link to another
pub data Reaches (L : Links) : ℕ → ℕ → Type 0 where
  here : (l : ℕ) → Reaches L l l
  below : (l k m : ℕ) → HasLink L l k → Reaches L k m → Reaches L l m

-- a link that has a hold reaches this link
abbrev pub IsReached : (ℕ → ℕ) → Links → ℕ → Type 0
IsReached holds L l = (k : ℕ) × (0 < holds k) × Reaches L k l

-- each link leads to a lower rank
abbrev pub LeadsDown : (ℕ → ℕ) → Links → Type 0
LeadsDown rank L = (l k : ℕ) → HasLink L l k → rank k < rank l

-- no link reaches itself by way of a link below it
abbrev pub IsAcyclic : Links → Type 0
IsAcyclic L = (l k : ℕ) → HasLink L l k → ¬ Reaches L k l

-- the two agree at each link that this link reaches
abbrev pub SameBelow : {X : Type 0} → Links → (ℕ → X) → (ℕ → X) → ℕ → Type 0
SameBelow L G H l = (m : ℕ) → Reaches L l m → H m ≡ G m

-- a list without the link at an index, if any
abbrev pub without : Option ℕ → List ℕ → List ℕ
without None xs = xs
without (Some i) xs = remove xs i

-- a list with a link put in at an index, if any
abbrev pub with_link : Option (ℕ × ℕ) → List ℕ → List ℕ
with_link None xs = xs
with_link (Some p) xs = insert xs p.0 p.1

-- the link that is put in
abbrev pub came : Option (ℕ × ℕ) → List ℕ
came None = []
came (Some p) = p.1 ∷ []

-- one link out, and one in
abbrev pub changed_links : Option ℕ → Option (ℕ × ℕ) → List ℕ → List ℕ
changed_links out into xs = with_link into (without out xs)

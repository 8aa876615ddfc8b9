-- Lists of rows by what they hold: `f` gives the elements of a row. Nothing here knows a heap.
use Rattle.std.proofs.Common.{◌≡◌, ℕ, suc, zero, ◌-◌, ◌+◌, ◌*◌, ◌/◌, ◌%◌, ◌<◌, ◌≤◌, ◌^◌, List, [], ◌∷◌, ◌++◌, length, take, drop, get_or, set, refl, ap, sym, ◌∙◌, arith, length-append, length-drop, append-nil, append_assoc, take-append-drop, ◌⊎◌, inl, inr}
use Rattle.std.specs.List.{All, flat_map, sum_by}
use Rattle.std.proofs.lemmas.List.{take-take, take_all, take_at, take_rest, length-take-le, take-append-le, take_more, drop_more, drop_at, drop-take, drop-drop, drop-append-le, get_or_past, get_or_append_left, get_or_at, get_or-take, get_or-drop, drop_all}
use Rattle.std.proofs.lemmas.List.Concat.{length-flat_map, flat_map-append}
use Rattle.std.proofs.lemmas.List.Sums.{sum_by-le, sum_by-cons}
use Rattle.std.proofs.lemmas.List.Elements.{All-nil, All-cons, All-append, All-head, All-tail, All-take}
use Rattle.std.proofs.lemmas.Nat.{pow-add, div-add-mod'}
use Rattle.std.proofs.Math.Nat.{pow-suc, mul-le-mul_right, mod-lt}
use Rattle.rrb_core.specs.Vector.{AreSums}

-- each term is at least m
pub sum_by-ge : {X : Type 0} (f : X → ℕ) → (m : ℕ) (xs : List X) → All (λ x. m ≤ f x) xs → length xs * m ≤ sum_by f xs
sum_by-ge f m [] h = omega arith
sum_by-ge f m (x ∷ xs) h =
    let below : length xs * m ≤ sum_by f xs = sum_by-ge f m xs (All-tail (λ x. m ≤ f x) x xs h) in
    let here : m ≤ f x = All-head (λ x. m ≤ f x) x xs h in
    omega (arith, below, here, sum_by-cons f x xs)

-- two functions that agree at each element
pub flat_map-same : {X A : Type 0} (f g : X → List A) → (xs : List X) → All (λ x. f x ≡ g x) xs → flat_map f xs ≡ flat_map g xs
flat_map-same f g [] h = refl
flat_map-same f g (x ∷ xs) h =
    let here : f x ≡ g x = All-head (λ x. f x ≡ g x) x xs h in
    let rest : flat_map f xs ≡ flat_map g xs = flat_map-same f g xs (All-tail (λ x. f x ≡ g x) x xs h) in
    cc

-- what holds of all elements of each row holds of all
pub All-flat_map : (P : ℕ → Type 0) (f : ℕ → List ℕ) (ks : List ℕ) → ((k : ℕ) → All P (f k)) → All P (flat_map f ks)
All-flat_map P f [] each = All-nil P
All-flat_map P f (k ∷ ks) each = All-append P (f k) (flat_map f ks) (each k) (All-flat_map P f ks each)

pub take-past : (xs ys : List ℕ) (n : ℕ) → take (length xs + n) (xs ++ ys) ≡ xs ++ take n ys
take-past [] ys n = let e : 0 + n ≡ n = omega arith in rw e refl
take-past (x ∷ xs) ys n = let e : suc (length xs) + n ≡ suc (length xs + n) = omega arith in rw (e, take-past xs ys n) refl

-- the elements before, in and after a child
pub items-cut : (f : ℕ → List ℕ) (ks : List ℕ) (i : ℕ) → i < length ks → flat_map f ks ≡ flat_map f (take i ks) ++ (f (get_or ks i 0) ++ flat_map f (drop (i + 1) ks))
items-cut f ks i lt =
    let parts : flat_map f (take i ks ++ drop i ks) ≡ flat_map f (take i ks) ++ flat_map f (drop i ks) = flat_map-append f (take i ks) (drop i ks) in
    rw (take-append-drop i ks, drop_more ks i 0 lt) at parts

-- a child has no more elements than all have
pub child-short : (f : ℕ → List ℕ) (ks : List ℕ) (i : ℕ) → i < length ks → length (f (get_or ks i 0)) ≤ length (flat_map f ks)
child-short f ks i lt =
    rw (items-cut f ks i lt) (omega (arith, length-append (flat_map f (take i ks)) (f (get_or ks i 0) ++ flat_map f (drop (i + 1) ks)), length-append (f (get_or ks i 0)) (flat_map f (drop (i + 1) ks))))

-- the first elements of a list of rows
pub items-front : (f : ℕ → List ℕ) (ks : List ℕ) (i within count : ℕ) → i < length ks → length (flat_map f (take i ks)) + within ≡ count → within ≤ length (f (get_or ks i 0))
    → take count (flat_map f ks) ≡ flat_map f (take i ks) ++ take within (f (get_or ks i 0))
items-front f ks i within count lt is le =
    rw (items-cut f ks i lt, ← is, take-past (flat_map f (take i ks)) (f (get_or ks i 0) ++ flat_map f (drop (i + 1) ks)) within, take-append-le within (f (get_or ks i 0)) (flat_map f (drop (i + 1) ks)) le) refl

-- what is left of a list of rows without its first elements
pub items-drop : (f : ℕ → List ℕ) (ks : List ℕ) (i rest count : ℕ) → i < length ks → length (flat_map f (take i ks)) + rest ≡ count → rest ≤ length (f (get_or ks i 0))
    → drop count (flat_map f ks) ≡ drop rest (f (get_or ks i 0)) ++ flat_map f (drop (i + 1) ks)
items-drop f ks i rest count lt is le =
    let n : ℕ = length (flat_map f (take i ks)) in
    let cut = items-cut f ks i lt in
    let past : drop n (flat_map f (take i ks) ++ (f (get_or ks i 0) ++ flat_map f (drop (i + 1) ks))) ≡ f (get_or ks i 0) ++ flat_map f (drop (i + 1) ks) = drop_at (flat_map f (take i ks)) (f (get_or ks i 0) ++ flat_map f (drop (i + 1) ks)) n refl in
    rw (cut, ← is, ← drop-drop rest n (flat_map f (take i ks) ++ (f (get_or ks i 0) ++ flat_map f (drop (i + 1) ks))), past, drop-append-le rest (f (get_or ks i 0)) (flat_map f (drop (i + 1) ks)) le) refl

-- an element set in the middle part
pub set-middle : (xs ys zs : List ℕ) (i x : ℕ) → i < length ys → set (xs ++ (ys ++ zs)) (length xs + i) x ≡ xs ++ (set ys i x ++ zs)
set-middle [] ys zs i x lt = let e : 0 + i ≡ i = omega arith in rw e (set-first ys zs i x lt)
  where
    set-first : (ys zs : List ℕ) (i x : ℕ) → i < length ys → set (ys ++ zs) i x ≡ set ys i x ++ zs
    set-first [] zs i x lt = absurd (omega arith)
    set-first (y ∷ ys) zs zero x lt = refl
    set-first (y ∷ ys) zs (suc i) x lt = rw (set-first ys zs i x (omega arith)) refl
set-middle (y ∷ xs) ys zs i x lt = let e : suc (length xs) + i ≡ suc (length xs + i) = omega arith in rw (e, set-middle xs ys zs i x lt) refl

-- an element set in a child is set in the whole
pub items-set : (f : ℕ → List ℕ) (ks : List ℕ) (i within index x : ℕ) → i < length ks → within < length (f (get_or ks i 0)) → length (flat_map f (take i ks)) + within ≡ index
    → set (flat_map f ks) index x ≡ flat_map f (take i ks) ++ (set (f (get_or ks i 0)) within x ++ flat_map f (drop (i + 1) ks))
items-set f ks i within index x lt small is =
    rw (items-cut f ks i lt, ← is) (set-middle (flat_map f (take i ks)) (f (get_or ks i 0)) (flat_map f (drop (i + 1) ks)) within x small)

-- the elements of a list with one row in the middle
pub items-around : (f : ℕ → List ℕ) (xs ys : List ℕ) (k : ℕ) → flat_map f ((xs ++ k ∷ []) ++ ys) ≡ flat_map f xs ++ (f k ++ flat_map f ys)
items-around f xs ys k = rw (flat_map-append f (xs ++ k ∷ []) ys, flat_map-append f xs (k ∷ []), append-nil, append_assoc) refl

-- a list with one link put in the place of another
pub set-parts : (ks : List ℕ) (i x : ℕ) → i < length ks → set ks i x ≡ (take i ks ++ x ∷ []) ++ drop (i + 1) ks
set-parts [] i x lt = absurd (omega arith)
set-parts (k ∷ ks) zero x lt = refl
set-parts (k ∷ ks) (suc i) x lt = let e : suc i + 1 ≡ suc (i + 1) = omega arith in rw (e, set-parts ks i x (omega arith)) refl

pub pow32 : (n : ℕ) → 32 ^ n ≡ 2 ^ (5 * n)
pow32 zero = refl
pow32 (suc n) =
    let e : 32 ^ suc n ≡ 32 ^ n * 32 = pow-suc 32 n in
    let f : 2 ^ (5 * n + 5) ≡ 2 ^ (5 * n) * 2 ^ 5 = pow-add 2 (5 * n) 5 in
    let g : 5 * suc n ≡ 5 * n + 5 = omega arith in
    let here : 32 ^ n ≡ 2 ^ (5 * n) = pow32 n in
    rw (g, f, e, here)

pub pow-pos : (n : ℕ) → 1 ≤ 32 ^ n
pow-pos zero = omega arith
pow-pos (suc n) = omega (arith, pow-pos n, pow-suc 32 n)

module _ (ss ks : List ℕ) (f : ℕ → List ℕ) (sums : AreSums ss f ks) where
  -- where no child has more than m elements, the search may start at i / m
  pub start-le : (m i k : ℕ) → All (λ c. length (f c) ≤ m) ks → k < i / m → get_or ss k 0 ≤ i
  start-le m i k each b =
      let by_child : (k < length ks) → get_or ss k 0 ≤ i = λ within.
      let bound : sum_by (λ c. length (f c)) (take (k + 1) ks) ≤ length (take (k + 1) ks) * m = sum_by-le (λ c. length (f c)) m (take (k + 1) ks) (All-take (λ c. length (f c) ≤ m) (k + 1) ks each) in
      let count : length (take (k + 1) ks) ≡ k + 1 = length-take-le (k + 1) ks (omega arith) in
      let is : get_or ss k 0 ≡ length (flat_map f (take (k + 1) ks)) = sums.each k within in
      let times : (k + 1) * m ≤ i / m * m = mul-le-mul_right m (omega arith) in
      let bound' : sum_by (λ c. length (f c)) (take (k + 1) ks) ≤ (k + 1) * m = rw count at bound in
      omega (arith, bound', is, times, length-flat_map f (take (k + 1) ks), div-add-mod' i m) in
      first_of (grind (arith, by_child, sums.count, get_or_past ss k 0), omega (arith, by_child))

  -- the last sum is the length
  pub last-sum : 1 ≤ length ks → (1 ≤ length ss) × (get_or ss (length ss - 1) 0 ≡ length (flat_map f ks))
  last-sum some =
      let size : length ss ≡ length ks = sums.count in
      let is : get_or ss (length ks - 1) 0 ≡ length (flat_map f (take (length ks - 1 + 1) ks)) = sums.each (length ks - 1) (omega arith) in
      let all : take (length ks - 1 + 1) ks ≡ ks = take_all (length ks - 1 + 1) ks (omega arith) in
      (omega (arith, size), rw size (rw all at is))

  -- the sum before a place
  pub sum-upto : (c before : ℕ) → c ≤ length ks → (c ≡ 0 → before ≡ 0) → (0 < c → before ≡ get_or ss (c - 1) 0) → before ≡ length (flat_map f (take c ks))
  sum-upto zero before within none some = none refl
  sum-upto (suc c) before within none some =
      let e : suc c - 1 ≡ c = omega arith in
      let g : c + 1 ≡ suc c = omega arith in
      let is : get_or ss c 0 ≡ length (flat_map f (take (c + 1) ks)) = sums.each c (omega arith) in
      let was : before ≡ get_or ss (suc c - 1) 0 = some (omega arith) in
      rw e at was ∙ rw g at is

  -- the sum before a child
  pub sum-before : (c before : ℕ) → c < length ks → (c ≡ 0 → before ≡ 0) → (0 < c → before ≡ get_or ss (c - 1) 0) → before ≡ length (flat_map f (take c ks))
  sum-before c before within none some = sum-upto c before (omega arith) none some

  -- the sum before the last child
  pub sum-last : 1 ≤ length ks → get_or (0 ∷ ss) (length ss - 1) 0 ≡ length (flat_map f (take (length ks - 1) ks))
  sum-last some = sum-before (length ks - 1) (get_or (0 ∷ ss) (length ss - 1) 0) (omega arith) (λ e. one e) (λ lt. more lt)
    where
      one : length ks - 1 ≡ 0 → get_or (0 ∷ ss) (length ss - 1) 0 ≡ 0
      one e = let e' : length ss - 1 ≡ 0 = omega (arith, sums.count) in rw e' refl

      more : 0 < length ks - 1 → get_or (0 ∷ ss) (length ss - 1) 0 ≡ get_or ss (length ks - 1 - 1) 0
      more lt = let e' : length ss - 1 ≡ suc (length ks - 1 - 1) = omega (arith, sums.count) in rw e' refl

  -- where the sum at a child passes i and the sum before it does not, the element at i is in that child
  pub in-child : (c i before : ℕ) → c < length ks → before ≡ length (flat_map f (take c ks)) → before ≤ i → i < get_or ss c 0 → i - before < length (f (get_or ks c 0))
  in-child c i before within is le lt =
      let next : get_or ss c 0 ≡ length (flat_map f (take (c + 1) ks)) = sums.each c within in
      let more : take (c + 1) ks ≡ take c ks ++ get_or ks c 0 ∷ [] = take_more ks c 0 within in
      let split : flat_map f (take c ks ++ get_or ks c 0 ∷ []) ≡ flat_map f (take c ks) ++ (f (get_or ks c 0) ++ []) = flat_map-append f (take c ks) (get_or ks c 0 ∷ []) in
      let next' : get_or ss c 0 ≡ length (flat_map f (take c ks) ++ (f (get_or ks c 0) ++ [])) = rw (more, split) at next in
      omega (arith, next', is, length-append (flat_map f (take c ks)) (f (get_or ks c 0) ++ []), length-append (f (get_or ks c 0)) [])

  -- the sum before a child is no more than i where the earlier sums are not
  pub before-le : (c i before : ℕ) → ((k : ℕ) → k < c → get_or ss k 0 ≤ i) → (c ≡ 0 → before ≡ 0) → (0 < c → before ≡ get_or ss (c - 1) 0) → before ≤ i
  before-le zero i before passed none some = omega (arith, none refl)
  before-le (suc c) i before passed none some = let e : suc c - 1 ≡ c = omega arith in let was : before ≡ get_or ss (suc c - 1) 0 = some (omega arith) in omega (arith, rw e at was, passed c (omega arith))

-- all of at most m elements have m each where they have as many together
pub sum_by-full : (f : ℕ → ℕ) (m : ℕ) (xs : List ℕ) → All (λ x. f x ≤ m) xs → sum_by f xs ≡ length xs * m → All (λ x. f x ≡ m) xs
sum_by-full f m [] most is = All-nil (λ x. f x ≡ m)
sum_by-full f m (x ∷ xs) most is =
    let here : f x ≤ m = All-head (λ x. f x ≤ m) x xs most in
    let later : All (λ x. f x ≤ m) xs = All-tail (λ x. f x ≤ m) x xs most in
    let rest : sum_by f xs ≤ length xs * m = sum_by-le f m xs later in
    let cons = sum_by-cons f x xs in
    let times : length (x ∷ xs) * m ≡ m + length xs * m = omega arith in
    All-cons (λ x. f x ≡ m) x xs (omega (arith, here, rest, cons, is, times)) (sum_by-full f m xs later (omega (arith, here, rest, cons, is, times)))

pub full-sum_by : (f : ℕ → ℕ) (m : ℕ) (xs : List ℕ) → All (λ x. f x ≡ m) xs → sum_by f xs ≡ length xs * m
full-sum_by f m [] full = omega arith
full-sum_by f m (x ∷ xs) full =
    let here : f x ≡ m = All-head (λ x. f x ≡ m) x xs full in
    let rest : sum_by f xs ≡ length xs * m = full-sum_by f m xs (All-tail (λ x. f x ≡ m) x xs full) in
    let times : length (x ∷ xs) * m ≡ m + length xs * m = omega arith in
    omega (arith, here, rest, sum_by-cons f x xs, times)

-- the children but the last are full where they have as many elements as they can
pub regular-of : (f : ℕ → List ℕ) (m : ℕ) (ks : List ℕ) → All (λ k. length (f k) ≤ m) ks → length (flat_map f (take (length ks - 1) ks)) ≡ (length ks - 1) * m → All (λ k. length (f k) ≡ m) (take (length ks - 1) ks)
regular-of f m ks most is =
    let size : length (take (length ks - 1) ks) ≡ length ks - 1 = length-take-le (length ks - 1) ks (omega arith) in
    sum_by-full (λ k. length (f k)) m (take (length ks - 1) ks) (All-take (λ k. length (f k) ≤ m) (length ks - 1) ks most) (rw size (sym (length-flat_map f (take (length ks - 1) ks)) ∙ is))

-- children of which all but the last have m elements
module _ (f : ℕ → List ℕ) (m : ℕ) (ks : List ℕ) where
  -- the elements before a child
  pub regular-before : (i : ℕ) → i < length ks → All (λ k. length (f k) ≡ m) (take (length ks - 1) ks) → length (flat_map f (take i ks)) ≡ i * m
  regular-before i lt full =
      let front : take i (take (length ks - 1) ks) ≡ take i ks = take-take i (length ks - 1) ks (omega arith) in
      let full' : All (λ k. length (f k) ≡ m) (take i ks) = rw front at (All-take (λ k. length (f k) ≡ m) i (take (length ks - 1) ks) full) in
      let size : length (take i ks) ≡ i = length-take-le i ks (omega arith) in
      length-flat_map f (take i ks) ∙ rw size at (full-sum_by (λ k. length (f k)) m (take i ks) full')

  pub regular-length : 1 ≤ length ks → All (λ k. length (f k) ≡ m) (take (length ks - 1) ks) → length (flat_map f ks) ≡ (length ks - 1) * m + length (f (get_or ks (length ks - 1) 0))
  regular-length some full =
      let cut = items-cut f ks (length ks - 1) (omega arith) in
      let none : drop (length ks - 1 + 1) ks ≡ [] = drop_all (length ks - 1 + 1) ks (omega arith) in
      let cut' : flat_map f ks ≡ flat_map f (take (length ks - 1) ks) ++ (f (get_or ks (length ks - 1) 0) ++ []) = rw none at cut in
      rw (cut', append-nil) (omega (arith, length-append (flat_map f (take (length ks - 1) ks)) (f (get_or ks (length ks - 1) 0)), regular-before (length ks - 1) (omega arith) full))

  -- an index's child is the one that it would be in if all were full
  pub regular-place : (i : ℕ) → 1 ≤ m → All (λ k. length (f k) ≤ m) ks → i < length (flat_map f ks) → i / m < length ks
  regular-place i some most inside =
      let past : length ks ≤ i / m → ⊥ = λ le.
      let all : sum_by (λ k. length (f k)) ks ≤ length ks * m = sum_by-le (λ k. length (f k)) m ks most in
      let times : length ks * m ≤ i / m * m = mul-le-mul_right m le in
      omega (arith, all, times, inside, length-flat_map f ks, div-add-mod' i m) in
      first_of (grind (arith, past), omega (arith, past))

  pub regular-within : (i : ℕ) → 1 ≤ m → All (λ k. length (f k) ≡ m) (take (length ks - 1) ks) → i < length (flat_map f ks) → i / m < length ks → i - i / m * m < length (f (get_or ks (i / m) 0))
  regular-within i some full inside place = elim (cases (i / m) (length ks - 1)) [ inl lt ↦ early lt | inr ge ↦ last (omega arith) ]
    where
      cases : (i n : ℕ) → (i < n) ⊎ (n ≤ i)
      cases i n = grind arith

      early : i / m < length ks - 1 → i - i / m * m < length (f (get_or ks (i / m) 0))
      early lt =
          let at : get_or (take (length ks - 1) ks) (i / m) 0 ≡ get_or ks (i / m) 0 = get_or-take (length ks - 1) ks (i / m) 0 lt in
          let here : length (f (get_or (take (length ks - 1) ks) (i / m) 0)) ≡ m = full (i / m) 0 (omega (arith, length-take-le (length ks - 1) ks (omega arith))) in
          let here' : length (f (get_or ks (i / m) 0)) ≡ m = rw at at here in
          let low : i % m < m = mod-lt i (omega arith) in omega (arith, here', div-add-mod' i m, low)

      last : i / m ≡ length ks - 1 → i - i / m * m < length (f (get_or ks (i / m) 0))
      last e =
          let all = regular-length (omega arith) full in
          let low : i / m * m ≤ i = omega (arith, div-add-mod' i m) in
          let low' : (length ks - 1) * m ≤ i = rw e at low in
          rw e (omega (arith, all, inside, low'))

pub empty-list : {X : Type 0} (xs : List X) → length xs ≡ 0 → xs ≡ []
empty-list [] none = refl
empty-list (x ∷ xs) none = absurd (omega (arith, none))

-- a list of one, by its first, in the words of the code
pub one-list : (xs : List ℕ) (x : ℕ) → length xs ≡ 1 → x ≡ get_or xs 0 x → xs ≡ x ∷ []
one-list [] x one is = absurd (omega (arith, one))
one-list (y ∷ []) x one is = rw is refl
one-list (y ∷ z ∷ zs) x one is = absurd (omega (arith, one))

-- what was written behind the first elements of a list
pub written-behind : (old xs part : List ℕ) (count stop : ℕ) → take stop xs ≡ take count old ++ part → count ≤ length old → stop ≡ count + length part → take (stop - count) (drop count xs) ≡ part
written-behind old xs part count stop is within at =
    let size : length (take count old) ≡ count = length-take-le count old within in
    let rest : stop - count ≡ length part = omega (arith, at) in
    let whole : take (count + length part) xs ≡ take count old ++ part = rw (← at) is in
    rw rest (sym (drop-take count (length part) xs) ∙ ap (λ (ys : List ℕ). drop count ys) whole ∙ drop_at (take count old) part count size)

-- the front of one list, a middle, and the back of another, in the words of the code
pub gathered-items : (left right right' a0 a1 a2 a3 middle : List ℕ) (keep skip stop : ℕ) → a0 ≡ [] → a1 ≡ a0 ++ take (keep - 0) (drop 0 left) → a2 ≡ a1 ++ middle → a3 ≡ a2 ++ take (stop - skip) (drop skip right') → right' ≡ right → stop ≡ length right
    → a3 ≡ (take keep left ++ middle) ++ drop skip right
gathered-items left right right' a0 a1 a2 a3 middle keep skip stop e0 e1 e2 e3 same size =
    let all : keep - 0 ≡ keep = omega arith in
    e3 ∙ rw (e2, e1, e0, all, same, size, take_rest right skip) refl

-- the front of a list that was gathered first
pub front-items : (left a0 a1 : List ℕ) (keep : ℕ) → a0 ≡ [] → a1 ≡ a0 ++ take (keep - 0) (drop 0 left) → keep ≤ length left → length a1 ≡ keep
front-items left a0 a1 keep e0 e1 le =
    let all : keep - 0 ≡ keep = omega arith in
    rw (e1, e0, all) (length-take-le keep left le)

-- one element after all of a leaf
pub leaf-end : (ks : List ℕ) (e stop : ℕ) → stop ≡ length ks → (take stop ks ++ e ∷ []) ++ drop stop ks ≡ ks ++ e ∷ []
leaf-end ks e stop is = rw (take_all stop ks (omega arith), drop_all stop ks (omega arith), append-nil) refl

-- the first elements of a leaf
pub leaf-front : (ks : List ℕ) (n stop : ℕ) → stop ≡ length ks → (take n ks ++ []) ++ drop stop ks ≡ take n ks
leaf-front ks n stop is = rw (drop_all stop ks (omega arith)) (append-nil (take n ks ++ []) ∙ append-nil (take n ks))

-- an index past the first child is in a later one
pub not-first : (f : ℕ → List ℕ) (ks : List ℕ) (i within count : ℕ) → within < length (f (get_or ks i 0)) → length (flat_map f (take i ks)) + within ≡ count - 1 → length (f (get_or ks 0 0)) < count → 1 ≤ i
not-first f ks zero within count small is past = absurd (omega (arith, small, is, past))
not-first f ks (suc i) within count small is past = omega arith

-- the first elements, where the first child has them
pub take-first : (f : ℕ → List ℕ) (ks : List ℕ) (count : ℕ) → 0 < length ks → count ≤ length (f (get_or ks 0 0)) → take count (flat_map f ks) ≡ take count (f (get_or ks 0 0))
take-first f ks count some le = items-front f ks 0 count count some (omega arith) le

-- a front is what as many first elements are
pub front-of : (all front back got : List ℕ) → got ≡ front → all ≡ front ++ back → got ≡ take (length got) all
front-of all front back got is e = rw (is, e) (sym (take_at front back (length front) refl))

-- one more running sum
pub sums-push : (f : ℕ → List ℕ) (ks ss : List ℕ) (i child total size : ℕ) → i < length ks → child ≡ get_or ks i child → length ss ≡ i → total ≡ length (flat_map f (take i ks)) → size ≡ length (f child)
    → ((k : ℕ) → k < i → get_or ss k 0 ≡ length (flat_map f (take (k + 1) ks)))
    → (total + size ≡ length (flat_map f (take (i + 1) ks))) × ((k : ℕ) → k < i + 1 → get_or (ss ++ (total + size) ∷ []) k 0 ≡ length (flat_map f (take (k + 1) ks)))
sums-push f ks ss i child total size lt is count sum here each =
    let more : take (i + 1) ks ≡ take i ks ++ child ∷ [] = take_more ks i child lt ∙ ap (λ (x : ℕ). take i ks ++ x ∷ []) (sym is) in
    let split : flat_map f (take i ks ++ child ∷ []) ≡ flat_map f (take i ks) ++ (f child ++ []) = flat_map-append f (take i ks) (child ∷ []) in
    let whole : total + size ≡ length (flat_map f (take (i + 1) ks)) = rw (more, split, append-nil) (omega (arith, sum, here, length-append (flat_map f (take i ks)) (f child))) in
    (whole, λ k b. at whole k b)
  where
    at : total + size ≡ length (flat_map f (take (i + 1) ks)) → (k : ℕ) → k < i + 1 → get_or (ss ++ (total + size) ∷ []) k 0 ≡ length (flat_map f (take (k + 1) ks))
    at whole k b =
        let before : k < i → get_or (ss ++ (total + size) ∷ []) k 0 ≡ length (flat_map f (take (k + 1) ks)) = λ lt'. get_or_append_left ss ((total + size) ∷ []) 0 k (omega (arith, count)) ∙ each k lt' in
        let last : k ≡ i → get_or (ss ++ (total + size) ∷ []) k 0 ≡ length (flat_map f (take (k + 1) ks)) = λ e. get_or_at ss (total + size) [] 0 k (count ∙ sym e) ∙ whole ∙ ap (λ (j : ℕ). length (flat_map f (take (j + 1) ks))) (sym e) in
        elim (cases k i) [ inl lt' ↦ before lt' | inr ge ↦ last (omega arith) ]
      where
        cases : (i n : ℕ) → (i < n) ⊎ (n ≤ i)
        cases i n = grind arith

-- what holds of all but the last holds of all but the last of the later ones
pub front-drop : (P : ℕ → Type 0) (i : ℕ) (ks : List ℕ) → All P (take (length ks - 1) ks) → All P (take (length (drop i ks) - 1) (drop i ks))
front-drop P i ks all = λ k d b. back k d (omega (arith, length-take-le (length (drop i ks) - 1) (drop i ks) (omega arith), length-drop i ks))
  where
    back : (k d : ℕ) → k + 1 + i < length ks → P (get_or (take (length (drop i ks) - 1) (drop i ks)) k d)
    back k d lt =
        let at : get_or (take (length (drop i ks) - 1) (drop i ks)) k d ≡ get_or ks (i + k) d = get_or-take (length (drop i ks) - 1) (drop i ks) k d (omega (arith, length-drop i ks)) ∙ get_or-drop i ks k d in
        let was : P (get_or (take (length ks - 1) ks) (i + k) d) = all (i + k) d (omega (arith, length-take-le (length ks - 1) ks (omega arith))) in
        rw (at, ← get_or-take (length ks - 1) ks (i + k) d (omega arith)) was

-- what holds of one list and of all but the last of another holds of all but the last of both
pub front-join : (P : ℕ → Type 0) (ks js : List ℕ) → 1 ≤ length js → All P ks → All P (take (length js - 1) js) → All P (take (length (ks ++ js) - 1) (ks ++ js))
front-join P ks js some front back =
    let size : length (ks ++ js) - 1 ≡ length ks + (length js - 1) = omega (arith, length-append ks js) in
    rw (size, take-past ks js (length js - 1)) (All-append P ks (take (length js - 1) js) front back)

-- what holds of all but the last and of the last holds of all
pub front-last : (P : ℕ → Type 0) (ks : List ℕ) → 0 < length ks → All P (take (length ks - 1) ks) → P (get_or ks (length ks - 1) 0) → All P ks
front-last P ks some front last =
    let up : length ks - 1 + 1 ≡ length ks = omega (arith, some) in
    let is : take (length ks - 1) ks ++ get_or ks (length ks - 1) 0 ∷ [] ≡ ks = sym (take_more ks (length ks - 1) 0 (omega (arith, some))) ∙ ap (λ (i : ℕ). take i ks) up ∙ take_all (length ks) ks (omega arith) in
    let all : All P (take (length ks - 1) ks ++ get_or ks (length ks - 1) 0 ∷ []) = All-append P (take (length ks - 1) ks) (get_or ks (length ks - 1) 0 ∷ []) front (All-cons P (get_or ks (length ks - 1) 0) [] last (All-nil P)) in
    rw is at all

-- a front has no more elements than all
pub take-short : (f : ℕ → List ℕ) (ks : List ℕ) (i : ℕ) → length (flat_map f (take i ks)) ≤ length (flat_map f ks)
take-short f ks i =
    let parts : flat_map f (take i ks ++ drop i ks) ≡ flat_map f (take i ks) ++ flat_map f (drop i ks) = flat_map-append f (take i ks) (drop i ks) in
    let parts' : flat_map f ks ≡ flat_map f (take i ks) ++ flat_map f (drop i ks) = rw (take-append-drop i ks) at parts in
    omega (arith, ap length parts', length-append (flat_map f (take i ks)) (flat_map f (drop i ks)))

-- one more number of a list that is known at each place
pub each-push : (value : ℕ → ℕ) (ss : List ℕ) (i x : ℕ) → length ss ≡ i → ((k : ℕ) → k < i → get_or ss k 0 ≡ value k) → x ≡ value i → (k : ℕ) → k < i + 1 → get_or (ss ++ x ∷ []) k 0 ≡ value k
each-push value ss i x count each is k b = elim (cases k i) [ inl lt ↦ early lt | inr ge ↦ last (omega arith) ]
  where
    cases : (i n : ℕ) → (i < n) ⊎ (n ≤ i)
    cases i n = grind arith

    early : k < i → get_or (ss ++ x ∷ []) k 0 ≡ value k
    early lt = get_or_append_left ss (x ∷ []) 0 k (omega (arith, count)) ∙ each k lt

    last : k ≡ i → get_or (ss ++ x ∷ []) k 0 ≡ value k
    last e = get_or_at ss x [] 0 k (count ∙ sym e) ∙ is ∙ ap value (sym e)

-- running sums of a list with one row in the place of some, from those of the whole
module _ (f : ℕ → List ℕ) (ks ss : List ℕ) (sums : AreSums ss f ks) (keep child skip : ℕ) (le : keep ≤ length ks) where
  abbrev Placed : List ℕ
  Placed = (take keep ks ++ child ∷ []) ++ drop skip ks

  front-size : length (take keep ks ++ child ∷ []) ≡ keep + 1
  front-size = omega (arith, length-append (take keep ks) (child ∷ []), length-take-le keep ks le)

  -- the first sums stay
  pub placed-first : (k : ℕ) → k < keep → get_or (take keep ss) k 0 ≡ length (flat_map f (take (k + 1) Placed))
  placed-first k lt =
      let front : take (k + 1) ((take keep ks ++ child ∷ []) ++ drop skip ks) ≡ take (k + 1) (take keep ks ++ child ∷ []) = take-append-le (k + 1) (take keep ks ++ child ∷ []) (drop skip ks) (omega (arith, front-size)) in
      let front' : take (k + 1) (take keep ks ++ child ∷ []) ≡ take (k + 1) (take keep ks) = take-append-le (k + 1) (take keep ks) (child ∷ []) (omega (arith, length-take-le keep ks le)) in
      let front'' : take (k + 1) (take keep ks) ≡ take (k + 1) ks = take-take (k + 1) keep ks (omega arith) in
      get_or-take keep ss k 0 lt ∙ sums.each k (omega (arith, lt, le)) ∙ ap (λ (xs : List ℕ). length (flat_map f xs)) (sym (front ∙ front' ∙ front''))

  -- the sum at the child and later, j places behind it
  pub placed-later : (j before gone : ℕ) → before ≡ length (flat_map f (take keep ks)) → gone ≡ length (flat_map f (take skip ks)) → skip + j ≤ length ks
      → length (flat_map f (take (keep + 1 + j) Placed)) + gone ≡ before + length (f child) + length (flat_map f (take (skip + j) ks))
  placed-later j before gone is was le' =
      let size : keep + 1 + j ≡ length (take keep ks ++ child ∷ []) + j = omega (arith, front-size) in
      let past : take (keep + 1 + j) Placed ≡ (take keep ks ++ child ∷ []) ++ take j (drop skip ks) = rw size (take-past (take keep ks ++ child ∷ []) (drop skip ks) j) in
      let size' : skip + j ≡ length (take skip ks) + j = omega (arith, length-take-le skip ks (omega arith)) in
      let past' : take (length (take skip ks) + j) (take skip ks ++ drop skip ks) ≡ take skip ks ++ take j (drop skip ks) = take-past (take skip ks) (drop skip ks) j in
      let past'' : take (skip + j) ks ≡ take skip ks ++ take j (drop skip ks) = rw (take-append-drop skip ks, ← size') at past' in
      let items = ap length (items-around f (take keep ks) (take j (drop skip ks)) child) in
      let items' = ap length (flat_map-append f (take skip ks) (take j (drop skip ks))) in
      rw (past, past'') (omega (arith, items, items', is, was, length-append (flat_map f (take keep ks)) (f child ++ flat_map f (take j (drop skip ks))), length-append (f child) (flat_map f (take j (drop skip ks))), length-append (flat_map f (take skip ks)) (flat_map f (take j (drop skip ks)))))

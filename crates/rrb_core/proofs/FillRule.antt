-- Laws of the fill rule: how many elements a row of a height has.
use Rattle.std.proofs.Common.{◌≡◌, ℕ, suc, zero, ◌-◌, ◌*◌, ◌<◌, ◌≤◌, ◌^◌, List, [], ◌∷◌, ◌++◌, length, take, get_or, refl, ap, ◌∙◌, arith, length-append, append-nil}
use Rattle.std.specs.List.{All, flat_map, sum_by}
use Rattle.std.proofs.lemmas.List.{length-take-le, get_or-take}
use Rattle.std.proofs.lemmas.List.Concat.{length-flat_map}
use Rattle.std.proofs.lemmas.List.Sums.{sum_by-le}
use Rattle.std.proofs.lemmas.List.Elements.{All-weaker, All-get_or}
use Rattle.std.proofs.Math.Nat.{pow-suc, mul-le-mul_right}
use Rattle.node_heap.specs.Forms.{Forms, links_in}
use Rattle.node_heap.specs.declared.row.TheConstants.{MOST_HEIGHT}
use Rattle.rrb_core.specs.Seq.{form_height, height_in, seq_at, seq, IsThick, IsWell, IsWellShaped}
use Rattle.rrb_core.proofs.Lists.{sum_by-ge, empty-list}

module _ {K : Type 0} (F : Forms K) where
  -- a row of height n holds at most 32 ^ (n + 1) elements
  pub seq-le : (n l : ℕ) → IsWell F n l → length (seq_at F n l) ≤ 32 ^ (suc n)
  unfolding IsWell seq_at
  seq-le zero l w = omega (arith, w.most)
  seq-le (suc n) l w =
      let each : All (λ k. length (seq_at F n k) ≤ 32 ^ (suc n)) (links_in F l) = All-weaker (IsWell F n) (λ k. length (seq_at F n k) ≤ 32 ^ (suc n)) (λ k v. seq-le n k v) (links_in F l) w.children in
      let all : sum_by (λ k. length (seq_at F n k)) (links_in F l) ≤ length (links_in F l) * 32 ^ (suc n) = sum_by-le (λ k. length (seq_at F n k)) (32 ^ (suc n)) (links_in F l) each in
      let e : 32 ^ (suc (suc n)) ≡ 32 ^ (suc n) * 32 = pow-suc 32 (suc n) in
      let m : length (links_in F l) * 32 ^ (suc n) ≤ 32 * 32 ^ (suc n) = mul-le-mul_right (32 ^ (suc n)) w.most in
      omega (arith, all, e, m, length-flat_map (seq_at F n) (links_in F l))

  -- a thick row of height n holds at least 16 ^ (n + 1)
  pub thick-ge : (n l : ℕ) → IsThick F n l → 16 ^ (suc n) ≤ length (seq_at F n l)
  unfolding IsThick seq_at
  thick-ge zero l t = omega arith
  thick-ge (suc n) l t =
      let each : All (λ k. 16 ^ (suc n) ≤ length (seq_at F n k)) (links_in F l) = All-weaker (IsThick F n) (λ k. 16 ^ (suc n) ≤ length (seq_at F n k)) (λ k v. thick-ge n k v) (links_in F l) t.1 in
      let all : length (links_in F l) * 16 ^ (suc n) ≤ sum_by (λ k. length (seq_at F n k)) (links_in F l) = sum_by-ge (λ k. length (seq_at F n k)) (16 ^ (suc n)) (links_in F l) each in
      let e : 16 ^ (suc (suc n)) ≡ 16 ^ (suc n) * 16 = pow-suc 16 (suc n) in
      let m : 16 * 16 ^ (suc n) ≤ length (links_in F l) * 16 ^ (suc n) = mul-le-mul_right (16 ^ (suc n)) t.0 in
      omega (arith, all, e, m, length-flat_map (seq_at F n) (links_in F l))

  -- a row with links is not empty
  pub well-pos : (n l : ℕ) → IsWell F n l → 1 ≤ length (links_in F l) → 1 ≤ length (seq_at F n l)
  unfolding IsWell seq_at
  well-pos zero l w p = p
  well-pos (suc n) l w p = pos-list (links_in F l) p (All-get_or (λ k. 1 ≤ length (seq_at F n k)) (links_in F l) 0 0 (omega arith) (λ k d b. well-pos n (get_or (links_in F l) k d) (w.children k d b) (w.not_empty k d b)))
    where
      pos-list : (xs : List ℕ) → 1 ≤ length xs → 1 ≤ length (seq_at F n (get_or xs 0 0)) → 1 ≤ length (flat_map (seq_at F n) xs)
      pos-list [] some a = absurd (omega arith)
      pos-list (x ∷ xs) some a = omega (arith, length-append (seq_at F n x) (flat_map (seq_at F n) xs), a)

  -- a row with elements has links
  pub links-some : (n l : ℕ) → IsWell F n l → 1 ≤ length (seq_at F n l) → 1 ≤ length (links_in F l)
  unfolding IsWell seq_at
  links-some zero l w some = some
  links-some (suc n) l w some = w.some

  -- of an inner row with one element the first child has it
  pub one-below : (n l : ℕ) → IsWell F (suc n) l → length (seq_at F (suc n) l) ≡ 1 → IsWell F n (get_or (links_in F l) 0 0) × (seq_at F (suc n) l ≡ seq_at F n (get_or (links_in F l) 0 0))
  unfolding IsWell seq_at
  one-below n l w one =
      let child = w.children 0 0 (omega (arith, w.some)) in
      (child, first-list (links_in F l) w.some one (well-pos n (get_or (links_in F l) 0 0) child (w.not_empty 0 0 (omega (arith, w.some)))))
    where
      first-list : (xs : List ℕ) → 1 ≤ length xs → length (flat_map (seq_at F n) xs) ≡ 1 → 1 ≤ length (seq_at F n (get_or xs 0 0)) → flat_map (seq_at F n) xs ≡ seq_at F n (get_or xs 0 0)
      first-list [] some one a = absurd (omega arith)
      first-list (x ∷ xs) some one a =
          let none : flat_map (seq_at F n) xs ≡ [] = empty-list (flat_map (seq_at F n) xs) (omega (arith, length-append (seq_at F n x) (flat_map (seq_at F n) xs), one, a)) in
          ap (λ (ys : List ℕ). seq_at F n x ++ ys) none ∙ append-nil (seq_at F n x)

  fill-list : (f : ℕ → List ℕ) (xs : List ℕ) (m : ℕ) → 2 ≤ length xs → m ≤ length (f (get_or xs 0 0)) → 1 ≤ length (f (get_or xs 1 0)) → m < length (flat_map f xs)
  fill-list f [] m n a b = absurd (omega arith)
  fill-list f (x ∷ []) m n a b = absurd (omega arith)
  fill-list f (x ∷ y ∷ zs) m n a b = omega (arith, length-append (f x) (f y ++ flat_map f zs), length-append (f y) (flat_map f zs), a, b)

  -- an inner row with two links or more holds more than 16 ^ n
  pub fill : (n l : ℕ) → IsWell F (suc n) l → 2 ≤ length (links_in F l) → 16 ^ suc n < length (seq_at F (suc n) l)
  unfolding IsWell seq_at
  fill n l w two =
      let front : IsThick F n (get_or (take (length (links_in F l) - 1) (links_in F l)) 0 0) = w.thick 0 0 (omega (arith, length-take-le (length (links_in F l) - 1) (links_in F l) (omega arith))) in
      let same : get_or (take (length (links_in F l) - 1) (links_in F l)) 0 0 ≡ get_or (links_in F l) 0 0 = get_or-take (length (links_in F l) - 1) (links_in F l) 0 0 (omega arith) in
      let first : IsThick F n (get_or (links_in F l) 0 0) = rw same at front in
      let second : 1 ≤ length (seq_at F n (get_or (links_in F l) 1 0)) = well-pos n (get_or (links_in F l) 1 0) (w.children 1 0 (omega arith)) (w.not_empty 1 0 (omega arith)) in
      fill-list (seq_at F n) (links_in F l) (16 ^ suc n) two (thick-ge n (get_or (links_in F l) 0 0) first) second

  pub fill-at : (n l : ℕ) → IsWell F n l → 1 ≤ n → 2 ≤ length (links_in F l) → 16 ^ n < length (seq_at F n l)
  fill-at zero l w some two = absurd (omega arith)
  fill-at (suc n) l w some two = fill n l w two

  -- a well formed row states its height
  pub height-is : (n l : ℕ) → IsWell F n l → height_in F l ≡ n
  unfolding IsWell
  height-is zero l w = ap form_height w.kind
  height-is (suc n) l w = ap form_height w.kind

  pub thick-links : (n l : ℕ) → IsThick F n l → 16 ≤ length (links_in F l)
  unfolding IsThick
  thick-links zero l t = t
  thick-links (suc n) l t = t.0

  pub well-most : (n l : ℕ) → IsWell F n l → length (links_in F l) ≤ 32
  unfolding IsWell
  well-most zero l w = w.most
  well-most (suc n) l w = w.most

  -- a thick root of 32-bit length is below the last height
  pub thick-low : (n l : ℕ) → IsThick F n l → n ≤ MOST_HEIGHT → length (seq_at F n l) < 2 ^ 32 → n < MOST_HEIGHT
  thick-low n l t low short = let ne = not_seven n (length (seq_at F n l)) (thick-ge n l t) short in omega (arith, ne)
    where
      not_seven : (n size : ℕ) → 16 ^ suc n ≤ size → size < 2 ^ 32 → n ≡ 7 → ⊥
      not_seven n size ge lt e = let ge' : 16 ^ suc 7 ≤ size = rw e at ge in omega arith

  pub seq-leaf : (n l : ℕ) → n ≤ 0 → seq_at F n l ≡ links_in F l
  unfolding seq_at
  seq-leaf zero l none = refl
  seq-leaf (suc n) l none = absurd (omega arith)

  -- the root of a vector, in the words of a height
  pub shaped-at : (n l : ℕ) (xs : List ℕ) → IsWell F n l → seq_at F n l ≡ xs → n ≤ MOST_HEIGHT → (1 ≤ n → 2 ≤ length (links_in F l)) → length xs < 2 ^ 32 → IsWellShaped F l × (seq F l ≡ xs)
  shaped-at n l xs well items low two short =
      let e : height_in F l ≡ n = height-is n l well in
      let is : seq F l ≡ xs = rw e items in
      (record { well = rw e well; two = rw e two; short = rw (ap length is) short; low = rw e low }, is)

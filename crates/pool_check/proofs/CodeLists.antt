-- Tests of the entries at links, made of the code of one key at each link.
use Rattle.std.proofs.Common.{◌≡◌, ℕ, suc, ◌+◌, ◌*◌, ◌/◌, ◌%◌, ◌^◌, ◌<◌, ◌≤◌, Bool, true, false, ◌&&◌, Option, Some, None, List, [], ◌∷◌, ◌++◌, map, length, length-append, slice_get, refl, ap, sym, subst, ◌∙◌, arith}
use Rattle.std.specs.Prelude.{nat_eq, nat_lt, option_map, option_and_then}
use Rattle.std.specs.List.{list_all, flat_map}
use Rattle.std.proofs.lemmas.Bool.{eq-eqb, eqb-true, ltb-true}
use Rattle.std.proofs.lemmas.List.{map-append}
use Rattle.std.proofs.lemmas.List.Folds.{list_all-append}
use Rattle.std.proofs.lemmas.Nat.{mod-pow-add, mod-mul-add, div-mul-add, pow_pos}
use lib.Pointwise.{pointwise}
use Rattle.elem_core.specs.Codes.{digit_at}
use Rattle.champ_chain.specs.Entry.{Entry}
use Rattle.pool_text.specs.Rows.{Bytes}
use Rattle.pool_check.specs.Tries.{all_same}
use Rattle.pool_check.specs.Keeping.{codes_by}
use Rattle.pool_check.proofs.TestLemmas.{and-first, and-second}

pub nat_eq-same : (n : ℕ) → nat_eq n n ≡ true
nat_eq-same n = eq-eqb n n refl

-- a test that answers the same for all elements
module _ {X : Type 0} (m : X → ℕ) (q : X → Bool) (x : X) (follows : (y : X) → m x ≡ m y → q y ≡ q x) where
  rest-the-same : (ys : List X) → list_all (nat_eq (m x)) (map m ys) ≡ true → (q x && list_all q ys) ≡ q x
  rest-the-same [] h = by_test (q x)
    where
      by_test : (b : Bool) → (b && true) ≡ b
      by_test true = refl
      by_test false = refl
  rest-the-same (y ∷ ys) h =
      let here : m x ≡ m y = eqb-true (m x) (m y) (and-first (nat_eq (m x) (m y)) (list_all (nat_eq (m x)) (map m ys)) h) in
      ap (λ b. q x && (b && list_all q ys)) (follows y here)
      ∙ twice (q x) (list_all q ys)
      ∙ rest-the-same ys (and-second (nat_eq (m x) (m y)) (list_all (nat_eq (m x)) (map m ys)) h)
    where
      twice : (a b : Bool) → (a && (a && b)) ≡ (a && b)
      twice true b = refl
      twice false b = refl

  pub all-the-same : (ys : List X) → list_all (nat_eq (m x)) (map m ys) ≡ true → list_all q (x ∷ ys) ≡ q x
  all-the-same ys h = rest-the-same ys h

-- codes that agree above a depth have one digit at the depth before it, and agree above that
pub one-deeper : (depth a b : ℕ) → a % 2 ^ (5 * (depth + 1)) ≡ b % 2 ^ (5 * (depth + 1)) → (digit_at a depth ≡ digit_at b depth) × (a % 2 ^ (5 * depth) ≡ b % 2 ^ (5 * depth))
one-deeper depth a b same = (digits, rests)
  where
    w : ℕ
    w = 2 ^ (5 * depth)

    more : 5 + 5 * depth ≡ 5 * (depth + 1)
    more = omega arith

    small : (n : ℕ) → n % w < w
    small n = let some : 0 < w = pow_pos (5 * depth) in omega arith

    parts : (n : ℕ) → n % 2 ^ (5 * (depth + 1)) ≡ digit_at n depth * w + n % w
    parts n = ap (λ k. n % 2 ^ k) (sym more) ∙ mod-pow-add n 5 (5 * depth)

    equal : digit_at a depth * w + a % w ≡ digit_at b depth * w + b % w
    equal = sym (parts a) ∙ same ∙ parts b

    rests : a % w ≡ b % w
    rests = sym (mod-mul-add (digit_at a depth) w (a % w) (small a)) ∙ ap (λ n. n % w) equal ∙ mod-mul-add (digit_at b depth) w (b % w) (small b)

    digits : digit_at a depth ≡ digit_at b depth
    digits = sym (div-mul-add (digit_at a depth) w (a % w) (small a)) ∙ ap (λ n. n / w) equal ∙ div-mul-add (digit_at b depth) w (b % w) (small b)

-- the codes of a first link and of those after it
pub cons-some : (o : Option ℕ) (r : Option (List ℕ)) (cs : List ℕ) → option_and_then (λ c. option_map (λ ds. c ∷ ds) r) o ≡ Some cs
    → (c : ℕ) × (ds : List ℕ) × (o ≡ Some c) × (r ≡ Some ds) × (cs ≡ c ∷ ds)
cons-some None r cs h = absurd (let e : None ≡ Some cs = h in cc)
cons-some (Some c) None cs h = absurd (let e : None ≡ Some cs = h in cc)
cons-some (Some c) (Some ds) cs h = let e : Some (c ∷ ds) ≡ Some cs = h in let same : cs ≡ c ∷ ds = cc in (c, ds, refl, refl, same)

pub codes-length : (code_of : ℕ → Option ℕ) (ks cs : List ℕ) → codes_by code_of ks ≡ Some cs → length cs ≡ length ks
codes-length code_of [] cs h = let e : Some [] ≡ Some cs = h in let same : cs ≡ [] = cc in ap length same
codes-length code_of (k ∷ ks) cs h =
    let is = cons-some (code_of k) (codes_by code_of ks) cs h in
    ap length is.4 ∙ ap suc (codes-length code_of ks is.1 is.3)

module _ (code : Bytes → ℕ) (depth : ℕ) where
  abbrev pub high : ℕ → ℕ
  high c = c % 2 ^ (5 * depth)

  -- these codes can stand for the codes of these entries' keys
  pub record Stand (E : List (Entry Bytes)) (cs : List ℕ) : Type 0 where
    pub head : slice_get (map (λ e. code e.key) E) 0 ≡ slice_get cs 0
    pub same : (x : ℕ) → list_all (nat_eq x) (map (λ e. code e.key % 2 ^ (5 * depth)) E) ≡ list_all (nat_eq x) (map (λ c. c % 2 ^ (5 * depth)) cs)
    pub long : length cs ≤ length E

  pub stand-none : Stand [] []
  stand-none = record { head = refl; same = λ x. refl; long = omega arith }

  pub stand-append : (E D : List (Entry Bytes)) (cs ds : List ℕ) → Stand E cs → Stand D ds → Stand (E ++ D) (cs ++ ds)
  stand-append E D cs ds e d = record {
    head = heads E cs e.head;
    same = λ x.
        ap (list_all (nat_eq x)) (map-append (λ e. code e.key % 2 ^ (5 * depth)) E D)
        ∙ list_all-append (nat_eq x) (map (λ e. code e.key % 2 ^ (5 * depth)) E) (map (λ e. code e.key % 2 ^ (5 * depth)) D)
        ∙ ap (λ b. b && list_all (nat_eq x) (map (λ e. code e.key % 2 ^ (5 * depth)) D)) (e.same x)
        ∙ ap (λ b. list_all (nat_eq x) (map (λ c. c % 2 ^ (5 * depth)) cs) && b) (d.same x)
        ∙ sym (list_all-append (nat_eq x) (map (λ c. c % 2 ^ (5 * depth)) cs) (map (λ c. c % 2 ^ (5 * depth)) ds))
        ∙ sym (ap (list_all (nat_eq x)) (map-append (λ c. c % 2 ^ (5 * depth)) cs ds));
    long = omega (arith, e.long, d.long, length-append E D, length-append cs ds);
  }
    where
      heads : (E : List (Entry Bytes)) (cs : List ℕ) → slice_get (map (λ e. code e.key) E) 0 ≡ slice_get cs 0 → slice_get (map (λ e. code e.key) (E ++ D)) 0 ≡ slice_get (cs ++ ds) 0
      heads [] [] h = d.head
      heads [] (c ∷ cs) h = absurd (let f : None ≡ Some c = h in cc)
      heads (x ∷ E) [] h = absurd (let f : Some (code x.key) ≡ None = h in cc)
      heads (x ∷ E) (c ∷ cs) h = h

  pub stand-agree : (E : List (Entry Bytes)) (cs : List ℕ) → Stand E cs → all_same (map (λ e. code e.key % 2 ^ (5 * depth)) E) ≡ all_same (map (λ c. c % 2 ^ (5 * depth)) cs)
  stand-agree [] [] s = refl
  stand-agree [] (c ∷ cs) s = absurd (let f : None ≡ Some c = s.head in cc)
  stand-agree (e ∷ E) [] s = absurd (let f : Some (code e.key) ≡ None = s.head in cc)
  stand-agree (e ∷ E) (c ∷ cs) s =
      let f : Some (code e.key) ≡ Some c = s.head in
      let is : code e.key ≡ c = cc in
      let x : ℕ = code e.key % 2 ^ (5 * depth) in
      sym (ap (λ b. b && list_all (nat_eq x) (map (λ e. code e.key % 2 ^ (5 * depth)) E)) (nat_eq-same x))
      ∙ s.same x
      ∙ ap (λ y. nat_eq x (y % 2 ^ (5 * depth)) && list_all (nat_eq x) (map (λ c. c % 2 ^ (5 * depth)) cs)) (sym is)
      ∙ ap (λ b. b && list_all (nat_eq x) (map (λ c. c % 2 ^ (5 * depth)) cs)) (nat_eq-same x)
      ∙ ap (λ y. list_all (nat_eq (y % 2 ^ (5 * depth))) (map (λ c. c % 2 ^ (5 * depth)) cs)) is

  -- what the code of one key at a link says of the entries there
  pub record OneSays (test : ℕ → Bool) (E : List (Entry Bytes)) (one : Option ℕ) : Type 0 where
    pub none : one ≡ None → (p : ℕ) → test p ≡ false
    pub digit : (c : ℕ) → one ≡ Some c → (p : ℕ) → test p ≡ nat_eq (digit_at c depth) p
    pub stand : (c : ℕ) → one ≡ Some c → Stand E (c ∷ [])

  module _ (test : ℕ → ℕ → Bool) (g : ℕ → List (Entry Bytes)) (code_of : ℕ → Option ℕ) (bound : ℕ) (says : (k : ℕ) → k < bound → OneSays (λ p. test p k) (g k) (code_of k)) where
    low-first : (k : ℕ) (ks : List ℕ) → list_all (λ k. nat_lt k bound) (k ∷ ks) ≡ true → k < bound
    low-first k ks h = ltb-true k bound (and-first (nat_lt k bound) (list_all (λ k. nat_lt k bound) ks) h)

    low-rest : (k : ℕ) (ks : List ℕ) → list_all (λ k. nat_lt k bound) (k ∷ ks) ≡ true → list_all (λ k. nat_lt k bound) ks ≡ true
    low-rest k ks h = and-second (nat_lt k bound) (list_all (λ k. nat_lt k bound) ks) h

    pub tests-codes : (ks cs ps : List ℕ) → list_all (λ k. nat_lt k bound) ks ≡ true → codes_by code_of ks ≡ Some cs → pointwise test ps ks ≡ pointwise (λ p c. nat_eq (digit_at c depth) p) ps cs
    tests-codes [] cs ps low h = let e : Some [] ≡ Some cs = h in let same : [] ≡ cs = cc in ends ps cs same
      where
        ends : (ps cs : List ℕ) → [] ≡ cs → pointwise test ps [] ≡ pointwise (λ p c. nat_eq (digit_at c depth) p) ps cs
        ends ps cs e = subst (λ xs. pointwise test ps [] ≡ pointwise (λ p c. nat_eq (digit_at c depth) p) ps xs) e (empty ps)
          where
            empty : (ps : List ℕ) → pointwise test ps [] ≡ pointwise (λ p c. nat_eq (digit_at c depth) p) ps []
            empty [] = refl
            empty (p ∷ ps) = refl
    tests-codes (k ∷ ks) cs ps low h =
        let is = cons-some (code_of k) (codes_by code_of ks) cs h in
        subst (λ xs. pointwise test ps (k ∷ ks) ≡ pointwise (λ p c. nat_eq (digit_at c depth) p) ps xs) (sym is.4) (by_positions ps is.0 is.1 is.2 is.3 (λ qs. tests-codes ks is.1 qs (low-rest k ks low) is.3))
      where
        by_positions : (ps : List ℕ) (c : ℕ) (ds : List ℕ) → code_of k ≡ Some c → codes_by code_of ks ≡ Some ds → ((qs : List ℕ) → pointwise test qs ks ≡ pointwise (λ p c. nat_eq (digit_at c depth) p) qs ds)
            → pointwise test ps (k ∷ ks) ≡ pointwise (λ p c. nat_eq (digit_at c depth) p) ps (c ∷ ds)
        by_positions [] c ds is are rest = refl
        by_positions (p ∷ ps) c ds is are rest =
            ap (λ b. b && pointwise test ps ks) ((says k (low-first k ks low)).digit c is p) ∙ ap (λ b. nat_eq (digit_at c depth) p && b) (rest ps)

    pub tests-fail : (ks ps : List ℕ) → list_all (λ k. nat_lt k bound) ks ≡ true → codes_by code_of ks ≡ None → pointwise test ps ks ≡ false
    tests-fail [] ps low h = absurd (let e : Some [] ≡ None = h in cc)
    tests-fail (k ∷ ks) [] low h = refl
    tests-fail (k ∷ ks) (p ∷ ps) low h = by_first (code_of k) refl h (tests-fail ks ps (low-rest k ks low))
      where
        by_first : (o : Option ℕ) → code_of k ≡ o → option_and_then (λ c. option_map (λ ds. c ∷ ds) (codes_by code_of ks)) o ≡ None → (codes_by code_of ks ≡ None → pointwise test ps ks ≡ false)
            → pointwise test (p ∷ ps) (k ∷ ks) ≡ false
        by_first None is h rest = ap (λ b. b && pointwise test ps ks) ((says k (low-first k ks low)).none is p)
        by_first (Some c) is h rest = by_rest (codes_by code_of ks) refl h
          where
            and-false : (a : Bool) → (a && false) ≡ false
            and-false true = refl
            and-false false = refl

            by_rest : (r : Option (List ℕ)) → codes_by code_of ks ≡ r → option_map (λ ds. c ∷ ds) r ≡ None → pointwise test (p ∷ ps) (k ∷ ks) ≡ false
            by_rest None are h = ap (λ b. test p k && b) (rest are) ∙ and-false (test p k)
            by_rest (Some ds) are h = absurd (let e : Some (c ∷ ds) ≡ None = h in cc)

    pub stand-all : (ks cs : List ℕ) → list_all (λ k. nat_lt k bound) ks ≡ true → codes_by code_of ks ≡ Some cs → Stand (flat_map g ks) cs
    stand-all [] cs low h = let e : Some [] ≡ Some cs = h in let same : [] ≡ cs = cc in subst (Stand []) same stand-none
    stand-all (k ∷ ks) cs low h =
        let is = cons-some (code_of k) (codes_by code_of ks) cs h in
        subst (Stand (g k ++ flat_map g ks)) (sym is.4) (stand-append (g k) (flat_map g ks) (is.0 ∷ []) is.1 ((says k (low-first k ks low)).stand is.0 is.2) (stand-all ks is.1 (low-rest k ks low) is.3))

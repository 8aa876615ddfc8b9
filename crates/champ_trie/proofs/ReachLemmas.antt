-- Where the digits of a code lead.
use Rattle.std.proofs.Common.{◌≡◌, ℕ, suc, ◌+◌, ◌-◌, ◌*◌, ◌%◌, ◌^◌, ◌<◌, ◌≤◌, List, [], ◌∷◌, length, refl, ap, sym, subst, ◌∙◌, arith, cond, true, false, Bool, inl, inr, ◌⊎◌, ◌&&◌, Some, None, option_map}
use Rattle.std.specs.Prelude.{nat_eq, count_by}
use Rattle.std.specs.List.{filter, find}
use Rattle.std.specs.Cmp.{Equal-is}
use Rattle.std.specs.Ordering.{is_eq}
use Rattle.std.specs.declared.cmp.Ordering.{Ordering}
use Rattle.std.specs.declared.cmp.Ordering.TheVariants.{Less, Equal, Greater}
use Rattle.std.proofs.lemmas.Bool.{cases_eq, cases_order, eq-eqb, eqb-true, ne_eqb}
use Rattle.std.proofs.lemmas.Nat.{pow_pos}
use Rattle.std.proofs.Math.Nat.{mul-le-mul_right}
use Rattle.elem_core.specs.Codes.{digit_at}
use Rattle.elem_core.specs.declared.codes.TheConstants.{CODE_BITS, DEEPEST, LEVELS}
use Rattle.elem_core.proofs.CodeLemmas.{digit-more, same-bits}
use Rattle.champ_chain.proofs.SetLemmas.{count-cons}
use Rattle.node_heap.specs.Forms.{Forms}
use Rattle.champ_chain.specs.Entry.{Entry, entry, has_key, link_with}
use Rattle.champ_chain.specs.Chain.{IsChain}
use Rattle.champ_trie.specs.Trie.{IsCanon, IsTrie, IsPlace, IsRow, part, place_of}
use Rattle.champ_trie.specs.Reach.{agreeing, alike_in}
use Rattle.champ_trie.specs.declared.place.Place.{Place}
use Rattle.champ_trie.specs.declared.place.Place.TheVariants.{Empty}

-- two numbers below m and a multiple of it each
apart : (a b r s m : ℕ) → r < m → s < m → a * m + r ≡ b * m + s → (a ≡ b) × (r ≡ s)
apart a b r s m lr ls e = elim (cases_order a b) [
  | inl same ↦ (same, omega (arith, e, ap (λ x. x * m) same))
  | inr (inl less) ↦ absurd (let up_to : a + 1 ≤ b = omega arith in let more : (a + 1) * m ≤ b * m = mul-le-mul_right m up_to in omega (arith, e, more))
  | inr (inr up) ↦ absurd (let up_to : b + 1 ≤ a = omega arith in let more : (b + 1) * m ≤ a * m = mul-le-mul_right m up_to in omega (arith, e, more))
]

mod-less : (x m : ℕ) → 0 < m → x % m < m
mod-less x m h = omega arith

agree-test : (x c d : ℕ) → nat_eq (x % 2 ^ (5 * d)) (c % 2 ^ (5 * d)) && nat_eq (digit_at x d) (digit_at c d) ≡ nat_eq (x % 2 ^ (5 * (d + 1))) (c % 2 ^ (5 * (d + 1)))
agree-test x c d = elim (cases_eq (x % 2 ^ (5 * (d + 1))) (c % 2 ^ (5 * (d + 1)))) [
  | inl same ↦
      let both = apart (digit_at x d) (digit_at c d) (x % 2 ^ (5 * d)) (c % 2 ^ (5 * d)) (2 ^ (5 * d)) (mod-less x (2 ^ (5 * d)) (pow_pos (5 * d))) (mod-less c (2 ^ (5 * d)) (pow_pos (5 * d))) (sym (digit-more x d) ∙ same ∙ digit-more c d) in
      ap (λ b. b && nat_eq (digit_at x d) (digit_at c d)) (eq-eqb (x % 2 ^ (5 * d)) (c % 2 ^ (5 * d)) both.1) ∙ eq-eqb (digit_at x d) (digit_at c d) both.0 ∙ sym (eq-eqb (x % 2 ^ (5 * (d + 1))) (c % 2 ^ (5 * (d + 1))) same)
  | inr other ↦ by_tests (cases_eq (x % 2 ^ (5 * d)) (c % 2 ^ (5 * d))) (cases_eq (digit_at x d) (digit_at c d)) other
]
  where
    by_tests : ((x % 2 ^ (5 * d) ≡ c % 2 ^ (5 * d)) ⊎ (x % 2 ^ (5 * d) ≡ c % 2 ^ (5 * d) → ⊥)) → ((digit_at x d ≡ digit_at c d) ⊎ (digit_at x d ≡ digit_at c d → ⊥)) → (x % 2 ^ (5 * (d + 1)) ≡ c % 2 ^ (5 * (d + 1)) → ⊥)
        → nat_eq (x % 2 ^ (5 * d)) (c % 2 ^ (5 * d)) && nat_eq (digit_at x d) (digit_at c d) ≡ nat_eq (x % 2 ^ (5 * (d + 1))) (c % 2 ^ (5 * (d + 1)))
    by_tests (inl low) (inl high) other = absurd (other (digit-more x d ∙ ap (λ a. a * 2 ^ (5 * d) + x % 2 ^ (5 * d)) high ∙ ap (λ r. digit_at c d * 2 ^ (5 * d) + r) low ∙ sym (digit-more c d)))
    by_tests (inl low) (inr high) other =
        ap (λ b. b && nat_eq (digit_at x d) (digit_at c d)) (eq-eqb (x % 2 ^ (5 * d)) (c % 2 ^ (5 * d)) low) ∙ ne_eqb (digit_at x d) (digit_at c d) high ∙ sym (ne_eqb (x % 2 ^ (5 * (d + 1))) (c % 2 ^ (5 * (d + 1))) other)
    by_tests (inr low) high other = ap (λ b. b && nat_eq (digit_at x d) (digit_at c d)) (ne_eqb (x % 2 ^ (5 * d)) (c % 2 ^ (5 * d)) low) ∙ sym (ne_eqb (x % 2 ^ (5 * (d + 1))) (c % 2 ^ (5 * (d + 1))) other)

-- codes that agree above all depths are equal
pub same-bits-at : (d x y : ℕ) → d ≡ LEVELS → x < 2 ^ CODE_BITS → y < 2 ^ CODE_BITS → x % 2 ^ (5 * d) ≡ y % 2 ^ (5 * d) → x ≡ y
same-bits-at d x y deep low_x low_y same = same-bits x y low_x low_y (subst (λ n. x % 2 ^ (5 * n) ≡ y % 2 ^ (5 * n)) deep same)

module _ {X : Type 0} where
  filter-both : (p q r : X → Bool) → ((x : X) → p x && q x ≡ r x) → (xs : List X) → filter q (filter p xs) ≡ filter r xs
  filter-both p q r same [] = refl
  filter-both p q r same (x ∷ xs) = by_test (p x) refl (filter-both p q r same xs)
    where
      by_test : (b : Bool) → p x ≡ b → filter q (filter p xs) ≡ filter r xs → filter q (cond b (x ∷ filter p xs) (filter p xs)) ≡ cond (r x) (x ∷ filter r xs) (filter r xs)
      by_test true e rest =
          let test : q x ≡ r x = sym (ap (λ b. b && q x) e) ∙ same x in
          ap (λ b. cond b (x ∷ filter q (filter p xs)) (filter q (filter p xs))) test ∙ ap (λ ys. cond (r x) (x ∷ ys) ys) rest
      by_test false e rest =
          let test : r x ≡ false = sym (same x) ∙ ap (λ b. b && q x) e in
          rest ∙ sym (ap (λ b. cond b (x ∷ filter r xs) (filter r xs)) test)

  filter-all : (p : X → Bool) → ((x : X) → p x ≡ true) → (xs : List X) → filter p xs ≡ xs
  filter-all p all [] = refl
  filter-all p all (x ∷ xs) = ap (λ b. cond b (x ∷ filter p xs) (filter p xs)) (all x) ∙ ap (λ ys. x ∷ ys) (filter-all p all xs)

  -- a filter that keeps all that is sought
  pub find-kept : (q p : X → Bool) → ((x : X) → q x ≡ true → p x ≡ true) → (xs : List X) → find q (filter p xs) ≡ find q xs
  find-kept q p keeps [] = refl
  find-kept q p keeps (x ∷ xs) = by_test (p x) refl (q x) refl (find-kept q p keeps xs)
    where
      by_test : (b : Bool) → p x ≡ b → (a : Bool) → q x ≡ a → find q (filter p xs) ≡ find q xs → find q (cond b (x ∷ filter p xs) (filter p xs)) ≡ cond (q x) (Some x) (find q xs)
      by_test true e a f rest = ap (λ r. cond (q x) (Some x) r) rest
      by_test false e true f rest = absurd (let bad = sym e ∙ keeps x f in cc)
      by_test false e false f rest = rest ∙ sym (ap (λ b. cond b (Some x) (find q xs)) f)

  -- a count of what the filter keeps
  pub count-kept : (q p : X → Bool) → ((x : X) → q x ≡ true → p x ≡ true) → (xs : List X) → count_by q (filter p xs) ≡ count_by q xs
  count-kept q p keeps [] = refl
  count-kept q p keeps (x ∷ xs) = by_test (p x) refl (q x) refl (count-kept q p keeps xs)
    where
      by_test : (b : Bool) → p x ≡ b → (a : Bool) → q x ≡ a → count_by q (filter p xs) ≡ count_by q xs → count_by q (cond b (x ∷ filter p xs) (filter p xs)) ≡ count_by q (x ∷ xs)
      by_test true e a f rest = omega (arith, rest, count-cons q x xs, count-cons q x (filter p xs))
      by_test false e true f rest = absurd (let bad = sym e ∙ keeps x f in cc)
      by_test false e false f rest = let one : Bool → ℕ = λ b. cond b 1 0 in omega (arith, rest, count-cons q x xs, ap one f)

  -- a filter that keeps only what is counted
  count-only : (q p : X → Bool) → ((x : X) → p x ≡ true → q x ≡ true) → (xs : List X) → count_by q (filter p xs) ≡ length (filter p xs)
  count-only q p only [] = refl
  count-only q p only (x ∷ xs) = by_test (p x) refl (count-only q p only xs)
    where
      by_test : (b : Bool) → p x ≡ b → count_by q (filter p xs) ≡ length (filter p xs) → count_by q (cond b (x ∷ filter p xs) (filter p xs)) ≡ length (cond b (x ∷ filter p xs) (filter p xs))
      by_test true e rest = let one : Bool → ℕ = λ b. cond b 1 0 in omega (arith, rest, count-cons q x (filter p xs), ap one (only x e))
      by_test false e rest = rest

module _ {K : Type 0} (cmp : K → K → Ordering) where
  -- a look-up in one entry
  pub link-alone : (key k : K) (x : ℕ) (o : Ordering) → cmp key k ≡ o → cond (is_eq o) (Some x) None ≡ link_with cmp key (entry k x ∷ [])
  link-alone key k x o is = by_test (is_eq o) (ap is_eq is)
    where
      by_test : (b : Bool) → is_eq (cmp key k) ≡ b → cond b (Some x) None ≡ link_with cmp key (entry k x ∷ [])
      by_test true e = sym (ap (λ b. option_map (λ (e : Entry K). e.link) (cond b (Some (entry k x)) None)) e)
      by_test false e = sym (ap (λ b. option_map (λ (e : Entry K). e.link) (cond b (Some (entry k x)) None)) e)

  pub link-differs : (key k : K) (x : ℕ) → (cmp key k ≡ Equal → ⊥) → None ≡ link_with cmp key (entry k x ∷ [])
  link-differs key k x other = by_order (cmp key k) refl
    where
      by_order : (o : Ordering) → cmp key k ≡ o → None ≡ link_with cmp key (entry k x ∷ [])
      by_order Less is = link-alone key k x Less is
      by_order Equal is = absurd (other is)
      by_order Greater is = link-alone key k x Greater is

module _ {K : Type 0} (cmp : K → K → Ordering) (code : K → ℕ) where
  pub agreeing-none : (c : ℕ) (E : List (Entry K)) → agreeing code 0 c E ≡ E
  agreeing-none c E = filter-all _ (λ e. eq-eqb (code e.key % 1) (c % 1) (omega arith)) E

  pub agreeing-more : (d c : ℕ) (E : List (Entry K)) → part cmp code d (digit_at c d) (agreeing code d c E) ≡ agreeing code (d + 1) c E
  agreeing-more d c E = filter-both _ _ _ (λ e. agree-test (code e.key) c d) E

  -- where a row leads
  pub at-place : (F : Forms K) (left d l c : ℕ) (E : List (Entry K)) (place : Place) → IsTrie cmp code F (suc left) d l (agreeing code d c E)
      → ((depth e n : ℕ) (ls : List ℕ) → IsRow F l depth e n ls → place ≡ place_of e n ls (digit_at c d)) → digit_at c d < 32
      → IsPlace F (λ k P. IsTrie cmp code F left (suc d) k P) place (agreeing code (d + 1) c E)
  unfolding IsTrie
  at-place F left d l c E place row is low =
      subst (λ q. IsPlace F (λ k P. IsTrie cmp code F left (suc d) k P) q (agreeing code (d + 1) c E)) (sym (is d row.entries row.nodes row.links row.row))
      (subst (IsPlace F (λ k P. IsTrie cmp code F left (suc d) k P) (place_of row.entries row.nodes row.links (digit_at c d))) (agreeing-more d c E) (row.places (digit_at c d) low))

  pub trie-row : (F : Forms K) (left d l : ℕ) (E : List (Entry K)) → IsTrie cmp code F (suc left) d l E → (depth e n : ℕ) × (ls : List ℕ) × IsRow F l depth e n ls
  unfolding IsTrie
  trie-row F left d l E row = (d, row.entries, row.nodes, row.links, row.row)

  -- the row at a depth of the walk along a code, and what stands at the place of its digit
  module _ (F : Forms K) (d l c : ℕ) (E : List (Entry K)) (trie : IsTrie cmp code F (LEVELS - d) d l (agreeing code d c E)) (deep : d ≤ DEEPEST) where
    more : IsTrie cmp code F (suc (DEEPEST - d)) d l (agreeing code d c E)
    more = let same : LEVELS - d ≡ suc (DEEPEST - d) = omega (arith, deep) in subst (λ n. IsTrie cmp code F n d l (agreeing code d c E)) same trie

    pub row-there : (depth e n : ℕ) × (ls : List ℕ) × IsRow F l depth e n ls
    row-there = trie-row F (DEEPEST - d) d l (agreeing code d c E) more

    pub next-place : (p : ℕ) (place : Place) → p ≡ digit_at c d → ((depth e n : ℕ) (ls : List ℕ) → IsRow F l depth e n ls → place ≡ place_of e n ls p)
        → IsPlace F (λ k P. IsTrie cmp code F (LEVELS - (d + 1)) (d + 1) k P) place (agreeing code (d + 1) c E)
    next-place p place read was =
        let left : DEEPEST - d ≡ LEVELS - (d + 1) = omega (arith, deep) in
        let next : suc d ≡ d + 1 = omega arith in
        subst (λ n. IsPlace F (λ k P. IsTrie cmp code F n (d + 1) k P) place (agreeing code (d + 1) c E)) left
        (subst (λ m. IsPlace F (λ k P. IsTrie cmp code F (DEEPEST - d) m k P) place (agreeing code (d + 1) c E)) next
        (at-place F (DEEPEST - d) d l c E place more (λ depth e n ls row. was depth e n ls row ∙ ap (place_of e n ls) read) (omega arith)))

  pub trie-chain : (F : Forms K) (d l : ℕ) (E : List (Entry K)) → IsTrie cmp code F 0 d l E → IsChain cmp F l E
  unfolding IsTrie
  trie-chain F d l E chain = chain

  -- the key that is sought agrees with its code
  pub find-agreeing : ((j k : K) → cmp j k ≡ Equal → code j ≡ code k) → (key : K) (d : ℕ) (E : List (Entry K)) → find (has_key cmp key) (agreeing code d (code key) E) ≡ find (has_key cmp key) E
  find-agreeing same key d E =
      find-kept (has_key cmp key) _ (λ e is. let equal = (Equal-is (cmp key e.key)).0 is in eq-eqb (code e.key % 2 ^ (5 * d)) (code key % 2 ^ (5 * d)) (ap (λ n. n % 2 ^ (5 * d)) (sym (same key e.key equal)))) E

  -- what the place that the digits lead to says of a look-up
  module _ (same : (j k : K) → cmp j k ≡ Equal → code j ≡ code k) (key : K) (c d : ℕ) (E : List (Entry K)) (is_code : c ≡ code key) where
    pub find-there : find (has_key cmp key) (agreeing code d c E) ≡ find (has_key cmp key) E
    find-there = ap (λ n. find (has_key cmp key) (agreeing code d n E)) is_code ∙ find-agreeing same key d E

    pub link-there : link_with cmp key (agreeing code d c E) ≡ link_with cmp key E
    link-there = ap (option_map (λ (e : Entry K). e.link)) find-there

    pub link-empty : agreeing code d c E ≡ [] → None ≡ link_with cmp key E
    link-empty none = sym (ap (link_with cmp key) none) ∙ link-there

    pub link-one : (k : K) (x : ℕ) → agreeing code d c E ≡ entry k x ∷ [] → link_with cmp key (entry k x ∷ []) ≡ link_with cmp key E
    link-one k x one = sym (ap (link_with cmp key) one) ∙ link-there

  pub alike-agreeing : (d c : ℕ) (E : List (Entry K)) → alike_in code c (agreeing code d c E) ≡ alike_in code c E
  alike-agreeing d c E = count-kept _ _ (λ e is. eq-eqb (code e.key % 2 ^ (5 * d)) (c % 2 ^ (5 * d)) (ap (λ n. n % 2 ^ (5 * d)) (eqb-true (code e.key) c is))) E

  pub alike-none : (d c : ℕ) (E : List (Entry K)) → agreeing code d c E ≡ [] → 0 ≡ alike_in code c E
  alike-none d c E none = sym (ap (alike_in code c) none) ∙ alike-agreeing d c E

  pub alike-one : (d c : ℕ) (E : List (Entry K)) (k : K) (x : ℕ) → agreeing code d c E ≡ entry k x ∷ [] → alike_in code c (entry k x ∷ []) ≡ alike_in code c E
  alike-one d c E k x one = sym (ap (alike_in code c) one) ∙ alike-agreeing d c E

  -- one entry counts where it has the code
  pub alike-alone : (c : ℕ) (k : K) (x : ℕ) → (let n : ℕ = cond (nat_eq (code k) c) 1 0 in n) ≡ alike_in code c (entry k x ∷ [])
  alike-alone c k x = omega (arith, count-cons (λ (e : Entry K). nat_eq (code e.key) c) (entry k x) [])

  -- so deep that the whole code is seen
  pub alike-all : (d c : ℕ) (E : List (Entry K)) → d ≡ LEVELS → c < 2 ^ CODE_BITS → ((k : K) → code k < 2 ^ CODE_BITS) → length (agreeing code d c E) ≡ alike_in code c E
  alike-all d c E deep low small =
      sym (count-only _ _ (λ e is. eq-eqb (code e.key) c (same-bits-at d (code e.key) c deep (small e.key) low (eqb-true (code e.key % 2 ^ (5 * d)) (c % 2 ^ (5 * d)) is))) E) ∙ alike-agreeing d c E

-- a row with nothing at any position is the trie of no entries
pub canon-empty : {K : Type 0} (cmp : K → K → Ordering) (code : K → ℕ) (F : Forms K) (l e n : ℕ) (ls : List ℕ) → IsRow F l 0 e n ls → ((p : ℕ) → place_of e n ls p ≡ Empty) → IsCanon cmp code F l []
unfolding IsTrie
canon-empty cmp code F l e n ls row none = record {
  trie = record { entries = e; nodes = n; links = ls; row = row; places = λ p low. subst (λ q. IsPlace F (λ k P. IsTrie cmp code F DEEPEST 1 k P) q []) (sym (none p)) refl };
  distinct = record { once = λ key. omega arith };
}

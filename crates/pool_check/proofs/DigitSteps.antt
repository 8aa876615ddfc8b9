-- Codes compared with the positions of a set, one position after another.
use Rattle.std.proofs.Common.{◌≡◌, ◌≢◌, ℕ, zero, suc, ◌+◌, ◌-◌, ◌*◌, ◌%◌, ◌^◌, ◌<◌, ◌≤◌, Bool, true, false, ◌&&◌, cond, Some, None, List, [], ◌∷◌, ◌++◌, map, length, take, drop, get_or, refl, ap, sym, ◌∙◌, arith, drop-cons, add-one, append_assoc, length-drop}
use Rattle.std.specs.Prelude.{nat_eq, Option, option_map, option_and_then}
use Rattle.std.specs.List.{filter, list_all, range_with_len}
use Rattle.std.proofs.lemmas.Bool.{eq-eqb, ne_eqb, eqb-true, eqb-false}
use Rattle.std.proofs.lemmas.List.{take_all}
use Rattle.std.proofs.lemmas.List.Folds.{list_all-map}
use lib.Pointwise.{pointwise}
use Rattle.elem_core.specs.Codes.{digit_at}
use Rattle.champ_trie.specs.Bits.{has, rank}
use Rattle.pool_check.specs.Tries.{all_same}
use Rattle.pool_check.specs.Keeping.{digits_are, codes_stand, codes_by}
use Rattle.pool_check.proofs.CodeLists.{nat_eq-same, cons-some}

module _ (depth set : ℕ) (codes : List ℕ) where
  -- whether the codes from one on are those of the positions from one on
  abbrev pub left : ℕ → ℕ → Bool
  left p i = pointwise (λ q c. nat_eq (digit_at c depth) q) (filter (has set) (range_with_len p (32 - p))) (drop i codes)

  pub left-all : digits_are depth set codes ≡ left 0 0
  unfolding digits_are
  left-all = refl

  -- the positions from one on, of which it is the first if it is in the set
  positions-from : (p : ℕ) → p < 32 → filter (has set) (range_with_len p (32 - p)) ≡ cond (has set p) (p ∷ filter (has set) (range_with_len (p + 1) (32 - (p + 1)))) (filter (has set) (range_with_len (p + 1) (32 - (p + 1))))
  positions-from p low = let e : 32 - p ≡ suc (32 - (p + 1)) = omega arith in ap (λ m. filter (has set) (range_with_len p m)) e

  pub left-skip : (p i : ℕ) → p < 32 → has set p ≡ false → left p i ≡ left (p + 1) i
  left-skip p i low absent =
      ap (λ ps. pointwise (λ q c. nat_eq (digit_at c depth) q) ps (drop i codes)) (positions-from p low ∙ ap (λ b. cond b (p ∷ filter (has set) (range_with_len (p + 1) (32 - (p + 1)))) (filter (has set) (range_with_len (p + 1) (32 - (p + 1))))) absent)

  left-here : (p i : ℕ) → p < 32 → has set p ≡ true → left p i ≡ pointwise (λ q c. nat_eq (digit_at c depth) q) (p ∷ filter (has set) (range_with_len (p + 1) (32 - (p + 1)))) (drop i codes)
  left-here p i low there =
      ap (λ ps. pointwise (λ q c. nat_eq (digit_at c depth) q) ps (drop i codes)) (positions-from p low ∙ ap (λ b. cond b (p ∷ filter (has set) (range_with_len (p + 1) (32 - (p + 1)))) (filter (has set) (range_with_len (p + 1) (32 - (p + 1))))) there)

  left-first : (p i : ℕ) → p < 32 → has set p ≡ true → i < length codes → left p i ≡ (nat_eq (digit_at (get_or codes i 0) depth) p && left (p + 1) (i + 1))
  left-first p i low there more =
      left-here p i low there
      ∙ ap (λ cs. pointwise (λ q c. nat_eq (digit_at c depth) q) (p ∷ filter (has set) (range_with_len (p + 1) (32 - (p + 1)))) cs) (drop-cons codes i 0 more)
      ∙ ap (λ j. nat_eq (digit_at (get_or codes i 0) depth) p && left (p + 1) j) (let e : suc i ≡ i + 1 = omega arith in e)

  pub left-same : (p i : ℕ) → p < 32 → has set p ≡ true → i < length codes → digit_at (get_or codes i 0) depth ≡ p → left p i ≡ left (p + 1) (i + 1)
  left-same p i low there more is = left-first p i low there more ∙ ap (λ b. b && left (p + 1) (i + 1)) (eq-eqb (digit_at (get_or codes i 0) depth) p is)

  pub left-other : (p i : ℕ) → p < 32 → has set p ≡ true → i < length codes → digit_at (get_or codes i 0) depth ≢ p → left p i ≡ false
  left-other p i low there more other = left-first p i low there more ∙ ap (λ b. b && left (p + 1) (i + 1)) (ne_eqb (digit_at (get_or codes i 0) depth) p other)

  none-after : (i : ℕ) (cs : List ℕ) → length cs ≤ i → drop i cs ≡ []
  none-after zero [] h = refl
  none-after zero (c ∷ cs) h = absurd (omega arith)
  none-after (suc i) [] h = refl
  none-after (suc i) (c ∷ cs) h = none-after i cs (omega arith)

  pub left-short : (p i : ℕ) → p < 32 → has set p ≡ true → length codes ≤ i → left p i ≡ false
  left-short p i low there short =
      left-here p i low there ∙ ap (λ cs. pointwise (λ q c. nat_eq (digit_at c depth) q) (p ∷ filter (has set) (range_with_len (p + 1) (32 - (p + 1)))) cs) (none-after i codes short)

  pub left-end : (p i : ℕ) → 32 ≤ p → i ≤ length codes → left p i ≡ nat_eq i (length codes)
  left-end p i high low =
      let none : 32 - p ≡ 0 = omega arith in
      ap (λ m. pointwise (λ q c. nat_eq (digit_at c depth) q) (filter (has set) (range_with_len p m)) (drop i codes)) none
      ∙ ends i codes low
    where
      ends : (i : ℕ) (cs : List ℕ) → i ≤ length cs → pointwise (λ q c. nat_eq (digit_at c depth) q) [] (drop i cs) ≡ nat_eq i (length cs)
      ends zero [] low = refl
      ends zero (c ∷ cs) low = sym (ne_eqb 0 (length (c ∷ cs)) (λ e. absurd (omega (arith, e))))
      ends (suc i) [] low = absurd (omega arith)
      ends (suc i) (c ∷ cs) low = ends i cs (omega arith) ∙ same (nat_eq i (length cs)) refl
        where
          same : (b : Bool) → nat_eq i (length cs) ≡ b → b ≡ nat_eq (suc i) (length (c ∷ cs))
          same true e = sym (eq-eqb (suc i) (length (c ∷ cs)) (let f : i ≡ length cs = eqb-true i (length cs) e in omega (arith, f)))
          same false e = sym (ne_eqb (suc i) (length (c ∷ cs)) (λ f. eqb-false i (length cs) e (omega (arith, f))))

-- codes agree where each agrees with the first
pub same-first : (f : ℕ → ℕ) (cs : List ℕ) → all_same (map f cs) ≡ list_all (λ c. nat_eq (f (get_or cs 0 0)) (f c)) cs
same-first f [] = refl
same-first f (c ∷ cs) =
    list_all-map (nat_eq (f c)) f cs ∙ sym (ap (λ b. b && list_all (λ d. nat_eq (f c) (f d)) cs) (nat_eq-same (f c)))

-- one code more, or the end of them
pub codes-more : (code_of : ℕ → Option ℕ) (ks ds cs : List ℕ) (i k c : ℕ) → i < length ks → get_or ks i 0 ≡ k → option_map (λ es. ds ++ es) (codes_by code_of (take i ks)) ≡ Some cs → code_of k ≡ Some c → option_map (λ es. ds ++ es) (codes_by code_of (take (i + 1) ks)) ≡ Some (cs ++ c ∷ [])
codes-more code_of ks ds cs i k c low at before is = by_before (codes_by code_of (take i ks)) refl before
  where
    pushed : (ks : List ℕ) (i : ℕ) (es : List ℕ) → i < length ks → get_or ks i 0 ≡ k → codes_by code_of (take i ks) ≡ Some es → codes_by code_of (take (i + 1) ks) ≡ Some (es ++ c ∷ [])
    pushed [] i es low at h = absurd (omega arith)
    pushed (j ∷ ks) zero es low at h =
        let e : Some [] ≡ Some es = h in
        let none : [] ≡ es = cc in
        ap (λ o. option_and_then (λ b. option_map (λ bs. b ∷ bs) (Some [])) o) (ap code_of at ∙ is) ∙ ap (λ bs. Some (bs ++ c ∷ [])) none
    pushed (j ∷ ks) (suc i) es low at h =
        let parts = cons-some (code_of j) (codes_by code_of (take i ks)) es h in
        rw add-one
        (ap (λ o. option_and_then (λ b. option_map (λ bs. b ∷ bs) (codes_by code_of (take (suc i) ks))) o) parts.2
        ∙ ap (λ r. option_map (λ bs. parts.0 ∷ bs) r) (rw add-one at (pushed ks i parts.1 (omega arith) at parts.3))
        ∙ ap (λ bs. Some (bs ++ c ∷ [])) (sym parts.4))

    by_before : (r : Option (List ℕ)) → codes_by code_of (take i ks) ≡ r → option_map (λ es. ds ++ es) r ≡ Some cs → option_map (λ es. ds ++ es) (codes_by code_of (take (i + 1) ks)) ≡ Some (cs ++ c ∷ [])
    by_before None e h = absurd (let f : None ≡ Some cs = h in cc)
    by_before (Some es) e h =
        let f : Some (ds ++ es) ≡ Some cs = h in
        let g : ds ++ es ≡ cs = cc in
        ap (option_map (λ bs. ds ++ bs)) (pushed ks i es low at e) ∙ ap Some (sym (append_assoc ds es (c ∷ [])) ∙ ap (λ bs. bs ++ c ∷ []) g)

-- where one link has absent code, there are none
pub codes-none : (code_of : ℕ → Option ℕ) (ks ds : List ℕ) (i k : ℕ) → i < length ks → get_or ks i 0 ≡ k → code_of k ≡ None → option_map (λ es. ds ++ es) (codes_by code_of ks) ≡ None
codes-none code_of ks ds i k low at none = ap (option_map (λ es. ds ++ es)) (fails ks i low at)
  where
    fails : (ks : List ℕ) (i : ℕ) → i < length ks → get_or ks i 0 ≡ k → codes_by code_of ks ≡ None
    fails [] i low at = absurd (omega arith)
    fails (j ∷ ks) zero low at = ap (λ o. option_and_then (λ b. option_map (λ bs. b ∷ bs) (codes_by code_of ks)) o) (ap code_of at ∙ none)
    fails (j ∷ ks) (suc i) low at = ap (λ r. option_and_then (λ b. option_map (λ bs. b ∷ bs) r) (code_of j)) (fails ks i (omega arith) at) ∙ no_rest (code_of j)
      where
        nothing : Option (List ℕ)
        nothing = None

        no_rest : (o : Option ℕ) → option_and_then (λ b. option_map (λ bs. b ∷ bs) nothing) o ≡ None
        no_rest None = refl
        no_rest (Some b) = refl

-- the codes of the two parts of a row's links
module _ (a b : Option (List ℕ)) where
  abbrev both : Option (List ℕ)
  both = option_and_then (λ cs. option_map (λ ds. cs ++ ds) b) a

  pub both-some : (cs ds : List ℕ) → option_map (λ es. [] ++ es) a ≡ Some cs → option_map (λ es. cs ++ es) b ≡ Some ds → Some ds ≡ both
  both-some cs ds first second = by_first a refl first
    where
      by_first : (o : Option (List ℕ)) → a ≡ o → option_map (λ es. [] ++ es) o ≡ Some cs → Some ds ≡ option_and_then (λ cs. option_map (λ ds. cs ++ ds) b) o
      by_first None e h = absurd (let f : None ≡ Some cs = h in cc)
      by_first (Some es) e h = let f : Some es ≡ Some cs = h in let g : es ≡ cs = cc in sym (ap (λ bs. option_map (λ ds. bs ++ ds) b) g ∙ second)

  pub both-first : option_map (λ es. [] ++ es) a ≡ None → None ≡ both
  both-first h = by_first a h
    where
      by_first : (o : Option (List ℕ)) → option_map (λ es. [] ++ es) o ≡ None → None ≡ option_and_then (λ cs. option_map (λ ds. cs ++ ds) b) o
      by_first None h = refl
      by_first (Some es) h = absurd (let f : Some es ≡ None = h in cc)

  pub both-second : (cs : List ℕ) → option_map (λ es. cs ++ es) b ≡ None → None ≡ both
  both-second cs h = by_second b h a
    where
      by_second : (o : Option (List ℕ)) → option_map (λ es. cs ++ es) o ≡ None → (p : Option (List ℕ)) → None ≡ option_and_then (λ cs. option_map (λ ds. cs ++ ds) o) p
      by_second None h None = refl
      by_second None h (Some es) = refl
      by_second (Some es) h p = absurd (let f : Some (cs ++ es) ≡ None = h in cc)

-- the tests of a row's codes, one after the other
module _ (depth e d : ℕ) (codes : List ℕ) (own : ℕ) (is : own ≡ rank e 32) (low : rank e 32 ≤ length codes) where
  abbrev after : List ℕ
  after = take (length codes - own) (drop own codes)

  after-is : after ≡ drop (rank e 32) codes
  after-is = take_all (length codes - own) (drop own codes) (omega (arith, length-drop own codes)) ∙ ap (λ i. drop i codes) is

  pub stand-first : digits_are depth e (take own codes) ≡ false → codes_stand depth e d codes ≡ false
  unfolding codes_stand
  stand-first h =
      ap (λ b. b && digits_are depth d (drop (rank e 32) codes) && all_same (map (λ c. c % 2 ^ (5 * depth)) codes)) (ap (λ i. digits_are depth e (take i codes)) (sym is) ∙ h)

  pub stand-second : digits_are depth d after ≡ false → codes_stand depth e d codes ≡ false
  unfolding codes_stand
  stand-second h =
      ap (λ b. digits_are depth e (take (rank e 32) codes) && b && all_same (map (λ c. c % 2 ^ (5 * depth)) codes)) (ap (digits_are depth d) (sym after-is) ∙ h)
      ∙ ap (λ b. b && all_same (map (λ c. c % 2 ^ (5 * depth)) codes)) (and-false (digits_are depth e (take (rank e 32) codes)))
    where
      and-false : (a : Bool) → (a && false) ≡ false
      and-false true = refl
      and-false false = refl

  pub stand-third : digits_are depth e (take own codes) ≡ true → digits_are depth d after ≡ true → codes_stand depth e d codes ≡ all_same (map (λ c. c % 2 ^ (5 * depth)) codes)
  unfolding codes_stand
  stand-third first second =
      ap (λ b. b && digits_are depth d (drop (rank e 32) codes) && all_same (map (λ c. c % 2 ^ (5 * depth)) codes)) (ap (λ i. digits_are depth e (take i codes)) (sym is) ∙ first)
      ∙ ap (λ b. b && all_same (map (λ c. c % 2 ^ (5 * depth)) codes)) (ap (digits_are depth d) (sym after-is) ∙ second)

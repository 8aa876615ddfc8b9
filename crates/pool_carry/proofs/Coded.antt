-- Entries with their codes, and without.
use Rattle.std.proofs.Common.{◌≡◌, ℕ, suc, ◌+◌, ◌<◌, refl, ap, ◌∙◌, arith, Bool, true, false, cond, Ordering, List, [], ◌∷◌, length, map, get_or}
use Rattle.std.specs.Prelude.{nat_eq}
use Rattle.std.specs.Ordering.{nat_cmp, is_lt, ordering_then}
use Rattle.std.specs.declared.cmp.Ordering.TheVariants.{Less, Equal, Greater}
use Rattle.std.proofs.lemmas.List.{get_or-map, length-map}
use Rattle.champ_chain.specs.Entry.{Entry}
use Rattle.std.specs.Cmp.Lexicographic.{slice_cmp}
use Rattle.elem_core.specs.Codes.{digit_at}
use Rattle.champ_trie.specs.Trie.{part}
use Rattle.pool_text.specs.Rows.{Bytes}
use Rattle.pool_carry.specs.Making.{seen, AreCoded, with_digit}
use Rattle.pool_carry.specs.declared.entries.Entry.{Entry as CodedEntry}

-- those with a digit are the part with it
pub seen-part : (code : Bytes → ℕ) (depth p : ℕ) (es : List CodedEntry) → AreCoded code es → map seen (with_digit depth p es) ≡ part (slice_cmp nat_cmp) code depth p (map seen es)
seen-part code depth p [] coded = refl
seen-part code depth p (e ∷ es) coded =
    by_test (nat_eq (digit_at e.code depth) p) (seen-part code depth p es (λ i d low. coded (suc i) d (omega (arith, low))))
    ∙ ap (λ c. cond (nat_eq (digit_at c depth) p) (seen e ∷ part (slice_cmp nat_cmp) code depth p (map seen es)) (part (slice_cmp nat_cmp) code depth p (map seen es))) (coded 0 e (omega arith))
  where
    by_test : (b : Bool) → map seen (with_digit depth p es) ≡ part (slice_cmp nat_cmp) code depth p (map seen es)
        → map seen (cond b (e ∷ with_digit depth p es) (with_digit depth p es)) ≡ cond b (seen e ∷ part (slice_cmp nat_cmp) code depth p (map seen es)) (part (slice_cmp nat_cmp) code depth p (map seen es))
    by_test true rest = ap (λ xs. seen e ∷ xs) rest
    by_test false rest = rest

-- the first of two orders tells unless it is equal
pub lt-first : (a b : Ordering) → is_lt (ordering_then a b) ≡ false → is_lt a ≡ false
lt-first Less b not_less = not_less
lt-first Equal b not_less = refl
lt-first Greater b not_less = refl

-- entries whose keys don't fall, without their codes
pub seen-sorted : (es : List CodedEntry) → ((k : ℕ) (d : CodedEntry) → k + 1 < length es → is_lt (slice_cmp nat_cmp (get_or es (k + 1) d).key.now (get_or es k d).key.now) ≡ false)
    → (k : ℕ) (d : Entry Bytes) → k + 1 < length (map seen es) → is_lt (slice_cmp nat_cmp (get_or (map seen es) (k + 1) d).key (get_or (map seen es) k d).key) ≡ false
seen-sorted [] sorted k d low = absurd (omega (arith, low))
seen-sorted (e ∷ es) sorted k d low =
    let long : length (map seen (e ∷ es)) ≡ length (e ∷ es) = length-map (e ∷ es) seen in
    let first : get_or (map seen (e ∷ es)) k d ≡ seen (get_or (e ∷ es) k e) = get_or-map seen (e ∷ es) k e d (omega (arith, low, long)) in
    let second : get_or (map seen (e ∷ es)) (k + 1) d ≡ seen (get_or (e ∷ es) (k + 1) e) = get_or-map seen (e ∷ es) (k + 1) e d (omega (arith, low, long)) in
    ap (λ (x : Entry Bytes). is_lt (slice_cmp nat_cmp x.key (get_or (map seen (e ∷ es)) k d).key)) second
    ∙ ap (λ (x : Entry Bytes). is_lt (slice_cmp nat_cmp (get_or (e ∷ es) (k + 1) e).key.now x.key)) first ∙ sorted k e (omega (arith, low, long))

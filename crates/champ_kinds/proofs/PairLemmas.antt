-- Keys among entries and among the bindings of their pairs.
use Rattle.std.proofs.Common.{◌≡◌, ℕ, Bool, true, false, not, cond, List, [], ◌∷◌, refl, ap, sym, subst, ◌∙◌, arith, Option, Some, None}
use Rattle.std.specs.Prelude.{count_by, option_map, unwrap_or}
use Rattle.std.specs.List.{AllZip, find}
use Rattle.std.specs.Cmp.{IsTotalOrder, Equal-is}
use Rattle.std.specs.Ordering.{is_eq}
use Rattle.std.specs.declared.cmp.Ordering.{Ordering}
use Rattle.std.specs.declared.cmp.Ordering.TheVariants.{Equal}
use Rattle.node_heap.specs.Forms.{Forms}
use Rattle.champ_chain.specs.Entry.{Entry, entry, has_key, link_with, others}
use Rattle.champ_chain.proofs.SetLemmas.{count-cons}
use Rattle.elem_core.specs.Codes.{masked_code}
use Rattle.champ_trie.specs.Trie.{code_by}
use Rattle.champ_trie.specs.Reach.{alike_in, alike_to}
use Rattle.champ_kinds.specs.Binding.{Binding, binding, binds, value_with, unbind, kept_key, alike_keys}
use Rattle.champ_kinds.specs.Kinds.{IsPair}

module _ {K : Type 0} (cmp : K → K → Ordering) where
  pub link-none : (key : K) (E : List (Entry K)) → link_with cmp key E ≡ None → find (has_key cmp key) E ≡ None
  link-none key E is = by_found (find (has_key cmp key) E) refl
    where
      by_found : (r : Option (Entry K)) → find (has_key cmp key) E ≡ r → r ≡ None
      by_found None e = refl
      by_found (Some d) e = let some : Some d.link ≡ None = ap (option_map (λ (x : Entry K). x.link)) (sym e) ∙ is in cc

  pub others-none : (key : K) (E : List (Entry K)) → find (has_key cmp key) E ≡ None → others cmp key E ≡ E
  others-none key [] is = refl
  others-none key (e ∷ es) is = by_test (has_key cmp key e) refl (λ rest. others-none key es rest)
    where
      by_test : (t : Bool) → has_key cmp key e ≡ t → (find (has_key cmp key) es ≡ None → others cmp key es ≡ es) → others cmp key (e ∷ es) ≡ e ∷ es
      by_test true equal deeper = let first : Some e ≡ None = ap (λ t. cond t (Some e) (find (has_key cmp key) es)) (sym equal) ∙ is in cc
      by_test false differs deeper =
          ap (λ t. cond (not t) (e ∷ others cmp key es) (others cmp key es)) differs
          ∙ ap (λ xs. e ∷ xs) (deeper (ap (λ t. cond t (Some e) (find (has_key cmp key) es)) (sym differs) ∙ is))

  module _ (o : IsTotalOrder cmp) where
    -- keys that compare equal have the same others
    pub others-same : (key k : K) → cmp key k ≡ Equal → (E : List (Entry K)) → others cmp key E ≡ others cmp k E
    others-same key k same [] = refl
    others-same key k same (e ∷ es) =
        let test : has_key cmp key e ≡ has_key cmp k e = ap is_eq (o.congr key k e.key same) in
        let rest = others-same key k same es in
        ap (λ t. cond (not t) (e ∷ others cmp key es) (others cmp key es)) test
        ∙ ap (λ xs. cond (not (has_key cmp k e)) (e ∷ xs) xs) rest

module _ {K : Type 0} (F : Forms K) where
  -- a test of keys counts the same
  count-pairs : (test : K → Bool) (E : List (Entry K)) (M : List (Binding K)) → AllZip (IsPair F) E M → count_by (λ (e : Entry K). test e.key) E ≡ count_by (λ (b : Binding K). test b.key) M
  count-pairs test [] [] are = refl
  count-pairs test [] (b ∷ bs) are = absurd are
  count-pairs test (e ∷ es) [] are = absurd are
  count-pairs test (e ∷ es) (b ∷ bs) are =
      let rest = count-pairs test es bs are.1 in
      let first : cond (test b.key) 1 0 ≡ cond (test e.key) 1 0 = ap (λ k. let n : ℕ = cond (test k) 1 0 in n) are.0.key in
      omega (arith, rest, first, count-cons (λ (d : Entry K). test d.key) e es, count-cons (λ (d : Binding K). test d.key) b bs)

  pub alike-pairs : (code : K → ℕ) (bits : ℕ) (key : K) (E : List (Entry K)) (M : List (Binding K)) → AllZip (IsPair F) E M → alike_to code bits key E ≡ alike_keys code bits key M
  alike-pairs code bits key E M are = count-pairs _ E M are

  module _ (cmp : K → K → Ordering) where
    -- the entry that a look-up finds
    pub record IsFound (key : K) (E : List (Entry K)) (M : List (Binding K)) (x : ℕ) : Type 0 where
      pub found : K
      pub value : ℕ
      pub same : cmp key found ≡ Equal
      pub pair : IsPair F (entry found x) (binding found value)
      pub here : value_with cmp key M ≡ Some value
      pub kept : kept_key cmp key M ≡ found

    pub found-pairs : (key : K) (E : List (Entry K)) (M : List (Binding K)) (x : ℕ) → AllZip (IsPair F) E M → link_with cmp key E ≡ Some x → IsFound key E M x
    found-pairs key [] [] x are is = absurd (cc)
    found-pairs key [] (b ∷ bs) x are is = absurd are
    found-pairs key (e ∷ es) [] x are is = absurd are
    found-pairs key (e ∷ es) (b ∷ bs) x are is = by_test (has_key cmp key e) refl (λ rest. found-pairs key es bs x are.1 rest)
      where
        by_test : (t : Bool) → has_key cmp key e ≡ t → (link_with cmp key es ≡ Some x → IsFound key es bs x) → IsFound key (e ∷ es) (b ∷ bs) x
        by_test true equal deeper =
            let test : binds cmp key b ≡ true = ap (λ k. is_eq (cmp key k)) are.0.key ∙ equal in
            let at : e.link ≡ x = let first : Some e.link ≡ Some x = ap (λ t. option_map (λ (d : Entry K). d.link) (cond t (Some e) (find (has_key cmp key) es))) (sym equal) ∙ is in cc in
            record {
              found = e.key;
              value = b.value;
              same = (Equal-is (cmp key e.key)).0 equal;
              pair = record { key_cell = are.0.key_cell; cell = are.0.cell; row = ap F (sym at) ∙ are.0.row; key = refl };
              here = ap (λ t. option_map (λ (d : Binding K). d.value) (cond t (Some b) (find (binds cmp key) bs))) test;
              kept = ap (λ t. unwrap_or (option_map (λ (d : Binding K). d.key) (cond t (Some b) (find (binds cmp key) bs))) key) test ∙ are.0.key;
            }
        by_test false differs deeper =
            let test : binds cmp key b ≡ false = ap (λ k. is_eq (cmp key k)) are.0.key ∙ differs in
            let later = deeper (ap (λ t. option_map (λ (d : Entry K). d.link) (cond t (Some e) (find (has_key cmp key) es))) (sym differs) ∙ is) in
            record {
              found = later.found;
              value = later.value;
              same = later.same;
              pair = later.pair;
              here = ap (λ t. option_map (λ (d : Binding K). d.value) (cond t (Some b) (find (binds cmp key) bs))) test ∙ later.here;
              kept = ap (λ t. unwrap_or (option_map (λ (d : Binding K). d.key) (cond t (Some b) (find (binds cmp key) bs))) key) test ∙ later.kept;
            }

    -- a key that no entry has
    pub absent-pairs : (key : K) (E : List (Entry K)) (M : List (Binding K)) → AllZip (IsPair F) E M → find (has_key cmp key) E ≡ None → find (binds cmp key) M ≡ None
    absent-pairs key [] [] are is = refl
    absent-pairs key [] (b ∷ bs) are is = absurd are
    absent-pairs key (e ∷ es) [] are is = absurd are
    absent-pairs key (e ∷ es) (b ∷ bs) are is = by_test (has_key cmp key e) refl (λ rest. absent-pairs key es bs are.1 rest)
      where
        by_test : (t : Bool) → has_key cmp key e ≡ t → (find (has_key cmp key) es ≡ None → find (binds cmp key) bs ≡ None) → find (binds cmp key) (b ∷ bs) ≡ None
        by_test true equal deeper = let first : Some e ≡ None = ap (λ t. cond t (Some e) (find (has_key cmp key) es)) (sym equal) ∙ is in cc
        by_test false differs deeper =
            let test : binds cmp key b ≡ false = ap (λ k. is_eq (cmp key k)) are.0.key ∙ differs in
            ap (λ t. cond t (Some b) (find (binds cmp key) bs)) test
            ∙ deeper (ap (λ t. cond t (Some e) (find (has_key cmp key) es)) (sym differs) ∙ is)

    -- the pairs of other keys
    pub others-pairs : (key : K) (E : List (Entry K)) (M : List (Binding K)) → AllZip (IsPair F) E M → AllZip (IsPair F) (others cmp key E) (unbind cmp key M)
    others-pairs key [] [] are = tt
    others-pairs key [] (b ∷ bs) are = absurd are
    others-pairs key (e ∷ es) [] are = absurd are
    others-pairs key (e ∷ es) (b ∷ bs) are =
        let test : binds cmp key b ≡ has_key cmp key e = ap (λ k. is_eq (cmp key k)) are.0.key in
        subst (λ t. AllZip (IsPair F) (others cmp key (e ∷ es)) (cond (not t) (b ∷ unbind cmp key bs) (unbind cmp key bs))) (sym test) (both (has_key cmp key e) (others-pairs key es bs are.1))
      where
        both : (t : Bool) → AllZip (IsPair F) (others cmp key es) (unbind cmp key bs) → AllZip (IsPair F) (cond (not t) (e ∷ others cmp key es) (others cmp key es)) (cond (not t) (b ∷ unbind cmp key bs) (unbind cmp key bs))
        both true rest = rest
        both false rest = (are.0, rest)

    -- a key is absent from the map where it is absent from the trie
    pub absent-map : (key : K) (E : List (Entry K)) (M : List (Binding K)) → AllZip (IsPair F) E M → link_with cmp key E ≡ None → value_with cmp key M ≡ None
    absent-map key E M are is = ap (option_map (λ (b : Binding K). b.value)) (absent-pairs key E M are (link-none cmp key E is))

    -- and there only
    pub absent-trie : (key : K) (E : List (Entry K)) (M : List (Binding K)) → AllZip (IsPair F) E M → value_with cmp key M ≡ None → link_with cmp key E ≡ None
    absent-trie key E M are none = by_found (link_with cmp key E) refl
      where
        by_found : (r : Option ℕ) → link_with cmp key E ≡ r → r ≡ None
        by_found None is = refl
        by_found (Some x) is = let here = (found-pairs key E M x are is).here in cc

-- keys with one code have as many alike
pub alike-there : {K : Type 0} (code : K → ℕ) (bits : ℕ) (key k : K) (E : List (Entry K)) → code key ≡ code k → alike_to code bits key E ≡ alike_to code bits k E
alike-there code bits key k E same = ap (λ c. alike_in (code_by code bits) (masked_code c bits) E) same

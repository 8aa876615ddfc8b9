-- What a finite map has at a key after an edit at that key, and after one at another.
use Rattle.std.proofs.Common.{◌≡◌, ◌≢◌, ℕ, Bool, true, false, not, cond, List, [], ◌∷◌, refl, ap, sym, subst, ◌∙◌, Some, None}
use Rattle.std.specs.Prelude.{option_map, unwrap_or}
use Rattle.std.specs.List.{find, All}
use Rattle.std.specs.Cmp.{IsTotalOrder, Equal-is, tied_itself}
use Rattle.std.proofs.lemmas.Cmp.{tied_back}
use Rattle.std.proofs.lemmas.List.Elements.{All-head, All-tail}
use Rattle.std.specs.Ordering.{is_eq}
use Rattle.std.specs.declared.cmp.Ordering.{Ordering}
use Rattle.std.specs.declared.cmp.Ordering.TheVariants.{Equal}
use Rattle.champ_kinds.specs.Binding.{Binding, binding, binds, value_with, bind, unbind, kept_key}

module _ {K : Type 0} (cmp : K → K → Ordering) where
  -- what holds of each value holds of the one that is found
  pub value-all : (P : ℕ → Type 0) (k : K) (l : ℕ) (M : List (Binding K)) → All (λ b. P b.value) M → value_with cmp k M ≡ Some l → P l
  value-all P k l [] all is = absurd (cc)
  value-all P k l (b ∷ bs) all is = by_test (binds cmp k b) refl (λ rest. value-all P k l bs (All-tail (λ (c : Binding K). P c.value) b bs all) rest)
    where
      by_test : (t : Bool) → binds cmp k b ≡ t → (value_with cmp k bs ≡ Some l → P l) → P l
      by_test true equal deeper =
          let at : b.value ≡ l = let first : Some b.value ≡ Some l = ap (λ t. option_map (λ (d : Binding K). d.value) (cond t (Some b) (find (binds cmp k) bs))) (sym equal) ∙ is in cc in
          subst P at (All-head (λ (c : Binding K). P c.value) b bs all)
      by_test false differs deeper = deeper (ap (λ t. option_map (λ (d : Binding K). d.value) (cond t (Some b) (find (binds cmp k) bs))) (sym differs) ∙ is)

  find-unbound : (key : K) (M : List (Binding K)) → find (binds cmp key) (unbind cmp key M) ≡ None
  find-unbound key [] = refl
  find-unbound key (b ∷ bs) = by_test (binds cmp key b) refl (find-unbound key bs)
    where
      by_test : (t : Bool) → binds cmp key b ≡ t → find (binds cmp key) (unbind cmp key bs) ≡ None → find (binds cmp key) (unbind cmp key (b ∷ bs)) ≡ None
      by_test true equal deeper = ap (λ t. find (binds cmp key) (cond (not t) (b ∷ unbind cmp key bs) (unbind cmp key bs))) equal ∙ deeper
      by_test false differs deeper =
          ap (λ t. find (binds cmp key) (cond (not t) (b ∷ unbind cmp key bs) (unbind cmp key bs))) differs
          ∙ (ap (λ t. cond t (Some b) (find (binds cmp key) (unbind cmp key bs))) differs ∙ deeper)

  -- a key that was taken out has no value
  pub unbound-here : (key : K) (M : List (Binding K)) → value_with cmp key (unbind cmp key M) ≡ None
  unbound-here key M = ap (option_map (λ (d : Binding K). d.value)) (find-unbound key M)

  module _ (o : IsTotalOrder cmp) where
    kept-same : (key : K) (M : List (Binding K)) → cmp key (kept_key cmp key M) ≡ Equal
    kept-same key [] = tied_itself o key
    kept-same key (b ∷ bs) = by_test (binds cmp key b) refl (kept-same key bs)
      where
        by_test : (t : Bool) → binds cmp key b ≡ t → cmp key (kept_key cmp key bs) ≡ Equal → cmp key (kept_key cmp key (b ∷ bs)) ≡ Equal
        by_test true equal deeper = ap (λ t. cmp key (unwrap_or (option_map (λ (d : Binding K). d.key) (cond t (Some b) (find (binds cmp key) bs))) key)) equal ∙ (Equal-is (cmp key b.key)).0 equal
        by_test false differs deeper = ap (λ t. cmp key (unwrap_or (option_map (λ (d : Binding K). d.key) (cond t (Some b) (find (binds cmp key) bs))) key)) differs ∙ deeper

    -- a key that was bound has its value
    pub bound-here : (key : K) (v : ℕ) (M : List (Binding K)) → value_with cmp key (bind cmp M key v) ≡ Some v
    bound-here key v M = ap (λ r. option_map (λ (d : Binding K). d.value) (cond (is_eq r) (Some (binding (kept_key cmp key M) v)) (find (binds cmp key) (unbind cmp key M)))) (kept-same key M)

    module _ (key k : K) (other : cmp key k ≢ Equal) where
      not-both : (b : Binding K) → binds cmp key b ≡ true → binds cmp k b ≡ false
      not-both b equal = by_test (binds cmp k b) refl
        where
          by_test : (t : Bool) → binds cmp k b ≡ t → binds cmp k b ≡ false
          by_test false e = e
          by_test true e = absurd (other (o.congr key b.key k ((Equal-is (cmp key b.key)).0 equal) ∙ tied_back o k b.key ((Equal-is (cmp k b.key)).0 e)))

      find-other : (M : List (Binding K)) → find (binds cmp k) (unbind cmp key M) ≡ find (binds cmp k) M
      find-other [] = refl
      find-other (b ∷ bs) = by_test (binds cmp key b) refl (find-other bs)
        where
          by_test : (t : Bool) → binds cmp key b ≡ t → find (binds cmp k) (unbind cmp key bs) ≡ find (binds cmp k) bs → find (binds cmp k) (unbind cmp key (b ∷ bs)) ≡ find (binds cmp k) (b ∷ bs)
          by_test true equal deeper =
              ap (λ t. find (binds cmp k) (cond (not t) (b ∷ unbind cmp key bs) (unbind cmp key bs))) equal
              ∙ (deeper ∙ sym (ap (λ t. cond t (Some b) (find (binds cmp k) bs)) (not-both b equal)))
          by_test false differs deeper =
              ap (λ t. find (binds cmp k) (cond (not t) (b ∷ unbind cmp key bs) (unbind cmp key bs))) differs
              ∙ ap (λ r. cond (binds cmp k b) (Some b) r) deeper

      -- another key has the value that it had
      pub unbound-other : (M : List (Binding K)) → value_with cmp k (unbind cmp key M) ≡ value_with cmp k M
      unbound-other M = ap (option_map (λ (d : Binding K). d.value)) (find-other M)

      pub bound-other : (v : ℕ) (M : List (Binding K)) → value_with cmp k (bind cmp M key v) ≡ value_with cmp k M
      bound-other v M =
          ap (λ t. option_map (λ (d : Binding K). d.value) (cond t (Some (binding (kept_key cmp key M) v)) (find (binds cmp k) (unbind cmp key M)))) (not-both (binding (kept_key cmp key M) v) (ap is_eq (kept-same key M)))
          ∙ unbound-other M

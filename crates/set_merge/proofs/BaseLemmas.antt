-- Fronts of one entry at most.
use Rattle.std.proofs.Common.{◌≡◌, ℕ, ◌<◌, ◌≤◌, List, [], ◌∷◌, ◌++◌, length, take, refl, ap, sym, subst, ◌∙◌, arith, Bool, true, false, cond, append_assoc}
use Rattle.std.specs.Cmp.{IsTotalOrder}
use Rattle.std.specs.declared.cmp.Ordering.{Ordering}
use Rattle.std.specs.declared.cmp.Ordering.TheVariants.{Less, Equal, Greater}
use Rattle.node_heap.specs.Forms.{Forms}
use Rattle.champ_chain.specs.Entry.{Entry, SameSet}
use Rattle.champ_chain.specs.Chain.{IsRising}
use Rattle.champ_chain.proofs.RisingLemmas.{less_flip}
use Rattle.champ_trie.proofs.GatherLemmas.{same-is, same-swap}
use Rattle.champ_trie.specs.declared.place.Place.{Place}
use Rattle.set_merge.specs.declared.keeps.Keeps.{Keeps}
use Rattle.set_merge.specs.declared.chains.Fronts.{Fronts}
use Rattle.set_merge.specs.declared.merged.Merged.{Merged}
use Rattle.set_merge.specs.Merge.{merged}
use Rattle.set_merge.specs.Walk.{IsRun}
use Rattle.set_merge.specs.Chains.{IsMergedRun, AreFronts, IsBefore}
use Rattle.set_merge.proofs.MergeLemmas.{merged-first, merged-second, merged-equal, merged-differ}

module _ {X : Type 0} where
  -- the first of a list that has one
  pub record IsFirst (es : List X) : Type 0 where
    pub first : X
    pub others : List X
    pub whole : es ≡ first ∷ others

  pub first-of : (n : ℕ) (es : List X) → 0 < n → n ≤ length es → IsFirst es
  first-of n [] some fits = absurd (omega (arith, some, fits))
  first-of n (e ∷ es) some fits = record { first = e; others = es; whole = refl }

  pub take-first : (n : ℕ) (es : List X) (e : X) (us : List X) → es ≡ e ∷ us → n ≡ 1 → take n es ≡ e ∷ []
  take-first n es e us whole one = ap (λ m. take m es) one ∙ ap (take 1) whole

  pub take-none : (n : ℕ) (es : List X) → n ≡ 0 → take n es ≡ []
  take-none n es none = ap (λ m. take m es) none

  cond-none : (b : Bool) → (let xs : List X = cond b [] [] in xs) ≡ []
  cond-none true = refl
  cond-none false = refl

module _ {K : Type 0} (cmp : K → K → Ordering) where
  kept-rising : (b : Bool) (e : Entry K) (ts : List (Entry K)) → IsRising cmp (e ∷ ts) → IsRising cmp (cond b (e ∷ []) [] ++ ts)
  kept-rising true e ts rising = rising
  kept-rising false e ts rising = rising.1

  module _ (k : Keeps) (F : Forms K) (fronts : Fronts) (after : Merged) (es ds ts : List (Entry K)) (f : AreFronts F cmp fronts after es ds ts) (H : Forms K) (m : Merged) where
    before-as : (kept X Y : List (Entry K)) → SameSet kept (merged cmp k X Y) → take fronts.first es ≡ X → take fronts.second ds ≡ Y → IsMergedRun H m (kept ++ ts) → IsRising cmp (kept ++ ts) → IsBefore H cmp k m fronts es ds ts
    before-as kept X Y same first second run rising = record {
      kept = kept;
      same = subst (λ xs. SameSet kept (merged cmp k xs (take fronts.second ds))) (sym first) (subst (λ ys. SameSet kept (merged cmp k X ys)) (sym second) same);
      is_run = run;
      rising = rising;
    }

    -- none
    pub before-none : fronts.first ≡ 0 → fronts.second ≡ 0 → IsMergedRun H m ts → IsBefore H cmp k m fronts es ds ts
    before-none none none' run =
        let first = take-none fronts.first es none in
        let empty : merged cmp k [] [] ≡ [] = merged-first cmp k [] ∙ cond-none k.first in
        before-as [] [] [] (same-is [] (merged cmp k [] []) (sym empty)) first (take-none fronts.second ds none') run (subst (λ xs. IsRising cmp (xs ++ ts)) first f.rising)

    -- one in the first alone, or in the second alone
    pub before-first : (e : Entry K) (us : List (Entry K)) → es ≡ e ∷ us → fronts.first ≡ 1 → fronts.second ≡ 0 → IsMergedRun H m (cond k.first (e ∷ []) [] ++ ts) → IsBefore H cmp k m fronts es ds ts
    before-first e us whole one none run =
        let first = take-first fronts.first es e us whole one in
        before-as (cond k.first (e ∷ []) []) (e ∷ []) [] (same-is _ (merged cmp k (e ∷ []) []) (sym (merged-first cmp k (e ∷ [])))) first (take-none fronts.second ds none) run
        (kept-rising k.first e ts (subst (λ xs. IsRising cmp (xs ++ ts)) first f.rising))

    pub before-second : (d : Entry K) (vs : List (Entry K)) → ds ≡ d ∷ vs → fronts.first ≡ 0 → fronts.second ≡ 1 → IsMergedRun H m (cond k.second (d ∷ []) [] ++ ts) → IsBefore H cmp k m fronts es ds ts
    before-second d vs whole none one run =
        let second = take-first fronts.second ds d vs whole one in
        before-as (cond k.second (d ∷ []) []) [] (d ∷ []) (same-is _ (merged cmp k [] (d ∷ [])) (sym (merged-second cmp k (d ∷ [])))) (take-none fronts.first es none) second run
        (kept-rising k.second d ts (subst (λ xs. IsRising cmp (xs ++ ts)) second f.other_rising))

    -- one in each
    module _ (o : IsTotalOrder cmp) (e d : Entry K) (us vs : List (Entry K)) (whole : es ≡ e ∷ us) (whole' : ds ≡ d ∷ vs) (one : fronts.first ≡ 1) (one' : fronts.second ≡ 1) where
      pub before-equal : cmp e.key d.key ≡ Equal → IsMergedRun H m (cond k.both (e ∷ []) [] ++ ts) → IsBefore H cmp k m fronts es ds ts
      before-equal equal run =
          let first = take-first fronts.first es e us whole one in
          before-as (cond k.both (e ∷ []) []) (e ∷ []) (d ∷ []) (same-is _ (merged cmp k (e ∷ []) (d ∷ [])) (sym (merged-equal cmp o k e d equal))) first (take-first fronts.second ds d vs whole' one') run
          (kept-rising k.both e ts (subst (λ xs. IsRising cmp (xs ++ ts)) first f.rising))

      two-rising : (b c : Bool) (x y : Entry K) → cmp x.key y.key ≡ Less → IsRising cmp (x ∷ ts) → IsRising cmp (y ∷ ts) → IsRising cmp (cond b (x ∷ []) [] ++ (cond c (y ∷ []) [] ++ ts))
      two-rising true true x y less rising rising' = ((less, rising.0), rising')
      two-rising true false x y less rising rising' = rising
      two-rising false true x y less rising rising' = rising'
      two-rising false false x y less rising rising' = rising.1

      pub before-less : cmp e.key d.key ≡ Less → IsMergedRun H m (cond k.first (e ∷ []) [] ++ (cond k.second (d ∷ []) [] ++ ts)) → IsBefore H cmp k m fronts es ds ts
      before-less less run =
          let first = take-first fronts.first es e us whole one in
          let second = take-first fronts.second ds d vs whole' one' in
          let xs : List (Entry K) = cond k.first (e ∷ []) [] in
          let ys : List (Entry K) = cond k.second (d ∷ []) [] in
          let rising = two-rising k.first k.second e d less (subst (λ us. IsRising cmp (us ++ ts)) first f.rising) (subst (λ us. IsRising cmp (us ++ ts)) second f.other_rising) in
          before-as (xs ++ ys) (e ∷ []) (d ∷ []) (same-is _ (merged cmp k (e ∷ []) (d ∷ [])) (sym (merged-differ cmp o k e d (λ equal. let bad : Less ≡ Equal = sym less ∙ equal in cc)))) first second
          (subst (IsMergedRun H m) (sym (append_assoc xs ys ts)) run) (subst (IsRising cmp) (sym (append_assoc xs ys ts)) rising)

      pub before-greater : cmp e.key d.key ≡ Greater → IsMergedRun H m (cond k.second (d ∷ []) [] ++ (cond k.first (e ∷ []) [] ++ ts)) → IsBefore H cmp k m fronts es ds ts
      before-greater greater run =
          let first = take-first fronts.first es e us whole one in
          let second = take-first fronts.second ds d vs whole' one' in
          let xs : List (Entry K) = cond k.first (e ∷ []) [] in
          let ys : List (Entry K) = cond k.second (d ∷ []) [] in
          let rising = two-rising k.second k.first d e (less_flip cmp o e.key d.key greater) (subst (λ us. IsRising cmp (us ++ ts)) second f.other_rising) (subst (λ us. IsRising cmp (us ++ ts)) first f.rising) in
          let same : SameSet (ys ++ xs) (merged cmp k (e ∷ []) (d ∷ [])) =
          subst (SameSet (ys ++ xs)) (sym (merged-differ cmp o k e d (λ equal. let bad : Greater ≡ Equal = sym greater ∙ equal in cc))) (same-swap ys xs) in
          before-as (ys ++ xs) (e ∷ []) (d ∷ []) same first second (subst (IsMergedRun H m) (sym (append_assoc ys xs ts)) run) (subst (IsRising cmp) (sym (append_assoc ys xs ts)) rising)

-- the first entry of a run that has so many
pub run-first : {K : Type 0} (F : Forms K) (place : Place) (n : ℕ) (es : List (Entry K)) → IsRun F place es → 0 < n → n ≤ length es → (e : Entry K) × (us : List (Entry K)) × IsRun F place (e ∷ us)
run-first F place n es run some fits = let s = first-of n es some fits in (s.first, s.others, subst (IsRun F place) s.whole run)

-- Fronts of two runs: the halves of them, and what stands before a run.
use Rattle.std.proofs.Common.{◌≡◌, ◌≢◌, ℕ, ◌+◌, ◌-◌, List, ◌++◌, take, drop, ap, sym, subst, ◌∙◌, arith, inl, inr, ◌⊎◌, append_assoc, length-drop}
use Rattle.std.proofs.lemmas.List.{take-append-drop}
use Rattle.std.specs.Cmp.{IsTotalOrder}
use Rattle.std.specs.declared.cmp.Ordering.{Ordering}
use Rattle.std.specs.declared.cmp.Ordering.TheVariants.{Less, Equal, Greater}
use Rattle.node_heap.specs.Forms.{Forms}
use Rattle.champ_chain.specs.Entry.{Entry, SameSet, same_through}
use Rattle.champ_chain.specs.Chain.{AreAbove, AreBelow, IsRising}
use Rattle.champ_chain.proofs.FrameLemmas.{KeepsForms}
use Rattle.champ_chain.proofs.RisingLemmas.{cases_Ordering, greater_flip, less_flip, rising-left, rising-right}
use Rattle.champ_chain.proofs.SetLemmas.{Among, same-among}
use Rattle.champ_chain.proofs.CopyLemmas.{take-halves}
use Rattle.champ_trie.proofs.GatherLemmas.{same-both}
use Rattle.set_merge.specs.declared.keeps.Keeps.{Keeps}
use Rattle.set_merge.specs.declared.chains.Fronts.{Fronts}
use Rattle.set_merge.specs.declared.merged.Merged.{Merged}
use Rattle.set_merge.specs.Merge.{merged}
use Rattle.set_merge.specs.Walk.{IsRun}
use Rattle.set_merge.specs.Chains.{IsMergedRun, AreFrontsOf, AreFronts, AreHalves, IsBefore}
use Rattle.set_merge.proofs.CutLemmas.{among-left, all-among, among-above, above-both, below-among, rising-across, rising-join, among-merged, apart-at, apart-back, merged-cut}
use Rattle.set_merge.proofs.RunLemmas.{run-kept}

module _ {X : Type 0} where
  -- the first so many, and then so many of the others
  pub take-both : (m n number : ℕ) (xs : List X) → m + n ≡ number → take m xs ++ take n (drop m xs) ≡ take number xs
  take-both m n number xs sum =
      let rest : n ≡ number - m = omega (arith, sum) in
      ap (λ k. take m xs ++ take k (drop m xs)) rest ∙ take-halves m number xs (omega (arith, sum))

module _ {K : Type 0} (cmp : K → K → Ordering) (o : IsTotalOrder cmp) where
  -- a key below another is below each that isn't below that one
  pub less-from : (x k z : K) → cmp x k ≡ Less → cmp z k ≢ Less → cmp x z ≡ Less
  less-from x k z less from = by_order (cases_Ordering (cmp z k))
    where
      by_order : (cmp z k ≡ Less) ⊎ (cmp z k ≡ Equal) ⊎ (cmp z k ≡ Greater) → cmp x z ≡ Less
      by_order (inl bad) = absurd (from bad)
      by_order (inr (inl equal)) = less_flip cmp o z x (o.congr z k x equal ∙ greater_flip cmp o x k less)
      by_order (inr (inr greater)) = o.trans x k z less (less_flip cmp o z k greater)

  module _ (F : Forms K) (fronts : Fronts) (early late : Fronts) (after : Merged) (es ds ts : List (Entry K)) (f : AreFronts F cmp fronts after es ds ts) (h : AreHalves F cmp fronts early late es ds) where
    first-whole : take early.first es ++ take late.first (drop early.first es) ≡ take fronts.first es
    first-whole = take-both early.first late.first fronts.first es h.firsts

    second-whole : take early.second ds ++ take late.second (drop early.second ds) ≡ take fronts.second ds
    second-whole = take-both early.second late.second fronts.second ds h.seconds

    late-rising : (m n number : ℕ) (us : List (Entry K)) → m + n ≡ number → IsRising cmp (take number us ++ ts) → IsRising cmp (take n (drop m us) ++ ts)
    late-rising m n number us sum rising =
        rising-right cmp o (take m us) (take n (drop m us) ++ ts)
        (subst (IsRising cmp) (append_assoc (take m us) (take n (drop m us)) ts) (subst (λ xs. IsRising cmp (xs ++ ts)) (sym (take-both m n number us sum)) rising))

    dropped-rising : (m : ℕ) (us : List (Entry K)) → IsRising cmp us → IsRising cmp (drop m us)
    dropped-rising m us rising = rising-right cmp o (take m us) (drop m us) (subst (IsRising cmp) (sym (take-append-drop m us)) rising)

    -- the late ones before the run
    pub late-fronts : AreFronts F cmp late after (drop early.first es) (drop early.second ds) ts
    late-fronts = record {
      fronts_of = record {
        first = record { run = h.late_a; rising = dropped-rising early.first es f.fronts_of.first.rising };
        second = record { run = h.late_b; rising = dropped-rising early.second ds f.fronts_of.second.rising };
        number = omega (arith, length-drop early.first es, f.fronts_of.number, h.firsts);
        other_number = omega (arith, length-drop early.second ds, f.fronts_of.other_number, h.seconds);
      };
      run_after = f.run_after;
      rising = late-rising early.first late.first fronts.first es h.firsts f.rising;
      other_rising = late-rising early.second late.second fronts.second ds h.seconds f.other_rising;
    }

    module _ (G : Forms K) (kept : KeepsForms F G) (k : Keeps) (m : Merged) (b : IsBefore G cmp k m late (drop early.first es) (drop early.second ds) ts) where
      -- what is kept of the late ones isn't below the key
      kept-from : (x : Entry K) → Among x b.kept → cmp x.key h.key ≢ Less
      kept-from x i = by_side (among-merged cmp k (take late.first (drop early.first es)) (take late.second (drop early.second ds)) x (same-among x b.kept _ b.same i))
        where
          by_side : Among x (take late.first (drop early.first es)) ⊎ Among x (take late.second (drop early.second ds)) → cmp x.key h.key ≢ Less
          by_side (inl j) = all-among (λ (e : Entry K). cmp e.key h.key ≢ Less) x (take late.first (drop early.first es)) h.from j
          by_side (inr j) = all-among (λ (e : Entry K). cmp e.key h.key ≢ Less) x (take late.second (drop early.second ds)) h.other_from j

      -- each of the early ones is below all that comes after
      early-across : (n number : ℕ) (us : List (Entry K)) (late' : ℕ) → n + late' ≡ number → AreBelow cmp h.key (take n us) → IsRising cmp (take number us ++ ts) → (x : Entry K) → Among x (take n us) → AreAbove cmp x.key (b.kept ++ ts)
      early-across n number us late' sum below rising x i =
          above-both cmp x.key b.kept ts
          (among-above cmp x.key b.kept (λ e j. less-from x.key h.key e.key (below-among cmp h.key (take n us) x below i) (kept-from e j)))
          (rising-across cmp (take number us) ts x rising (subst (Among x) (take-both n late' number us sum) (among-left x (take n us) (take late' (drop n us)) i)))

      early-rising : (n number : ℕ) (us : List (Entry K)) (late' : ℕ) → n + late' ≡ number → AreBelow cmp h.key (take n us) → IsRising cmp (take number us ++ ts) → IsRising cmp (take n us ++ (b.kept ++ ts))
      early-rising n number us late' sum below rising =
          rising-join cmp (take n us) (b.kept ++ ts)
          (rising-left cmp o (take n us) (take late' (drop n us)) (subst (IsRising cmp) (sym (take-both n late' number us sum)) (rising-left cmp o (take number us) ts rising)))
          b.rising (early-across n number us late' sum below rising)

      -- the early ones before what is made of the late ones
      pub early-fronts : AreFronts G cmp early m es ds (b.kept ++ ts)
      early-fronts = record {
        fronts_of = record {
          first = record { run = run-kept F G kept early.a es (subst (λ p. IsRun F p es) (sym h.a) f.fronts_of.first.run); rising = f.fronts_of.first.rising };
          second = record { run = run-kept F G kept early.b ds (subst (λ p. IsRun F p ds) (sym h.b) f.fronts_of.second.run); rising = f.fronts_of.second.rising };
          number = omega (arith, f.fronts_of.number, h.firsts);
          other_number = omega (arith, f.fronts_of.other_number, h.seconds);
        };
        run_after = b.is_run;
        rising = early-rising early.first fronts.first es late.first h.firsts h.below f.rising;
        other_rising = early-rising early.second fronts.second ds late.second h.seconds h.other_below f.other_rising;
      }

      -- and so all of them
      pub whole-before : (H : Forms K) (r : Merged) → IsBefore H cmp k r early es ds (b.kept ++ ts) → IsBefore H cmp k r fronts es ds ts
      whole-before H r a =
          let E = take early.first es in
          let E' = take late.first (drop early.first es) in
          let D = take early.second ds in
          let D' = take late.second (drop early.second ds) in
          let apart = apart-at cmp o h.key E D' h.below (λ x i. all-among (λ (e : Entry K). cmp e.key h.key ≢ Less) x D' h.other_from i) in
          let apart' = apart-at cmp o h.key D E' h.other_below (λ x i. all-among (λ (e : Entry K). cmp e.key h.key ≢ Less) x E' h.from i) in
          let parts : SameSet (a.kept ++ b.kept) (merged cmp k E D ++ merged cmp k E' D') = same-both a.kept (merged cmp k E D) b.kept (merged cmp k E' D') a.same b.same in
          let cut : SameSet (a.kept ++ b.kept) (merged cmp k (E ++ E') (D ++ D')) = same_through _ _ _ parts (merged-cut cmp o k E E' D D' apart (apart-back cmp o D E' apart')) in
          record {
            kept = a.kept ++ b.kept;
            same = subst (λ xs. SameSet (a.kept ++ b.kept) (merged cmp k xs (take fronts.second ds))) first-whole (subst (λ ys. SameSet (a.kept ++ b.kept) (merged cmp k (E ++ E') ys)) second-whole cut);
            is_run = subst (IsMergedRun H r) (sym (append_assoc a.kept b.kept ts)) a.is_run;
            rising = subst (IsRising cmp) (sym (append_assoc a.kept b.kept ts)) a.rising;
          }

-- the second run first
abbrev pub turned_of : Fronts → Fronts
turned_of f = record { a = f.b; first = f.second; b = f.a; second = f.first }

module _ {K : Type 0} (cmp : K → K → Ordering) (F : Forms K) where
  pub fronts-turned : (fronts : Fronts) (es ds : List (Entry K)) → AreFrontsOf F cmp fronts es ds → AreFrontsOf F cmp (turned_of fronts) ds es
  fronts-turned fronts es ds f = record { first = f.second; second = f.first; number = f.other_number; other_number = f.number }

  pub halves-turned : (fronts early late : Fronts) (es ds : List (Entry K)) → AreHalves F cmp (turned_of fronts) early late ds es → AreHalves F cmp fronts (turned_of early) (turned_of late) es ds
  halves-turned fronts early late es ds h = record {
    a = h.b;
    b = h.a;
    firsts = h.seconds;
    seconds = h.firsts;
    late_a = h.late_b;
    late_b = h.late_a;
    key = h.key;
    below = h.other_below;
    other_below = h.below;
    from = h.other_from;
    other_from = h.from;
  }

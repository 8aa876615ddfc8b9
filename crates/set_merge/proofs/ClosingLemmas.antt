-- The merge of two chains: what it begins with, and what comes of it.
use Rattle.std.proofs.Common.{◌≡◌, ℕ, zero, suc, ◌+◌, ◌<◌, ◌≤◌, List, [], ◌∷◌, ◌++◌, length, take, drop, refl, ap, sym, subst, ◌∙◌, arith, Option, Some, None, Bool, true, false, cond}
use Rattle.std.specs.Prelude.{option_to_list}
use Rattle.std.specs.List.{flat_map}
use Rattle.std.specs.Cmp.{IsTotalOrder}
use Rattle.std.specs.declared.cmp.Ordering.{Ordering}
use Rattle.std.specs.declared.cmp.Ordering.TheVariants.{Less, Equal}
use Rattle.std.proofs.lemmas.List.{take-append-drop}
use Rattle.node_heap.specs.Forms.{Forms}
use Rattle.node_heap.specs.Heap.{Heap}
use Rattle.node_heap.specs.Calls.{Builds}
use Rattle.node_heap.proofs.BuildLemmas.{Builds-more}
use Rattle.champ_chain.specs.Entry.{Entry, entry, SameSet, same_through}
use Rattle.champ_chain.specs.Chain.{AreChainRows, IsChain, IsRising}
use Rattle.champ_chain.proofs.FrameLemmas.{KeepsForms}
use Rattle.champ_chain.proofs.SetLemmas.{same-refl, same-length, same-one}
use Rattle.champ_chain.proofs.RisingLemmas.{rising-left}
use Rattle.champ_chain.proofs.SpotLemmas.{first-row}
use Rattle.champ_trie.specs.Trie.{IsTrie, IsPlace}
use Rattle.champ_trie.specs.Walk.{rows_below, rows_from}
use Rattle.champ_trie.specs.declared.place.Place.{Place}
use Rattle.champ_trie.specs.declared.place.Place.TheVariants.{Empty, Entry as At, Node}
use Rattle.champ_trie.proofs.GatherLemmas.{same-is, same-both}
use Rattle.set_merge.specs.declared.keeps.Keeps.{Keeps}
use Rattle.set_merge.specs.declared.chains.Fronts.{Fronts}
use Rattle.set_merge.specs.declared.merged.Merged.{Merged}
use Rattle.set_merge.specs.declared.merged.Merged.TheVariants.{Old}
use Rattle.set_merge.specs.Merge.{merged}
use Rattle.set_merge.specs.Need.{run_rows, not_among, chains_need}
use Rattle.set_merge.specs.Spread.{new_links}
use Rattle.set_merge.specs.Walk.{AreKept, HasBelow, IsRun, IsRisingRun}
use Rattle.set_merge.specs.Chains.{waiting, AreFronts, IsOver}
use Rattle.set_merge.proofs.MergeLemmas.{append-none, merged-same}
use Rattle.set_merge.proofs.CutLemmas.{AreApart, apart-back, above-among, rising-across, merged-cut, merged-sets}
use Rattle.set_merge.proofs.RunLemmas.{run-kept}

module _ {K : Type 0} (F G : Forms K) (kept : AreKept F G) where
  pub kept-forms : KeepsForms F G
  kept-forms = record { kept = kept }

  -- the rows of a run are the same where rows are only added
  chain-rows : (n l : ℕ) (es : List (Entry K)) → AreChainRows F (Some l) es → rows_from n F l ≡ rows_from n G l
  unfolding rows_from
  chain-rows zero l es rows = refl
  chain-rows (suc n) l es rows =
      let at = first-row F l es rows in
      let both : F l ≡ G l = at.row ∙ sym (kept l _ at.row) in
      ap (λ r. l ∷ flat_map (rows_from n F) (rows_below r)) at.row ∙ ap (λ ks. l ∷ ks) (by_next at.others at.next (λ k are. chain-rows n k at.others are) at.rows) ∙ sym (ap (λ r. l ∷ flat_map (rows_from n G) (rows_below r)) (sym both ∙ at.row))
    where
      by_next : (us : List (Entry K)) (next : Option ℕ) → ((k : ℕ) → AreChainRows F (Some k) us → rows_from n F k ≡ rows_from n G k) → AreChainRows F next us → flat_map (rows_from n F) (option_to_list next) ≡ flat_map (rows_from n G) (option_to_list next)
      by_next us None again are = refl
      by_next us (Some k) again are = ap (λ ks. ks ++ []) (again k are)

  pub same-rows : (n : ℕ) (place : Place) (es : List (Entry K)) → IsRun F place es → run_rows n F place ≡ run_rows n G place
  same-rows n Empty es is = refl
  same-rows n (At x) es is = refl
  same-rows n (Node l) es is = chain-rows n l es is

  pub same-need : (n : ℕ) (a b : Place) (es ds : List (Entry K)) → IsRun F a es → IsRun F b ds → chains_need n F a b ≡ chains_need n G a b
  same-need n a b es ds first second = ap (λ xs. length (not_among xs (run_rows n F b)) + length (not_among (run_rows n F b) xs)) (same-rows n a es first) ∙ ap (λ ys. length (not_among (run_rows n G a) ys) + length (not_among ys (run_rows n G a))) (same-rows n b ds second)

module _ {K : Type 0} (cmp : K → K → Ordering) where
  -- the rising run of what stands below the deepest row
  pub record HasRun (F : Forms K) (place : Place) (E : List (Entry K)) : Type 0 where
    pub entries : List (Entry K)
    pub run : IsRisingRun F cmp place entries
    pub same : SameSet entries E

  pub side-run : (code : K → ℕ) (F : Forms K) (depth : ℕ) (place : Place) (E : List (Entry K)) → HasBelow cmp code F 0 depth place E → HasRun F place E
  unfolding IsTrie
  side-run code F depth Empty E has = record { entries = []; run = record { run = refl; rising = tt }; same = same-is [] E (sym has) }
  side-run code F depth (At x) E has = record { entries = entry has.0 x ∷ []; run = record { run = (has.0, refl, has.2); rising = (tt, tt) }; same = same-is (entry has.0 x ∷ []) E (sym has.1) }
  side-run code F depth (Node l) E has = record { entries = has.entries; run = record { run = has.rows; rising = has.rising }; same = has.same }

  pub run-in : (F G : Forms K) (place : Place) (E : List (Entry K)) → AreKept F G → HasRun F place E → HasRun G place E
  run-in F G place E kept h = record { entries = h.entries; run = record { run = run-kept F G (kept-forms F G kept) place h.entries h.run.run; rising = h.run.rising }; same = h.same }

  -- a run as a place
  pub place-set : (F : Forms K) (place : Place) (us M : List (Entry K)) → IsPlace F (λ l vs. AreChainRows F (Some l) vs) place us → SameSet us M → IsRising cmp us → IsPlace F (λ l vs. IsChain cmp F l vs) place M
  place-set F Empty us M is same rising = none M (subst (λ xs. SameSet xs M) is same)
    where
      none : (M : List (Entry K)) → SameSet [] M → M ≡ []
      none [] s = refl
      none (x ∷ xs) s = absurd (omega (arith, same-length _ _ s))
  place-set F (At x) us M is same rising = (is.0, same-one (entry is.0 x) M (subst (λ xs. SameSet xs M) is.1 same), is.2)
  place-set F (Node l) us M is same rising =
      let two : 2 ≤ length M = omega (arith, is.0, same-length us M same) in
      (two, record { entries = us; rows = is.1; rising = rising; same = same; two = two })

  module _ (o : IsTotalOrder cmp) where
    apart-rising : (xs ys : List (Entry K)) → IsRising cmp (xs ++ ys) → AreApart cmp o xs ys
    apart-rising xs ys rising = record {
      apart = λ e i d j equal. let less = above-among cmp e.key ys d (rising-across cmp xs ys e rising i) j in let bad : Less ≡ Equal = sym less ∙ equal in cc;
    }

    -- what is kept of the fronts, and the rows that both share
    pub whole-merge : (k : Keeps) (i j : ℕ) (es ds kept E D : List (Entry K)) → IsRising cmp es → IsRising cmp ds → drop i es ≡ drop j ds → SameSet kept (merged cmp k (take i es) (take j ds)) → SameSet es E → SameSet ds D
        → SameSet (kept ++ cond k.both (drop i es) []) (merged cmp k E D)
    whole-merge k i j es ds kept E D rising rising' meet same first second =
        let firsts = take i es in
        let seconds = take j ds in
        let S = drop i es in
        let left : firsts ++ S ≡ es = take-append-drop i es in
        let right : seconds ++ S ≡ ds = ap (λ xs. seconds ++ xs) meet ∙ take-append-drop j ds in
        let apart = apart-rising firsts S (subst (IsRising cmp) (sym left) rising) in
        let apart' = apart-rising seconds S (subst (IsRising cmp) (sym right) rising') in
        let parts : SameSet (kept ++ cond k.both S []) (merged cmp k firsts seconds ++ merged cmp k S S) =
        same-both kept (merged cmp k firsts seconds) (cond k.both S []) (merged cmp k S S) same (same-is _ _ (sym (merged-same cmp o k S S (same-refl S)))) in
        let cut = merged-cut cmp o k firsts S seconds S apart (apart-back cmp o seconds S apart') in
        let all : SameSet (kept ++ cond k.both S []) (merged cmp k (firsts ++ S) (seconds ++ S)) = same_through _ _ _ parts cut in
        let all' : SameSet (kept ++ cond k.both S []) (merged cmp k es ds) = subst (λ xs. SameSet (kept ++ cond k.both S []) (merged cmp k xs ds)) left (subst (λ ys. SameSet (kept ++ cond k.both S []) (merged cmp k (firsts ++ S) ys)) right all) in
        same_through _ _ _ all' (merged-sets cmp o k es E ds D first second)

    -- what the merge begins with
    pub first-fronts : (k : Keeps) (F : Forms K) (a b shared : Place) (i j : ℕ) (es ds : List (Entry K)) → IsRisingRun F cmp a es → IsRisingRun F cmp b ds → i ≤ length es → j ≤ length ds → IsRun F shared (drop i es) → drop i es ≡ drop j ds
        → (fronts : Fronts) → fronts.a ≡ a → fronts.first ≡ i → fronts.b ≡ b → fronts.second ≡ j → (after : Place) → after ≡ cond k.both shared Empty → AreFronts F cmp fronts (Old after) es ds (cond k.both (drop i es) [])
    first-fronts k F a b shared i j es ds first second few few' run meet fronts is_a is_i is_b is_j after is = record {
      fronts_of = record {
        first = subst (λ p. IsRisingRun F cmp p es) (sym is_a) first;
        second = subst (λ p. IsRisingRun F cmp p ds) (sym is_b) second;
        number = omega (arith, few, is_i);
        other_number = omega (arith, few', is_j);
      };
      run_after = record { run = subst (λ p. IsRun F p (cond k.both (drop i es) [])) (sym is) (by_kept k.both); long = tt };
      rising = subst (λ n. IsRising cmp (take n es ++ cond k.both (drop i es) [])) (sym is_i) (ordered k.both i es (drop i es) first.rising refl);
      other_rising = subst (λ n. IsRising cmp (take n ds ++ cond k.both (drop i es) [])) (sym is_j) (ordered k.both j ds (drop i es) second.rising meet);
    }
      where
        by_kept : (c : Bool) → IsRun F (cond c shared Empty) (cond c (drop i es) [])
        by_kept true = run
        by_kept false = refl

        ordered : (c : Bool) (n : ℕ) (us vs : List (Entry K)) → IsRising cmp us → vs ≡ drop n us → IsRising cmp (take n us ++ cond c vs [])
        ordered true n us vs rising same = subst (IsRising cmp) (sym (ap (λ xs. take n us ++ xs) same ∙ take-append-drop n us)) rising
        ordered false n us vs rising same = subst (IsRising cmp) (sym (append-none (take n us))) (rising-left cmp o (take n us) (drop n us) (subst (IsRising cmp) (sym (take-append-drop n us)) rising))

-- no more rows were made than the fronts have entries
pub over-need : {T : Type 0} (old new : Heap T) (after : Place) (m r : Merged) (most need : ℕ) → IsOver old new (Old after) m most → (0 < most → waiting (Old after) ≡ 0) → most ≡ need → new_links r ≡ new_links m → Builds old new [] (new_links r) 0 need
over-need old new after m r most need over none is links =
    subst (λ ls. Builds old new [] ls 0 need) (sym links) (Builds-more 0 need over.builds (omega arith) (by_count most refl))
  where
    by_count : (n : ℕ) → most ≡ n → over.rows ≤ need
    by_count zero e = omega (arith, over.none e)
    by_count (suc n) e = omega (arith, over.few, none (omega (arith, e)), is)

pub kept-waits : (b : Bool) (place after : Place) → after ≡ cond b place Empty → waiting (Old place) ≡ 0 → waiting (Old after) ≡ 0
kept-waits true place after is none = ap (λ p. waiting (Old p)) is ∙ none
kept-waits false place after is none = ap (λ p. waiting (Old p)) is

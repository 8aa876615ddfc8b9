-- Tries that are congruent have the same entries, and the other way round.
use Rattle.std.proofs.Common.{◌≡◌, ℕ, zero, suc, ◌+◌, List, [], ◌∷◌, ◌++◌, length, take, drop, get_or, map, refl, ap, sym, subst, arith, Some, None, IsSome, inl, inr, ◌⊎◌}
use Rattle.std.specs.List.{All, AllZip, flat_map}
use Rattle.std.specs.Cmp.{IsTotalOrder}
use Rattle.std.specs.declared.cmp.Ordering.{Ordering}
use Rattle.std.specs.declared.cmp.Ordering.TheVariants.{Equal}
use Rattle.std.proofs.lemmas.List.Concat.{flat_map-append}
use Rattle.std.proofs.lemmas.List.Elements.{All-head, All-tail, All-map, All-from_get_or}
use Rattle.node_heap.specs.Links.{here, below}
use Rattle.node_heap.specs.Forms.{Forms, Kind, node}
use Rattle.champ_chain.specs.Entry.{Entry, IsEntry, SameSet, key_at, key_of, same_through}
use Rattle.champ_chain.proofs.SetLemmas.{same-sym, Among, same-among}
use Rattle.champ_chain.proofs.SpotLemmas.{first-row}
use Rattle.champ_trie.specs.Trie.{IsTrie}
use Rattle.champ_trie.specs.Walk.{entries_first, own_entries, rows_below, rows_from, entries_of, ReachesRow}
use Rattle.champ_trie.proofs.CanonLemmas.{Match, AreMatched, tries-match, same-lift}
use Rattle.champ_trie.proofs.GatherLemmas.{same-is}
use Rattle.champ_trie.proofs.WalkLemmas.{trie-walk, trie-entries}
use Rattle.champ_kinds.specs.Laws.{GoOneToOne}
use Rattle.champ_kinds.proofs.ZipLemmas.{all-turned, zip-follows}
use Rattle.same_value.specs.Congruent.{Congruent, AreCongruent, congruent_entries, congruent_none, congruent_then}
use Rattle.same_value.proofs.CongruentLemmas.{rows-congruent, congruent-take, congruent-drop, entries-congruent}
use Rattle.same_value.proofs.Zips.{zip-both}
use Rattle.champ_trie.proofs.CallerLemmas.{Stands, at-counted, link-child, child-stands, stands-reach, trie-opened}
use Rattle.same_value.proofs.TriePairs.{all-left, all-right, rows-follow, reach-step}

module _ {K : Type 0} (cmp : K → K → Ordering) (code : K → ℕ) (F : Forms K) where
  -- a row that stands in a trie is no entry
  stands-keyless : (d k : ℕ) → Stands cmp code F d k → key_at F k ≡ None
  stands-keyless d k (inl stands) = ap (key_of F) (trie-opened cmp code F stands.0 stands.1 k stands.2 stands.5).row.row
  stands-keyless d k (inr rows) = ap (key_of F) (first-row F k (rows.0 ∷ rows.1) rows.2).row

  -- and so is no row that the root reaches
  pub root-keyless : (left d l : ℕ) (E : List (Entry K)) → IsTrie cmp code F (suc left) d l E → (k : ℕ) → ReachesRow F l k → key_at F k ≡ None
  root-keyless left d l E is k down =
      let row = trie-opened cmp code F left d l E is in
      elim (reach-step cmp code F l k down) [
        | inl same ↦ subst (λ j. key_at F j ≡ None) same (ap (key_of F) row.row.row)
        | inr step ↦
            let child = link-child cmp code F left d l E row step.0 step.1 in
            stands-keyless (suc d) k (stands-reach cmp code F (suc d) step.0 k step.2 (subst (Stands cmp code F (suc d)) child.3 (child-stands cmp code F left d l E row child.0 child.1 child.2)))
      ]

module _ {K : Type 0} (F : Forms K) (IsGood : ℕ → Type 0) (IsSame : ℕ → ℕ → Type 0) (itself : (l : ℕ) → IsGood l → IsSame l l) (keyed : (l m : ℕ) → IsSame l m → IsSome (key_at F l))
    (outermost : (l k m : ℕ) (kind : Kind) (ks : List ℕ) → IsGood l → F l ≡ Some (node kind (k ∷ ks)) → ¬ IsSame k m) where
  -- no row that the link reaches is an entry
  abbrev Keyless : ℕ → Type 0
  Keyless l = (k : ℕ) → ReachesRow F l k → key_at F k ≡ None

  -- the entries in the order of the walk
  abbrev walked : ℕ → ℕ → List ℕ
  walked a l = entries_of F (rows_from a F l)

  abbrev walked_in : ℕ → List ℕ → List ℕ
  walked_in a ls = entries_of F (flat_map (rows_from a F) ls)

  list-walk : (a : ℕ) → ((l m : ℕ) → Keyless l → All IsGood (walked a l) → Congruent F IsSame l m → AllZip IsSame (walked a l) (walked a m))
      → (ls ks : List ℕ) → AreCongruent F IsSame ls ks → All Keyless ls → All IsGood (walked_in a ls) → AllZip IsSame (walked_in a ls) (walked_in a ks)
  list-walk a again _ _ congruent_none keyless good = tt
  list-walk a again _ _ (congruent_then l m ls ks first rest) keyless good =
      let left = flat_map-append (λ r. own_entries (F r)) (rows_from a F l) (flat_map (rows_from a F) ls) in
      let right = flat_map-append (λ r. own_entries (F r)) (rows_from a F m) (flat_map (rows_from a F) ks) in
      let both = subst (All IsGood) left good in
      subst (λ xs. AllZip IsSame xs (walked_in a (m ∷ ks))) (sym left)
      (subst (AllZip IsSame (walked a l ++ walked_in a ls)) (sym right)
      (zip-both IsSame (walked a l) (walked a m) (walked_in a ls) (walked_in a ks)
      (again l m (All-head Keyless l ls keyless) (all-left IsGood (walked a l) (walked_in a ls) both) first)
      (list-walk a again ls ks rest (All-tail Keyless l ls keyless) (all-right IsGood (walked a l) (walked_in a ls) both))))

  pub walk-congruent : (a l m : ℕ) → Keyless l → All IsGood (walked a l) → Congruent F IsSame l m → AllZip IsSame (walked a l) (walked a m)
  unfolding rows_from
  walk-congruent zero l m keyless good congruent = tt
  walk-congruent (suc a) l m keyless good congruent =
      let rows = rows-congruent F IsSame keyed l m (keyless l (here l)) congruent in
      let n : ℕ = entries_first rows.kind in
      let own = ap own_entries rows.here in
      let own' = ap own_entries rows.there in
      let rest = ap rows_below rows.here in
      let rest' = ap rows_below rows.there in
      let down : All Keyless (drop n rows.links) = subst (All Keyless) rest (All-from_get_or Keyless (rows_below (F l)) 0 (λ i low k way. keyless k (below l (get_or (rows_below (F l)) i 0) k (at-counted (rows_below (F l)) i low) way))) in
      zip-both IsSame (own_entries (F l)) (own_entries (F m)) (walked_in a (rows_below (F l))) (walked_in a (rows_below (F m)))
      (subst (λ xs. AllZip IsSame xs (own_entries (F m))) (sym own) (subst (AllZip IsSame (take n rows.links)) (sym own')
      (entries-congruent F IsSame IsGood itself keyed outermost (take n rows.links) (take n rows.others) (subst (All IsGood) own (all-left IsGood (own_entries (F l)) (walked_in a (rows_below (F l))) good)) (congruent-take F IsSame n rows.links rows.others rows.are))))
      (subst (λ xs. AllZip IsSame (walked_in a xs) (walked_in a (rows_below (F m)))) (sym rest) (subst (λ ys. AllZip IsSame (walked_in a (drop n rows.links)) (walked_in a ys)) (sym rest')
      (list-walk a (λ j k less fine are. walk-congruent a j k less fine are) (drop n rows.links) (drop n rows.others) (congruent-drop F IsSame n rows.links rows.others rows.are) down
      (subst (λ xs. All IsGood (walked_in a xs)) rest (all-right IsGood (own_entries (F l)) (walked_in a (rows_below (F l))) good)))))

module _ {K : Type 0} (cmp : K → K → Ordering) (o : IsTotalOrder cmp) (code : K → ℕ) (equal_codes : (j k : K) → cmp j k ≡ Equal → code j ≡ code k) (F : Forms K) (IsGood : ℕ → Type 0) (IsSame : ℕ → ℕ → Type 0)
    (itself : (l : ℕ) → IsGood l → IsSame l l) (keyed : (l m : ℕ) → IsSame l m → IsSome (key_at F l))
    (equal_keys : (l m : ℕ) (j k : K) → IsSame l m → key_at F l ≡ Some j → key_at F m ≡ Some k → cmp j k ≡ Equal)
    (outermost : (l k m : ℕ) (kind : Kind) (ks : List ℕ) → IsGood l → F l ≡ Some (node kind (k ∷ ks)) → ¬ IsSame k m) (left d l m : ℕ) (E D : List (Entry K)) where
  -- the entries' links are the same
  abbrev SameLinks : Entry K → Entry K → Type 0
  SameLinks e d = IsSame e.link d.link

  pub congruent-contents : IsTrie cmp code F (suc left) d l E → IsTrie cmp code F (suc left) d m D → All (λ e. IsGood e.link) E → Congruent F IsSame l m → GoOneToOne SameLinks E D
  congruent-contents first second good congruent =
      let n = length E + length D in
      let a : ℕ = suc left + n in
      let walk = trie-walk cmp code F (suc left) d l E first a n (omega arith) (omega arith) in
      let walk' = trie-walk cmp code F (suc left) d m D second a n (omega arith) (omega arith) in
      let fine = all-turned IsGood _ _ (same-sym _ _ walk) (All-map IsGood (λ (e : Entry K). e.link) E good) in
      let zip = walk-congruent F IsGood IsSame itself keyed outermost a l m (root-keyless cmp code F left d l E first) fine congruent in
      let turned = zip-follows IsSame _ (map (λ e. e.link) E) _ walk zip in
      let lift = same-lift (λ (e : Entry K). e.link) D (map (λ e. e.link) D) turned.0 refl (same_through _ _ _ (same-sym _ _ walk') turned.1) in
      (lift.0, same-sym _ _ lift.1, unmapped E lift.0 (subst (AllZip IsSame (map (λ e. e.link) E)) (sym lift.2) turned.2))
    where
      unmapped : (es ds : List (Entry K)) → AllZip IsSame (map (λ e. e.link) es) (map (λ e. e.link) ds) → AllZip SameLinks es ds
      unmapped [] [] zip = tt
      unmapped [] (d ∷ ds) zip = absurd zip
      unmapped (e ∷ es) [] zip = absurd zip
      unmapped (e ∷ es) (d ∷ ds) zip = (zip.0, unmapped es ds zip.1)

  pub contents-congruent : IsTrie cmp code F (suc left) d l E → IsTrie cmp code F (suc left) d m D → GoOneToOne SameLinks E D → Congruent F IsSame l m
  contents-congruent first second go =
      let matches = paired E go.0 go.2 (trie-entries cmp code F (suc left) d l E first) (λ e i. trie-entries cmp code F (suc left) d m D second e (same-among e go.0 D go.1 i)) in
      tries-match cmp code o F F (Congruent F IsSame) (rows-follow cmp o code F IsSame) (suc left) d l m matches.0 E D (same-is _ _ matches.1) (subst (λ xs. SameSet xs D) (sym matches.2) go.1) matches.3 first second
    where
      paired : (es ds : List (Entry K)) → AllZip SameLinks es ds → ((e : Entry K) → Among e es → IsEntry F e) → ((e : Entry K) → Among e ds → IsEntry F e)
          → (P : List (Match K)) × (map (λ w. w.first) P ≡ es) × (map (λ w. w.second) P ≡ ds) × ((w : Match K) → Among w P → AreMatched cmp code o F F (Congruent F IsSame) (rows-follow cmp o code F IsSame) w)
      paired [] [] zip are are' = ([], refl, refl, λ w nowhere. absurd nowhere)
      paired [] (d ∷ ds) zip are are' = absurd zip
      paired (e ∷ es) [] zip are are' = absurd zip
      paired (e ∷ es) (d ∷ ds) zip are are' =
          let rest = paired es ds zip.1 (λ x i. are x (inr i)) (λ x i. are' x (inr i)) in
          let first : Match K = record { first = e; second = d } in
          let keys : cmp e.key d.key ≡ Equal = equal_keys e.link d.link e.key d.key zip.0 (are e (inl refl)) (are' d (inl refl)) in
          (first ∷ rest.0, ap (λ xs. e ∷ xs) rest.1, ap (λ xs. d ∷ xs) rest.2, λ w i. by_place rest.0 w i (keys, equal_codes e.key d.key keys, congruent_entries e.link d.link zip.0) rest.3)
        where
          by_place : (P : List (Match K)) (w : Match K) → (let first : Match K = record { first = e; second = d } in first ≡ w) ⊎ Among w P
              → AreMatched cmp code o F F (Congruent F IsSame) (rows-follow cmp o code F IsSame) (record { first = e; second = d }) → ((w : Match K) → Among w P → AreMatched cmp code o F F (Congruent F IsSame) (rows-follow cmp o code F IsSame) w)
              → AreMatched cmp code o F F (Congruent F IsSame) (rows-follow cmp o code F IsSame) w
          by_place P w (inl same) matched others = subst (AreMatched cmp code o F F (Congruent F IsSame) (rows-follow cmp o code F IsSame)) same matched
          by_place P w (inr i) matched others = others w i

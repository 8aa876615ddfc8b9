-- Congruent links, and what congruent rows have below them.
use Rattle.std.proofs.Common.{◌≡◌, ℕ, zero, suc, ◌<◌, List, [], ◌∷◌, length, take, drop, get_or, refl, ap, sym, subst, ◌∙◌, arith, Option, Some, None, IsSome}
use Rattle.std.specs.Prelude.{option_to_list}
use Rattle.std.specs.List.{All, AllZip}
use Rattle.std.proofs.lemmas.List.Elements.{All-head, All-tail}
use Rattle.node_heap.specs.Forms.{Forms, Kind, node, leaf, inner, trie, chain, pair, state, value_of}
use Rattle.champ_chain.specs.Entry.{Entry, key_at, key_of, first_value}
use Rattle.champ_chain.specs.Chain.{AreChainRows}
use Rattle.same_value.specs.Congruent.{Congruent, AreCongruent, congruent_entries, congruent_rows, congruent_none, congruent_then}

module _ {K : Type 0} (F : Forms K) (IsSame : ℕ → ℕ → Type 0) where
  pub congruent-count : (ls ks : List ℕ) → AreCongruent F IsSame ls ks → length ls ≡ length ks
  congruent-count _ _ congruent_none = refl
  congruent-count _ _ (congruent_then l m ls ks first rest) = ap suc (congruent-count ls ks rest)

  pub congruent-at : (ls ks : List ℕ) (i : ℕ) → AreCongruent F IsSame ls ks → i < length ls → Congruent F IsSame (get_or ls i 0) (get_or ks i 0)
  congruent-at _ _ i congruent_none low = absurd (omega arith)
  congruent-at _ _ zero (congruent_then l m ls ks first rest) low = first
  congruent-at _ _ (suc i) (congruent_then l m ls ks first rest) low = congruent-at ls ks i rest (omega arith)

  pub congruent-by : (ls ks : List ℕ) → length ls ≡ length ks → ((i : ℕ) → i < length ls → Congruent F IsSame (get_or ls i 0) (get_or ks i 0)) → AreCongruent F IsSame ls ks
  congruent-by [] [] same each = congruent_none
  congruent-by [] (k ∷ ks) same each = absurd (omega (arith, same))
  congruent-by (l ∷ ls) [] same each = absurd (omega (arith, same))
  congruent-by (l ∷ ls) (k ∷ ks) same each = congruent_then l k ls ks (each 0 (omega arith)) (congruent-by ls ks (omega (arith, same)) (λ i low. each (suc i) (omega arith)))

  pub congruent-zip : (ls ks : List ℕ) → AllZip (Congruent F IsSame) ls ks → AreCongruent F IsSame ls ks
  congruent-zip [] [] zip = congruent_none
  congruent-zip [] (k ∷ ks) zip = absurd zip
  congruent-zip (l ∷ ls) [] zip = absurd zip
  congruent-zip (l ∷ ls) (k ∷ ks) zip = congruent_then l k ls ks zip.0 (congruent-zip ls ks zip.1)

  pub congruent-take : (n : ℕ) (ls ks : List ℕ) → AreCongruent F IsSame ls ks → AreCongruent F IsSame (take n ls) (take n ks)
  congruent-take zero ls ks are = congruent_none
  congruent-take (suc n) _ _ congruent_none = congruent_none
  congruent-take (suc n) _ _ (congruent_then l m ls ks first rest) = congruent_then l m (take n ls) (take n ks) first (congruent-take n ls ks rest)

  pub congruent-drop : (n : ℕ) (ls ks : List ℕ) → AreCongruent F IsSame ls ks → AreCongruent F IsSame (drop n ls) (drop n ks)
  congruent-drop zero ls ks are = are
  congruent-drop (suc n) _ _ congruent_none = congruent_none
  congruent-drop (suc n) _ _ (congruent_then l m ls ks first rest) = congruent-drop n ls ks rest

  -- rows of one kind whose links are congruent
  pub record CongruentRows (l m : ℕ) : Type 0 where
    pub kind : Kind
    pub links : List ℕ
    pub others : List ℕ
    pub here : F l ≡ Some (node kind links)
    pub there : F m ≡ Some (node kind others)
    pub are : AreCongruent F IsSame links others

  module _ (keyed : (l m : ℕ) → IsSame l m → IsSome (key_at F l)) where
    -- congruent links of which the first is no entry
    pub rows-congruent : (l m : ℕ) → key_at F l ≡ None → Congruent F IsSame l m → CongruentRows l m
    rows-congruent _ _ none (congruent_entries l m same) = absurd (let some : IsSome (key_at F l) = keyed l m same in let bad = subst IsSome none some in cc)
    rows-congruent _ _ none (congruent_rows l m kind ls ks here there are) = record { kind = kind; links = ls; others = ks; here = here; there = there; are = are }

    -- the same where both rows are known
    pub links-congruent : (l m : ℕ) (kind kind' : Kind) (ls ks : List ℕ) → key_at F l ≡ None → F l ≡ Some (node kind ls) → F m ≡ Some (node kind' ks) → Congruent F IsSame l m → (kind ≡ kind') × AreCongruent F IsSame ls ks
    links-congruent l m kind kind' ls ks none here there congruent =
        let rows = rows-congruent l m none congruent in
        let first : Some (node rows.kind rows.links) ≡ Some (node kind ls) = sym rows.here ∙ here in
        let second : Some (node rows.kind rows.others) ≡ Some (node kind' ks) = sym rows.there ∙ there in
        let kinds : rows.kind ≡ kind = cc in
        let kinds' : rows.kind ≡ kind' = cc in
        let links : rows.links ≡ ls = cc in
        let others : rows.others ≡ ks = cc in
        (sym kinds ∙ kinds', subst (λ xs. AreCongruent F IsSame xs ks) links (subst (AreCongruent F IsSame rows.links) others rows.are))

  module _ (IsGood : ℕ → Type 0) (itself : (l : ℕ) → IsGood l → IsSame l l) (keyed : (l m : ℕ) → IsSame l m → IsSome (key_at F l))
      (outermost : (l k m : ℕ) (kind : Kind) (ks : List ℕ) → IsGood l → F l ≡ Some (node kind (k ∷ ks)) → ¬ IsSame k m) where
    -- congruent links of which the first is a good entry are the same entry
    pub entry-congruent : (l m : ℕ) → IsGood l → Congruent F IsSame l m → IsSame l m
    entry-congruent _ _ good (congruent_entries l m same) = same
    entry-congruent _ _ good (congruent_rows l m kind ls ks here there are) = absurd (by_kind kind here (subst IsSome (ap (key_of F) here) (keyed l l (itself l good))))
      where
        by_links : (ls ks : List ℕ) (kind : Kind) → F l ≡ Some (node kind ls) → AreCongruent F IsSame ls ks → IsSome (first_value F ls) → ⊥
        by_links _ _ kind row congruent_none some = absurd cc
        by_links _ _ kind row (congruent_then k j ls ks first rest) some = by_first k j first ls row some
          where
            by_first : (k j : ℕ) → Congruent F IsSame k j → (ls : List ℕ) → F l ≡ Some (node kind (k ∷ ls)) → IsSome (value_of (F k)) → ⊥
            by_first _ _ (congruent_entries k j same) ls row some = outermost l k j kind ls good row same
            by_first _ _ (congruent_rows k j kind' us vs inside other are) ls row some = let bad = subst IsSome (ap value_of inside) some in cc

        by_kind : (kind : Kind) → F l ≡ Some (node kind ls) → IsSome (key_of F (Some (node kind ls))) → ⊥
        by_kind leaf row some = cc
        by_kind (inner n) row some = cc
        by_kind (trie d e n) row some = cc
        by_kind chain row some = cc
        by_kind pair row some = by_links ls ks pair row are some
        by_kind state row some = cc

    pub entries-congruent : (ls ks : List ℕ) → All IsGood ls → AreCongruent F IsSame ls ks → AllZip IsSame ls ks
    entries-congruent _ _ good congruent_none = tt
    entries-congruent _ _ good (congruent_then l m ls ks first rest) = (entry-congruent l m (All-head IsGood l ls good) first, entries-congruent ls ks (All-tail IsGood l ls good) rest)

    -- a chain of good entries is congruent with itself
    pub chain-itself : (l : ℕ) (es : List (Entry K)) → AreChainRows F (Some l) es → All (λ e. IsGood e.link) es → Congruent F IsSame l l
    unfolding AreChainRows
    chain-itself l [] rows good = absurd cc
    chain-itself l (e ∷ es) rows good =
        let same : rows.link ≡ l = (let both : Some l ≡ Some rows.link = rows.here in cc) in
        let row : F l ≡ Some (node chain (e.link ∷ option_to_list rows.next)) = ap F (sym same) ∙ rows.row in
        congruent_rows l l chain (e.link ∷ option_to_list rows.next) (e.link ∷ option_to_list rows.next) row row
        (congruent_then e.link e.link _ _ (congruent_entries e.link e.link (itself e.link (All-head (λ (d : Entry K). IsGood d.link) e es good)))
        (by_next rows.next rows.rest (λ k are. chain-itself k es are (All-tail (λ (d : Entry K). IsGood d.link) e es good))))
      where
        by_next : (next : Option ℕ) → AreChainRows F next es → ((k : ℕ) → AreChainRows F (Some k) es → Congruent F IsSame k k) → AreCongruent F IsSame (option_to_list next) (option_to_list next)
        by_next None are again = congruent_none
        by_next (Some k) are again = congruent_then k k [] [] (again k are) congruent_none

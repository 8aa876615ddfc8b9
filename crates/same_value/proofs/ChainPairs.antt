-- Two chains side by side: what a pair of rows tells of the whole.
use Rattle.std.proofs.Common.{◌≡◌, ℕ, zero, suc, ◌<◌, ◌≤◌, List, [], ◌∷◌, length, drop, ap, sym, subst, ◌∙◌, arith, Option, Some, None, IsSome, length-append}
use Rattle.std.specs.Prelude.{option_to_list}
use Rattle.std.specs.List.{All, flat_map}
use Rattle.std.proofs.lemmas.List.Elements.{All-head, All-drop}
use Rattle.std.specs.Cmp.{IsTotalOrder}
use Rattle.std.specs.declared.cmp.Ordering.{Ordering}
use Rattle.node_heap.specs.Forms.{Forms, Kind, node, chain}
use Rattle.champ_chain.specs.Entry.{Entry, key_at, key_of}
use Rattle.champ_chain.specs.Chain.{AreChainRows}
use Rattle.champ_chain.proofs.SpotLemmas.{first-row, row-entry, row-next, rows-none}
use Rattle.champ_trie.specs.Walk.{rows_below, rows_from}
use Rattle.same_value.specs.Congruent.{Congruent, AreCongruent, congruent_entries, congruent_rows, congruent_none, congruent_then, IsChainFrom}
use Rattle.same_value.proofs.CongruentLemmas.{congruent-at, congruent-count, links-congruent, entry-congruent, chain-itself}
use Rattle.same_value.proofs.ChainRows.{Passed}

module _ {K : Type 0} (F : Forms K) where
  -- the rows from a chain row on are as many as their entries
  rows-number : (a l : ℕ) (es : List (Entry K)) → AreChainRows F (Some l) es → length es ≤ a → length (rows_from a F l) ≡ length es
  unfolding rows_from
  rows-number zero l es rows few = (let at = first-row F l es rows in absurd (omega (arith, few, ap length at.whole)))
  rows-number (suc a) l es rows few =
      let at = first-row F l es rows in
      let size : List (Entry K) → ℕ = length in
      let rest : length (flat_map (rows_from a F) (rows_below (F l))) ≡ length at.others =
      subst (λ r. length (flat_map (rows_from a F) (rows_below r)) ≡ length at.others) (sym at.row) (by_next at.next at.others at.rows (omega (arith, few, ap size at.whole)) (λ k are. rows-number a k at.others are (omega (arith, few, ap size at.whole)))) in
      omega (arith, rest, ap size at.whole)
    where
      by_next : (next : Option ℕ) (us : List (Entry K)) → AreChainRows F next us → length us ≤ a → ((k : ℕ) → AreChainRows F (Some k) us → length (rows_from a F k) ≡ length us) → length (flat_map (rows_from a F) (option_to_list next)) ≡ length us
      by_next None us are low again = (let size : List (Entry K) → ℕ = length in sym (ap size (rows-none F us are)))
      by_next (Some k) us are low again = omega (arith, again k are, length-append (rows_from a F k) [])

  pub rows-shorter : (a l x j : ℕ) (next : Option ℕ) (es : List (Entry K)) → AreChainRows F (Some l) es → length es ≤ a → F l ≡ Some (node chain (x ∷ option_to_list next)) → next ≡ Some j → length (rows_from a F j) < length (rows_from a F l)
  rows-shorter a l x j next es rows few row is =
      let at = first-row F l es rows in
      let size : List (Entry K) → ℕ = length in
      let there : AreChainRows F (Some j) at.others = subst (λ o. AreChainRows F o at.others) (row-next F l at.first.link x at.next next at.row row ∙ is) at.rows in
      omega (arith, rows-number a l es rows few, rows-number a j at.others there (omega (arith, few, ap size at.whole)), ap size at.whole)

module _ {K : Type 0} (cmp : K → K → Ordering) (o : IsTotalOrder cmp) (F : Forms K) (IsSame : ℕ → ℕ → Type 0) (IsGood : ℕ → Type 0)
    (itself : (l : ℕ) → IsGood l → IsSame l l) (keyed : (l m : ℕ) → IsSame l m → IsSome (key_at F l))
    (outermost : (l k m : ℕ) (kind : Kind) (ks : List ℕ) → IsGood l → F l ≡ Some (node kind (k ∷ ks)) → ¬ IsSame k m)
    (l m : ℕ) (first : IsChainFrom cmp F IsGood l) (second : IsChainFrom cmp F IsGood m) (left right : ℕ) (p : Passed cmp o F l m first.entries second.entries left right) where
  pub left-row : (x : ℕ) × (next : Option ℕ) × (F left ≡ Some (node chain (x ∷ option_to_list next)))
  left-row = (let at = first-row F left (drop p.passed first.entries) p.left_rows in (at.first.link, at.next, at.row))

  pub right-row : (x : ℕ) × (next : Option ℕ) × (F right ≡ Some (node chain (x ∷ option_to_list next)))
  right-row = (let at = first-row F right (drop p.passed second.entries) p.right_rows in (at.first.link, at.next, at.row))

  pub same-links : left ≡ right → Congruent F IsSame left right
  same-links same =
      subst (Congruent F IsSame left) same
      (chain-itself F IsSame IsGood itself keyed outermost left (drop p.passed first.entries) p.left_rows (All-drop (λ (e : Entry K). IsGood e.link) p.passed first.entries first.good))

  module _ (x y : ℕ) (next next' : Option ℕ) (row : F left ≡ Some (node chain (x ∷ option_to_list next))) (row' : F right ≡ Some (node chain (y ∷ option_to_list next'))) where
    pub good-left : IsGood x
    good-left =
        let at = first-row F left (drop p.passed first.entries) p.left_rows in
        let Good = λ (e : Entry K). IsGood e.link in
        subst IsGood (row-entry F left at.first.link x at.next next at.row row) (All-head Good at.first at.others (subst (All Good) at.whole (All-drop Good p.passed first.entries first.good)))

    pub good-right : IsGood y
    good-right =
        let at = first-row F right (drop p.passed second.entries) p.right_rows in
        let Good = λ (e : Entry K). IsGood e.link in
        subst IsGood (row-entry F right at.first.link y at.next next' at.row row') (All-head Good at.first at.others (subst (All Good) at.whole (All-drop Good p.passed second.entries second.good)))

    links : Congruent F IsSame left right → AreCongruent F IsSame (x ∷ option_to_list next) (y ∷ option_to_list next')
    links congruent = (links-congruent F IsSame keyed left right chain chain (x ∷ option_to_list next) (y ∷ option_to_list next') (ap (key_of F) row) row row' congruent).1

    pub entries-same : Congruent F IsSame left right → IsSame x y
    entries-same congruent = entry-congruent F IsSame IsGood itself keyed outermost x y good-left (congruent-at F IsSame _ _ 0 (links congruent) (omega arith))

    pub as-long : Congruent F IsSame left right → length (option_to_list next) ≡ length (option_to_list next')
    as-long congruent = (let same = congruent-count F IsSame _ _ (links congruent) in omega (arith, same))

    pub rest-congruent : (j k : ℕ) → next ≡ Some j → next' ≡ Some k → Congruent F IsSame left right → Congruent F IsSame j k
    rest-congruent j k is is' congruent =
        let are : AreCongruent F IsSame (x ∷ j ∷ []) (y ∷ k ∷ []) = subst (λ n. AreCongruent F IsSame (x ∷ option_to_list n) (y ∷ k ∷ [])) is (subst (λ n. AreCongruent F IsSame (x ∷ option_to_list next) (y ∷ option_to_list n)) is' (links congruent)) in
        congruent-at F IsSame (x ∷ j ∷ []) (y ∷ k ∷ []) 1 are (omega arith)

    pub both-congruent : IsSame x y → AreCongruent F IsSame (option_to_list next) (option_to_list next') → Congruent F IsSame left right
    both-congruent same rest = congruent_rows left right chain (x ∷ option_to_list next) (y ∷ option_to_list next') row row' (congruent_then x y _ _ (congruent_entries x y same) rest)

    pub more-congruent : (j k : ℕ) → next ≡ Some j → next' ≡ Some k → IsSame x y → Congruent F IsSame j k → Congruent F IsSame left right
    more-congruent j k is is' same rest = both-congruent same (subst (λ n. AreCongruent F IsSame (option_to_list n) (option_to_list next')) (sym is) (subst (λ n. AreCongruent F IsSame (j ∷ []) (option_to_list n)) (sym is') (congruent_then j k [] [] rest congruent_none)))

    pub last-congruent : next ≡ None → next' ≡ None → IsSame x y → Congruent F IsSame left right
    last-congruent is is' same = both-congruent same (subst (λ n. AreCongruent F IsSame (option_to_list n) (option_to_list next')) (sym is) (subst (λ n. AreCongruent F IsSame [] (option_to_list n)) (sym is') congruent_none))

-- What stands for a row of merged positions.
use Rattle.std.proofs.Common.{◌≡◌, ◌≢◌, ℕ, zero, suc, ◌+◌, ◌-◌, ◌<◌, ◌≤◌, List, [], ◌∷◌, length, get_or, refl, ap, sym, subst, ◌∙◌, arith, false, cond, Some, None, inl, inr}
use Rattle.std.specs.Prelude.{nat_eq}
use Rattle.std.specs.declared.cmp.Ordering.{Ordering}
use Rattle.std.proofs.lemmas.Bool.{cases_Bool, cases_lt, eq-eqb, ne_eqb}
use Rattle.elem_core.specs.Codes.{digit_at}
use Rattle.node_heap.specs.Forms.{Forms}
use Rattle.champ_chain.specs.Entry.{Entry}
use Rattle.node_heap.specs.Links.{count}
use Rattle.champ_trie.specs.Bits.{has, rank}
use Rattle.champ_trie.specs.Trie.{AreSets, IsTrie, IsPlace, IsRow, part, place_of, links_at_place}
use Rattle.champ_trie.specs.declared.place.Place.{Place}
use Rattle.champ_trie.specs.declared.place.Place.TheVariants.{Empty, Entry as At, Node}
use Rattle.champ_trie.proofs.CallerLemmas.{at-counted, count-at, counted-at, lone-place, more-left, node-alone, part-whole, place-empty, place-entry, place-node, rank-lt, rank-onto}
use Rattle.set_merge.specs.Side.{place_in, lone_place, place_below}
use Rattle.set_merge.specs.Spread.{lone_in}
use Rattle.set_merge.proofs.MergeLemmas.{filter-short}

-- the positions of sets
module _ (e n : ℕ) (ls : List ℕ) (sets : AreSets e n ls) where
  -- nothing stands there without links
  none-there : length ls ≡ 0 → (p : ℕ) → p < 32 → place_of e n ls p ≡ Empty
  none-there none p low = place-empty e n ls p (absent e (omega (arith, sets.count, none))) (absent n (omega (arith, sets.count, none)))
    where
      absent : (s : ℕ) → rank s 32 ≡ 0 → has s p ≡ false
      absent s is = elim (cases_Bool (has s p)) [ inl there ↦ absurd (omega (arith, is, rank-lt s p 32 low there)) | inr not ↦ not ]

  -- each link stands at one of them
  pub link-there : (l : ℕ) → 0 < count l ls → (p : ℕ) × (p < 32) × (0 < count l (links_at_place (place_of e n ls p)))
  link-there l some =
      let found = counted-at l ls some in
      let i : ℕ = found.0 in
      let one : 0 < count l (l ∷ []) = count-at (l ∷ []) 0 l (omega arith) refl in
      elim (cases_lt i (rank e 32)) [
        | inl low ↦
            (let at = rank-onto e 32 i low in
            let here : place_of e n ls at.0 ≡ At l = place-entry e n ls at.0 at.2 ∙ ap At (ap (λ j. get_or ls j 0) at.3 ∙ found.2) in
            (at.0, at.1, subst (λ q. 0 < count l (links_at_place q)) (sym here) one))
        | inr high ↦
            (let at = rank-onto n 32 (i - rank e 32) (omega (arith, high, found.1, sets.count)) in
            let index : rank e 32 + rank n at.0 ≡ i = omega (arith, at.3, high) in
            let here : place_of e n ls at.0 ≡ Node l = place-node e n ls at.0 (node-alone e n ls at.0 at.1 sets at.2) at.2 ∙ ap Node (ap (λ j. get_or ls j 0) index ∙ found.2) in
            (at.0, at.1, subst (λ q. 0 < count l (links_at_place q)) (sym here) one))
      ]

module _ {K : Type 0} (cmp : K → K → Ordering) (code : K → ℕ) (F : Forms K) where
  whole-none : (d : ℕ) (M : List (Entry K)) → ((p : ℕ) → p < 32 → part cmp code d p M ≡ []) → M ≡ []
  whole-none d [] none = refl
  whole-none d (e ∷ es) none =
      let p : ℕ = digit_at (code e.key) d in
      let one : part cmp code d p (e ∷ es) ≡ e ∷ part cmp code d p es = ap (λ b. cond b (e ∷ part cmp code d p es) (part cmp code d p es)) (eq-eqb p p refl) in
      absurd (let bad = sym one ∙ none p (omega arith) in cc)

  module _ (left d : ℕ) (q : ℕ → Place) (M : List (Entry K)) (places : (p : ℕ) → p < 32 → IsPlace F (λ l P. IsTrie cmp code F left (suc d) l P) (q p) (part cmp code d p M)) where
    at-place : (p : ℕ) → p < 32 → (r : Place) → q p ≡ r → IsPlace F (λ l P. IsTrie cmp code F left (suc d) l P) r (part cmp code d p M)
    at-place p low r is = subst (λ u. IsPlace F (λ l P. IsTrie cmp code F left (suc d) l P) u (part cmp code d p M)) is (places p low)

    -- nothing stands for nothing, and an entry that is alone for itself
    pub none-stands : ((p : ℕ) → p < 32 → q p ≡ Empty) → M ≡ []
    none-stands none = whole-none d M (λ p low. at-place p low Empty (none p low))

    pub one-stands : (C : ℕ → List (Entry K) → Type 0) (c x : ℕ) → c < 32 → q c ≡ At x → ((p : ℕ) → p < 32 → p ≢ c → q p ≡ Empty) → IsPlace F C (At x) M
    one-stands C c x low here others =
        let is = at-place c low (At x) here in
        let whole : part cmp code d c M ≡ M = part-whole cmp code d c M (λ p small other. at-place p small Empty (others p small other)) in
        (is.0, sym whole ∙ is.1, is.2)

    -- a node stands for two entries at least
    pub node-two : (p l : ℕ) → p < 32 → q p ≡ Node l → 2 ≤ length M
    node-two p l low here = omega (arith, (at-place p low (Node l) here).0, filter-short (λ (e : Entry K). nat_eq (digit_at (code e.key) d) p) M)

    -- a row that has just these positions stands for them too
    pub row-stands : (l e n : ℕ) (ls : List ℕ) → IsRow F l d e n ls → ((p : ℕ) → p < 32 → place_of e n ls p ≡ q p) → IsTrie cmp code F (suc left) d l M
    unfolding IsTrie
    row-stands l e n ls row same = record { entries = e; nodes = n; links = ls; row = row; places = λ p low. at-place p low (place_of e n ls p) (sym (same p low)) }

  -- what stands alone at the positions of sets, and that else there are two entries at least
  module _ (left d e n : ℕ) (ls : List ℕ) (M : List (Entry K)) (sets : AreSets e n ls) (places : (p : ℕ) → p < 32 → IsPlace F (λ l P. IsTrie cmp code F left (suc d) l P) (place_of e n ls p) (part cmp code d p M)) where
    pub lone-stands : (C : ℕ → List (Entry K) → Type 0) (place : Place) → lone_in ls n ≡ Some place → IsPlace F C place M
    lone-stands C place only = by_links ls n refl refl only
      where
        by_links : (xs : List ℕ) (m : ℕ) → ls ≡ xs → n ≡ m → lone_in xs m ≡ Some place → IsPlace F C place M
        by_links [] m is same so =
            let at : Empty ≡ place = cc in
            subst (λ q. IsPlace F C q M) at (none-stands left d (place_of e n ls) M places (none-there e n ls sets (ap length is)))
        by_links (x ∷ []) zero is none so =
            let at : At x ≡ place = cc in
            subst (λ q. IsPlace F C q M) (ap (λ xs. At (get_or xs 0 0)) is ∙ at) (lone-place cmp code F (λ l P. IsTrie cmp code F left (suc d) l P) d e n ls M sets places C none (ap length is))
        by_links (x ∷ []) (suc m) is same so = absurd cc
        by_links (x ∷ y ∷ xs) m is same so = absurd cc

    pub lone-two : lone_in ls n ≡ None → 2 ≤ length M
    lone-two none =
        let more = by_links ls n refl refl none in
        let found = link-there e n ls sets (get_or ls 0 0) (at-counted ls 0 more.1) in
        let some = some-entry (place_of e n ls found.0) (part cmp code d found.0 M) (get_or ls 0 0) (places found.0 found.1) found.2 in
        more-left cmp code F (λ l P. IsTrie cmp code F left (suc d) l P) d e n ls M sets places more.0 (omega (arith, some, filter-short (λ (x : Entry K). nat_eq (digit_at (code x.key) d) found.0) M))
      where
        by_links : (xs : List ℕ) (m : ℕ) → ls ≡ xs → n ≡ m → lone_in xs m ≡ None → ((n ≡ 0) × (length ls ≡ 1) → ⊥) × (0 < length ls)
        by_links [] m is same so = absurd cc
        by_links (x ∷ []) zero is same so = absurd cc
        by_links (x ∷ []) (suc m) is same so = (λ lone. omega (arith, same, lone.0), omega (arith, ap length is))
        by_links (x ∷ y ∷ xs) m is same so = (λ lone. omega (arith, ap length is, lone.1), omega (arith, ap length is))

        some-entry : (q : Place) (P : List (Entry K)) (l : ℕ) → IsPlace F (λ l P. IsTrie cmp code F left (suc d) l P) q P → 0 < count l (links_at_place q) → 1 ≤ length P
        some-entry Empty P l is some = absurd (omega (arith, some))
        some-entry (At x) P l is some = omega (arith, ap length is.1)
        some-entry (Node j) P l is some = omega (arith, is.0)

  -- a place that has at each position what stands there for the merged entries stands for these
  pub same-stands : (left d : ℕ) (a : Place) (E M : List (Entry K)) (q : ℕ → Place) → IsPlace F (λ l P. IsTrie cmp code F (suc left) d l P) a E
      → ((p : ℕ) → p < 32 → IsPlace F (λ l P. IsTrie cmp code F left (suc d) l P) (q p) (part cmp code d p M)) → ((p : ℕ) → p < 32 → q p ≡ place_below code F d a p)
      → IsPlace F (λ l P. IsTrie cmp code F (suc left) d l P) a M
  unfolding IsTrie
  same-stands left d Empty E M q is places same = none-stands left d q M places same
  same-stands left d (At x) E M q is places same =
      let c : ℕ = digit_at (code is.0) d in
      let at : (p : ℕ) → p < 32 → q p ≡ cond (nat_eq c p) (At x) Empty = λ p low. same p low ∙ ap (λ o. lone_place code d x o p) is.2 in
      one-stands left d q M places (λ l P. IsTrie cmp code F (suc left) d l P) c x (omega arith) (at c (omega arith) ∙ ap (λ b. cond b (At x) Empty) (eq-eqb c c refl))
      (λ p low other. at p low ∙ ap (λ b. cond b (At x) Empty) (ne_eqb c p (λ e. other (sym e))))
  same-stands left d (Node l) E M q is places same =
      let row = is.1 in
      let at : (p : ℕ) → p < 32 → place_of row.entries row.nodes row.links p ≡ q p = λ p low. sym (same p low ∙ ap (λ r. place_in r p) row.row.row) in
      let here : (p : ℕ) → p < 32 → IsPlace F (λ l P. IsTrie cmp code F left (suc d) l P) (place_of row.entries row.nodes row.links p) (part cmp code d p M) =
      λ p low. subst (λ u. IsPlace F (λ l P. IsTrie cmp code F left (suc d) l P) u (part cmp code d p M)) (sym (at p low)) (places p low) in
      let more : (row.nodes ≡ 0) × (length row.links ≡ 1) → ⊥ =
      λ lone. (let one = lone-place cmp code F (λ l P. IsTrie cmp code F left (suc d) l P) d row.entries row.nodes row.links E row.row.sets row.places (λ l P. IsTrie cmp code F left (suc d) l P) lone.0 lone.1 in omega (arith, is.0, ap length one.1)) in
      let some : 1 ≤ length M = by_list row.entries row.nodes row.links M refl here row.places is.0 in
      (more-left cmp code F (λ l P. IsTrie cmp code F left (suc d) l P) d row.entries row.nodes row.links M row.row.sets here more some, row-stands left d q M places l row.entries row.nodes row.links row.row at)
    where
      empty-place : (u : Place) (P : List (Entry K)) → P ≡ [] → IsPlace F (λ l P. IsTrie cmp code F left (suc d) l P) u P → u ≡ Empty
      empty-place Empty P none is = refl
      empty-place (At x) P none is = absurd (let bad = sym is.1 ∙ none in cc)
      empty-place (Node j) P none is = absurd (omega (arith, is.0, ap length none))

      by_list : (e n : ℕ) (ls : List ℕ) (xs : List (Entry K)) → M ≡ xs → ((p : ℕ) → p < 32 → IsPlace F (λ l P. IsTrie cmp code F left (suc d) l P) (place_of e n ls p) (part cmp code d p M))
          → ((p : ℕ) → p < 32 → IsPlace F (λ l P. IsTrie cmp code F left (suc d) l P) (place_of e n ls p) (part cmp code d p E)) → 2 ≤ length E → 1 ≤ length M
      by_list e n ls [] none here old two =
          let empty = λ (p : ℕ) (low : p < 32). empty-place _ _ (ap (part cmp code d p) none) (here p low) in
          let gone = whole-none d E (λ p low. subst (λ u. IsPlace F (λ l P. IsTrie cmp code F left (suc d) l P) u (part cmp code d p E)) (empty p low) (old p low)) in
          absurd (omega (arith, two, ap length gone))
      by_list e n ls (x ∷ xs) is here old two = omega (arith, ap length is)

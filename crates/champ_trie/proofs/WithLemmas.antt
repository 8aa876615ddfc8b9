-- How an entry is put into a trie.
use Rattle.std.proofs.Common.{◌≡◌, ◌≢◌, ℕ, suc, ◌+◌, ◌-◌, ◌*◌, ◌%◌, ◌^◌, ◌<◌, ◌≤◌, List, [], ◌∷◌, length, refl, ap, sym, subst, ◌∙◌, arith, cond, true, false, not, Bool, inl, inr, ◌⊎◌, Some}
use Rattle.std.specs.Prelude.{nat_eq, count_by}
use Rattle.std.specs.List.{filter}
use Rattle.std.specs.Cmp.{IsTotalOrder, Equal-is}
use Rattle.std.specs.Ordering.{is_eq, ordering_index}
use Rattle.std.specs.declared.cmp.Ordering.{Ordering}
use Rattle.std.specs.declared.cmp.Ordering.TheVariants.{Less, Equal, Greater}
use Rattle.std.proofs.lemmas.Bool.{cases_eq, eq-eqb, ne_eqb, eqb-true}
use Rattle.std.proofs.lemmas.List.Filters.{length-filter_both}
use Rattle.std.proofs.lemmas.List.Sums.{length-filter}
use Rattle.elem_core.specs.Codes.{digit_at}
use Rattle.elem_core.specs.declared.codes.TheConstants.{CODE_BITS, DEEPEST, LEVELS}
use Rattle.elem_core.proofs.CodeLemmas.{digit-more}
use Rattle.node_heap.specs.Calls.{Builds}
use Rattle.node_heap.proofs.BuildLemmas.{Builds-refl, Builds-more}
use Rattle.node_heap.specs.Heap.{Heap, form_at, IsGraph}
use Rattle.node_heap.specs.Forms.{Forms}
use Rattle.champ_chain.specs.Entry.{Entry, entry, IsEntry, AreDistinct, key_at, has_key, others, put}
use Rattle.champ_chain.specs.Chain.{IsChain}
use Rattle.champ_chain.proofs.SetLemmas.{count-cons}
use Rattle.champ_chain.proofs.FrameLemmas.{KeepsForms}
use Rattle.champ_trie.specs.Trie.{IsTrie, IsPlace, IsRow, part, place_of, links_at_place}
use Rattle.champ_trie.specs.Reach.{Agrees, alike_in}
use Rattle.champ_trie.specs.Edit.{IsBelow, chain_nodes, SharesBeside}
use Rattle.champ_trie.specs.declared.place.Place.{Place}
use Rattle.champ_trie.specs.declared.place.Place.TheVariants.{Entry as At, Node, Empty}
use Rattle.champ_trie.proofs.ShareLemmas.{same-node}
use Rattle.champ_trie.proofs.ReachLemmas.{alike-all, same-bits-at, trie-chain}
use Rattle.champ_trie.proofs.PartLemmas.{others-distinct, part-put-here, part-put-elsewhere, part-agrees, part-alike, place-kept, stands-at, below-part, row-trie}

-- an order that isn't tested to be equal
pub not-equal : (r : Ordering) → false ≡ nat_eq (ordering_index r) 1 → is_eq r ≡ false
not-equal Less tested = refl
not-equal Equal tested = absurd cc
not-equal Greater tested = refl

pub eq-apart : (r : Ordering) → is_eq r ≡ false → r ≢ Equal
eq-apart r none same = let bad = sym (ap is_eq same) ∙ none in cc

-- two codes that have the same digits so far and here have the same ones up to here
pub same-more : (x y d : ℕ) → x % 2 ^ (5 * d) ≡ y % 2 ^ (5 * d) → digit_at x d ≡ digit_at y d → x % 2 ^ (5 * (d + 1)) ≡ y % 2 ^ (5 * (d + 1))
same-more x y d low high = digit-more x d ∙ ap (λ a. a * 2 ^ (5 * d) + x % 2 ^ (5 * d)) high ∙ ap (λ r. digit_at y d * 2 ^ (5 * d) + r) low ∙ sym (digit-more y d)

pub chain_nodes-same : (x y : ℕ) → x ≡ y → chain_nodes x y ≡ 2
chain_nodes-same x y same = ap (λ (b : Bool). let n : ℕ = cond b 2 0 in n) (eq-eqb x y same)

pub chain_nodes-all : (x y d : ℕ) → d ≡ LEVELS → x < 2 ^ CODE_BITS → y < 2 ^ CODE_BITS → x % 2 ^ (5 * d) ≡ y % 2 ^ (5 * d) → chain_nodes x y ≡ 2
chain_nodes-all x y d deep low_x low_y same = chain_nodes-same x y (same-bits-at d x y deep low_x low_y same)

module _ {K : Type 0} (cmp : K → K → Ordering) (code : K → ℕ) where
  -- the part of a list from its first entry on
  pub part-here : (d p : ℕ) (e : Entry K) (E : List (Entry K)) → digit_at (code e.key) d ≡ p → part cmp code d p (e ∷ E) ≡ e ∷ part cmp code d p E
  part-here d p e E here = ap (λ b. cond b (e ∷ part cmp code d p E) (part cmp code d p E)) (eq-eqb (digit_at (code e.key) d) p here)

  pub part-elsewhere : (d p : ℕ) (e : Entry K) (E : List (Entry K)) → digit_at (code e.key) d ≢ p → part cmp code d p (e ∷ E) ≡ part cmp code d p E
  part-elsewhere d p e E other = ap (λ b. cond b (e ∷ part cmp code d p E) (part cmp code d p E)) (ne_eqb (digit_at (code e.key) d) p other)

  -- an entry with another key stays beside the one that is put in
  pub put-apart : (j k : K) (old x : ℕ) → is_eq (cmp k j) ≡ false → put cmp (entry j old ∷ []) (entry k x) ≡ entry k x ∷ entry j old ∷ []
  put-apart j k old x other = ap (λ b. entry k x ∷ cond (not b) (entry j old ∷ []) []) other

  -- a chain is a trie with no levels left
  pub chain-trie : (F : Forms K) (left d l : ℕ) (E : List (Entry K)) → left ≡ 0 → IsChain cmp F l E → IsTrie cmp code F left d l E
  unfolding IsTrie
  chain-trie F left d l E none chain = subst (λ n. IsTrie cmp code F n d l E) (sym none) chain

  -- rows of two entries
  module _ (F : Forms K) (left d l e n : ℕ) (ls : List ℕ) (first second : Entry K) (row : IsRow F l d e n ls) where
    -- both below one position
    pub two-below : (p node : ℕ) → digit_at (code first.key) d ≡ p → digit_at (code second.key) d ≡ p → place_of e n ls p ≡ Node node
        → ((q : ℕ) → q < 32 → q ≢ p → place_of e n ls q ≡ Empty) → IsTrie cmp code F left (d + 1) node (first ∷ second ∷ []) → IsTrie cmp code F (suc left) d l (first ∷ second ∷ [])
    two-below p node is_first is_second here none below =
        row-trie cmp code F left d l e n ls (first ∷ second ∷ []) row (λ q low. by_position q low (cases_eq q p))
      where
        by_position : (q : ℕ) → q < 32 → (q ≡ p) ⊎ (q ≡ p → ⊥) → IsPlace F (λ k P. IsTrie cmp code F left (d + 1) k P) (place_of e n ls q) (part cmp code d q (first ∷ second ∷ []))
        by_position q low (inl same) =
            let both : part cmp code d q (first ∷ second ∷ []) ≡ first ∷ second ∷ [] = part-here d q first (second ∷ []) (is_first ∙ sym same) ∙ ap (λ es. first ∷ es) (part-here d q second [] (is_second ∙ sym same)) in
            let at : place_of e n ls q ≡ Node node = ap (place_of e n ls) same ∙ here in
            subst (λ P. IsPlace F (λ k P. IsTrie cmp code F left (d + 1) k P) (place_of e n ls q) P) (sym both)
            (subst (λ at. IsPlace F (λ k P. IsTrie cmp code F left (d + 1) k P) at (first ∷ second ∷ [])) (sym at) (omega arith, below))
        by_position q low (inr other) =
            let neither : part cmp code d q (first ∷ second ∷ []) ≡ [] = part-elsewhere d q first (second ∷ []) (λ is. other (sym is ∙ is_first)) ∙ part-elsewhere d q second [] (λ is. other (sym is ∙ is_second)) in
            subst (λ P. IsPlace F (λ k P. IsTrie cmp code F left (d + 1) k P) (place_of e n ls q) P) (sym neither)
            (subst (λ at. IsPlace F (λ k P. IsTrie cmp code F left (d + 1) k P) at []) (sym (none q low other)) refl)

    -- each at a position of its own
    pub two-apart : (p o : ℕ) → digit_at (code first.key) d ≡ p → digit_at (code second.key) d ≡ o → p ≢ o → place_of e n ls p ≡ At first.link → place_of e n ls o ≡ At second.link
        → ((q : ℕ) → q < 32 → q ≢ p → q ≢ o → place_of e n ls q ≡ Empty) → IsEntry F first → IsEntry F second → IsTrie cmp code F (suc left) d l (first ∷ second ∷ [])
    two-apart p o is_first is_second apart at_first at_second none keyed_first keyed_second =
        row-trie cmp code F left d l e n ls (first ∷ second ∷ []) row (λ q low. by_position q low (cases_eq q p) (cases_eq q o))
      where
        by_position : (q : ℕ) → q < 32 → (q ≡ p) ⊎ (q ≡ p → ⊥) → (q ≡ o) ⊎ (q ≡ o → ⊥) → IsPlace F (λ k P. IsTrie cmp code F left (d + 1) k P) (place_of e n ls q) (part cmp code d q (first ∷ second ∷ []))
        by_position q low (inl same) _ =
            let one : part cmp code d q (first ∷ second ∷ []) ≡ first ∷ [] = part-here d q first (second ∷ []) (is_first ∙ sym same) ∙ ap (λ es. first ∷ es) (part-elsewhere d q second [] (λ is. apart (sym same ∙ sym is ∙ is_second))) in
            let at : place_of e n ls q ≡ At first.link = ap (place_of e n ls) same ∙ at_first in
            subst (λ P. IsPlace F (λ k P. IsTrie cmp code F left (d + 1) k P) (place_of e n ls q) P) (sym one)
            (subst (λ at. IsPlace F (λ k P. IsTrie cmp code F left (d + 1) k P) at (first ∷ [])) (sym at) (first.key, refl, keyed_first))
        by_position q low (inr other) (inl same) =
            let one : part cmp code d q (first ∷ second ∷ []) ≡ second ∷ [] = part-elsewhere d q first (second ∷ []) (λ is. other (sym is ∙ is_first)) ∙ part-here d q second [] (is_second ∙ sym same) in
            let at : place_of e n ls q ≡ At second.link = ap (place_of e n ls) same ∙ at_second in
            subst (λ P. IsPlace F (λ k P. IsTrie cmp code F left (d + 1) k P) (place_of e n ls q) P) (sym one)
            (subst (λ at. IsPlace F (λ k P. IsTrie cmp code F left (d + 1) k P) at (second ∷ [])) (sym at) (second.key, refl, keyed_second))
        by_position q low (inr other) (inr another) =
            let neither : part cmp code d q (first ∷ second ∷ []) ≡ [] = part-elsewhere d q first (second ∷ []) (λ is. other (sym is ∙ is_first)) ∙ part-elsewhere d q second [] (λ is. another (sym is ∙ is_second)) in
            subst (λ P. IsPlace F (λ k P. IsTrie cmp code F left (d + 1) k P) (place_of e n ls q) P) (sym neither)
            (subst (λ at. IsPlace F (λ k P. IsTrie cmp code F left (d + 1) k P) at []) (sym (none q low other another)) refl)

  -- the entries stay two or more
  pub put-two : (E : List (Entry K)) (e : Entry K) → AreDistinct cmp E → 2 ≤ length E → 2 ≤ length (put cmp E e)
  put-two E e distinct two =
      omega (arith, length-filter_both (has_key cmp e.key) (λ (d : Entry K). not (has_key cmp e.key d)) (λ _. refl) E, length-filter (has_key cmp e.key) E, distinct.once e.key)

  chain_nodes-alike : (j : K) (x c : ℕ) → chain_nodes c (code j) ≤ 1 + alike_in code c (entry j x ∷ [])
  chain_nodes-alike j x c = by_test (cases_eq c (code j))
    where
      by_test : (c ≡ code j) ⊎ (c ≡ code j → ⊥) → chain_nodes c (code j) ≤ 1 + alike_in code c (entry j x ∷ [])
      by_test (inl same) =
          let one : Bool → ℕ = λ b. cond b 1 0 in
          omega (arith, chain_nodes-same c (code j) same, count-cons (λ (e : Entry K). nat_eq (code e.key) c) (entry j x) [], ap one (eq-eqb (code j) c (sym same)))
      by_test (inr other) = let two : Bool → ℕ = λ b. cond b 2 0 in omega (arith, ap two (ne_eqb c (code j) other))

  agrees-one : (d c : ℕ) (j : K) (x : ℕ) → Agrees code d c (entry j x ∷ []) → code j % 2 ^ (5 * d) ≡ c % 2 ^ (5 * d)
  agrees-one d c j x agrees = by_test (nat_eq (code j % 2 ^ (5 * d)) (c % 2 ^ (5 * d))) refl agrees
    where
      by_test : (b : Bool) → nat_eq (code j % 2 ^ (5 * d)) (c % 2 ^ (5 * d)) ≡ b → cond b (entry j x ∷ []) [] ≡ entry j x ∷ [] → code j % 2 ^ (5 * d) ≡ c % 2 ^ (5 * d)
      by_test true is one = eqb-true (code j % 2 ^ (5 * d)) (c % 2 ^ (5 * d)) is
      by_test false is none = absurd cc

  -- a level down
  pub below-more : (F : Forms K) (d l c left : ℕ) (E : List (Entry K)) → IsBelow cmp code F d l E left c → d ≤ DEEPEST → (rest : ℕ) × (left ≡ suc rest) × IsBelow cmp code F d l E (suc rest) c
  below-more F d l c left E below deep =
      let more : left ≡ suc (left - 1) = omega (arith, below.levels) in
      (left - 1, more, subst (λ n. IsBelow cmp code F d l E n c) more below)

  -- a chain below the deepest row: all entries have the code
  pub below-chain : (F : Forms K) (d l c left : ℕ) (E : List (Entry K)) → IsBelow cmp code F d l E left c → DEEPEST < d → c < 2 ^ CODE_BITS → ((k : K) → code k < 2 ^ CODE_BITS)
      → (left ≡ 0) × IsChain cmp F l E × (length E ≡ alike_in code c E)
  below-chain F d l c left E below deep low small =
      let none : left ≡ 0 = omega (arith, below.levels) in
      let all : d ≡ LEVELS = omega (arith, below.levels) in
      (none, trie-chain cmp code F d l E (subst (λ n. IsTrie cmp code F n d l E) none below.trie), sym (ap length below.agrees) ∙ alike-all cmp code d c E all low small)

  -- the row with another place at the digit's position is the trie with the entry
  pub with-trie : (F G : Forms K) → KeepsForms F G → (left d l c r e n : ℕ) (ls : List ℕ) (E : List (Entry K)) (k : K) (x : ℕ) (place : Place) → IsTrie cmp code F (suc left) d l E
      → ((j k : K) → cmp j k ≡ Equal → code j ≡ code k) → c ≡ code k → IsRow G r d e n ls → place_of e n ls (digit_at c d) ≡ place
      → ((depth e' n' : ℕ) (ls' : List ℕ) → IsRow F l depth e' n' ls' → (q : ℕ) → q < 32 → q ≢ digit_at c d → place_of e n ls q ≡ place_of e' n' ls' q)
      → IsPlace F (λ m P. IsTrie cmp code F left (d + 1) m P) place (put cmp (part cmp code d (digit_at c d) E) (entry k x)) → IsTrie cmp code G (suc left) d r (put cmp E (entry k x))
  with-trie F G keeps left d l c r e n ls E k x place trie equal_codes is_code row here others stands =
      row-trie cmp code G left d r e n ls (put cmp E (entry k x)) row (λ q low. by_position q low (cases_eq q (digit_at c d)))
    where
      digit : digit_at (code k) d ≡ digit_at c d
      digit = ap (λ m. digit_at m d) (sym is_code)

      by_position : (q : ℕ) → q < 32 → (q ≡ digit_at c d) ⊎ (q ≡ digit_at c d → ⊥) → IsPlace G (λ m P. IsTrie cmp code G left (d + 1) m P) (place_of e n ls q) (part cmp code d q (put cmp E (entry k x)))
      by_position q low (inl same) =
          let at : place_of e n ls q ≡ place = ap (place_of e n ls) same ∙ here in
          let whole : part cmp code d q (put cmp E (entry k x)) ≡ put cmp (part cmp code d (digit_at c d) E) (entry k x) = ap (λ p. part cmp code d p (put cmp E (entry k x))) same ∙ part-put-here cmp code equal_codes d (digit_at c d) (entry k x) E digit in
          subst (λ P. IsPlace G (λ m P. IsTrie cmp code G left (d + 1) m P) (place_of e n ls q) P) (sym whole)
          (subst (λ at. IsPlace G (λ m P. IsTrie cmp code G left (d + 1) m P) at (put cmp (part cmp code d (digit_at c d) E) (entry k x))) (sym at) (place-kept cmp code F G keeps left (d + 1) place (put cmp (part cmp code d (digit_at c d) E) (entry k x)) stands))
      by_position q low (inr other) =
          let rest : part cmp code d q (put cmp E (entry k x)) ≡ part cmp code d q E = part-put-elsewhere cmp code equal_codes d q (entry k x) E (λ is. other (sym is ∙ digit)) in
          subst (λ P. IsPlace G (λ m P. IsTrie cmp code G left (d + 1) m P) (place_of e n ls q) P) (sym rest)
          (place-kept cmp code F G keeps left (d + 1) (place_of e n ls q) (part cmp code d q E)
          (stands-at cmp code F left d l q E (place_of e n ls q) trie (λ depth e' n' ls' was. others depth e' n' ls' was q low other) low))

-- what stands at the digit's position once an entry is put in there, and what was spent for it
pub record IsPlaced {K : Type 0} (cmp : K → K → Ordering) (code : K → ℕ) (old new : Heap K) (d l x c : ℕ) (place : Place) : Type 0 where
  pub builds : (E : List (Entry K)) (left : ℕ) → IsBelow cmp code (form_at old) d l E (suc left) c → Builds old new (x ∷ []) (links_at_place place) 0 (left + 1 + alike_in code c E)
  pub stands : (E : List (Entry K)) (left : ℕ) (k : K) → IsBelow cmp code (form_at old) d l E (suc left) c → key_at (form_at old) x ≡ Some k
      → IsPlace (form_at new) (λ m P. IsTrie cmp code (form_at new) left (d + 1) m P) place (put cmp (part cmp code d (digit_at c d) E) (entry k x))
  pub shares : (E : List (Entry K)) (left e n : ℕ) (ls : List ℕ) (j k : ℕ) → IsBelow cmp code (form_at old) d l E (suc left) c → IsRow (form_at old) l d e n ls
      → place_of e n ls (digit_at c d) ≡ Node j → place ≡ Node k → SharesBeside (form_at old) (form_at new) c left (d + 1) j k

module _ {K : Type 0} (cmp : K → K → Ordering) (code : K → ℕ) (old : Heap K) (d l x c : ℕ) (low : digit_at c d < 32) where
  -- the first entry with its digit
  pub placed-first : IsGraph old → ((depth e n : ℕ) (ls : List ℕ) → IsRow (form_at old) l depth e n ls → Empty ≡ place_of e n ls (digit_at c d)) → IsPlaced cmp code old old d l x c (At x)
  placed-first graph is = record {
    builds = λ E left below. Builds-refl old (x ∷ []) 0 (left + 1 + alike_in code c E) graph;
    stands = λ E left k below keyed.
        let none : part cmp code d (digit_at c d) E ≡ [] = stands-at cmp code (form_at old) left d l (digit_at c d) E Empty below.trie is low in
        subst (λ P. IsPlace (form_at old) (λ m P. IsTrie cmp code (form_at old) left (d + 1) m P) (At x) (put cmp P (entry k x))) (sym none) (k, refl, keyed);
    shares = λ E left e n ls j k below row at there. cc;
  }

  -- the only entry with the digit so far
  module _ (other : ℕ) (is : (depth e n : ℕ) (ls : List ℕ) → IsRow (form_at old) l depth e n ls → At other ≡ place_of e n ls (digit_at c d)) where
    pub record IsAlone (E : List (Entry K)) (left : ℕ) : Type 0 where
      pub key : K
      pub whole : part cmp code d (digit_at c d) E ≡ entry key other ∷ []
      pub keyed : key_at (form_at old) other ≡ Some key
      pub agrees : code key % 2 ^ (5 * (d + 1)) ≡ c % 2 ^ (5 * (d + 1))
      pub few : DEEPEST + chain_nodes c (code key) ≤ left + 1 + alike_in code c E + d

    pub alone : (E : List (Entry K)) (left : ℕ) → IsBelow cmp code (form_at old) d l E (suc left) c → IsAlone E left
    alone E left below =
        let at = stands-at cmp code (form_at old) left d l (digit_at c d) E (At other) below.trie is low in
        let same = ap (alike_in code c) at.1 in
        record {
          key = at.0;
          whole = at.1;
          keyed = at.2;
          agrees = agrees-one cmp code (d + 1) c at.0 other (subst (Agrees code (d + 1) c) at.1 (part-agrees cmp code d c E below.agrees));
          few = omega (arith, below.levels, chain_nodes-alike cmp code at.0 other c, part-alike cmp code d c E, same);
        }

    pub placed-beside : (new : Heap K) (place : Place) → ((j : K) → key_at (form_at old) other ≡ Some j → (n : ℕ) × (n + d ≤ DEEPEST + chain_nodes c (code j)) × Builds old new (x ∷ []) (links_at_place place) 0 n)
        → ((j k : K) → key_at (form_at old) other ≡ Some j → key_at (form_at old) x ≡ Some k → (left : ℕ) → d + left ≡ DEEPEST → IsPlace (form_at new) (λ m P. IsTrie cmp code (form_at new) left (d + 1) m P) place (put cmp (entry j other ∷ []) (entry k x)))
        → IsPlaced cmp code old new d l x c place
    placed-beside new place builds stands = record {
      builds = λ E left below.
          let at = alone E left below in
          let more = builds at.key at.keyed in
          Builds-more 0 (left + 1 + alike_in code c E) more.2 (omega arith) (omega (arith, more.1, at.few));
      stands = λ E left k below keyed.
          let at = alone E left below in
          subst (λ P. IsPlace (form_at new) (λ m P. IsTrie cmp code (form_at new) left (d + 1) m P) place (put cmp P (entry k x))) (sym at.whole) (stands at.key k at.keyed keyed left (omega (arith, below.levels)));
      shares = λ E left e n ls j k below row at there. absurd (let bad : At other ≡ Node j = is d e n ls row ∙ at in cc);
    }

  -- among others with the digit
  pub placed-below : (child : ℕ) → ((depth e n : ℕ) (ls : List ℕ) → IsRow (form_at old) l depth e n ls → Node child ≡ place_of e n ls (digit_at c d)) → (new : Heap K) (node : ℕ)
      → ((E : List (Entry K)) (left : ℕ) → IsBelow cmp code (form_at old) (d + 1) child E left c → Builds old new (x ∷ []) (node ∷ []) 0 (left + 1 + alike_in code c E))
      → ((E : List (Entry K)) (left : ℕ) (k : K) → IsBelow cmp code (form_at old) (d + 1) child E left c → key_at (form_at old) x ≡ Some k → IsTrie cmp code (form_at new) left (d + 1) node (put cmp E (entry k x)))
      → ((E : List (Entry K)) (left : ℕ) → IsBelow cmp code (form_at old) (d + 1) child E left c → SharesBeside (form_at old) (form_at new) c left (d + 1) child node)
      → IsPlaced cmp code old new d l x c (Node node)
  placed-below child is new node builds trie shares = record {
    builds = λ E left below.
        let down = below-part cmp code (form_at old) left d l c child E below is low in
        subst (λ a. Builds old new (x ∷ []) (node ∷ []) 0 (left + 1 + a)) (part-alike cmp code d c E) (builds (part cmp code d (digit_at c d) E) left down);
    stands = λ E left k below keyed.
        let down = below-part cmp code (form_at old) left d l c child E below is low in
        let at = stands-at cmp code (form_at old) left d l (digit_at c d) E (Node child) below.trie is low in
        (put-two cmp code (part cmp code d (digit_at c d) E) (entry k x) down.distinct at.0, trie (part cmp code d (digit_at c d) E) left k down keyed);
    shares = λ E left e n ls j k below row at there.
        let down = below-part cmp code (form_at old) left d l c child E below is low in
        subst (λ m. SharesBeside (form_at old) (form_at new) c left (d + 1) m k) (same-node child j (is d e n ls row ∙ at))
        (subst (SharesBeside (form_at old) (form_at new) c left (d + 1) child) (same-node node k there) (shares (part cmp code d (digit_at c d) E) left down));
  }

module _ {X : Type 0} where
  -- a filter that keeps nothing that is counted
  count-none : (q p : X → Bool) → ((x : X) → p x ≡ true → q x ≡ false) → (xs : List X) → count_by q (filter p xs) ≡ 0
  count-none q p none [] = refl
  count-none q p none (x ∷ xs) = by_test (p x) refl (count-none q p none xs)
    where
      by_test : (b : Bool) → p x ≡ b → count_by q (filter p xs) ≡ 0 → count_by q (cond b (x ∷ filter p xs) (filter p xs)) ≡ 0
      by_test true is rest = let one : Bool → ℕ = λ b. cond b 1 0 in omega (arith, rest, count-cons q x (filter p xs), ap one (none x is))
      by_test false is rest = rest

module _ {K : Type 0} (cmp : K → K → Ordering) (code : K → ℕ) where
  pub put-distinct : IsTotalOrder cmp → (E : List (Entry K)) (e : Entry K) → AreDistinct cmp E → AreDistinct cmp (put cmp E e)
  put-distinct total E e distinct = record { once = λ key. by_test key (has_key cmp key e) refl }
    where
      one : Bool → ℕ
      one b = cond b 1 0

      other : (key : K) → cmp key e.key ≡ Equal → (b : Bool) (x : Entry K) → has_key cmp e.key x ≡ b → not b ≡ true → has_key cmp key x ≡ false
      other key equal true x is kept = absurd cc
      other key equal false x is kept = ap is_eq (total.congr key e.key x.key equal) ∙ is

      by_test : (key : K) (b : Bool) → has_key cmp key e ≡ b → count_by (has_key cmp key) (put cmp E e) ≤ 1
      by_test key true is =
          let none : count_by (has_key cmp key) (others cmp e.key E) ≡ 0 = count-none (has_key cmp key) (λ x. not (has_key cmp e.key x)) (λ x kept. other key ((Equal-is (cmp key e.key)).0 is) (has_key cmp e.key x) x refl kept) E in
          omega (arith, none, count-cons (has_key cmp key) e (others cmp e.key E), ap one is)
      by_test key false is = omega (arith, (others-distinct cmp code e.key E distinct).once key, count-cons (has_key cmp key) e (others cmp e.key E), ap one is)

-- What is left of a trie once a key is gone.
use Rattle.std.proofs.Common.{◌≡◌, ◌≢◌, ℕ, suc, zero, ◌+◌, ◌<◌, ◌≤◌, ◌^◌, List, [], ◌∷◌, length, get_or, refl, ap, sym, subst, ◌∙◌, arith, cond, true, false, not, Bool, inl, inr, ◌⊎◌, Option, Some, None, option_map}
use Rattle.std.specs.Prelude.{nat_eq}
use Rattle.std.specs.declared.cmp.Ordering.{Ordering}
use Rattle.std.specs.declared.cmp.Ordering.TheVariants.{Equal}
use Rattle.std.proofs.lemmas.Bool.{cases_Bool, cases_eq, cases_order, eq-eqb, ne_eqb}
use Rattle.std.proofs.lemmas.Nat.Bits.{same_from_bits_below, bit_at-zero}
use Rattle.std.proofs.lemmas.List.Filters.{length-filter_both}
use Rattle.std.proofs.lemmas.List.Sums.{length-filter}
use Rattle.elem_core.specs.Codes.{digit_at}
use Rattle.elem_core.specs.declared.codes.TheConstants.{CODE_BITS, DEEPEST, LEVELS}
use Rattle.node_heap.specs.Forms.{Form, Forms, cell, node, chain, head_of}
use Rattle.node_heap.specs.Reads.{kind_said}
use Rattle.node_heap.specs.declared.row.Kind.{Kind}
use Rattle.node_heap.specs.Heap.{Heap, form_at}
use Rattle.node_heap.specs.declared.row.Kind.TheVariants.{Leaf, Inner, Trie, Chain, Pair, State}
use Rattle.champ_chain.specs.Entry.{Entry, entry, has_key, link_with, others, AreDistinct, key_of, key_at}
use Rattle.champ_chain.specs.Chain.{IsChain, IsEntryOrChain}
use Rattle.champ_chain.proofs.FrameLemmas.{KeepsForms, forms-kept, forms-same}
use Rattle.champ_chain.proofs.SpotLemmas.{first-row, same-key}
use Rattle.champ_trie.specs.Bits.{has, rank}
use Rattle.champ_trie.specs.Trie.{AreSets, IsRow, IsTrie, IsCanon, IsPlace, part, place_of, links_at_place, KeepsTries}
use Rattle.champ_trie.specs.Reach.{Agrees, alike_in}
use Rattle.champ_trie.specs.Edit.{Closes, IsBelow}
use Rattle.champ_trie.specs.declared.place.Place.{Place}
use Rattle.champ_trie.specs.declared.place.Place.TheVariants.{Entry as At, Node, Empty}
use Rattle.champ_trie.proofs.BitLemmas.{rank-lt, rank-onto, rank-none, has-none, bit-no}
use Rattle.champ_trie.proofs.PlaceLemmas.{place-entry, place-node, place-empty}
use Rattle.champ_trie.proofs.ReachLemmas.{alike-all, agreeing-none}
use Rattle.node_heap.specs.Calls.{Extends, SameRows}
use Rattle.champ_trie.proofs.PartLemmas.{part-others, part-agreeing, part-link, others-elsewhere, place-kept, stands-at, below-part, row-trie, trie-kept}

-- only a chain is said to be one
pub chain-said : (k : Kind) → kind_said k ≡ chain → k ≡ Chain
chain-said Leaf is = cc
chain-said (Inner height) is = cc
chain-said (Trie depth entries nodes) is = cc
chain-said Chain is = refl
chain-said Pair is = cc
chain-said State is = cc

module _ {T : Type 0} where
  -- a chain's row is no entry
  no-entry : (F : Forms T) (r : Option (Form T)) (k : T) → head_of r ≡ Some chain → key_of F r ≡ Some k → ⊥
  no-entry F None k head key = cc
  no-entry F (Some (cell x)) k head key = cc
  no-entry F (Some (node h links)) k head key = let same : h ≡ chain = cc in let bad : key_of F (Some (node chain links)) ≡ Some k = ap (λ g. key_of F (Some (node g links))) (sym same) ∙ key in cc

  module _ (cmp : T → T → Ordering) where
    -- what is left of a chain is a chain again
    pub chain-stands : (h : Heap T) (l : ℕ) (Q : List (Entry T)) → head_of (form_at h l) ≡ Some chain → IsEntryOrChain cmp (form_at h) l Q
        → IsPlace (form_at h) (λ k P. IsChain cmp (form_at h) k P) (Node l) Q
    chain-stands h l [] head is = absurd is
    chain-stands h l (e ∷ []) head is = absurd (no-entry (form_at h) (form_at h l) e.key head (ap (key_at (form_at h)) is.0 ∙ is.1))
    chain-stands h l (e ∷ d ∷ es) head is = (is.two, is)

    -- or an entry
    pub entry-stands : (h : Heap T) (l : ℕ) (Q : List (Entry T)) → (head_of (form_at h l) ≡ Some chain → ⊥) → IsEntryOrChain cmp (form_at h) l Q
        → IsPlace (form_at h) (λ k P. IsChain cmp (form_at h) k P) (At l) Q
    entry-stands h l [] head is = absurd is
    entry-stands h l (e ∷ []) head is = (e.key, ap (λ k. entry e.key k ∷ []) (sym is.0), ap (key_at (form_at h)) is.0 ∙ is.1)
    entry-stands h l (e ∷ d ∷ es) head is = let at = first-row (form_at h) l is.entries is.rows in absurd (head (ap head_of at.row))

-- the positions of sets of which only one has something
module _ (e n p : ℕ) (ls : List ℕ) (sets : AreSets e n ls) (low : p < 32) where
  -- there is no other entry
  pub only-entry : n ≡ 0 → length ls ≡ 1 → rank e p ≡ 0 → has e p ≡ true → (q : ℕ) → q < 32 → q ≢ p → place_of e n ls q ≡ Empty
  only-entry none one first here q low' other = elim (cases_Bool (has e q)) [
    | inl there ↦ absurd (by_order there (cases_order q p))
    | inr absent ↦ place-empty e n ls q absent (ap (λ s. has s q) none ∙ has-none q)
  ]
    where
      all : rank e 32 ≡ 1
      all = omega (arith, sets.count, one, ap (λ s. rank s 32) none, rank-none 32)

      by_order : has e q ≡ true → (q ≡ p) ⊎ ((q < p) ⊎ (p < q)) → ⊥
      by_order there (inl same) = other same
      by_order there (inr (inl less)) = omega (arith, rank-lt e q p less there, first)
      by_order there (inr (inr more)) = omega (arith, rank-lt e p q more here, rank-lt e q 32 low' there, all)

  -- an entry alone
  pub lone-sets : has e p ≡ true → ((q : ℕ) → q < 32 → q ≢ p → has e q ≡ false) → ((q : ℕ) → q < 32 → has n q ≡ false) → (n ≡ 0) × (length ls ≡ 1)
  lone-sets here absent none = (no_nodes, omega (arith, sets.count, no_rank, one (cases_order (rank e 32) 1)))
    where
      no_nodes : n ≡ 0
      no_nodes = same_from_bits_below 32 n 0 sets.nodes_small (omega arith) (λ q lt. bit-no n q (none q lt) ∙ sym (bit_at-zero q))

      no_rank : rank n 32 ≡ 0
      no_rank = ap (λ s. rank s 32) no_nodes ∙ rank-none 32

      only : (q : ℕ) → q < 32 → has e q ≡ true → q ≡ p
      only q lt there = elim (cases_eq q p) [ inl same ↦ same | inr other ↦ absurd (let bad : true ≡ false = sym there ∙ absent q lt other in cc) ]

      one : (rank e 32 ≡ 1) ⊎ ((rank e 32 < 1) ⊎ (1 < rank e 32)) → rank e 32 ≡ 1
      one (inl is) = is
      one (inr (inl less)) = absurd (omega (arith, rank-lt e p 32 low here))
      one (inr (inr more)) =
          let first = rank-onto e 32 0 (omega arith) in
          let second = rank-onto e 32 1 more in
          let same = ap (rank e) (only first.0 first.1 first.2 ∙ sym (only second.0 second.1 second.2)) in
          absurd (omega (arith, first.3, second.3, same))

module _ {K : Type 0} (cmp : K → K → Ordering) (code : K → ℕ) where
  -- the key is gone with the only entry
  pub lone-gone : (key : K) (e : Entry K) → link_with cmp key (e ∷ []) ≢ None → others cmp key (e ∷ []) ≡ []
  lone-gone key e there = by_test (has_key cmp key e) refl
    where
      by_test : (b : Bool) → has_key cmp key e ≡ b → others cmp key (e ∷ []) ≡ []
      by_test true is = ap (λ b. cond (not b) (e ∷ []) []) is
      by_test false is = absurd (there (ap (λ b. option_map (λ (e : Entry K). e.link) (cond b (Some e) None)) is))

  -- no more than one entry is gone
  pub one-gone : (key : K) (E : List (Entry K)) → AreDistinct cmp E → length E ≤ length (others cmp key E) + 1
  one-gone key E distinct = omega (arith, length-filter_both (has_key cmp key) (λ e. not (has_key cmp key e)) (λ e. refl) E, length-filter (has_key cmp key) E, distinct.once key)

  -- entries of which all have one digit
  pub part-whole : (d p : ℕ) (E : List (Entry K)) → ((q : ℕ) → q < 32 → q ≢ p → part cmp code d q E ≡ []) → part cmp code d p E ≡ E
  part-whole d p [] none = refl
  part-whole d p (e ∷ E) none = by_digit (cases_eq (digit_at (code e.key) d) p) (part-whole d p E)
    where
      small : digit_at (code e.key) d < 32
      small = omega arith

      rest : (q : ℕ) → q < 32 → q ≢ p → (digit_at (code e.key) d ≡ q → ⊥) → part cmp code d q E ≡ []
      rest q low other away = sym (ap (λ b. cond b (e ∷ part cmp code d q E) (part cmp code d q E)) (ne_eqb (digit_at (code e.key) d) q away)) ∙ none q low other

      by_digit : (digit_at (code e.key) d ≡ p) ⊎ (digit_at (code e.key) d ≡ p → ⊥) → (((q : ℕ) → q < 32 → q ≢ p → part cmp code d q E ≡ []) → part cmp code d p E ≡ E) → part cmp code d p (e ∷ E) ≡ e ∷ E
      by_digit (inl here) more =
          ap (λ b. cond b (e ∷ part cmp code d p E) (part cmp code d p E)) (eq-eqb (digit_at (code e.key) d) p here)
          ∙ ap (λ es. e ∷ es) (more (λ q low other. rest q low other (λ is. other (sym is ∙ here))))
      by_digit (inr away) more = absurd (let bad = sym (none (digit_at (code e.key) d) small away) ∙ ap (λ b. cond b (e ∷ part cmp code d (digit_at (code e.key) d) E) (part cmp code d (digit_at (code e.key) d) E)) (eq-eqb (digit_at (code e.key) d) (digit_at (code e.key) d) refl) in cc)

  -- at the deepest row the entries with the digit have the whole code
  pub deepest-alike : (d c : ℕ) (E : List (Entry K)) → d ≡ DEEPEST → c < 2 ^ CODE_BITS → ((k : K) → code k < 2 ^ CODE_BITS) → Agrees code d c E → length (part cmp code d (digit_at c d) E) ≡ alike_in code c E
  deepest-alike d c E deep low small agrees = ap length (part-agreeing cmp code d c E agrees) ∙ alike-all cmp code (d + 1) c E (omega (arith, deep)) low small

  -- a row of these places over the entries
  module _ (F : Forms K) (B : ℕ → List (Entry K) → Type 0) (d e n : ℕ) (ls : List ℕ) (E : List (Entry K)) (sets : AreSets e n ls) (places : (p : ℕ) → p < 32 → IsPlace F B (place_of e n ls p) (part cmp code d p E)) where
    -- has its only entry
    pub lone-place : (C : ℕ → List (Entry K) → Type 0) → n ≡ 0 → length ls ≡ 1 → IsPlace F C (At (get_or ls 0 0)) E
    lone-place C none one =
        let all : rank e 32 ≡ 1 = omega (arith, sets.count, one, ap (λ s. rank s 32) none, rank-none 32) in
        let at = rank-onto e 32 0 (omega arith) in
        let p : ℕ = at.0 in
        let there : place_of e n ls p ≡ At (get_or ls (rank e p) 0) = place-entry e n ls p at.2 in
        let here : place_of e n ls p ≡ At (get_or ls 0 0) = subst (λ i. place_of e n ls p ≡ At (get_or ls i 0)) at.3 there in
        let whole : part cmp code d p E ≡ E = part-whole d p E (λ q low other. subst (λ at. IsPlace F B at (part cmp code d q E)) (only-entry e n p ls sets at.1 none one at.3 at.2 q low other) (places q low)) in
        let is = subst (λ at. IsPlace F B at (part cmp code d p E)) here (places p at.1) in
        (is.0, subst (λ es. es ≡ entry is.0 (get_or ls 0 0) ∷ []) whole is.1, is.2)

    -- or else two entries at least, where it has one
    pub more-left : ((n ≡ 0) × (length ls ≡ 1) → ⊥) → 1 ≤ length E → 2 ≤ length E
    more-left other some = by_list E refl some
      where
        by_list : (xs : List (Entry K)) → E ≡ xs → 1 ≤ length xs → 2 ≤ length E
        by_list [] is le = absurd (omega arith)
        by_list (x ∷ y ∷ zs) is le = omega (arith, ap length is)
        by_list (x ∷ []) is le = absurd (other (lone-sets e n p ls sets small here (λ q low away. elsewhere q low away (cases_Bool (has e q))) (λ q low. no_node q low (cases_Bool (has n q)))))
          where
            p : ℕ
            p = digit_at (code x.key) d

            small : p < 32
            small = omega arith

            one-at : (q : ℕ) → length (part cmp code d q E) ≤ 1
            one-at q = let kept : length (part cmp code d q E) ≤ length E = omega (arith, length-filter_both (λ (e : Entry K). nat_eq (digit_at (code e.key) d) q) (λ (e : Entry K). not (nat_eq (digit_at (code e.key) d) q)) (λ e. refl) E) in omega (arith, kept, ap length is)

            one-here : part cmp code d p E ≡ x ∷ []
            one-here = ap (part cmp code d p) is ∙ ap (λ b. cond b (x ∷ []) []) (eq-eqb p p refl)

            none-else : (q : ℕ) → q ≢ p → part cmp code d q E ≡ []
            none-else q away = ap (part cmp code d q) is ∙ ap (λ b. cond b (x ∷ []) []) (ne_eqb p q (λ same. away (sym same)))

            no_node : (q : ℕ) → q < 32 → (has n q ≡ true) ⊎ (has n q ≡ false) → has n q ≡ false
            no_node q low (inr none) = none
            no_node q low (inl there) = elim (cases_Bool (has e q)) [
              | inl both ↦ sets.apart q low both
              | inr absent ↦ absurd (let stands = subst (λ at. IsPlace F B at (part cmp code d q E)) (place-node e n ls q absent there) (places q low) in omega (arith, stands.0, one-at q))
            ]

            here : has e p ≡ true
            here = elim (cases_Bool (has e p)) [
              | inl there ↦ there
              | inr absent ↦ absurd (let stands = subst (λ at. IsPlace F B at (part cmp code d p E)) (place-empty e n ls p absent (no_node p small (cases_Bool (has n p)))) (places p small) in let bad = sym stands ∙ one-here in cc)
            ]

            elsewhere : (q : ℕ) → q < 32 → q ≢ p → (has e q ≡ true) ⊎ (has e q ≡ false) → has e q ≡ false
            elsewhere q low away (inr absent) = absent
            elsewhere q low away (inl there) = absurd (let stands = subst (λ at. IsPlace F B at (part cmp code d q E)) (place-entry e n ls q there) (places q low) in let bad = sym stands.1 ∙ none-else q away in cc)

module _ {T : Type 0} (cmp : T → T → Ordering) (code : T → ℕ) (equal_codes : (j k : T) → cmp j k ≡ Equal → code j ≡ code k) where
  -- the places of a row in which another stands at the digit's position
  pub left-places : (F G : Forms T) (d left l c : ℕ) (P : List (Entry T)) (key : T) (e n : ℕ) (ls : List ℕ) (place : Place) → KeepsForms F G → c ≡ code key
      → IsTrie cmp code F (suc left) d l P → place_of e n ls (digit_at c d) ≡ place
      → IsPlace G (λ k Q. IsTrie cmp code G left (d + 1) k Q) place (part cmp code d (digit_at c d) (others cmp key P))
      → ((depth entries nodes : ℕ) (links : List ℕ) → IsRow F l depth entries nodes links → (p : ℕ) → p < 32 → p ≢ digit_at c d → place_of e n ls p ≡ place_of entries nodes links p)
      → (p : ℕ) → p < 32 → IsPlace G (λ k Q. IsTrie cmp code G left (d + 1) k Q) (place_of e n ls p) (part cmp code d p (others cmp key P))
  left-places F G d left l c P key e n ls place keeps is_code below here stands same p low = by_position (cases_eq p (digit_at c d))
    where
      by_position : (p ≡ digit_at c d) ⊎ (p ≡ digit_at c d → ⊥) → IsPlace G (λ k Q. IsTrie cmp code G left (d + 1) k Q) (place_of e n ls p) (part cmp code d p (others cmp key P))
      by_position (inl is) =
          subst (λ q. IsPlace G (λ k Q. IsTrie cmp code G left (d + 1) k Q) (place_of e n ls q) (part cmp code d q (others cmp key P))) (sym is)
          (subst (λ at. IsPlace G (λ k Q. IsTrie cmp code G left (d + 1) k Q) at (part cmp code d (digit_at c d) (others cmp key P))) (sym here) stands)
      by_position (inr other) =
          let away : digit_at (code key) d ≢ p = λ is. other (sym is ∙ ap (λ x. digit_at x d) (sym is_code)) in
          let same_part : part cmp code d p P ≡ part cmp code d p (others cmp key P) = sym (part-others cmp code d p key P ∙ others-elsewhere cmp code equal_codes d p key P away) in
          subst (IsPlace G (λ k Q. IsTrie cmp code G left (d + 1) k Q) (place_of e n ls p)) same_part
          (place-kept cmp code F G keeps left (d + 1) (place_of e n ls p) (part cmp code d p P)
          (stands-at cmp code F left d l p P (place_of e n ls p) below (λ depth entries nodes links row. same depth entries nodes links row p low other) low))

  -- what closes such a row stands for what is left
  pub left-stands : (h : Heap T) (d left : ℕ) (P : List (Entry T)) (key : T) (e n : ℕ) (ls : List ℕ) (result : Place) → AreDistinct cmp P → 2 ≤ length P → AreSets e n ls
      → ((p : ℕ) → p < 32 → IsPlace (form_at h) (λ k Q. IsTrie cmp code (form_at h) left (d + 1) k Q) (place_of e n ls p) (part cmp code d p (others cmp key P)))
      → Closes h e n ls d result → IsPlace (form_at h) (λ k Q. IsTrie cmp code (form_at h) (suc left) d k Q) result (others cmp key P)
  left-stands h d left P key e n ls result distinct two sets places (inl (none, one, is)) =
      subst (λ at. IsPlace (form_at h) (λ k Q. IsTrie cmp code (form_at h) (suc left) d k Q) at (others cmp key P)) (sym is)
      (lone-place cmp code (form_at h) (λ k Q. IsTrie cmp code (form_at h) left (d + 1) k Q) d e n ls (others cmp key P) sets places (λ k Q. IsTrie cmp code (form_at h) (suc left) d k Q) none one)
  left-stands h d left P key e n ls result distinct two sets places (inr (other, (l, is, row))) =
      subst (λ at. IsPlace (form_at h) (λ k Q. IsTrie cmp code (form_at h) (suc left) d k Q) at (others cmp key P)) (sym is) (
        more-left cmp code (form_at h) (λ k Q. IsTrie cmp code (form_at h) left (d + 1) k Q) d e n ls (others cmp key P) sets places other (omega (arith, two, one-gone cmp code key P distinct)),
        row-trie cmp code (form_at h) left d l e n ls (others cmp key P) row places,
      )

module _ {K : Type 0} (cmp : K → K → Ordering) (code : K → ℕ) where
  -- the node at the digit's place of a row above the deepest
  pub record IsDeeper (F : Forms K) (d child c left : ℕ) (P : List (Entry K)) : Type 0 where
    pub m : ℕ
    pub is : left ≡ suc m
    pub below : IsBelow cmp code F (d + 1) child P (suc m) c
    pub two : 2 ≤ length P

  module _ (F : Forms K) (left d l c : ℕ) (E : List (Entry K)) (below : IsBelow cmp code F d l E (suc left) c) (low : digit_at c d < 32) where
    pub node-deeper : (child : ℕ) → ((depth e n : ℕ) (ls : List ℕ) → IsRow F l depth e n ls → Node child ≡ place_of e n ls (digit_at c d)) → d < DEEPEST
        → IsDeeper F d child c left (part cmp code d (digit_at c d) E)
    node-deeper child is less = by_left left refl (below-part cmp code F left d l c child E below is low)
      where
        by_left : (n : ℕ) → left ≡ n → IsBelow cmp code F (d + 1) child (part cmp code d (digit_at c d) E) left c → IsDeeper F d child c left (part cmp code d (digit_at c d) E)
        by_left zero none there = absurd (omega (arith, below.levels, none, less))
        by_left (suc m) more there = record {
          m = m;
          is = more;
          below = subst (λ n. IsBelow cmp code F (d + 1) child (part cmp code d (digit_at c d) E) n c) more there;
          two = (stands-at cmp code F left d l (digit_at c d) E (Node child) below.trie is low).0;
        }

    -- below the deepest row it is the chain of the entries with the code
    pub node-chain : (child : ℕ) → ((depth e n : ℕ) (ls : List ℕ) → IsRow F l depth e n ls → Node child ≡ place_of e n ls (digit_at c d)) → DEEPEST ≤ d
        → (left ≡ 0) × IsChain cmp F child (part cmp code d (digit_at c d) E)
    unfolding IsTrie
    node-chain child is deep =
        let none : left ≡ 0 = omega (arith, below.levels, deep) in
        let there = (stands-at cmp code F left d l (digit_at c d) E (Node child) below.trie is low).1 in
        (none, subst (λ n. IsTrie cmp code F n (d + 1) child (part cmp code d (digit_at c d) E)) none there)

    -- and at no node there is at most the entry with the key
    pub none-left : (key : K) (place : Place) → c ≡ code key → ((j k : K) → cmp j k ≡ Equal → code j ≡ code k) → link_with cmp key E ≢ None
        → ((depth e n : ℕ) (ls : List ℕ) → IsRow F l depth e n ls → place ≡ place_of e n ls (digit_at c d)) → (place ≡ Empty) ⊎ ((x : ℕ) × (place ≡ At x))
        → (m : ℕ) (D : List (Entry K)) → IsBelow cmp code F d l D (suc m) c → part cmp code d (digit_at c d) (others cmp key D) ≡ []
    none-left key place is_code equal_codes there is which m D too = part-others cmp code d (digit_at c d) key D ∙ by_place which
      where
        linked : link_with cmp key (part cmp code d (digit_at c d) E) ≢ None
        linked none = there (sym (part-link cmp code equal_codes d key E) ∙ ap (λ n. link_with cmp key (part cmp code d (digit_at n d) E)) (sym is_code) ∙ none)

        by_place : (place ≡ Empty) ⊎ ((x : ℕ) × (place ≡ At x)) → others cmp key (part cmp code d (digit_at c d) D) ≡ []
        by_place (inl empty) = ap (others cmp key) (stands-at cmp code F m d l (digit_at c d) D Empty too.trie (λ depth e n ls row. sym empty ∙ is depth e n ls row) low)
        by_place (inr (x, at)) =
            let one = stands-at cmp code F left d l (digit_at c d) E (At x) below.trie (λ depth e n ls row. sym at ∙ is depth e n ls row) low in
            let other = stands-at cmp code F m d l (digit_at c d) D (At x) too.trie (λ depth e n ls row. sym at ∙ is depth e n ls row) low in
            let same : other.0 ≡ one.0 = same-key F x x other.0 one.0 refl other.2 one.2 in
            ap (others cmp key) other.1 ∙ ap (λ k. others cmp key (entry k x ∷ [])) same ∙ lone-gone cmp code key (entry one.0 x) (subst (λ es. link_with cmp key es ≢ None) one.1 linked)

  -- what stands for a chain stands for a trie with no levels left
  pub chain-place : (F : Forms K) (left d : ℕ) (place : Place) (E : List (Entry K)) → left ≡ 0 → IsPlace F (λ k P. IsChain cmp F k P) place E → IsPlace F (λ k P. IsTrie cmp code F left d k P) place E
  unfolding IsTrie
  chain-place F left d place E none stands = subst (λ n. IsPlace F (λ k P. IsTrie cmp code F n d k P) place E) (sym none) stands

-- a place has one link at most
pub place-links : (place : Place) → length (links_at_place place) ≤ 1
place-links Empty = omega arith
place-links (At x) = omega arith
place-links (Node l) = omega arith

module _ {K : Type 0} (cmp : K → K → Ordering) (code : K → ℕ) where
  -- a whole trie is one from depth 0 down
  pub canon-below : (F : Forms K) (root c : ℕ) (E : List (Entry K)) → IsCanon cmp code F root E → IsBelow cmp code F 0 root E LEVELS c
  canon-below F root c E canon = record { levels = omega arith; trie = canon.trie; distinct = canon.distinct; agrees = agreeing-none cmp code c E }

  pub canon-kept : (F G : Forms K) → KeepsForms F G → (root : ℕ) (E : List (Entry K)) → IsCanon cmp code F root E → IsCanon cmp code G root E
  canon-kept F G keeps root E canon = record { trie = trie-kept cmp code F G keeps LEVELS 0 root E canon.trie; distinct = canon.distinct }

module _ {T : Type 0} where
  -- tries stay where rows are only added
  pub KeepsTries-Extends : (old new : Heap T) → Extends old new → KeepsTries old new
  KeepsTries-Extends old new more cmp code root E canon = canon-kept cmp code (form_at old) (form_at new) (forms-kept old new more) root E canon

  pub KeepsTries-same : (old new : Heap T) → SameRows old new → KeepsTries old new
  KeepsTries-same old new same cmp code root E canon = canon-kept cmp code (form_at old) (form_at new) (forms-same old new same) root E canon

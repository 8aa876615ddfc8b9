-- Images of one row in two sets of rows: they match one to one.
use Rattle.std.proofs.Common.{◌≡◌, ◌⊎◌, ℕ, suc, ◌+◌, ◌<◌, refl, ap, sym, subst, ◌∙◌, arith, true, false, List, [], ◌∷◌, map, Option, Some, None, option_map}
use Rattle.std.specs.Ordering.{nat_cmp}
use Rattle.std.specs.Cmp.Lexicographic.{slice_cmp}
use Rattle.node_heap.specs.Forms.{Form, Forms, cell, node, leaf, inner, trie, chain, pair, state, head_of}
use Rattle.champ_chain.specs.Entry.{Entry, entry, SameSet, same_none, same_first, same_turned, same_through}
use Rattle.champ_chain.specs.Chain.{AreChainRows}
use Rattle.champ_chain.proofs.RowLemmas.{rows-only}
use Rattle.champ_trie.specs.Trie.{IsTrie, code_by}
use Rattle.champ_trie.proofs.GatherLemmas.{same-map}
use Rattle.champ_trie.proofs.CanonLemmas.{same-lift}
use Rattle.pool_text.specs.Rows.{Bytes}
use Rattle.pool_text.specs.Rules.{Rules}
use Rattle.pool_text.specs.Pool.{forms_in, row_count, relink}
use Rattle.pool_text.specs.declared.pool.Pool.{Pool}
use Rattle.pool_check.specs.Tries.{entries_below}
use Rattle.pool_check.specs.Kinds.{is_trie_root}
use Rattle.pool_check.specs.Readings.{moved}
use Rattle.state_rows.proofs.TrieSets.{one-set}
use Rattle.pool_carry.specs.Carried.{is_of_trie, AreImages}
use Rattle.pool_carry.proofs.OneRow.{trie-one, chain-one}

-- a row with other links is of a trie where it was
pub relink-of-trie : (f : ℕ → ℕ) (r : Option (Form Bytes)) → is_of_trie (option_map (relink f) r) ≡ is_of_trie r
relink-of-trie f None = refl
relink-of-trie f (Some (cell x)) = refl
relink-of-trie f (Some (node leaf links)) = refl
relink-of-trie f (Some (node (inner height) links)) = refl
relink-of-trie f (Some (node (trie d e m) links)) = refl
relink-of-trie f (Some (node chain links)) = refl
relink-of-trie f (Some (node pair links)) = refl
relink-of-trie f (Some (node state links)) = refl

module _ (to : Rules) (bits : ℕ) (P : Pool) where
  -- each entry is one of the pool's own rows
  abbrev pub EachOwn : List (Entry Bytes) → Type 0
  EachOwn [] = Unit {0}
  EachOwn (e ∷ es) = (e.link < row_count P) × (is_of_trie (forms_in P e.link) ≡ false) × EachOwn es

  pub own-same : (E D : List (Entry Bytes)) → SameSet E D → EachOwn E → EachOwn D
  own-same _ _ same_none each = tt
  own-same _ _ (same_first x xs ys s) each = (each.0, each.1, own-same xs ys s each.2)
  own-same _ _ (same_turned x y xs) each = (each.2.0, each.2.1, (each.0, each.1, each.2.2))
  own-same _ _ (same_through xs ys zs s t) each = own-same ys zs t (own-same xs ys s each)

  module _ (f : ℕ → ℕ) (G : Forms Bytes) (images : AreImages to bits P f G) where
    -- entries with equal images are equal
    moved-back : (E D : List (Entry Bytes)) → EachOwn E → EachOwn D → map (moved f) E ≡ map (moved f) D → E ≡ D
    moved-back [] [] each each' same = refl
    moved-back [] (d ∷ ds) each each' same = absurd cc
    moved-back (e ∷ es) [] each each' same = absurd cc
    moved-back (e ∷ es) (d ∷ ds) each each' same =
        let first : moved f e ≡ moved f d = cc in
        let key : e.key ≡ d.key = ap (λ (x : Entry Bytes). x.key) first in
        let image : f e.link ≡ f d.link = ap (λ (x : Entry Bytes). x.link) first in
        let rest : map (moved f) es ≡ map (moved f) ds = cc in
        let link : e.link ≡ d.link = images.apart e.link d.link each.0 each'.0 each.1 each'.1 image in
        ap (λ k. entry k e.link ∷ es) key ∙ ap (λ l. entry d.key l ∷ es) link ∙ ap (λ xs. d ∷ xs) (moved-back es ds each.2 each'.2 rest)

    pub moved-sets : (E D : List (Entry Bytes)) → EachOwn E → EachOwn D → SameSet (map (moved f) E) (map (moved f) D) → SameSet E D
    moved-sets E D each each' same =
        let lift = same-lift (moved f) E (map (moved f) E) (map (moved f) D) refl same in
        subst (SameSet E) (moved-back lift.0 D (own-same E lift.0 lift.1 each) each' lift.2) lift.1

  -- the row is one of the pool's own, or the root of a trie of such
  pub record LeadsToOwn (k : ℕ) : Type 0 where
    pub low : k < row_count P
    pub kind : (is_of_trie (forms_in P k) ≡ false) ⊎ ((is_trie_root (forms_in P k) ≡ true) × EachOwn (entries_below (row_count P) (forms_in P) k))

  -- two images of one row: of one of the pool's own rows, or of the same entries as a trie or a chain
  pub data AreMatched (f : ℕ → ℕ) (G : Forms Bytes) (g : ℕ → ℕ) (H : Forms Bytes) (a b : ℕ) : Type 0 where
    own_matched : (l : ℕ) → l < row_count P → is_of_trie (forms_in P l) ≡ false → a ≡ f l → b ≡ g l → AreMatched f G g H a b
    trie_matched : (left depth : ℕ) (E : List (Entry Bytes)) → EachOwn E → depth + suc left ≡ to.deepest + 1
        → IsTrie (slice_cmp nat_cmp) (code_by to.code_of bits) G (suc left) depth a (map (moved f) E) → IsTrie (slice_cmp nat_cmp) (code_by to.code_of bits) H (suc left) depth b (map (moved g) E) → AreMatched f G g H a b
    chain_matched : (es : List (Entry Bytes)) → EachOwn es → AreChainRows G (Some a) (map (moved f) es) → AreChainRows H (Some b) (map (moved g) es) → AreMatched f G g H a b

  pub turned-match : (f : ℕ → ℕ) (G : Forms Bytes) (g : ℕ → ℕ) (H : Forms Bytes) (a b : ℕ) → AreMatched f G g H a b → AreMatched g H f G b a
  turned-match f G g H a b (own_matched l low own is is') = own_matched l low own is' is
  turned-match f G g H a b (trie_matched left depth E each levels is is') = trie_matched left depth E each levels is' is
  turned-match f G g H a b (chain_matched es each rows rows') = chain_matched es each rows' rows

  -- the kind of a row of a trie
  trie-kind : (code : Bytes → ℕ) (F : Forms Bytes) (left depth a : ℕ) (E : List (Entry Bytes)) → IsTrie (slice_cmp nat_cmp) code F (suc left) depth a E → (e : ℕ) × (m : ℕ) × (head_of (F a) ≡ Some (trie depth e m))
  unfolding IsTrie
  trie-kind code F left depth a E is = (is.entries, is.nodes, ap head_of is.row.row)

  chain-kind : (F : Forms Bytes) (a : ℕ) (es : List (Entry Bytes)) → AreChainRows F (Some a) es → head_of (F a) ≡ Some chain
  unfolding AreChainRows
  chain-kind F a [] rows = absurd cc
  chain-kind F a (e ∷ es) rows = (let here : a ≡ rows.link = (let both : Some a ≡ Some rows.link = rows.here in cc) in ap (λ l. head_of (F l)) here ∙ ap head_of rows.row)

  kind-of-trie : (r : Option (Form Bytes)) (d e m : ℕ) → head_of r ≡ Some (trie d e m) → is_of_trie r ≡ true
  kind-of-trie None d e m is = absurd cc
  kind-of-trie (Some (cell x)) d e m is = absurd cc
  kind-of-trie (Some (node leaf links)) d e m is = absurd cc
  kind-of-trie (Some (node (inner height) links)) d e m is = absurd cc
  kind-of-trie (Some (node (trie d' e' m') links)) d e m is = refl
  kind-of-trie (Some (node chain links)) d e m is = refl
  kind-of-trie (Some (node pair links)) d e m is = absurd cc
  kind-of-trie (Some (node state links)) d e m is = absurd cc

  kind-of-chain : (r : Option (Form Bytes)) → head_of r ≡ Some chain → is_of_trie r ≡ true
  kind-of-chain None is = absurd cc
  kind-of-chain (Some (cell x)) is = absurd cc
  kind-of-chain (Some (node leaf links)) is = absurd cc
  kind-of-chain (Some (node (inner height) links)) is = absurd cc
  kind-of-chain (Some (node (trie d' e' m') links)) is = refl
  kind-of-chain (Some (node chain links)) is = refl
  kind-of-chain (Some (node pair links)) is = absurd cc
  kind-of-chain (Some (node state links)) is = absurd cc

  module _ (f : ℕ → ℕ) (G : Forms Bytes) (images : AreImages to bits P f G) (g : ℕ → ℕ) (H : Forms Bytes) (others : AreImages to bits P g H) where
    own-none : (a l : ℕ) → l < row_count P → is_of_trie (forms_in P l) ≡ false → a ≡ f l → is_of_trie (G a) ≡ true → ⊥
    own-none a l low own is of_trie = absurd (let no : true ≡ false = sym of_trie ∙ ap (λ x. is_of_trie (G x)) is ∙ ap is_of_trie (images.own l low own) ∙ relink-of-trie f (forms_in P l) ∙ own in cc)

    -- a row has one match
    pub match-one : (a b c : ℕ) → AreMatched f G g H a b → AreMatched f G g H a c → b ≡ c
    match-one a b c (own_matched l low own is is') (own_matched k low' own' at at') = is' ∙ ap g (images.apart l k low low' own own' (sym is ∙ at)) ∙ sym at'
    match-one a b c (own_matched l low own is is') (trie_matched left depth E each levels trie_is trie_is') =
        let kind = trie-kind (code_by to.code_of bits) G left depth a (map (moved f) E) trie_is in
        absurd (own-none a l low own is (kind-of-trie (G a) depth kind.0 kind.1 kind.2))
    match-one a b c (own_matched l low own is is') (chain_matched es each rows rows') = absurd (own-none a l low own is (kind-of-chain (G a) (chain-kind G a (map (moved f) es) rows)))
    match-one a b c (trie_matched left depth E each levels trie_is trie_is') (own_matched l low own is is') =
        let kind = trie-kind (code_by to.code_of bits) G left depth a (map (moved f) E) trie_is in
        absurd (own-none a l low own is (kind-of-trie (G a) depth kind.0 kind.1 kind.2))
    match-one a b c (trie_matched left depth E each levels is is') (trie_matched left' depth' D each' levels' at at') =
        let kind = trie-kind (code_by to.code_of bits) G left depth a (map (moved f) E) is in
        let kind' = trie-kind (code_by to.code_of bits) G left' depth' a (map (moved f) D) at in
        let depths : depth ≡ depth' = (let both : Some (trie depth kind.0 kind.1) ≡ Some (trie depth' kind'.0 kind'.1) = sym kind.2 ∙ kind'.2 in cc) in
        let lefts : left' ≡ left = omega (arith, levels, levels', depths) in
        let at_same : IsTrie (slice_cmp nat_cmp) (code_by to.code_of bits) G (suc left) depth a (map (moved f) D) =
        subst (λ n. IsTrie (slice_cmp nat_cmp) (code_by to.code_of bits) G (suc n) depth a (map (moved f) D)) lefts (subst (λ d. IsTrie (slice_cmp nat_cmp) (code_by to.code_of bits) G (suc left') d a (map (moved f) D)) (sym depths) at) in
        let at_same' : IsTrie (slice_cmp nat_cmp) (code_by to.code_of bits) H (suc left) depth c (map (moved g) D) =
        subst (λ n. IsTrie (slice_cmp nat_cmp) (code_by to.code_of bits) H (suc n) depth c (map (moved g) D)) lefts (subst (λ d. IsTrie (slice_cmp nat_cmp) (code_by to.code_of bits) H (suc left') d c (map (moved g) D)) (sym depths) at') in
        let sets : SameSet E D = moved-sets f G images E D each each' (one-set (code_by to.code_of bits) G (suc left) depth a (map (moved f) E) (map (moved f) D) is at_same) in
        trie-one H others.once (code_by to.code_of bits) (suc left) depth b c (map (moved g) E) (map (moved g) D) (same-map (moved g) E D sets) is' at_same'
    match-one a b c (trie_matched left depth E each levels is is') (chain_matched es each' rows rows') =
        let kind = trie-kind (code_by to.code_of bits) G left depth a (map (moved f) E) is in
        absurd (let both : Some (trie depth kind.0 kind.1) ≡ Some chain = sym kind.2 ∙ chain-kind G a (map (moved f) es) rows in cc)
    match-one a b c (chain_matched es each rows rows') (own_matched l low own is is') = absurd (own-none a l low own is (kind-of-chain (G a) (chain-kind G a (map (moved f) es) rows)))
    match-one a b c (chain_matched es each' rows rows') (trie_matched left depth E each levels is is') =
        let kind = trie-kind (code_by to.code_of bits) G left depth a (map (moved f) E) is in
        absurd (let both : Some (trie depth kind.0 kind.1) ≡ Some chain = sym kind.2 ∙ chain-kind G a (map (moved f) es) rows in cc)
    match-one a b c (chain_matched es each rows rows') (chain_matched ds each' at at') =
        let lists : es ≡ ds = moved-back f G images es ds each each' (rows-only G (Some a) (map (moved f) es) (map (moved f) ds) rows at) in
        let both : Some b ≡ Some c = chain-one H others.once (code_by to.code_of bits) (Some b) (Some c) (map (moved g) es) rows' (subst (λ xs. AreChainRows H (Some c) (map (moved g) xs)) (sym lists) at') in
        cc

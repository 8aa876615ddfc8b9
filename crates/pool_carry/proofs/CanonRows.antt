-- Named rows of entries in rising order of the keys are their canonical trie.
use Rattle.std.proofs.Common.{◌≡◌, ℕ, zero, suc, ◌+◌, ◌<◌, ◌≤◌, refl, ap, sym, subst, ◌∙◌, arith, Bool, true, false, cond, None, Some, Ordering, List, [], ◌∷◌, ◌++◌, length, get_or, flat_map}
use Rattle.std.specs.Prelude.{nat_eq, nat_le}
use Rattle.std.specs.List.{filter}
use Rattle.std.specs.Ordering.{nat_cmp}
use Rattle.std.specs.Cmp.Lexicographic.{slice_cmp}
use Rattle.std.proofs.lemmas.Bool.{lt-leb, le-leb}
use Rattle.std.proofs.lemmas.List.FromFn.{get_or-map-range_with_len, length-map-range_with_len}
use Rattle.elem_core.specs.Codes.{digit_at}
use Rattle.node_heap.specs.Forms.{Form, Forms, node, trie}
use Rattle.champ_chain.specs.Entry.{Entry, key_at}
use Rattle.champ_chain.specs.Chain.{AreChainRows, AreAbove, IsRising}
use Rattle.champ_chain.proofs.SetLemmas.{same-refl}
use Rattle.champ_trie.specs.Trie.{IsPlace, IsTrie, part}
use Rattle.pool_text.specs.Rows.{Bytes}
use Rattle.pool_carry.specs.Computed.{TrieRow, trie_row, of_two, single, number_of, parts, rows_of, chain_rows, form_of_row}
use Rattle.pool_carry.proofs.PartPlaces.{many, singles, manies, ones-many, place_for, place-part, sets-are}

-- what is so of a list in rising order, or of entries, is so of a part of it
abbrev pub by-bytes : Bytes → Bytes → Ordering
by-bytes = slice_cmp nat_cmp

above-part : (test : Entry Bytes → Bool) (key : Bytes) (E : List (Entry Bytes)) → AreAbove by-bytes key E → AreAbove by-bytes key (filter test E)
above-part test key [] above = tt
above-part test key (e ∷ es) above = by_test (test e) (above-part test key es above.1)
  where
    by_test : (b : Bool) → AreAbove by-bytes key (filter test es) → AreAbove by-bytes key (cond b (e ∷ filter test es) (filter test es))
    by_test true rest = (above.0, rest)
    by_test false rest = rest

pub rising-part : (test : Entry Bytes → Bool) (E : List (Entry Bytes)) → IsRising by-bytes E → IsRising by-bytes (filter test E)
rising-part test [] rising = tt
rising-part test (e ∷ es) rising = by_test (test e) (rising-part test es rising.1)
  where
    by_test : (b : Bool) → IsRising by-bytes (filter test es) → IsRising by-bytes (cond b (e ∷ filter test es) (filter test es))
    by_test true rest = (above-part test e.key es rising.0, rest)
    by_test false rest = rest

module _ (deepest : ℕ) (code : Bytes → ℕ) (name : TrieRow → ℕ) (G : Forms Bytes) where
  -- each entry's link names it
  abbrev pub AreEntries : List (Entry Bytes) → Type 0
  AreEntries [] = Unit {0}
  AreEntries (e ∷ es) = (key_at G e.link ≡ Some e.key) × AreEntries es

  entries-part : (test : Entry Bytes → Bool) (E : List (Entry Bytes)) → AreEntries E → AreEntries (filter test E)
  entries-part test [] are = tt
  entries-part test (e ∷ es) are = by_test (test e) (entries-part test es are.1)
    where
      by_test : (b : Bool) → AreEntries (filter test es) → AreEntries (cond b (e ∷ filter test es) (filter test es))
      by_test true rest = (are.0, rest)
      by_test false rest = rest

  -- each row stands under its name
  abbrev pub AreNamed : List TrieRow → Type 0
  AreNamed [] = Unit {0}
  AreNamed (r ∷ R) = (G (name r) ≡ Some (form_of_row deepest code name r)) × AreNamed R

  named-first : (R S : List TrieRow) → AreNamed (R ++ S) → AreNamed R
  named-first [] S are = tt
  named-first (r ∷ R) S are = (are.0, named-first R S are.1)

  named-rest : (R S : List TrieRow) → AreNamed (R ++ S) → AreNamed S
  named-rest [] S are = are
  named-rest (r ∷ R) S are = named-rest R S are.1

  named-at : (f : List (Entry Bytes) → List TrieRow) (Ps : List (List (Entry Bytes))) (p : ℕ) → p < length Ps → AreNamed (flat_map f Ps) → AreNamed (f (get_or Ps p []))
  named-at f [] p low are = absurd (omega arith)
  named-at f (P ∷ Ps) zero low are = named-first (f P) (flat_map f Ps) are
  named-at f (P ∷ Ps) (suc p) low are = named-at f Ps p (omega arith) (named-rest (f P) (flat_map f Ps) are)

  deep : (depth : ℕ) (a b : Form Bytes) → depth ≡ deepest + 1 → cond (nat_le depth deepest) a b ≡ b
  deep depth a b is = ap (λ t. cond t a b) (lt-leb depth deepest (omega (arith, is)))

  shallow : (depth : ℕ) (a b : Form Bytes) → depth ≤ deepest → cond (nat_le depth deepest) a b ≡ a
  shallow depth a b is = ap (λ t. cond t a b) (le-leb depth deepest is)

  chain-is : (depth : ℕ) (e : Entry Bytes) (es : List (Entry Bytes)) → depth ≡ deepest + 1 → AreEntries (e ∷ es) → AreNamed (chain_rows depth (e ∷ es)) → AreChainRows G (Some (name (trie_row depth (e ∷ es)))) (e ∷ es)
  unfolding AreChainRows
  chain-is depth e [] is are named = record {
    link = name (trie_row depth (e ∷ []));
    next = None;
    here = refl;
    row = named.0 ∙ ap Some (deep depth _ _ is);
    key = are.0;
    rest = refl;
  }
  chain-is depth e (d ∷ es) is are named = record {
    link = name (trie_row depth (e ∷ d ∷ es));
    next = Some (name (trie_row depth (d ∷ es)));
    here = refl;
    row = named.0 ∙ ap Some (deep depth _ _ is);
    key = are.0;
    rest = chain-is depth d es is are.1 named.1;
  }

  -- the named rows of two entries or more are their canonical trie
  pub trie-is : (left depth : ℕ) (E : List (Entry Bytes)) → depth + left ≡ deepest + 1 → AreEntries E → IsRising by-bytes E → (left ≡ 0 → 2 ≤ length E) → AreNamed (rows_of code left depth E)
      → IsTrie by-bytes code G left depth (name (trie_row depth E)) E
  unfolding IsTrie rows_of
  trie-is zero depth [] levels are rising two named = absurd (omega (arith, two refl))
  trie-is zero depth (e ∷ es) levels are rising two named = record {
    entries = e ∷ es;
    rows = chain-is depth e es (omega (arith, levels)) are named;
    rising = rising;
    same = same-refl (e ∷ es);
    two = two refl;
  }
  trie-is (suc left) depth E levels are rising two named = record {
    entries = singles below Ps;
    nodes = manies below Ps;
    links = flat_map single Ps ++ flat_map (many below) Ps;
    row = record {
      row = named.0 ∙ ap Some (shallow depth _ _ (omega (arith, levels))) ∙ ap (λ ns. Some (node (trie depth (singles below Ps) (number_of ns)) (flat_map single Ps ++ flat_map (many below) Ps))) (ones-many below Ps);
      sets = sets-are below Ps all;
    };
    places = λ p low. subst (λ q. IsPlace G N q (part by-bytes code depth p E)) (sym (place-part below Ps all p low (part by-bytes code depth p E) (at p low))) (place-is p low (λ P. trie-is left (suc depth) P) (part by-bytes code depth p E) refl);
  }
    where
      below : List (Entry Bytes) → ℕ
      below P = name (trie_row (suc depth) P)

      Ps : List (List (Entry Bytes))
      Ps = parts code depth E

      N : ℕ → List (Entry Bytes) → Type 0
      N k P = IsTrie by-bytes code G left (suc depth) k P

      all : length (parts code depth E) ≡ 32
      all = length-map-range_with_len (λ p. part by-bytes code depth p E) 0 32

      at : (p : ℕ) → p < 32 → get_or (parts code depth E) p [] ≡ part by-bytes code depth p E
      at p low = get_or-map-range_with_len (λ q. part by-bytes code depth q E) 0 32 p p [] low (omega arith)

      place-is : (p : ℕ) → p < 32
          → ((P : List (Entry Bytes)) → suc depth + left ≡ deepest + 1 → AreEntries P → IsRising by-bytes P → (left ≡ 0 → 2 ≤ length P) → AreNamed (rows_of code left (suc depth) P) → IsTrie by-bytes code G left (suc depth) (name (trie_row (suc depth) P)) P)
          → (P : List (Entry Bytes)) → part by-bytes code depth p E ≡ P → IsPlace G (λ k Q. IsTrie by-bytes code G left (suc depth) k Q) (place_for (λ Q. name (trie_row (suc depth) Q)) P) P
      place-is p low is-trie [] is = refl
      place-is p low is-trie (e ∷ []) is = (e.key, refl, (subst AreEntries is (entries-part (λ d. nat_eq (digit_at (code d.key) depth) p) E are)).0)
      place-is p low is-trie (e ∷ d ∷ es) is =
          let short : p < length (parts code depth E) = omega (arith, all, low) in
          let below-named : AreNamed (of_two (rows_of code left (suc depth)) (get_or (parts code depth E) p [])) = named-at (of_two (rows_of code left (suc depth))) (parts code depth E) p short named.1 in (
            omega arith,
            is-trie (e ∷ d ∷ es) (omega (arith, levels)) (subst AreEntries is (entries-part (λ d. nat_eq (digit_at (code d.key) depth) p) E are)) (subst (IsRising by-bytes) is (rising-part (λ d. nat_eq (digit_at (code d.key) depth) p) E rising)) (λ _. omega arith)
                (subst (λ P. AreNamed (of_two (rows_of code left (suc depth)) P)) (at p low ∙ is) below-named),
          )

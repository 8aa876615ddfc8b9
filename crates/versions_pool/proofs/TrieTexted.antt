-- A trie of values is the trie of their texts, where the order and the codes are those of the texts.
use Rattle.std.proofs.Common.{◌≡◌, ◌⊎◌, ℕ, zero, suc, ◌≤◌, Bool, true, false, cond, List, [], ◌∷◌, Option, Some, None, option_map, map, get_or, refl, ap, sym, subst, ◌∙◌, arith, inl, inr}
use Rattle.std.specs.Prelude.{nat_eq, count_by, ◌+◌}
use Rattle.std.specs.Ordering.{is_eq}
use Rattle.std.specs.declared.cmp.Ordering.{Ordering}
use Rattle.std.proofs.lemmas.Bool.{cases_Bool}
use Rattle.std.proofs.lemmas.List.{length-map}
use Rattle.elem_core.specs.Codes.{digit_at}
use Rattle.node_heap.specs.Forms.{Row, Kind, leaf, inner, trie, chain, pair, state, cell, node, kind_of, value_of, form_of}
use Rattle.node_heap.specs.Heap.{Heap, row_at, form_at}
use Rattle.champ_chain.specs.Entry.{Entry, key_of, key_at, first_value, has_key, AreDistinct}
use Rattle.champ_chain.specs.Chain.{AreChainRows, AreAbove, IsRising}
use Rattle.champ_chain.proofs.SetLemmas.{count-cons}
use Rattle.champ_trie.specs.Bits.{has, rank}
use Rattle.champ_trie.specs.Trie.{IsPlace, part, IsTrie, IsCanonTo, place_of}
use Rattle.champ_trie.proofs.GatherLemmas.{same-map}
use Rattle.champ_trie.proofs.PlaceLemmas.{place-entry, place-node, place-empty}
use Rattle.pool_text.specs.Rows.{Bytes}
use Rattle.pool_text.specs.Pool.{text_form, text_forms}
use Rattle.pool_load.proofs.TrieTexts.{texted}

-- ## Rows

pub text-node : {T : Type 0} (text : T → Bytes) (r : Option (Row T)) (kind : Kind) (ks : List ℕ) → option_map form_of r ≡ Some (node kind ks) → option_map (text_form text) r ≡ Some (node kind ks)
text-node text None kind ks is = absurd cc
text-node text (Some (cell x)) kind ks is = absurd cc
text-node text (Some (node head links)) kind ks is =
    let same_kind : kind_of head ≡ kind = cc in
    let same_links : links ≡ ks = cc in
    ap (λ k. Some (node k links)) same_kind ∙ ap (λ ls. Some (node kind ls)) same_links

pub text-cell : {T : Type 0} (text : T → Bytes) (r : Option (Row T)) (x : T) → option_map form_of r ≡ Some (cell x) → option_map (text_form text) r ≡ Some (cell (text x))
text-cell text None x is = absurd cc
text-cell text (Some (cell y)) x is = let same : y ≡ x = cc in ap (λ z. Some (cell (text z))) same
text-cell text (Some (node head links)) x is = absurd cc

module _ {T : Type 0} (text : T → Bytes) (h : Heap T) where
  value-texted : (r : Option (Row T)) → value_of (option_map (text_form text) r) ≡ option_map text (value_of (option_map form_of r))
  value-texted None = refl
  value-texted (Some (cell x)) = refl
  value-texted (Some (node head links)) = refl

  first-texted : (links : List ℕ) → first_value (text_forms text h) links ≡ option_map text (first_value (form_at h) links)
  first-texted [] = refl
  first-texted (k ∷ links) = value-texted (row_at h k)

  row-texted : (r : Option (Row T)) → key_of (text_forms text h) (option_map (text_form text) r) ≡ option_map text (key_of (form_at h) (option_map form_of r))
  row-texted None = refl
  row-texted (Some (cell x)) = refl
  row-texted (Some (node head links)) = by_kind (kind_of head)
    where
      by_kind : (kind : Kind) → key_of (text_forms text h) (Some (node kind links)) ≡ option_map text (key_of (form_at h) (Some (node kind links)))
      by_kind leaf = refl
      by_kind (inner n) = refl
      by_kind (trie d e n) = refl
      by_kind chain = refl
      by_kind pair = first-texted links
      by_kind state = refl

  -- the key of an entry is the text of its value
  pub key-texted : (l : ℕ) (x : T) → key_at (form_at h) l ≡ Some x → key_at (text_forms text h) l ≡ Some (text x)
  key-texted l x is = row-texted (row_at h l) ∙ ap (option_map text) is

-- ## Tries

module _ {T : Type 0} (text : T → Bytes) (cmp : T → T → Ordering) (code : T → ℕ) (by_text : Bytes → Bytes → Ordering) (of_text : Bytes → ℕ)
    (order : (x y : T) → cmp x y ≡ by_text (text x) (text y)) (codes : (x : T) → code x ≡ of_text (text x)) (one : (a b : Bytes) → is_eq (by_text a b) ≡ true → a ≡ b) where
  above-texted : (key : T) (es : List (Entry T)) → AreAbove cmp key es → AreAbove by_text (text key) (map (texted text) es)
  above-texted key [] above = tt
  above-texted key (e ∷ es) above = (sym (order key e.key) ∙ above.0, above-texted key es above.1)

  rising-texted : (es : List (Entry T)) → IsRising cmp es → IsRising by_text (map (texted text) es)
  rising-texted [] rising = tt
  rising-texted (e ∷ es) rising = (above-texted e.key es rising.0, rising-texted es rising.1)

  same-count : (key : T) (es : List (Entry T)) → count_by (has_key cmp key) es ≡ count_by (has_key by_text (text key)) (map (texted text) es)
  same-count key [] = refl
  same-count key (e ∷ es) =
      count-cons (has_key cmp key) e es ∙ ap (λ o. cond (is_eq o) 1 0 + count_by (has_key cmp key) es) (order key e.key)
      ∙ ap (λ n. cond (has_key by_text (text key) (texted text e)) 1 0 + n) (same-count key es) ∙ sym (count-cons (has_key by_text (text key)) (texted text e) (map (texted text) es))

  -- a text that some entry has is the text of a value
  few-texted : (key : Bytes) (all : List (Entry T)) → AreDistinct cmp all → (es : List (Entry T)) → (count_by (has_key by_text key) (map (texted text) es) ≤ 0) ⊎ (count_by (has_key by_text key) (map (texted text) all) ≤ 1)
  few-texted key all distinct [] = inl (omega arith)
  few-texted key all distinct (e ∷ es) = elim (cases_Bool (has_key by_text key (texted text e))) as (λ _. (count_by (has_key by_text key) (map (texted text) (e ∷ es)) ≤ 0) ⊎ (count_by (has_key by_text key) (map (texted text) all) ≤ 1)) [
    | inl there ↦
        let same : key ≡ text e.key = one key (text e.key) there in
        inr (subst (λ k. count_by (has_key by_text k) (map (texted text) all) ≤ 1) (sym same) (omega (arith, distinct.once e.key, same-count e.key all)))
    | inr absent ↦ elim (few-texted key all distinct es) as (λ _. (count_by (has_key by_text key) (map (texted text) (e ∷ es)) ≤ 0) ⊎ (count_by (has_key by_text key) (map (texted text) all) ≤ 1)) [
      | inl none ↦ inl (omega (arith, none, count-cons (has_key by_text key) (texted text e) (map (texted text) es), ap {B = ℕ} (λ (b : Bool). cond b 1 0) absent))
      | inr few ↦ inr few
    ]
  ]

  distinct-texted : (E : List (Entry T)) → AreDistinct cmp E → AreDistinct by_text (map (texted text) E)
  distinct-texted E distinct = record { once = λ key. elim (few-texted key E distinct E) as (λ _. count_by (has_key by_text key) (map (texted text) E) ≤ 1) [ inl none ↦ omega (arith, none) | inr few ↦ few ] }

  part-texted : (d p : ℕ) (E : List (Entry T)) → part by_text of_text d p (map (texted text) E) ≡ map (texted text) (part cmp code d p E)
  part-texted d p [] = refl
  part-texted d p (e ∷ es) =
      ap (λ (ys : List (Entry Bytes)). cond (nat_eq (digit_at (of_text (text e.key)) d) p) (texted text e ∷ ys) ys) (part-texted d p es)
      ∙ ap (λ n. cond (nat_eq (digit_at n d) p) (texted text e ∷ map (texted text) (part cmp code d p es)) (map (texted text) (part cmp code d p es))) (sym (codes e.key))
      ∙ by_bool (nat_eq (digit_at (code e.key) d) p) (part cmp code d p es)
    where
      by_bool : (b : Bool) (ys : List (Entry T)) → cond b (texted text e ∷ map (texted text) ys) (map (texted text) ys) ≡ map (texted text) (cond b (e ∷ ys) ys)
      by_bool true ys = refl
      by_bool false ys = refl

  module _ (h : Heap T) where
    rows-texted : (o : Option ℕ) (es : List (Entry T)) → AreChainRows (form_at h) o es → AreChainRows (text_forms text h) o (map (texted text) es)
    unfolding AreChainRows
    rows-texted o [] rows = rows
    rows-texted o (e ∷ es) rows = record {
      link = rows.link;
      next = rows.next;
      here = rows.here;
      row = text-node text (row_at h rows.link) chain _ rows.row;
      key = key-texted text h e.link e.key rows.key;
      rest = rows-texted rows.next es rows.rest;
    }

    -- what stands at a position of a row
    place-texted : (e n p : ℕ) (ls : List ℕ) (N : ℕ → List (Entry T) → Type 0) (M : ℕ → List (Entry Bytes) → Type 0) (P : List (Entry T))
        → ((k : ℕ) → N k P → M k (map (texted text) P)) → IsPlace (form_at h) N (place_of e n ls p) P → IsPlace (text_forms text h) M (place_of e n ls p) (map (texted text) P)
    place-texted e n p ls N M P deeper old = elim (cases_Bool (has e p)) [
      | inl there ↦
          let at = subst (λ q. IsPlace (form_at h) N q P) (place-entry e n ls p there) old in
          subst (λ q. IsPlace (text_forms text h) M q (map (texted text) P)) (sym (place-entry e n ls p there)) (text at.0, ap (map (texted text)) at.1, key-texted text h (get_or ls (rank e p) 0) at.0 at.2)
      | inr absent ↦ elim (cases_Bool (has n p)) [
        | inl there ↦
            let at = subst (λ q. IsPlace (form_at h) N q P) (place-node e n ls p absent there) old in
            subst (λ q. IsPlace (text_forms text h) M q (map (texted text) P)) (sym (place-node e n ls p absent there)) (omega (arith, at.0, length-map P (texted text)), deeper (get_or ls (rank e 32 + rank n p) 0) at.1)
        | inr none ↦
            let at = subst (λ q. IsPlace (form_at h) N q P) (place-empty e n ls p absent none) old in
            subst (λ q. IsPlace (text_forms text h) M q (map (texted text) P)) (sym (place-empty e n ls p absent none)) (ap (map (texted text)) at)
      ]
    ]

    trie-texted : (left d l : ℕ) (E : List (Entry T)) → IsTrie cmp code (form_at h) left d l E → IsTrie by_text of_text (text_forms text h) left d l (map (texted text) E)
    unfolding IsTrie
    trie-texted zero d l E is = record {
      entries = map (texted text) is.entries;
      rows = rows-texted (Some l) is.entries is.rows;
      rising = rising-texted is.entries is.rising;
      same = same-map (texted text) is.entries E is.same;
      two = omega (arith, is.two, length-map E (texted text));
    }
    trie-texted (suc left) d l E is = record {
      entries = is.entries;
      nodes = is.nodes;
      links = is.links;
      row = record { row = text-node text (row_at h l) (trie d is.entries is.nodes) is.links is.row.row; sets = is.row.sets };
      places = λ p small.
          let P : List (Entry T) = part cmp code d p E in
          subst (IsPlace (text_forms text h) (λ k Q. IsTrie by_text of_text (text_forms text h) left (suc d) k Q) (place_of is.entries is.nodes is.links p)) (sym (part-texted d p E))
          (place-texted is.entries is.nodes p is.links (λ k Q. IsTrie cmp code (form_at h) left (suc d) k Q) (λ k Q. IsTrie by_text of_text (text_forms text h) left (suc d) k Q) P
          (λ k under. trie-texted left (suc d) k P under) (is.places p small));
    }

    -- the canonical trie of entries is that of the entries by their texts
    pub canon-texted : (deepest l : ℕ) (E : List (Entry T)) → IsCanonTo cmp code deepest (form_at h) l E → IsCanonTo by_text of_text deepest (text_forms text h) l (map (texted text) E)
    canon-texted deepest l E canon = record { trie = trie-texted (deepest + 1) 0 l E canon.trie; distinct = distinct-texted E canon.distinct }

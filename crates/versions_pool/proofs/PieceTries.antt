-- A trie whose keys are keys of a map is the same by their own order and codes as by those of their texts.
use Rattle.std.proofs.Common.{◌≡◌, ◌⊎◌, ℕ, ◌+◌, ◌≤◌, Bool, false, cond, List, [], ◌∷◌, map, refl, ap, sym, ◌∙◌, arith, inl, inr}
use Rattle.std.specs.Prelude.{count_by}
use Rattle.std.specs.List.{All}
use Rattle.std.specs.Ordering.{nat_cmp, is_eq}
use Rattle.std.specs.Cmp.Lexicographic.{slice_cmp}
use Rattle.std.specs.declared.cmp.Ordering.{Ordering}
use Rattle.std.proofs.lemmas.Bool.{cases_Bool}
use Rattle.std.proofs.lemmas.List.Elements.{All-head, All-tail}
use Rattle.elem_core.specs.Codes.{text_code, masked_code}
use Rattle.elem_core.specs.declared.codes.TheConstants.{CODE_BITS, DEEPEST}
use Rattle.node_heap.specs.Forms.{Forms}
use Rattle.node_heap.specs.Heap.{Heap, form_at}
use Rattle.champ_chain.specs.Entry.{Entry, has_key, AreDistinct}
use Rattle.champ_chain.proofs.SetLemmas.{count-cons}
use Rattle.champ_trie.specs.Trie.{IsCanonTo, code_by}
use Rattle.pool_text.specs.Rows.{Bytes}
use Rattle.pool_text.specs.Pool.{text_forms}
use Rattle.pool_load.proofs.TrieTexts.{texted}
use Rattle.versions.specs.declared.piece.Piece.{Piece}
use Rattle.versions.specs.declared.piece.Piece.TheVariants.{Key, Value}
use Rattle.versions.specs.Pieces.{piece_code, piece_order}
use Rattle.versions_pool.specs.Apart.{piece_text}
use Rattle.versions_pool.proofs.Agreeing.{trie-agrees}
use Rattle.versions_pool.proofs.SetReadings.{same-text}
use Rattle.versions_pool.proofs.SetRoots.{whole_code}
use Rattle.versions_pool.proofs.TrieTexted.{canon-texted}

-- it is a key and no value
abbrev pub IsKey : {K V : Type 0} → Piece K V → Type 0
IsKey (Key k) = Unit {0}
IsKey (Value v) = ⊥

abbrev pub IsKeyed : {K V : Type 0} → Entry (Piece K V) → Type 0
IsKeyed e = IsKey e.key

module _ {K V : Type 0} (key_text : K → Bytes) (value_text : V → Bytes) (cmp : K → K → Ordering) (value_cmp : V → V → Ordering) (code : K → ℕ)
    (order : (x y : K) → cmp x y ≡ slice_cmp nat_cmp (key_text x) (key_text y)) (codes : (x : K) → code x ≡ text_code (key_text x)) where
  abbrev pub text : Piece K V → Bytes
  text = piece_text key_text value_text

  abbrev own : Piece K V → Piece K V → Ordering
  own = piece_order cmp value_cmp

  -- the order and the codes of texts
  abbrev pub by_text : Piece K V → Piece K V → Ordering
  by_text x y = slice_cmp nat_cmp (text x) (text y)

  abbrev pub code_of_text : Piece K V → ℕ
  code_of_text x = text_code (text x)

  orders : (x y : Piece K V) → IsKey x → IsKey y → by_text x y ≡ own x y
  orders (Key a) (Key b) x_is y_is = sym (order a b)
  orders (Key a) (Value w) x_is y_is = absurd y_is
  orders (Value v) y x_is y_is = absurd x_is

  all-codes : (bits : ℕ) (x : Piece K V) → IsKey x → code_by code_of_text bits x ≡ code_by (piece_code code) bits x
  all-codes bits (Key a) is = ap (λ n. masked_code n bits) (sym (codes a))
  all-codes bits (Value v) is = absurd is

  -- a key is counted alike
  key-count : (k : K) (E : List (Entry (Piece K V))) → All IsKeyed E → count_by (has_key own (Key k)) E ≡ count_by (has_key by_text (Key k)) E
  key-count k [] all = refl
  key-count k (e ∷ es) all =
      count-cons (has_key own (Key k)) e es ∙ ap (λ o. cond (is_eq o) 1 0 + count_by (has_key own (Key k)) es) (sym (orders (Key k) e.key tt (All-head IsKeyed e es all)))
      ∙ ap (λ n. cond (has_key by_text (Key k) e) 1 0 + n) (key-count k es (All-tail IsKeyed e es all)) ∙ sym (count-cons (has_key by_text (Key k)) e es)

  -- a value is no key
  value-count : (v : V) (E : List (Entry (Piece K V))) → All IsKeyed E → count_by (has_key own (Value v)) E ≡ 0
  value-count v [] all = refl
  value-count v (e ∷ es) all =
      let here : has_key own (Value v) e ≡ false = by_key e.key (All-head IsKeyed e es all) in
      omega (arith, count-cons (has_key own (Value v)) e es, ap {B = ℕ} (λ (b : Bool). cond b 1 0) here, value-count v es (All-tail IsKeyed e es all))
    where
      by_key : (x : Piece K V) → IsKey x → is_eq (own (Value v) x) ≡ false
      by_key (Key k) is = refl
      by_key (Value w) is = absurd is

  distinct-own : (E : List (Entry (Piece K V))) → All IsKeyed E → AreDistinct by_text E → AreDistinct own E
  distinct-own E all distinct = record { once = by_key }
    where
      by_key : (x : Piece K V) → count_by (has_key own x) E ≤ 1
      by_key (Key k) = omega (arith, distinct.once (Key k), key-count k E all)
      by_key (Value v) = omega (arith, value-count v E all)

  -- what has the text of some key is counted as that
  text-count : (x y : Piece K V) (E : List (Entry (Piece K V))) → text x ≡ text y → count_by (has_key by_text x) E ≡ count_by (has_key by_text y) E
  text-count x y E same = ap (λ t. count_by (λ (e : Entry (Piece K V)). is_eq (slice_cmp nat_cmp t (text e.key))) E) same

  keyed-once : (E : List (Entry (Piece K V))) → All IsKeyed E → AreDistinct own E → (y : Piece K V) → IsKey y → count_by (has_key by_text y) E ≤ 1
  keyed-once E all distinct (Key k) is = omega (arith, distinct.once (Key k), key-count k E all)
  keyed-once E all distinct (Value v) is = absurd is

  few-by-text : (x : Piece K V) (E : List (Entry (Piece K V))) → All IsKeyed E → AreDistinct own E → (es : List (Entry (Piece K V))) → All IsKeyed es → (count_by (has_key by_text x) es ≤ 0) ⊎ (count_by (has_key by_text x) E ≤ 1)
  few-by-text x E all distinct [] keyed = inl (omega arith)
  few-by-text x E all distinct (e ∷ es) keyed = elim (cases_Bool (has_key by_text x e)) as (λ _. (count_by (has_key by_text x) (e ∷ es) ≤ 0) ⊎ (count_by (has_key by_text x) E ≤ 1)) [
    | inl there ↦ inr (omega (arith, keyed-once E all distinct e.key (All-head IsKeyed e es keyed), text-count x e.key E (same-text (text x) (text e.key) there)))
    | inr absent ↦ elim (few-by-text x E all distinct es (All-tail IsKeyed e es keyed)) as (λ _. (count_by (has_key by_text x) (e ∷ es) ≤ 0) ⊎ (count_by (has_key by_text x) E ≤ 1)) [
      | inl none ↦ inl (omega (arith, none, count-cons (has_key by_text x) e es, ap {B = ℕ} (λ (b : Bool). cond b 1 0) absent))
      | inr few ↦ inr few
    ]
  ]

  distinct-by-text : (E : List (Entry (Piece K V))) → All IsKeyed E → AreDistinct own E → AreDistinct by_text E
  distinct-by-text E all distinct = record { once = λ x. elim (few-by-text x E all distinct E all) as (λ _. count_by (has_key by_text x) E ≤ 1) [ inl none ↦ omega (arith, none) | inr few ↦ few ] }

  module _ (bits : ℕ) (F : Forms (Piece K V)) (deepest l : ℕ) (E : List (Entry (Piece K V))) (all : All IsKeyed E) where
    pub canon-own : IsCanonTo by_text (code_by code_of_text bits) deepest F l E → IsCanonTo own (code_by (piece_code code) bits) deepest F l E
    canon-own is = record {
      trie = trie-agrees by_text own (code_by code_of_text bits) (code_by (piece_code code) bits) IsKey (λ x y x_is y_is. sym (orders x y x_is y_is)) (λ x x_is. sym (all-codes bits x x_is)) F (deepest + 1) 0 l E all is.trie;
      distinct = distinct-own E all is.distinct;
    }

    pub canon-by-text : IsCanonTo own (code_by (piece_code code) bits) deepest F l E → IsCanonTo by_text (code_by code_of_text bits) deepest F l E
    canon-by-text is = record {
      trie = trie-agrees own by_text (code_by (piece_code code) bits) (code_by code_of_text bits) IsKey orders (all-codes bits) F (deepest + 1) 0 l E all is.trie;
      distinct = distinct-by-text E all is.distinct;
    }

  -- the trie of a heap's keys is that of their texts
  pub keys-texted : (h : Heap (Piece K V)) (l : ℕ) (E : List (Entry (Piece K V))) → All IsKeyed E → IsCanonTo own (code_by (piece_code code) CODE_BITS) DEEPEST (form_at h) l E
      → IsCanonTo (slice_cmp nat_cmp) whole_code DEEPEST (text_forms text h) l (map (texted text) E)
  keys-texted h l E all is =
      canon-texted text by_text (code_by code_of_text CODE_BITS) (slice_cmp nat_cmp) whole_code (λ x y. refl) (λ x. refl) same-text h DEEPEST l E (canon-by-text CODE_BITS (form_at h) DEEPEST l E all is)

-- A trie of values stands wherever the trie of their texts does.
use Rattle.std.proofs.Common.{◌≡◌, ℕ, zero, suc, ◌+◌, Bool, true, false, cond, List, [], ◌∷◌, Option, Some, None, option_map, map, get_or, refl, ap, sym, subst, ◌∙◌, arith, inl, inr}
use Rattle.std.specs.Prelude.{nat_eq, count_by}
use Rattle.std.specs.List.{All}
use Rattle.std.specs.Ordering.{is_eq}
use Rattle.std.specs.declared.cmp.Ordering.{Ordering}
use Rattle.std.proofs.lemmas.Bool.{cases_Bool}
use Rattle.std.proofs.lemmas.List.{length-map}
use Rattle.std.proofs.lemmas.List.Elements.{All-nil, All-cons, All-head, All-tail, All-filter}
use Rattle.elem_core.specs.Codes.{digit_at}
use Rattle.elem_core.specs.declared.codes.TheConstants.{LEVELS}
use Rattle.node_heap.specs.Forms.{Row, Kind, cell, node, leaf, inner, trie, chain, pair, state, kind_of, links_of, value_of, form_of}
use Rattle.node_heap.specs.Heap.{Heap, row_at, form_at}
use Rattle.rrb_core.specs.Seq.{form_height}
use Rattle.champ_chain.specs.Entry.{Entry, entry, key_of, key_at, first_value, IsEntry, has_key, AreDistinct}
use Rattle.champ_chain.specs.Chain.{AreChainRows, AreAbove, IsRising}
use Rattle.champ_chain.proofs.SetLemmas.{same-sym, count-cons}
use Rattle.champ_trie.specs.Bits.{has, rank}
use Rattle.champ_trie.specs.Trie.{IsPlace, part, IsTrie, IsCanon, place_of}
use Rattle.champ_trie.proofs.PlaceLemmas.{place-entry, place-node, place-empty}
use Rattle.champ_trie.proofs.CanonLemmas.{same-lift}
use Rattle.champ_kinds.proofs.ZipLemmas.{all-turned}
use Rattle.pool_text.specs.Rows.{Bytes}
use Rattle.pool_text.specs.Pool.{text_form, text_forms}

-- ## Rows

module _ {T : Type 0} (text : T → Bytes) where
  -- a row and the one with the text of its value have the same links, the same height and the same nodes
  pub form-links : (r : Option (Row T)) → links_of (option_map form_of r) ≡ links_of (option_map (text_form text) r)
  form-links None = refl
  form-links (Some (cell x)) = refl
  form-links (Some (node head links)) = refl

  pub form-height : (r : Option (Row T)) → form_height (option_map form_of r) ≡ form_height (option_map (text_form text) r)
  form-height None = refl
  form-height (Some (cell x)) = refl
  form-height (Some (node head links)) = refl

  pub form-node : (r : Option (Row T)) (kind : Kind) (ks : List ℕ) → option_map (text_form text) r ≡ Some (node kind ks) → option_map form_of r ≡ Some (node kind ks)
  form-node None kind ks is = absurd cc
  form-node (Some (cell x)) kind ks is = absurd cc
  form-node (Some (node head links)) kind ks is =
      let same_kind : kind_of head ≡ kind = cc in
      let same_links : links ≡ ks = cc in
      ap (λ k. Some (node k links)) same_kind ∙ ap (λ ls. Some (node kind ls)) same_links

  value-of-text : (r : Option (Row T)) (key : Bytes) → value_of (option_map (text_form text) r) ≡ Some key → (x : T) × (value_of (option_map form_of r) ≡ Some x) × (text x ≡ key)
  value-of-text None key is = absurd cc
  value-of-text (Some (cell x)) key is = (x, refl, (let both : Some (text x) ≡ Some key = is in cc))
  value-of-text (Some (node head links)) key is = absurd cc

  -- an entry under its text
  abbrev pub texted : Entry T → Entry Bytes
  texted e = entry (text e.key) e.link

  module _ (h : Heap T) where
    -- the key of an entry is the text of a value
    key-of-text : (l : ℕ) (key : Bytes) → key_at (text_forms text h) l ≡ Some key → (x : T) × (key_at (form_at h) l ≡ Some x) × (text x ≡ key)
    key-of-text l key is = by_row (row_at h l) is
      where
        by_links : (links : List ℕ) → first_value (text_forms text h) links ≡ Some key → (x : T) × (first_value (form_at h) links ≡ Some x) × (text x ≡ key)
        by_links [] is = absurd cc
        by_links (j ∷ js) is = value-of-text (row_at h j) key is

        by_kind : (kind : Kind) (links : List ℕ) → key_of (text_forms text h) (Some (node kind links)) ≡ Some key → (x : T) × (key_of (form_at h) (Some (node kind links)) ≡ Some x) × (text x ≡ key)
        by_kind leaf links is = absurd cc
        by_kind (inner n) links is = absurd cc
        by_kind (trie d e n) links is = absurd cc
        by_kind chain links is = absurd cc
        by_kind pair links is = by_links links is
        by_kind state links is = absurd cc

        by_row : (r : Option (Row T)) → key_of (text_forms text h) (option_map (text_form text) r) ≡ Some key → (x : T) × (key_of (form_at h) (option_map form_of r) ≡ Some x) × (text x ≡ key)
        by_row None is = absurd cc
        by_row (Some (cell x)) is = (x, refl, (let both : Some (text x) ≡ Some key = is in cc))
        by_row (Some (node head links)) is = by_kind (kind_of head) links is

    -- entries by texts are the entries of some values
    pub entries-typed : (D : List (Entry Bytes)) → All (IsEntry (text_forms text h)) D → (E : List (Entry T)) × (map texted E ≡ D) × All (IsEntry (form_at h)) E
    entries-typed [] all = ([], refl, All-nil (IsEntry (form_at h)))
    entries-typed (d ∷ D) all =
        let one = key-of-text d.link d.key (All-head (IsEntry (text_forms text h)) d D all) in
        let rest = entries-typed D (All-tail (IsEntry (text_forms text h)) d D all) in (
          entry one.0 d.link ∷ rest.0,
          ap (λ k. entry k d.link ∷ map texted rest.0) one.2 ∙ ap (λ ds. d ∷ ds) rest.1,
          All-cons (IsEntry (form_at h)) (entry one.0 d.link) rest.0 one.1 rest.2,
        )

-- ## Tries, where the order and the codes are those of the texts

module _ {T : Type 0} (text : T → Bytes) (cmp : T → T → Ordering) (code : T → ℕ) (by_text : Bytes → Bytes → Ordering) (of_text : Bytes → ℕ)
    (order : (x y : T) → cmp x y ≡ by_text (text x) (text y)) (codes : (x : T) → code x ≡ of_text (text x)) where
  above-typed : (key : T) (es : List (Entry T)) → AreAbove by_text (text key) (map (texted text) es) → AreAbove cmp key es
  above-typed key [] above = tt
  above-typed key (e ∷ es) above = (order key e.key ∙ above.0, above-typed key es above.1)

  rising-typed : (es : List (Entry T)) → IsRising by_text (map (texted text) es) → IsRising cmp es
  rising-typed [] rising = tt
  rising-typed (e ∷ es) rising = (above-typed e.key es rising.0, rising-typed es rising.1)

  distinct-typed : (E : List (Entry T)) → AreDistinct by_text (map (texted text) E) → AreDistinct cmp E
  distinct-typed E distinct = record { once = λ key. omega (arith, distinct.once (text key), same_count key E) }
    where
      same_count : (key : T) (es : List (Entry T)) → count_by (has_key cmp key) es ≡ count_by (has_key by_text (text key)) (map (texted text) es)
      same_count key [] = refl
      same_count key (e ∷ es) =
          count-cons (has_key cmp key) e es ∙ ap (λ o. cond (is_eq o) 1 0 + count_by (has_key cmp key) es) (order key e.key)
          ∙ ap (λ n. cond (has_key by_text (text key) (texted text e)) 1 0 + n) (same_count key es) ∙ sym (count-cons (has_key by_text (text key)) (texted text e) (map (texted text) es))

  part-texted : (d p : ℕ) (E : List (Entry T)) → part by_text of_text d p (map (texted text) E) ≡ map (texted text) (part cmp code d p E)
  part-texted d p [] = refl
  part-texted d p (e ∷ es) =
      ap (λ (ys : List (Entry Bytes)). cond (nat_eq (digit_at (of_text (text e.key)) d) p) (texted text e ∷ ys) ys) (part-texted d p es)
      ∙ ap (λ n. cond (nat_eq (digit_at n d) p) (texted text e ∷ map (texted text) (part cmp code d p es)) (map (texted text) (part cmp code d p es))) (sym (codes e.key))
      ∙ by_bool (nat_eq (digit_at (code e.key) d) p) (part cmp code d p es)
    where
      by_bool : (b : Bool) (ys : List (Entry T)) → cond b (texted text e ∷ map (texted text) ys) (map (texted text) ys) ≡ map (texted text) (cond b (e ∷ ys) ys)
      by_bool true ys = refl
      by_bool false ys = refl

  module _ (h : Heap T) where
    rows-typed : (o : Option ℕ) (es : List (Entry T)) → All (IsEntry (form_at h)) es → AreChainRows (text_forms text h) o (map (texted text) es) → AreChainRows (form_at h) o es
    unfolding AreChainRows
    rows-typed o [] all rows = rows
    rows-typed o (e ∷ es) all rows = record {
      link = rows.link;
      next = rows.next;
      here = rows.here;
      row = form-node text (row_at h rows.link) chain _ rows.row;
      key = All-head (IsEntry (form_at h)) e es all;
      rest = rows-typed rows.next es (All-tail (IsEntry (form_at h)) e es all) rows.rest;
    }

    -- the one entry at a position
    one-typed : (x : ℕ) (P : List (Entry T)) (key : Bytes) → All (IsEntry (form_at h)) P → map (texted text) P ≡ entry key x ∷ [] → (k : T) × (P ≡ entry k x ∷ []) × IsEntry (form_at h) (entry k x)
    one-typed x [] key all is = absurd cc
    one-typed x (e ∷ []) key all is =
        let head : texted text e ≡ entry key x = cc in
        let at : e.link ≡ x = ap (λ (d : Entry Bytes). d.link) head in
        subst (λ y. (k : T) × (e ∷ [] ≡ entry k y ∷ []) × IsEntry (form_at h) (entry k y)) at (e.key, refl, All-head (IsEntry (form_at h)) e [] all)
    one-typed x (e ∷ d ∷ P) key all is = absurd cc

    none-typed : (P : List (Entry T)) → map (texted text) P ≡ [] → P ≡ []
    none-typed [] is = refl
    none-typed (e ∷ P) is = absurd cc

    -- what stands at a position of a row
    place-typed : (e n p : ℕ) (ls : List ℕ) (N : ℕ → List (Entry Bytes) → Type 0) (M : ℕ → List (Entry T) → Type 0) (P : List (Entry T)) → All (IsEntry (form_at h)) P
        → ((k : ℕ) → N k (map (texted text) P) → M k P) → IsPlace (text_forms text h) N (place_of e n ls p) (map (texted text) P) → IsPlace (form_at h) M (place_of e n ls p) P
    place-typed e n p ls N M P all deeper old = elim (cases_Bool (has e p)) [
      | inl there ↦
          let at = subst (λ q. IsPlace (text_forms text h) N q (map (texted text) P)) (place-entry e n ls p there) old in
          subst (λ q. IsPlace (form_at h) M q P) (sym (place-entry e n ls p there)) (one-typed (get_or ls (rank e p) 0) P at.0 all at.1)
      | inr absent ↦ elim (cases_Bool (has n p)) [
        | inl there ↦
            let at = subst (λ q. IsPlace (text_forms text h) N q (map (texted text) P)) (place-node e n ls p absent there) old in
            subst (λ q. IsPlace (form_at h) M q P) (sym (place-node e n ls p absent there)) (omega (arith, at.0, length-map P (texted text)), deeper (get_or ls (rank e 32 + rank n p) 0) at.1)
        | inr none ↦
            let at = subst (λ q. IsPlace (text_forms text h) N q (map (texted text) P)) (place-empty e n ls p absent none) old in
            subst (λ q. IsPlace (form_at h) M q P) (sym (place-empty e n ls p absent none)) (none-typed P at)
      ]
    ]

    trie-typed : (left d l : ℕ) (E : List (Entry T)) → All (IsEntry (form_at h)) E → IsTrie by_text of_text (text_forms text h) left d l (map (texted text) E) → IsTrie cmp code (form_at h) left d l E
    unfolding IsTrie
    trie-typed zero d l E all is =
        let turned = same-lift (texted text) E (map (texted text) E) is.entries refl (same-sym is.entries (map (texted text) E) is.same) in
        record {
          entries = turned.0;
          rows = rows-typed (Some l) turned.0 (all-turned (IsEntry (form_at h)) E turned.0 turned.1 all) (subst (AreChainRows (text_forms text h) (Some l)) (sym turned.2) is.rows);
          rising = rising-typed turned.0 (subst (IsRising by_text) (sym turned.2) is.rising);
          same = same-sym E turned.0 turned.1;
          two = omega (arith, is.two, length-map E (texted text));
        }
    trie-typed (suc left) d l E all is = record {
      entries = is.entries;
      nodes = is.nodes;
      links = is.links;
      row = record { row = form-node text (row_at h l) (trie d is.entries is.nodes) is.links is.row.row; sets = is.row.sets };
      places = λ p small.
          let every = All-filter (λ e. nat_eq (digit_at (code e.key) d) p) (IsEntry (form_at h)) E all in
          place-typed is.entries is.nodes p is.links (λ k Q. IsTrie by_text of_text (text_forms text h) left (suc d) k Q) (λ k Q. IsTrie cmp code (form_at h) left (suc d) k Q) (part cmp code d p E) every
          (λ k under. trie-typed left (suc d) k (part cmp code d p E) every under)
          (subst (IsPlace (text_forms text h) (λ k Q. IsTrie by_text of_text (text_forms text h) left (suc d) k Q) (place_of is.entries is.nodes is.links p)) (part-texted d p E) (is.places p small));
    }

    -- the canonical trie of entries by texts is that of the entries
    pub canon-typed : (l : ℕ) (E : List (Entry T)) → All (IsEntry (form_at h)) E → IsCanon by_text of_text (text_forms text h) l (map (texted text) E) → IsCanon cmp code (form_at h) l E
    canon-typed l E all canon = record { trie = trie-typed LEVELS 0 l E all canon.trie; distinct = distinct-typed E canon.distinct }

-- The entries of a pool that are cells are cells in the heap, and those that are pairs are pairs.
use Rattle.std.proofs.Common.{◌≡◌, ℕ, Bool, true, List, [], ◌∷◌, Option, Some, None, option_map, map, refl, ap, sym, ◌∙◌}
use Rattle.std.specs.List.{All, AllZip, list_all}
use Rattle.std.proofs.lemmas.List.Elements.{All-nil, All-cons, All-head, All-tail}
use Rattle.node_heap.specs.Forms.{Row, Form, Forms, cell, node, leaf, inner, trie, chain, pair, state, value_of, form_of}
use Rattle.node_heap.specs.Heap.{Heap, row_at, form_at}
use Rattle.champ_chain.specs.Entry.{Entry, key_of, IsEntry}
use Rattle.champ_kinds.specs.Binding.{Binding, binding}
use Rattle.champ_kinds.specs.Kinds.{IsKeyCell, IsPair}
use Rattle.pool_text.specs.Rows.{Bytes}
use Rattle.pool_text.specs.Pool.{relink, text_form, text_forms}
use Rattle.pool_check.specs.Kinds.{is_cell_of, is_pair_of}
use Rattle.pool_check.specs.Readings.{moved}
use Rattle.pool_check.proofs.TestLemmas.{and-first, and-second, not-both}
use Rattle.pool_load.proofs.TrieTexts.{texted, form-node}

module _ {T : Type 0} (text : T → Bytes) (h : Heap T) where
  cell-keyed : (r : Option (Row T)) (x : Bytes) (key : T) → option_map (text_form text) r ≡ Some (cell x) → key_of (form_at h) (option_map form_of r) ≡ Some key → option_map form_of r ≡ Some (cell key)
  cell-keyed None x key is keyed = absurd cc
  cell-keyed (Some (cell y)) x key is keyed = let both : Some y ≡ Some key = keyed in let same : y ≡ key = cc in ap (λ z. Some (cell z)) same
  cell-keyed (Some (node head links)) x key is keyed = absurd cc

  value-cell : (r : Option (Row T)) (key : T) → value_of (option_map form_of r) ≡ Some key → option_map form_of r ≡ Some (cell key)
  value-cell None key is = absurd cc
  value-cell (Some (cell y)) key is = let both : Some y ≡ Some key = is in let same : y ≡ key = cc in ap (λ z. Some (cell z)) same
  value-cell (Some (node head links)) key is = absurd cc

  module _ (f : ℕ → ℕ) (H : Forms Bytes) where
    -- the heap's row of the entry is the pool's row under its links
    abbrev pub IsRowOf : Entry T → Entry Bytes → Type 0
    IsRowOf e d = text_forms text h e.link ≡ option_map (relink f) (H d.link)

    pub rows-go : (E : List (Entry T)) (D : List (Entry Bytes)) → map (texted text) E ≡ map (moved f) D → All (λ d. text_forms text h (f d.link) ≡ option_map (relink f) (H d.link)) D → AllZip IsRowOf E D
    rows-go [] [] same all = tt
    rows-go [] (d ∷ D) same all = absurd cc
    rows-go (e ∷ E) [] same all = absurd cc
    rows-go (e ∷ E) (d ∷ D) same all =
        let head : texted text e ≡ moved f d = cc in
        let tail : map (texted text) E ≡ map (moved f) D = cc in
        let at : e.link ≡ f d.link = ap (λ (x : Entry Bytes). x.link) head in
        (ap (text_forms text h) at ∙ All-head (λ x. text_forms text h (f x.link) ≡ option_map (relink f) (H x.link)) d D all, rows-go E D tail (All-tail (λ x. text_forms text h (f x.link) ≡ option_map (relink f) (H x.link)) d D all))

    cell-is : (p : Bytes → Bool) (e : Entry T) (r : Option (Form Bytes)) → text_forms text h e.link ≡ option_map (relink f) r → IsEntry (form_at h) e → is_cell_of p r ≡ true → IsKeyCell (form_at h) e
    cell-is p e None row keyed test = absurd (not-both test)
    cell-is p e (Some (cell x)) row keyed test = cell-keyed (row_at h e.link) x e.key row keyed
    cell-is p e (Some (node kind links)) row keyed test = absurd (not-both test)

    pub pair-at : (e : Entry T) (k m : ℕ) → text_forms text h e.link ≡ Some (node pair (f k ∷ f m ∷ [])) → IsEntry (form_at h) e → IsPair (form_at h) e (binding e.key (f m))
    pair-at e k m row keyed =
        let form : form_at h e.link ≡ Some (node pair (f k ∷ f m ∷ [])) = form-node text (row_at h e.link) pair (f k ∷ f m ∷ []) row in
        let key : value_of (form_at h (f k)) ≡ Some e.key = sym (ap (key_of (form_at h)) form) ∙ keyed in
        record { key_cell = f k; cell = value-cell (row_at h (f k)) e.key key; row = form; key = refl }

    pair-is : (p q : ℕ → Bool) (e : Entry T) (r : Option (Form Bytes)) → text_forms text h e.link ≡ option_map (relink f) r → IsEntry (form_at h) e → is_pair_of p q r ≡ true → (b : Binding T) × IsPair (form_at h) e b
    pair-is p q e None row keyed test = absurd (not-both test)
    pair-is p q e (Some (cell x)) row keyed test = absurd (not-both test)
    pair-is p q e (Some (node leaf links)) row keyed test = absurd (not-both test)
    pair-is p q e (Some (node (inner n) links)) row keyed test = absurd (not-both test)
    pair-is p q e (Some (node (trie d s n) links)) row keyed test = absurd (not-both test)
    pair-is p q e (Some (node chain links)) row keyed test = absurd (not-both test)
    pair-is p q e (Some (node state links)) row keyed test = absurd (not-both test)
    pair-is p q e (Some (node pair [])) row keyed test = absurd (not-both test)
    pair-is p q e (Some (node pair (k ∷ []))) row keyed test = absurd (not-both test)
    pair-is p q e (Some (node pair (k ∷ m ∷ []))) row keyed test = (binding e.key (f m), pair-at e k m row keyed)
    pair-is p q e (Some (node pair (k ∷ m ∷ j ∷ ks))) row keyed test = absurd (not-both test)

    pub cells-are : (p : Bytes → Bool) (E : List (Entry T)) (D : List (Entry Bytes)) → AllZip IsRowOf E D → All (IsEntry (form_at h)) E → list_all (λ d. is_cell_of p (H d.link)) D ≡ true → All (IsKeyCell (form_at h)) E
    cells-are p [] D rows keyed test = All-nil (IsKeyCell (form_at h))
    cells-are p (e ∷ E) [] rows keyed test = absurd rows
    cells-are p (e ∷ E) (d ∷ D) rows keyed test =
        let first = and-first (is_cell_of p (H d.link)) (list_all (λ x. is_cell_of p (H x.link)) D) test in
        let later = and-second (is_cell_of p (H d.link)) (list_all (λ x. is_cell_of p (H x.link)) D) test in
        All-cons (IsKeyCell (form_at h)) e E (cell-is p e (H d.link) rows.0 (All-head (IsEntry (form_at h)) e E keyed) first) (cells-are p E D rows.1 (All-tail (IsEntry (form_at h)) e E keyed) later)

    pub pairs-are : (p q : ℕ → Bool) (E : List (Entry T)) (D : List (Entry Bytes)) → AllZip IsRowOf E D → All (IsEntry (form_at h)) E → list_all (λ d. is_pair_of p q (H d.link)) D ≡ true → (M : List (Binding T)) × AllZip (IsPair (form_at h)) E M
    pairs-are p q [] D rows keyed test = ([], tt)
    pairs-are p q (e ∷ E) [] rows keyed test = absurd rows
    pairs-are p q (e ∷ E) (d ∷ D) rows keyed test =
        let first = and-first (is_pair_of p q (H d.link)) (list_all (λ x. is_pair_of p q (H x.link)) D) test in
        let later = and-second (is_pair_of p q (H d.link)) (list_all (λ x. is_pair_of p q (H x.link)) D) test in
        let one = pair-is p q e (H d.link) rows.0 (All-head (IsEntry (form_at h)) e E keyed) first in
        let rest = pairs-are p q E D rows.1 (All-tail (IsEntry (form_at h)) e E keyed) later in
        (one.0 ∷ rest.0, (one.1, rest.1))

-- What was found of the rows of a pool stays when rows are added behind them.
use Rattle.std.proofs.Common.{◌≡◌, ℕ, zero, suc, ◌<◌, ◌≤◌, Bool, true, List, [], ◌∷◌, ◌++◌, length, map, take, slice_get, Option, Some, None, option_map, refl, ap, sym, subst, ◌∙◌, arith, length-append}
use Rattle.std.specs.Prelude.{◌==◌, nat_lt}
use Rattle.std.specs.List.{list_all}
use Rattle.std.proofs.lemmas.Bool.{and_parts}
use Rattle.std.proofs.lemmas.List.{map-id, take_at}
use Rattle.node_heap.specs.Links.{count, Reaches, here, below, LeadsDown}
use Rattle.node_heap.specs.Forms.{Form, Forms, cell, node, leaf, inner, trie, chain, pair, state, links_of, links_in}
use Rattle.node_heap.proofs.Counts.{test_same, count-cons}
use Rattle.champ_chain.specs.Entry.{Entry, key_of, key_at}
use Rattle.pool_text.specs.Rows.{Bytes}
use Rattle.pool_text.specs.Pool.{forms_in, row_count, relink}
use Rattle.pool_text.specs.Renaming.{IsRenamed}
use Rattle.pool_text.specs.declared.pool.Pool.{Pool}
use Rattle.pool_check.specs.Readings.{moved}
use Rattle.pool_check.specs.Rows.{rows_lead_back, links_lead_back, is_line_or_node, texts_are_lines}
use Rattle.pool_check.specs.Vectors.{keeps_fill_rule, vectors_stand}
use Rattle.pool_check.specs.Shapes.{shape_at, shape_of, AreShapes, AreFirstShapes}
use Rattle.pool_check.specs.Tries.{entries_below, is_canonical}
use Rattle.pool_check.specs.Keeping.{kept_node, kept_entry, kept_chain, cell_of, kept_of, AreKept}
use Rattle.pool_check.specs.Facts.{facts_in, AreFacts}
use Rattle.pool_check.specs.declared.vectors.Shape.{Shape}
use Rattle.pool_check.specs.declared.trie_row.KeptRow.{KeptRow}
use Rattle.pool_check.specs.declared.kinds.RowFacts.{RowFacts}
use Rattle.pool_check.proofs.TestLemmas.{leads-down}
use Rattle.pool_check.proofs.SameVectors.{and-same, same-length, thick-same, length-same, fill-same}
use Rattle.pool_check.proofs.SameTries.{key-same, below-moved, canonical-same}
use Rattle.pool_check.proofs.SameKinds.{facts-same}

front : {X : Type 0} (xs ys : List X) (i : ℕ) → i < length xs → slice_get (xs ++ ys) i ≡ slice_get xs i
front [] ys i low = absurd (omega (arith, low))
front (x ∷ xs) ys zero low = refl
front (x ∷ xs) ys (suc i) low = front xs ys i (omega (arith, low))

some-low : {X : Type 0} (xs : List X) (i : ℕ) (x : X) → slice_get xs i ≡ Some x → i < length xs
some-low [] i x at = absurd (let e : None ≡ Some x = at in cc)
some-low (y ∷ ys) zero x at = omega arith
some-low (y ∷ ys) (suc i) x at = let deeper = some-low ys i x at in omega (arith, deeper)

-- two tests of each element
tests-same : {X : Type 0} (p q : X → Bool) (xs : List X) → ((i : ℕ) (x : X) → slice_get xs i ≡ Some x → p x ≡ q x) → list_all p xs ≡ list_all q xs
tests-same p q [] each = refl
tests-same p q (x ∷ xs) each = and-same (p x) (list_all p xs) (q x) (list_all q xs) (each 0 x refl) (tests-same p q xs (λ i y at. each (suc i) y at))

own-row : (row : Form Bytes) → relink (λ l. l) row ≡ row
own-row (cell x) = refl
own-row (node kind links) = ap (node kind) (map-id links)

own-form : (r : Option (Form Bytes)) → option_map (relink (λ l. l)) r ≡ r
own-form None = refl
own-form (Some row) = ap Some (own-row row)

own-entries : (es : List (Entry Bytes)) → map (moved (λ l. l)) es ≡ es
own-entries [] = refl
own-entries (e ∷ es) = ap (λ xs. e ∷ xs) (own-entries es)

-- of no rows
pub no-shapes : (P : Pool) (shapes : List (Option Shape)) → shapes ≡ [] → AreFirstShapes P shapes
no-shapes P shapes none = subst (AreFirstShapes P) (sym none) (record { few = omega arith; are = λ k low. absurd (omega (arith, low)); stand = refl })

pub no-facts : (P : Pool) (facts : List RowFacts) → facts ≡ [] → AreFacts (facts_in P) facts
no-facts P facts none = subst (AreFacts (facts_in P)) (sym none) (λ k low. absurd (omega (arith, low)))

module _ (C P : Pool) (more : List (Form Bytes)) (rows : P.rows ≡ C.rows ++ more) (back : links_lead_back C ≡ true) where
  abbrev G : Forms Bytes
  G = forms_in C

  abbrev H : Forms Bytes
  H = forms_in P

  abbrev n : ℕ
  n = row_count C

  abbrev m : ℕ
  m = row_count P

  pub longer : n ≤ m
  longer = omega (arith, ap (λ (fs : List (Form Bytes)). length fs) rows, length-append C.rows more)

  -- the first rows
  pub first-rows : (i : ℕ) → i ≡ n → take i P.rows ≡ C.rows
  first-rows i is = ap (take i) rows ∙ take_at C.rows more i (sym is)

  pub first-back : (i : ℕ) → i ≡ n → rows_lead_back 0 (take i P.rows) ≡ true
  unfolding links_lead_back
  first-back i is = ap (λ (fs : List (Form Bytes)). rows_lead_back 0 fs) (first-rows i is) ∙ (and_parts (rows_lead_back 0 C.rows) (list_all (λ k. nat_lt k n) C.roots) back).0

  pub first-lines : texts_are_lines C ≡ true → (i : ℕ) → i ≡ n → list_all is_line_or_node (take i P.rows) ≡ true
  unfolding texts_are_lines
  first-lines lines i is = ap (list_all is_line_or_node) (first-rows i is) ∙ lines

  stays : (l : ℕ) → l < n → H l ≡ G l
  stays l low = ap (λ (fs : List (Form Bytes)). slice_get fs l) rows ∙ front C.rows more l low

  falls : LeadsDown (λ l. l) (links_in G)
  falls = leads-down C back

  reached-low : (l k : ℕ) → Reaches (links_in G) l k → l < n → k < n
  reached-low a b (here l) low = low
  reached-low a b (below l j k has down) low = reached-low j k down (omega (arith, low, falls l j has))

  renamed : (l : ℕ) → l < n → IsRenamed (λ j. j) G H l
  renamed l low k down = stays k (reached-low l k down low) ∙ sym (own-form (G k))

  -- ## Shapes

  shape-stays : (k : ℕ) → k < n → shape_of G k (G k) ≡ shape_of H k (H k)
  shape-stays k low = by_form (G k) ∙ ap (shape_of H k) (sym (stays k low))
    where
      same : (h : ℕ) → shape_at G h k ≡ shape_at H h k
      same h =
          let image : IsRenamed (λ j. j) G H k = renamed k low in
          sym (cc (length-same (λ j. j) G H h k image, thick-same (λ j. j) G H h k image, same-length (λ j. j) G H k image))

      by_form : (r : Option (Form Bytes)) → shape_of G k r ≡ shape_of H k r
      by_form None = refl
      by_form (Some (cell x)) = refl
      by_form (Some (node leaf ks)) = ap Some (same 0)
      by_form (Some (node (inner h) ks)) = ap Some (same h)
      by_form (Some (node (trie d e c) ks)) = refl
      by_form (Some (node chain ks)) = refl
      by_form (Some (node pair ks)) = refl
      by_form (Some (node state ks)) = refl

  fill-stays : (l : ℕ) (row : Form Bytes) → G l ≡ Some row → keeps_fill_rule H row ≡ keeps_fill_rule G row
  fill-stays l row at =
      ap (keeps_fill_rule H) (sym (own-row row))
      ∙ fill-same (λ j. j) G H row (λ k some. renamed k (omega (arith, some-low C.rows l row at, falls l k (omega (arith, some, ap (λ o. count k (links_of o)) at)))))

  pub shapes-stay : (shapes : List (Option Shape)) → AreShapes G shapes → length shapes ≡ n → vectors_stand C ≡ true → AreFirstShapes P shapes
  unfolding vectors_stand
  shapes-stay shapes are many stand = record {
    few = omega (arith, many, longer);
    are = λ k low. are k low ∙ ap Some (shape-stays k (omega (arith, low, many)));
    stand = ap (list_all (keeps_fill_rule H)) (first-rows (length shapes) many) ∙ tests-same (keeps_fill_rule H) (keeps_fill_rule G) C.rows fill-stays ∙ stand;
  }

  -- ## What is kept of tries, and facts

  module _ (back' : links_lead_back P ≡ true) where
    falls' : LeadsDown (λ l. l) (links_in H)
    falls' = leads-down P back'

    below-stays : (l : ℕ) → l < n → entries_below m H l ≡ entries_below n G l
    below-stays l low = below-moved (λ j. j) G H falls falls' n m l (renamed l low) low (omega (arith, low, longer)) ∙ own-entries (entries_below n G l)

    key-stays : (l : ℕ) → l < n → key_of H (G l) ≡ key_of G (G l)
    key-stays l low = ap (key_of H) (sym (stays l low)) ∙ key-same (λ j. j) G H l (renamed l low)

    module _ (code : Bytes → ℕ) (deepest : ℕ) where
      kept-stays : (l : ℕ) → l < n → kept_of n G code l (G l) ≡ kept_of m H code l (H l)
      kept-stays l low = by_form (G l) refl ∙ ap (kept_of m H code l) (sym (stays l low))
        where
          entry : (r : Option (Form Bytes)) → G l ≡ r → kept_entry code (cell_of l r) (key_of G r) ≡ kept_entry code (cell_of l r) (key_of H r)
          entry r at = ap (kept_entry code (cell_of l r)) (sym (ap (key_of H) (sym at) ∙ key-stays l low ∙ ap (key_of G) at))

          by_form : (r : Option (Form Bytes)) → G l ≡ r → kept_of n G code l r ≡ kept_of m H code l r
          by_form None at = refl
          by_form (Some (cell x)) at = refl
          by_form (Some (node leaf ks)) at = refl
          by_form (Some (node (inner h) ks)) at = refl
          by_form (Some (node (trie d e c) ks)) at = ap (λ (es : List (Entry Bytes)). kept_node d (map (λ (e : Entry Bytes). code e.key) es)) (sym (below-stays l low))
          by_form (Some (node chain [])) at = refl
          by_form (Some (node chain (k ∷ ks))) at =
              let k_low : k < n = omega (arith, low, falls l k (omega (arith, ap (λ o. count k (links_of o)) at, count-cons k k ks, test_same k k refl))) in
              ap (λ o. kept_chain code (length ks == 1) (cell_of k o) (key_at G k)) (sym (stays k k_low))
              ∙ ap (kept_chain code (length ks == 1) (cell_of k (H k))) (sym (key-same (λ j. j) G H k (renamed k k_low)))
          by_form (Some (node pair ks)) at = entry (Some (node pair ks)) at
          by_form (Some (node state ks)) at = refl

      canonical-stays : (l : ℕ) → l < n → is_canonical m H code deepest l (H l) ≡ is_canonical n G code deepest l (G l)
      canonical-stays l low = canonical-same (λ j. j) G H falls falls' n m code deepest l (renamed l low) low (omega (arith, low, longer))

      pub all-kept-stay : (kept : List KeptRow) → AreKept n G code deepest kept → AreKept m H code deepest kept
      all-kept-stay kept are = record {
        falls = falls';
        low = omega (arith, are.low, longer);
        canonical = λ k low. canonical-stays k (omega (arith, low, are.low)) ∙ are.canonical k low;
        kept = λ k low. are.kept k low ∙ ap Some (kept-stays k (omega (arith, low, are.low)));
      }

    fact-stays : (l : ℕ) → l < n → facts_in C l ≡ facts_in P l
    fact-stays l low = sym (facts-same (λ j. j) G H falls falls' n m l (record { image = renamed l low; low = low; low' = omega (arith, low, longer) }))

    pub facts-stay : (facts : List RowFacts) → AreFacts (facts_in C) facts → length facts ≡ n → AreFacts (facts_in P) facts
    facts-stay facts are many k low = are k low ∙ ap Some (fact-stays k (omega (arith, low, many)))

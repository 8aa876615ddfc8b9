-- The image of one row more: of a row of its own, of a trie, and of a row inside a trie, which has none. And of all rows.
use Rattle.std.proofs.Common.{◌≡◌, ℕ, ◌+◌, ◌<◌, ◌≤◌, refl, ap, sym, subst, ◌∙◌, arith, inl, inr, true, false, ◌&&◌, cond, List, [], ◌∷◌, ◌++◌, length, map, get_or, Option, Some, None, option_map}
use Rattle.std.specs.Prelude.{slice_get, slice_index, count_by, nat_le, ◌==◌, ◌||◌}
use Rattle.std.specs.List.{All}
use Rattle.std.specs.Ordering.{nat_cmp}
use Rattle.std.specs.Cmp.Lexicographic.{slice_cmp}
use Rattle.std.proofs.lemmas.Bool.{cases_eq}
use Rattle.std.proofs.lemmas.Bool.Decides.{nat_tests}
use Rattle.std.proofs.lemmas.List.{length-append}
use Rattle.std.proofs.lemmas.List.Elements.{All-nil, All-cons, All-head, All-tail, All-map, All-same, All-weaker}
use Rattle.node_heap.specs.Links.{count, LeadsDown}
use Rattle.node_heap.specs.Forms.{Form, Forms, cell, node, leaf, inner, trie, chain, pair, state, links_of, links_in}
use Rattle.node_heap.proofs.Counts.{count-cons, test_same}
use Rattle.champ_chain.specs.Entry.{Entry, IsEntry, AreDistinct, has_key}
use Rattle.champ_chain.proofs.SetLemmas.{count-cons as counted}
use Rattle.champ_trie.specs.Trie.{IsTrie, code_by}
use Rattle.pool_text.specs.Rows.{Bytes, row_form}
use Rattle.pool_text.specs.Rules.{Rules}
use Rattle.pool_text.specs.Pool.{forms_in, row_count, relink}
use Rattle.pool_text.specs.declared.pool.Pool.{Pool}
use Rattle.pool_text.specs.declared.row.Row.{Row}
use Rattle.pool_text.specs.declared.row.Row.TheVariants.{Cell, Leaf, Inner, Trie, Chain, Pair, State}
use Rattle.pool_text.proofs.FormRows.{form-read}
use Rattle.pool_text.proofs.Renamed.{map-found, links-relink}
use Rattle.pool_check.specs.Tries.{are_branches, agree_above, is_canonical, entries_below}
use Rattle.pool_check.specs.Kinds.{is_trie_root}
use Rattle.pool_check.specs.Readings.{moved}
use Rattle.pool_check.specs.Damages.{IsValidBy}
use Rattle.pool_check.proofs.TestLemmas.{and-second, not-both, leads-down}
use Rattle.pool_check.proofs.PoolLaws.{canonical-at, trie-roots-canonical}
use Rattle.pool_carry.specs.Carried.{is_of_trie}
use Rattle.pool_carry.specs.Making.{seen, AreCoded, AreCodedEntries, ImageIsMade, AreImagesOfFirst, image_entries}
use Rattle.pool_carry.specs.declared.entries.Entry.{Entry as CodedEntry}
use Rattle.pool_carry.proofs.Rows.{get-end}
use Rattle.pool_carry.proofs.Moved.{IsLowEntry, entries-low, key-moved}

-- ## Rows of tries, and others

pub root-of-trie : (r : Option (Form Bytes)) → is_trie_root r ≡ true → is_of_trie r ≡ true
root-of-trie None root = absurd (not-both root)
root-of-trie (Some (cell x)) root = absurd (not-both root)
root-of-trie (Some (node leaf links)) root = absurd (not-both root)
root-of-trie (Some (node (inner height) links)) root = absurd (not-both root)
root-of-trie (Some (node (trie depth e d) links)) root = refl
root-of-trie (Some (node chain links)) root = refl
root-of-trie (Some (node pair links)) root = absurd (not-both root)
root-of-trie (Some (node state links)) root = absurd (not-both root)

-- a row that is neither kind of a trie's rows
pub own-row : (row : Row) → ((depth e d : ℕ) (links : List ℕ) → row ≡ Trie depth e d links → ⊥) → ((links : List ℕ) → row ≡ Chain links → ⊥) → is_of_trie (Some (row_form row)) ≡ false
own-row (Cell text) no_trie no_chain = refl
own-row (Leaf links) no_trie no_chain = refl
own-row (Inner height links) no_trie no_chain = refl
own-row (Trie depth e d links) no_trie no_chain = absurd (no_trie depth e d links refl)
own-row (Chain links) no_trie no_chain = absurd (no_chain links refl)
own-row (Pair k v) no_trie no_chain = refl
own-row (State buffers stars) no_trie no_chain = refl

same-test : (n m : ℕ) → n ≡ m → (n == m) ≡ true
same-test n m is = grind (arith, nat_tests)

other-test : (n m : ℕ) → m < n → (n == m) ≡ false
other-test n m is = grind (arith, nat_tests)

-- a trie row is the root of a trie at depth 0 alone
module _ (row : Row) (depth e d : ℕ) (links : List ℕ) (is : row ≡ Trie depth e d links) where
  pub trie-row : is_of_trie (Some (row_form row)) ≡ true
  trie-row = ap (λ (r : Row). is_of_trie (Some (row_form r))) is

  pub top-row : depth ≤ 0 → is_trie_root (Some (row_form row)) ≡ true
  top-row top = ap (λ (r : Row). is_trie_root (Some (row_form r))) is ∙ same-test depth 0 (omega (arith, top))

  pub lower-row : 0 < depth → is_trie_root (Some (row_form row)) ≡ false
  lower-row below = ap (λ (r : Row). is_trie_root (Some (row_form r))) is ∙ other-test depth 0 below

pub relink-own : (f : ℕ → ℕ) (form : Form Bytes) → is_of_trie (Some (relink f form)) ≡ is_of_trie (Some form)
relink-own f (cell x) = refl
relink-own f (node leaf links) = refl
relink-own f (node (inner height) links) = refl
relink-own f (node (trie depth e d) links) = refl
relink-own f (node chain links) = refl
relink-own f (node pair links) = refl
relink-own f (node state links) = refl

-- the row after those whose images these are
pub row-here : (P : Pool) (items : List Row) → map row_form items ≡ P.rows → (images : List ℕ) (place : ℕ) (row : Row) → length images ≡ place → place < row_count P → row ≡ get_or items place row → forms_in P (length images) ≡ Some (row_form row)
row-here P items are images place row at low read = ap (forms_in P) at ∙ form-read P.rows items are place row low read

-- ## The first row

module _ (F : Forms Bytes) (falls : LeadsDown (λ l. l) (links_in F)) where
  none-low : (l : ℕ) → l ≡ 0 → (E : List (Entry Bytes)) → All (IsLowEntry F falls l) E → length E ≡ 0
  none-low l first [] all = refl
  none-low l first (e ∷ es) all = absurd (omega (arith, first, (All-head (IsLowEntry F falls l) e es all).low))

  -- a row inside a trie has links, and so it isn't the first
  pub inside-later : (n : ℕ) (code : Bytes → ℕ) (deepest l : ℕ) → l < n → is_of_trie (F l) ≡ true → is_trie_root (F l) ≡ false → is_canonical n F code deepest l (F l) ≡ true → l ≡ 0 → ⊥
  inside-later n code deepest l low of_trie no_root canonical first = by_row (F l) refl of_trie no_root canonical
    where
      by_links : (links : List ℕ) → F l ≡ Some (node chain links) → is_canonical n F code deepest l (Some (node chain links)) ≡ true → ⊥
      by_links [] is canonical = absurd (not-both canonical)
      by_links (k ∷ ks) is canonical =
          let there : 0 < count k (links_of (F l)) = subst (λ r. 0 < count k (links_of r)) (sym is) (omega (arith, count-cons k k ks, test_same k k refl)) in
          absurd (omega (arith, first, falls l k there))

      by_row : (r : Option (Form Bytes)) → F l ≡ r → is_of_trie r ≡ true → is_trie_root r ≡ false → is_canonical n F code deepest l r ≡ true → ⊥
      by_row None is of_trie no_root canonical = absurd (not-both of_trie)
      by_row (Some (cell x)) is of_trie no_root canonical = absurd (not-both of_trie)
      by_row (Some (node leaf links)) is of_trie no_root canonical = absurd (not-both of_trie)
      by_row (Some (node (inner height) links)) is of_trie no_root canonical = absurd (not-both of_trie)
      by_row (Some (node (trie depth e d) links)) is of_trie no_root canonical =
          let E : List (Entry Bytes) = entries_below n F l in
          let two : ((depth == 0) || nat_le 2 (length E)) ≡ true = and-second (are_branches n F code deepest depth e d links && agree_above n F code depth l) ((depth == 0) || nat_le 2 (length E)) canonical in
          let none : length E ≡ 0 = none-low l first E (entries-low F falls n l low) in
          not-both (sym (ap (λ b. b || nat_le 2 (length E)) no_root ∙ ap (nat_le 2) none) ∙ two)
      by_row (Some (node chain links)) is of_trie no_root canonical = by_links links is canonical
      by_row (Some (node pair links)) is of_trie no_root canonical = absurd (not-both of_trie)
      by_row (Some (node state links)) is of_trie no_root canonical = absurd (not-both of_trie)

-- ## Entries under new names

pub distinct-moved : (f : ℕ → ℕ) (E : List (Entry Bytes)) → AreDistinct (slice_cmp nat_cmp) E → AreDistinct (slice_cmp nat_cmp) (map (moved f) E)
distinct-moved f E distinct = record { once = λ key. omega (arith, distinct.once key, same-count key E) }
  where
    same-count : (key : Bytes) (es : List (Entry Bytes)) → count_by (has_key (slice_cmp nat_cmp) key) (map (moved f) es) ≡ count_by (has_key (slice_cmp nat_cmp) key) es
    same-count key [] = refl
    same-count key (e ∷ es) =
        counted (has_key (slice_cmp nat_cmp) key) (moved f e) (map (moved f) es) ∙ ap (λ n. cond (has_key (slice_cmp nat_cmp) key e) 1 0 + n) (same-count key es)
        ∙ sym (counted (has_key (slice_cmp nat_cmp) key) e es)

pub all-back : {X Y : Type 0} (P : Y → Type 0) (f : X → Y) (xs : List X) → All P (map f xs) → All (λ x. P (f x)) xs
all-back P f [] all = All-nil (λ x. P (f x))
all-back P f (x ∷ xs) all = All-cons (λ y. P (f y)) x xs (All-head P (f x) (map f xs) all) (all-back P f xs (All-tail P (f x) (map f xs) all))

-- ## The image of one row more

module _ (rules : Rules) (bits : ℕ) (P : Pool) (from : Rules) (valid : IsValidBy from P) (old : List (Form Bytes)) (images : List ℕ) (are : AreImagesOfFirst rules bits P old images) where
  falls : LeadsDown (λ l. l) (links_in (forms_in P))
  falls = leads-down P valid.lead_back

  module _ (l : ℕ) (low : l ≤ length images) (there : l < row_count P) where
    -- the entries of the row, under the names of their images, name rows with their keys
    pub named-entries : All (λ e. IsEntry (slice_get old) e) (image_entries P images l)
    named-entries =
        All-map (λ e. IsEntry (slice_get old) e) (moved (slice_index images)) (entries_below (row_count P) (forms_in P) l)
        (All-weaker (IsLowEntry (forms_in P) falls l) (λ e. IsEntry (slice_get old) (moved (slice_index images) e))
        (λ e is. key-moved (forms_in P) falls (slice_get old) (slice_index images) (length images) are.own e.link e.key (omega (arith, is.low, low)) is.key) (entries_below (row_count P) (forms_in P) l)
        (entries-low (forms_in P) falls (row_count P) l there))

    module _ (es : List CodedEntry) (same : map seen es ≡ image_entries P images l) where
      pub coded-named : (code : Bytes → ℕ) → AreCoded code es → AreCodedEntries code old es
      coded-named code coded = record {
        codes = coded;
        named = all-back (λ e. IsEntry (slice_get old) e) seen es (All-same (λ e. IsEntry (slice_get old) e) (map seen es) (image_entries P images l) same named-entries);
      }

      pub coded-distinct : AreDistinct (slice_cmp nat_cmp) (entries_below (row_count P) (forms_in P) l) → AreDistinct (slice_cmp nat_cmp) (map seen es)
      coded-distinct distinct = subst (AreDistinct (slice_cmp nat_cmp)) (sym same) (distinct-moved (slice_index images) (entries_below (row_count P) (forms_in P) l) distinct)

  -- a trie's image is the canonical trie of its entries' images
  pub image-of-trie : is_trie_root (forms_in P (length images)) ≡ true → (new : List (Form Bytes)) (image : ℕ) → image < length new
      → IsTrie (slice_cmp nat_cmp) (code_by rules.code_of bits) (slice_get new) (rules.deepest + 1) 0 image (image_entries P images (length images)) → ImageIsMade rules bits P old new images image
  image-of-trie root new image low is_trie = record {
    low = low;
    own = λ own. absurd (not-both (sym own ∙ root-of-trie (forms_in P (length images)) root));
    trie = λ _. record {
      trie = is_trie;
      distinct = distinct-moved (slice_index images) (entries_below (row_count P) (forms_in P) (length images)) (trie-roots-canonical P valid (length images) root).distinct;
    };
  }

module _ (rules : Rules) (bits : ℕ) (P : Pool) (from : Rules) (valid : IsValidBy from P) (old : List (Form Bytes)) (images : List ℕ) (are : AreImagesOfFirst rules bits P old images) (more : length images < row_count P) where
  -- a row inside a trie has none
  pub image-of-none : is_of_trie (forms_in P (length images)) ≡ true → is_trie_root (forms_in P (length images)) ≡ false → ImageIsMade rules bits P old old images 0
  image-of-none of_trie no_root = record {
    low = elim (cases_eq (length images) 0) as (λ _. 0 < length old) [
      | inl first ↦ absurd (inside-later (forms_in P) (leads-down P valid.lead_back) (row_count P) (code_by from.code_of P.bits) from.deepest (length images) more of_trie no_root (canonical-at from P valid.tries (length images)) first)
      | inr later ↦ omega (arith, are.low 0 (omega (arith, later)))
    ];
    own = λ own. absurd (not-both (sym own ∙ of_trie));
    trie = λ root. absurd (not-both (sym no_root ∙ root));
  }

  module _ (form : Form Bytes) (is : forms_in P (length images) ≡ Some form) where
    -- the links of the row have images
    pub links-passed : (k : ℕ) → 0 < count k (links_of (Some form)) → k < length images
    links-passed k there = (leads-down P valid.lead_back) (length images) k (let has : 0 < count k (links_of (forms_in P (length images))) = subst (λ r. 0 < count k (links_of r)) (sym is) there in has)

    pub links-named : (k : ℕ) → 0 < count k (links_of (Some (relink (slice_index images) form))) → k < length old
    links-named k there =
        let found = map-found (slice_index images) (links_of (Some form)) k (omega (arith, there, ap (count k) (links-relink (slice_index images) (Some form)))) in
        omega (arith, found.2, are.low found.0 (links-passed found.0 found.1))

    -- a row of its own has a new row for an image
    pub image-of-own : is_of_trie (Some form) ≡ false → (new : List (Form Bytes)) (image : ℕ) → image ≡ length old → new ≡ old ++ relink (slice_index images) form ∷ [] → ImageIsMade rules bits P old new images image
    image-of-own own new image at whole = record {
      low = omega (arith, at, ap length whole, length-append old (relink (slice_index images) form ∷ []));
      own = λ _. (at, ap (slice_get new) at ∙ ap (λ rows. slice_get rows (length old)) whole ∙ get-end old (relink (slice_index images) form) ∙ ap (option_map (relink (slice_index images))) (sym is));
      trie = λ root. absurd (not-both (sym (ap is_of_trie is ∙ own) ∙ root-of-trie (forms_in P (length images)) root));
    }

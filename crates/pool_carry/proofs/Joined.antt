-- One entry or one part more in the root of a trie, and what all of them are.
use Rattle.std.proofs.Common.{◌≡◌, ◌≢◌, ℕ, zero, suc, ◌+◌, ◌<◌, ◌≤◌, refl, ap, sym, subst, ◌∙◌, arith, true, List, [], ◌∷◌, ◌++◌, map, take, get_or, length, length-append, Option, Some, IsSome}
use Rattle.std.specs.Prelude.{slice_get, slice_index}
use Rattle.std.specs.List.{All, filter_map, flat_map}
use Rattle.std.proofs.lemmas.List.{flat_map_more, get_or_append_left, map-append, take_more}
use Rattle.std.proofs.lemmas.List.Elements.{All-cons, All-map, All-nil, All-same, All-take, All-weaker}
use Rattle.elem_core.specs.Codes.{digit_at}
use Rattle.node_heap.specs.Links.{count, LeadsDown}
use Rattle.node_heap.specs.Forms.{Form, links_in}
use Rattle.rrb_core.proofs.LinkCounts.{all-counted}
use Rattle.champ_chain.specs.Entry.{Entry, IsEntry, key_at}
use Rattle.champ_trie.specs.Trie.{AreSets, code_by, place_of}
use Rattle.champ_trie.specs.Walk.{entry_count, own_entries, rows_below}
use Rattle.champ_trie.specs.declared.place.Place.TheVariants.{Empty, Entry as At, Node}
use Rattle.pool_text.specs.Rows.{Bytes, row_form}
use Rattle.pool_text.specs.Rules.{Rules}
use Rattle.pool_text.specs.Pool.{forms_in, row_count}
use Rattle.pool_text.specs.declared.pool.Pool.{Pool}
use Rattle.pool_text.specs.declared.row.Row.{Row}
use Rattle.pool_check.specs.Tries.{entry_at, entries_below}
use Rattle.pool_check.specs.Keeping.{forms_at}
use Rattle.pool_check.specs.Readings.{moved}
use Rattle.pool_check.specs.Damages.{IsValidBy}
use Rattle.pool_check.proofs.EntriesBelow.{own, rows-low, entries-is}
use Rattle.pool_check.proofs.PoolLaws.{canonical-at}
use Rattle.pool_check.proofs.TestLemmas.{leads-down}
use Rattle.pool_carry.specs.Carried.{is_of_trie}
use Rattle.pool_carry.specs.Making.{seen, AreCoded, AreCodedEntries, IsPart, IsRowOver, image_entries}
use Rattle.pool_carry.specs.declared.entries.Entry.{Entry as CodedEntry}
use Rattle.pool_carry.specs.declared.shared_parts.Part.{Part}
use Rattle.pool_carry.specs.declared.sets_and_links.SetsAndLinks.{SetsAndLinks}
use Rattle.pool_carry.proofs.EntryWalk.{own-same}
use Rattle.pool_carry.proofs.RowImages.{all-back}
use Rattle.pool_carry.proofs.RowsOver.{row-more}
use Rattle.pool_carry.proofs.Standing.{place-within, node-within}
use Rattle.pool_carry.proofs.WalkRows.{IsWalked, walked}

module _ (code : Bytes → ℕ) (deepest : ℕ) (rows : List (Form Bytes)) (old new : SetsAndLinks) (p : ℕ) (small : p < 32) (free : place_of old.entries old.nodes old.links.items p ≡ Empty)
    (sets : AreSets new.entries new.nodes new.links.items) (others : (q : ℕ) → q < 32 → q ≢ p → place_of new.entries new.nodes new.links.items q ≡ place_of old.entries old.nodes old.links.items q) where
  -- one entry more
  pub row-with-entry : (es : List CodedEntry) (i : ℕ) (d : CodedEntry) → i < length es → AreCodedEntries code rows es → p ≡ digit_at (get_or es i d).code 0 → place_of new.entries new.nodes new.links.items p ≡ At (get_or es i d).place
      → ((k : ℕ) → count k new.links.items ≡ count k old.links.items + count k ((get_or es i d).place ∷ [])) → IsRowOver code deepest rows (map seen (take i es)) old → IsRowOver code deepest rows (map seen (take (i + 1) es)) new
  row-with-entry es i d low named digit here counted over =
      let e : CodedEntry = get_or es i d in
      let key : IsEntry (slice_get rows) (seen e) = named.named i d low in
      subst (λ E. IsRowOver code deepest rows E new) (sym (ap (map seen) (take_more es i d low) ∙ map-append seen (take i es) (e ∷ [])))
      (row-more code deepest rows (map seen (take i es)) (seen e ∷ []) old new p (At e.place) over small
      (All-cons (λ x. digit_at (code x.key) 0 ≡ p) (seen e) [] (sym (digit ∙ ap (λ c. digit_at c 0) (named.codes i d low))) (All-nil (λ x. digit_at (code x.key) 0 ≡ p)))
      (e.key.now, refl, key) free sets here others counted (place-within rows e key))

  -- one part more
  pub row-with-part : (E : List (Entry Bytes)) (entries_of : ℕ → List (Entry Bytes)) (ks : List ℕ) (i : ℕ) (it : Part) → i < length ks → IsPart code deepest rows (entries_of (get_or ks i 0)) it → it.digit ≡ p
      → place_of new.entries new.nodes new.links.items p ≡ Node it.place → ((k : ℕ) → count k new.links.items ≡ count k old.links.items + count k (it.place ∷ []))
      → IsRowOver code deepest rows (E ++ flat_map entries_of (take i ks)) old → IsRowOver code deepest rows (E ++ flat_map entries_of (take (i + 1) ks)) new
  row-with-part E entries_of ks i it low is digit here counted over =
      subst (λ D. IsRowOver code deepest rows D new) (flat_map_more entries_of E (take i ks) (get_or ks i 0) ∙ ap (λ js. E ++ flat_map entries_of js) (sym (take_more ks i 0 low)))
      (row-more code deepest rows (E ++ flat_map entries_of (take i ks)) (entries_of (get_or ks i 0)) old new p (Node it.place) over small
      (subst (λ q. All (λ d. digit_at (code d.key) 0 ≡ q) (entries_of (get_or ks i 0))) digit is.digit) (is.two, is.trie) free sets here others counted (node-within (length rows) it.place is.low))

-- the part that was read
pub part-at : (parts : List (Option Part)) (k : ℕ) (d : Option Part) (it : Part) → k < length parts → get_or parts k d ≡ Some it → slice_get parts k ≡ Some (Some it)
part-at [] k d it low is = absurd (omega (arith, low))
part-at (x ∷ xs) zero d it low is = ap Some is
part-at (x ∷ xs) (suc k) d it low is = part-at xs k d it (omega (arith, low)) is

-- the digits of codes are those of the keys' codes
pub digits-seen : (code : Bytes → ℕ) (p : ℕ) (es : List CodedEntry) → AreCoded code es → All (λ e. digit_at e.code 0 ≡ p) es → All (λ e. digit_at (code e.key) 0 ≡ p) (map seen es)
digits-seen code p es coded all = All-map (λ e. digit_at (code e.key) 0 ≡ p) seen es (λ i d low. ap (λ c. digit_at c 0) (sym (coded i d low)) ∙ all i d low)

map-flat : {X Y Z : Type 0} (g : Y → Z) (f : X → List Y) (xs : List X) → map g (flat_map f xs) ≡ flat_map (λ x. map g (f x)) xs
map-flat g f [] = refl
map-flat g f (x ∷ xs) = map-append g (f x) (flat_map f xs) ∙ ap (λ ys. map g (f x) ++ ys) (map-flat g f xs)

all-left : {X : Type 0} (P : X → Type 0) (xs ys : List X) → All P (xs ++ ys) → All P xs
all-left P xs ys all = λ i d low. subst P (get_or_append_left xs ys d i low) (all i d (omega (arith, low, length-append xs ys)))

-- the row at a root of a valid pool
module _ (from : Rules) (P : Pool) (valid : IsValidBy from P) (images : List ℕ) (root : ℕ) (there : root < row_count P) where
  falls : LeadsDown (λ l. l) (links_in (forms_in P))
  falls = leads-down P valid.lead_back

  -- its own entries, and those of the rows below
  pub entries-joined : (E : List (Entry Bytes)) (places below : List ℕ) → places ≡ own_entries (forms_in P root) → below ≡ rows_below (forms_in P root) → E ≡ map (moved (slice_index images)) (filter_map (entry_at (forms_in P)) places)
      → E ++ flat_map (image_entries P images) below ≡ image_entries P images root
  entries-joined E places below own_is below_is is =
      let mine : List (Entry Bytes) = flat_map (own (forms_in P)) places in
      let others : List (Entry Bytes) = flat_map (entries_below (row_count P) (forms_in P)) below in
      ap (λ D. D ++ flat_map (image_entries P images) below) (is ∙ ap (map (moved (slice_index images))) (sym (own-same (forms_in P) places)))
      ∙ ap (λ D. map (moved (slice_index images)) mine ++ D) (sym (map-flat (moved (slice_index images)) (entries_below (row_count P) (forms_in P)) below))
      ∙ sym (map-append (moved (slice_index images)) mine others)
      ∙ ap (map (moved (slice_index images)))
      (ap (λ ks. flat_map (own (forms_in P)) ks ++ others) own_is ∙ ap (λ ks. flat_map (own (forms_in P)) (own_entries (forms_in P root)) ++ flat_map (entries_below (row_count P) (forms_in P)) ks) below_is
      ∙ sym (entries-is (forms_in P) falls (row_count P) root there))

  -- the entries that are read of it are named where all below it are
  pub own-named : (code : Bytes → ℕ) (rows : List (Form Bytes)) (es : List CodedEntry) (rest : List (Entry Bytes)) → AreCoded code es → map seen es ++ rest ≡ image_entries P images root
      → All (λ e. IsEntry (slice_get rows) e) (image_entries P images root) → AreCodedEntries code rows es
  own-named code rows es rest coded whole all = record {
    codes = coded;
    named = all-back (λ e. IsEntry (slice_get rows) e) seen es
        (all-left (λ e. IsEntry (slice_get rows) e) (map seen es) rest (All-same (λ e. IsEntry (slice_get rows) e) (map seen es ++ rest) (image_entries P images root) whole all));
  }

  module _ (of_trie : is_of_trie (forms_in P root) ≡ true) where
    pub root-walked : IsWalked (row_count P) (forms_in P) (code_by from.code_of P.bits) from.deepest (forms_in P root)
    root-walked = walked (row_count P) (forms_in P) (code_by from.code_of P.bits) from.deepest root (forms_in P root) of_trie (canonical-at from P valid.tries root)

    pub own-low : (n : ℕ) → root ≤ n → All (λ k. k < n) (own_entries (forms_in P root))
    own-low n long =
        All-weaker (λ k. k < root) (λ k. k < n) (λ k below. omega (arith, below, long)) (own_entries (forms_in P root))
        (All-take (λ k. k < root) (entry_count (forms_in P root)) (links_in (forms_in P) root) (all-counted (λ k. k < root) (links_in (forms_in P) root) (λ k some. falls root k some)))

    pub below-low : (n : ℕ) → root ≤ n → All (λ k. k < n) (rows_below (forms_in P root))
    below-low n long = All-weaker (λ k. k < root) (λ k. k < n) (λ k below. omega (arith, below, long)) (rows_below (forms_in P root)) (rows-low (forms_in P) falls root)

    pub own-keys : (rows : List Row) → map row_form rows ≡ P.rows → All (λ k. IsSome (key_at (forms_at rows) k)) (own_entries (forms_in P root))
    own-keys rows are = subst (λ (fs : List (Form Bytes)). All (λ k. IsSome (key_at (λ l. slice_get fs l) k)) (own_entries (forms_in P root))) (sym are) root-walked.keys

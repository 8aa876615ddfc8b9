-- Rows and entries under new names.
use Rattle.std.proofs.Common.{◌≡◌, ℕ, zero, suc, ◌+◌, ◌<◌, refl, ap, sym, subst, ◌∙◌, arith, false, List, [], ◌∷◌, map, Option, Some, None, option_map}
use Rattle.std.specs.Prelude.{option_to_list}
use Rattle.std.specs.List.{All, flat_map}
use Rattle.std.specs.Ordering.{nat_cmp}
use Rattle.std.specs.Cmp.Lexicographic.{slice_cmp}
use Rattle.std.proofs.lemmas.List.Elements.{All-nil, All-cons, All-head, All-tail, All-append, All-take, All-weaker}
use Rattle.node_heap.specs.Links.{count, LeadsDown}
use Rattle.node_heap.specs.Forms.{Form, Forms, cell, node, leaf, inner, trie, chain, pair, state, links_of, links_in, value_of}
use Rattle.node_heap.proofs.Counts.{count-cons, test_same}
use Rattle.rrb_core.proofs.LinkCounts.{all-counted}
use Rattle.champ_chain.specs.Entry.{Entry, entry, key_of, key_at, first_value}
use Rattle.champ_chain.proofs.FrameLemmas.{KeepsForms}
use Rattle.champ_trie.specs.Trie.{IsCanonTo}
use Rattle.champ_trie.specs.Walk.{own_entries, rows_below, entry_count}
use Rattle.champ_trie.proofs.PartLemmas.{trie-kept}
use Rattle.pool_text.specs.Rows.{Bytes}
use Rattle.pool_text.specs.Pool.{relink}
use Rattle.pool_check.specs.Tries.{entries_below}
use Rattle.pool_check.specs.Readings.{moved}
use Rattle.pool_check.proofs.EntriesBelow.{own, rows-low, entries-is}
use Rattle.pool_carry.specs.Carried.{is_of_trie}

-- A row with the same new links is the same.
pub map-same : (f g : ℕ → ℕ) (ks : List ℕ) → ((k : ℕ) → 0 < count k ks → f k ≡ g k) → map f ks ≡ map g ks
map-same f g [] same = refl
map-same f g (k ∷ ks) same =
    ap (λ x. x ∷ map f ks) (same k (omega (arith, count-cons k k ks, test_same k k refl)))
    ∙ ap (λ xs. g k ∷ xs) (map-same f g ks (λ j there. same j (omega (arith, there, count-cons j k ks))))

pub relink-same : {K : Type 0} (f g : ℕ → ℕ) (r : Option (Form K)) → ((k : ℕ) → 0 < count k (links_of r) → f k ≡ g k) → option_map (relink f) r ≡ option_map (relink g) r
relink-same f g None same = refl
relink-same f g (Some (cell x)) same = refl
relink-same f g (Some (node kind links)) same = ap (λ ks. Some (node kind ks)) (map-same f g links same)

-- entries under the same new names are the same
pub moved-same : (f g : ℕ → ℕ) (E : List (Entry Bytes)) → All (λ e. f e.link ≡ g e.link) E → map (moved f) E ≡ map (moved g) E
moved-same f g [] same = refl
moved-same f g (e ∷ es) same =
    ap (λ l. entry e.key l ∷ map (moved f) es) (All-head (λ d. f d.link ≡ g d.link) e es same)
    ∙ ap (λ ds. moved g e ∷ ds) (moved-same f g es (All-tail (λ d. f d.link ≡ g d.link) e es same))

-- an entry is a row of none of the tries
pub entry-own : (F : Forms Bytes) (r : Option (Form Bytes)) (key : Bytes) → key_of F r ≡ Some key → is_of_trie r ≡ false
entry-own F None key is = refl
entry-own F (Some (cell x)) key is = refl
entry-own F (Some (node leaf links)) key is = refl
entry-own F (Some (node (inner height) links)) key is = refl
entry-own F (Some (node (trie d e n) links)) key is = absurd cc
entry-own F (Some (node chain links)) key is = absurd cc
entry-own F (Some (node pair links)) key is = refl
entry-own F (Some (node state links)) key is = refl

cell-is : (r : Option (Form Bytes)) (x : Bytes) → value_of r ≡ Some x → r ≡ Some (cell x)
cell-is None x is = absurd cc
cell-is (Some (cell y)) x is = (let same : y ≡ x = cc in ap (λ z. Some (cell z)) same)
cell-is (Some (node kind links)) x is = absurd cc

module _ (F : Forms Bytes) (falls : LeadsDown (λ l. l) (links_in F)) where
  -- the key of an entry is that of its image, where the rows before n have images with the images of their links
  pub key-moved : (G : Forms Bytes) (f : ℕ → ℕ) (n : ℕ) → ((k : ℕ) → k < n → is_of_trie (F k) ≡ false → G (f k) ≡ option_map (relink f) (F k)) → (l : ℕ) (key : Bytes) → l < n → key_at F l ≡ Some key → key_at G (f l) ≡ Some key
  key-moved G f n images l key low is = by_form (F l) refl is (images l low (entry-own F (F l) key is))
    where
      by_links : (links : List ℕ) → F l ≡ Some (node pair links) → first_value F links ≡ Some key → G (f l) ≡ Some (node pair (map f links)) → key_at G (f l) ≡ Some key
      by_links [] is first image = absurd cc
      by_links (k ∷ ks) is first image =
          let below : k < l = falls l k (let there : 0 < count k (links_of (F l)) = subst (λ r. 0 < count k (links_of r)) (sym is) (omega (arith, count-cons k k ks, test_same k k refl)) in there) in
          let here : F k ≡ Some (cell key) = cell-is (F k) key first in
          let there : G (f k) ≡ Some (cell key) = images k (omega (arith, below, low)) (ap is_of_trie here) ∙ ap (option_map (relink f)) here in
          ap (key_of G) image ∙ ap value_of there

      by_form : (r : Option (Form Bytes)) → F l ≡ r → key_of F r ≡ Some key → G (f l) ≡ option_map (relink f) (F l) → key_at G (f l) ≡ Some key
      by_form None is key_is image = absurd cc
      by_form (Some (cell x)) is key_is image = ap (key_of G) (image ∙ ap (option_map (relink f)) is) ∙ key_is
      by_form (Some (node leaf links)) is key_is image = absurd cc
      by_form (Some (node (inner height) links)) is key_is image = absurd cc
      by_form (Some (node (trie d e n) links)) is key_is image = absurd cc
      by_form (Some (node chain links)) is key_is image = absurd cc
      by_form (Some (node pair links)) is key_is image = by_links links is key_is (image ∙ ap (option_map (relink f)) is)
      by_form (Some (node state links)) is key_is image = absurd cc

  -- the entries below a row come before it, and each names its key
  pub record IsLowEntry (l : ℕ) (e : Entry Bytes) : Type 0 where
    pub low : e.link < l
    pub key : key_at F e.link ≡ Some e.key

  own-low : (l k : ℕ) → k < l → All (IsLowEntry l) (own F k)
  own-low l k below = by_key (key_at F k) refl
    where
      by_key : (o : Option Bytes) → key_at F k ≡ o → All (IsLowEntry l) (option_to_list (option_map (λ key. entry key k) o))
      by_key None is = All-nil (IsLowEntry l)
      by_key (Some key) is = All-cons (IsLowEntry l) (entry key k) [] (record { low = below; key = is }) (All-nil (IsLowEntry l))

  flat-low : (l : ℕ) (f : ℕ → List (Entry Bytes)) (ks : List ℕ) → All (λ k. k < l) ks → ((k : ℕ) → k < l → All (IsLowEntry l) (f k)) → All (IsLowEntry l) (flat_map f ks)
  flat-low l f [] all each = All-nil (IsLowEntry l)
  flat-low l f (k ∷ ks) all each =
      All-append (IsLowEntry l) (f k) (flat_map f ks) (each k (All-head (λ j. j < l) k ks all)) (flat-low l f ks (All-tail (λ j. j < l) k ks all) each)

  entries-low-by : (n m l : ℕ) → l < m → l < n → All (IsLowEntry l) (entries_below n F l)
  entries-low-by n zero l fuel low = absurd (omega (arith, fuel))
  entries-low-by n (suc m) l fuel low =
      subst (λ E. All (IsLowEntry l) E) (sym (entries-is F falls n l low))
      (All-append (IsLowEntry l) (flat_map (own F) (own_entries (F l))) (flat_map (entries_below n F) (rows_below (F l)))
      (flat-low l (own F) (own_entries (F l)) (All-take (λ k. k < l) (entry_count (F l)) (links_in F l) (all-counted (λ k. k < l) (links_in F l) (λ k some. falls l k some))) (own-low l))
      (flat-low l (entries_below n F) (rows_below (F l)) (rows-low F falls l)
      (λ k below. All-weaker (IsLowEntry k) (IsLowEntry l) (λ e is. record { low = omega (arith, is.low, below); key = is.key }) (entries_below n F k) (entries-low-by n m k (omega (arith, below, fuel)) (omega (arith, below, low))))))

  pub entries-low : (n l : ℕ) → l < n → All (IsLowEntry l) (entries_below n F l)
  entries-low n l low = entries-low-by n (suc l) l (omega arith) low

-- what is a canonical trie stays one while rows are added
pub canon-later : (code : Bytes → ℕ) (deepest : ℕ) (F G : Forms Bytes) (l : ℕ) (E : List (Entry Bytes)) → KeepsForms F G → IsCanonTo (slice_cmp nat_cmp) code deepest F l E → IsCanonTo (slice_cmp nat_cmp) code deepest G l E
canon-later code deepest F G l E keeps canon = record { trie = trie-kept (slice_cmp nat_cmp) code F G keeps (deepest + 1) 0 l E canon.trie; distinct = canon.distinct }

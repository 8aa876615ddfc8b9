-- The entries with a digit of their code, when an entry is put in or taken out.
use Rattle.std.proofs.Common.{◌≡◌, ◌≢◌, ℕ, suc, zero, ◌+◌, ◌<◌, ◌≤◌, List, [], ◌∷◌, refl, ap, sym, subst, ◌∙◌, arith, cond, true, false, not, Bool, option_map}
use Rattle.std.specs.Prelude.{nat_eq, count_by}
use Rattle.std.specs.List.{filter}
use Rattle.std.specs.Cmp.{Equal-is}
use Rattle.std.specs.declared.cmp.Ordering.{Ordering}
use Rattle.std.specs.declared.cmp.Ordering.TheVariants.{Equal}
use Rattle.std.proofs.lemmas.Bool.{eq-eqb, eqb-true, ne_eqb}
use Rattle.elem_core.specs.Codes.{digit_at}
use Rattle.node_heap.specs.Forms.{Forms}
use Rattle.champ_chain.specs.Entry.{Entry, has_key, link_with, others, put, AreDistinct}
use Rattle.champ_chain.proofs.SetLemmas.{count-cons}
use Rattle.champ_chain.proofs.FrameLemmas.{KeepsForms, KeepsOthers, others-kept, key-beside, chain-beside}
use Rattle.champ_trie.specs.Trie.{IsCanonTo, IsTrie, IsPlace, IsRow, part, place_of}
use Rattle.champ_trie.specs.Reach.{agreeing, Agrees, alike_in}
use Rattle.champ_trie.specs.Edit.{IsBelow}
use Rattle.champ_trie.specs.declared.place.Place.{Place}
use Rattle.champ_trie.specs.declared.place.Place.TheVariants.{Entry as At, Node, Empty}
use Rattle.champ_trie.proofs.ReachLemmas.{agreeing-more, find-kept, count-kept}

module _ {X : Type 0} where
  -- two filters in either order
  pub filter-turned : (p q : X → Bool) (xs : List X) → filter p (filter q xs) ≡ filter q (filter p xs)
  filter-turned p q [] = refl
  filter-turned p q (x ∷ xs) = by_tests (p x) (q x) refl refl (filter-turned p q xs)
    where
      by_tests : (a b : Bool) → p x ≡ a → q x ≡ b → filter p (filter q xs) ≡ filter q (filter p xs)
          → filter p (cond b (x ∷ filter q xs) (filter q xs)) ≡ filter q (cond a (x ∷ filter p xs) (filter p xs))
      by_tests true true e f rest = ap (λ b. cond b (x ∷ filter p (filter q xs)) (filter p (filter q xs))) e ∙ ap (λ ys. x ∷ ys) rest ∙ sym (ap (λ b. cond b (x ∷ filter q (filter p xs)) (filter q (filter p xs))) f)
      by_tests true false e f rest = rest ∙ sym (ap (λ b. cond b (x ∷ filter q (filter p xs)) (filter q (filter p xs))) f)
      by_tests false true e f rest = ap (λ b. cond b (x ∷ filter p (filter q xs)) (filter p (filter q xs))) e ∙ rest
      by_tests false false e f rest = rest

  -- a filter that drops nothing of what another keeps
  pub filter-within : (q p : X → Bool) → ((x : X) → p x ≡ true → q x ≡ true) → (xs : List X) → filter q (filter p xs) ≡ filter p xs
  filter-within q p keeps [] = refl
  filter-within q p keeps (x ∷ xs) = by_test (p x) refl (filter-within q p keeps xs)
    where
      by_test : (b : Bool) → p x ≡ b → filter q (filter p xs) ≡ filter p xs → filter q (cond b (x ∷ filter p xs) (filter p xs)) ≡ cond b (x ∷ filter p xs) (filter p xs)
      by_test true e rest = ap (λ b. cond b (x ∷ filter q (filter p xs)) (filter q (filter p xs))) (keeps x e) ∙ ap (λ ys. x ∷ ys) rest
      by_test false e rest = rest

  -- a filter adds nothing to a count
  pub count-filter : (q p : X → Bool) (xs : List X) → count_by q (filter p xs) ≤ count_by q xs
  count-filter q p [] = omega arith
  count-filter q p (x ∷ xs) = by_test (p x) (count-filter q p xs)
    where
      by_test : (b : Bool) → count_by q (filter p xs) ≤ count_by q xs → count_by q (cond b (x ∷ filter p xs) (filter p xs)) ≤ count_by q (x ∷ xs)
      by_test true rest = omega (arith, rest, count-cons q x xs, count-cons q x (filter p xs))
      by_test false rest = omega (arith, rest, count-cons q x xs)

module _ {K : Type 0} (cmp : K → K → Ordering) (code : K → ℕ) where
  pub part-others : (d p : ℕ) (k : K) (E : List (Entry K)) → part cmp code d p (others cmp k E) ≡ others cmp k (part cmp code d p E)
  part-others d p k E = filter-turned _ _ E

  pub others-distinct : (k : K) (E : List (Entry K)) → AreDistinct cmp E → AreDistinct cmp (others cmp k E)
  others-distinct k E distinct = record { once = λ key. omega (arith, count-filter (has_key cmp key) (λ e. not (has_key cmp k e)) E, distinct.once key) }

  pub part-distinct : (d p : ℕ) (E : List (Entry K)) → AreDistinct cmp E → AreDistinct cmp (part cmp code d p E)
  part-distinct d p E distinct = record { once = λ key. omega (arith, count-filter (has_key cmp key) (λ e. nat_eq (digit_at (code e.key) d) p) E, distinct.once key) }

  -- entries that agree so far are those with the next digit that agree one digit further
  pub part-agreeing : (d c : ℕ) (E : List (Entry K)) → Agrees code d c E → part cmp code d (digit_at c d) E ≡ agreeing code (d + 1) c E
  part-agreeing d c E agrees = ap (part cmp code d (digit_at c d)) (sym agrees) ∙ agreeing-more cmp code d c E

  pub part-agrees : (d c : ℕ) (E : List (Entry K)) → Agrees code d c E → Agrees code (d + 1) c (part cmp code d (digit_at c d) E)
  part-agrees d c E agrees =
      let same = part-agreeing d c E agrees in
      ap (agreeing code (d + 1) c) same ∙ filter-within _ _ (λ e is. is) E ∙ sym same

  pub part-alike : (d c : ℕ) (E : List (Entry K)) → alike_in code c (part cmp code d (digit_at c d) E) ≡ alike_in code c E
  part-alike d c E = count-kept _ _ (λ e is. eq-eqb (digit_at (code e.key) d) (digit_at c d) (ap (λ n. digit_at n d) (eqb-true (code e.key) c is))) E

  module _ (equal_codes : (j k : K) → cmp j k ≡ Equal → code j ≡ code k) where
    pub others-elsewhere : (d p : ℕ) (k : K) (E : List (Entry K)) → digit_at (code k) d ≢ p → others cmp k (part cmp code d p E) ≡ part cmp code d p E
    others-elsewhere d p k E other = filter-within _ _ (λ e is. by_test e (has_key cmp k e) refl (eqb-true (digit_at (code e.key) d) p is)) E
      where
        by_test : (e : Entry K) (b : Bool) → has_key cmp k e ≡ b → digit_at (code e.key) d ≡ p → not b ≡ true
        by_test e true is here = absurd (other (ap (λ n. digit_at n d) (equal_codes k e.key ((Equal-is (cmp k e.key)).0 is)) ∙ here))
        by_test e false is here = refl

    pub part-put-here : (d p : ℕ) (e : Entry K) (E : List (Entry K)) → digit_at (code e.key) d ≡ p → part cmp code d p (put cmp E e) ≡ put cmp (part cmp code d p E) e
    part-put-here d p e E here =
        ap (λ b. cond b (e ∷ part cmp code d p (others cmp e.key E)) (part cmp code d p (others cmp e.key E))) (eq-eqb (digit_at (code e.key) d) p here)
        ∙ ap (λ es. e ∷ es) (part-others d p e.key E)

    pub part-put-elsewhere : (d p : ℕ) (e : Entry K) (E : List (Entry K)) → digit_at (code e.key) d ≢ p → part cmp code d p (put cmp E e) ≡ part cmp code d p E
    part-put-elsewhere d p e E other =
        ap (λ b. cond b (e ∷ part cmp code d p (others cmp e.key E)) (part cmp code d p (others cmp e.key E))) (ne_eqb (digit_at (code e.key) d) p other)
        ∙ part-others d p e.key E ∙ others-elsewhere d p e.key E other

    pub part-link : (d : ℕ) (k : K) (E : List (Entry K)) → link_with cmp k (part cmp code d (digit_at (code k) d) E) ≡ link_with cmp k E
    part-link d k E =
        ap (option_map (λ (e : Entry K). e.link))
        (find-kept (has_key cmp k) _ (λ e is. eq-eqb (digit_at (code e.key) d) (digit_at (code k) d) (ap (λ n. digit_at n d) (sym (equal_codes k e.key ((Equal-is (cmp k e.key)).0 is))))) E)

  -- what reads the same in more forms, and where rows of vectors change
  place-over : (F G : Forms K) (B C : ℕ → List (Entry K) → Type 0) → KeepsOthers F G → ((l : ℕ) (P : List (Entry K)) → B l P → C l P) → (place : Place) (E : List (Entry K)) → IsPlace F B place E → IsPlace G C place E
  place-over F G B C keeps below Empty E is = is
  place-over F G B C keeps below (At x) E is = (is.0, is.1, key-beside F G keeps x is.0 is.2)
  place-over F G B C keeps below (Node l) E is = (is.0, below l E is.1)

  pub row-beside : (F G : Forms K) → KeepsOthers F G → (l d e n : ℕ) (ls : List ℕ) → IsRow F l d e n ls → IsRow G l d e n ls
  row-beside F G keeps l d e n ls row = record { row = keeps.kept l _ row.row refl; sets = row.sets }

  pub trie-beside : (F G : Forms K) → KeepsOthers F G → (left d l : ℕ) (E : List (Entry K)) → IsTrie cmp code F left d l E → IsTrie cmp code G left d l E
  unfolding IsTrie
  trie-beside F G keeps zero d l E trie = chain-beside F G keeps cmp l E trie
  trie-beside F G keeps (suc left) d l E trie = record {
    entries = trie.entries;
    nodes = trie.nodes;
    links = trie.links;
    row = row-beside F G keeps l d trie.entries trie.nodes trie.links trie.row;
    places = λ p low. place-over F G (λ k P. IsTrie cmp code F left (suc d) k P) (λ k P. IsTrie cmp code G left (suc d) k P) keeps (λ k P below. trie-beside F G keeps left (suc d) k P below)
        (place_of trie.entries trie.nodes trie.links p) (part cmp code d p E) (trie.places p low);
  }

  pub canon-beside : (F G : Forms K) → KeepsOthers F G → (deepest root : ℕ) (E : List (Entry K)) → IsCanonTo cmp code deepest F root E → IsCanonTo cmp code deepest G root E
  canon-beside F G keeps deepest root E canon = record { trie = trie-beside F G keeps (deepest + 1) 0 root E canon.trie; distinct = canon.distinct }

  pub row-kept : (F G : Forms K) → KeepsForms F G → (l d e n : ℕ) (ls : List ℕ) → IsRow F l d e n ls → IsRow G l d e n ls
  row-kept F G keeps = row-beside F G (others-kept F G keeps)

  pub trie-kept : (F G : Forms K) → KeepsForms F G → (left d l : ℕ) (E : List (Entry K)) → IsTrie cmp code F left d l E → IsTrie cmp code G left d l E
  trie-kept F G keeps = trie-beside F G (others-kept F G keeps)

  pub place-kept : (F G : Forms K) → KeepsForms F G → (left d : ℕ) (place : Place) (E : List (Entry K)) → IsPlace F (λ k P. IsTrie cmp code F left d k P) place E → IsPlace G (λ k P. IsTrie cmp code G left d k P) place E
  place-kept F G keeps left d place E is = place-over F G (λ k P. IsTrie cmp code F left d k P) (λ k P. IsTrie cmp code G left d k P) (others-kept F G keeps) (λ k P below. trie-kept F G keeps left d k P below) place E is

  -- what stands at a position of a trie's row
  pub stands-at : (F : Forms K) (left d l p : ℕ) (E : List (Entry K)) (place : Place) → IsTrie cmp code F (suc left) d l E
      → ((depth e n : ℕ) (ls : List ℕ) → IsRow F l depth e n ls → place ≡ place_of e n ls p) → p < 32
      → IsPlace F (λ k P. IsTrie cmp code F left (d + 1) k P) place (part cmp code d p E)
  unfolding IsTrie
  stands-at F left d l p E place row is low =
      let next : suc d ≡ d + 1 = omega arith in
      subst (λ m. IsPlace F (λ k P. IsTrie cmp code F left m k P) place (part cmp code d p E)) next
      (subst (λ q. IsPlace F (λ k P. IsTrie cmp code F left (suc d) k P) q (part cmp code d p E)) (sym (is d row.entries row.nodes row.links row.row)) (row.places p low))

  -- the node at the digit's place, as a trie from the next depth down
  pub below-part : (F : Forms K) (left d l c child : ℕ) (E : List (Entry K)) → IsBelow cmp code F d l E (suc left) c
      → ((depth e n : ℕ) (ls : List ℕ) → IsRow F l depth e n ls → Node child ≡ place_of e n ls (digit_at c d)) → digit_at c d < 32
      → IsBelow cmp code F (d + 1) child (part cmp code d (digit_at c d) E) left c
  below-part F left d l c child E below is low = record {
    levels = omega (arith, below.levels);
    trie = (stands-at F left d l (digit_at c d) E (Node child) below.trie is low).1;
    distinct = part-distinct d (digit_at c d) E below.distinct;
    agrees = part-agrees d c E below.agrees;
  }

  -- a row of places over the entries is the trie of them
  pub row-trie : (F : Forms K) (left d l e n : ℕ) (ls : List ℕ) (E : List (Entry K)) → IsRow F l d e n ls
      → ((p : ℕ) → p < 32 → IsPlace F (λ k P. IsTrie cmp code F left (d + 1) k P) (place_of e n ls p) (part cmp code d p E)) → IsTrie cmp code F (suc left) d l E
  unfolding IsTrie
  row-trie F left d l e n ls E row places =
      let next : d + 1 ≡ suc d = omega arith in
      record { entries = e; nodes = n; links = ls; row = row; places = λ p low. subst (λ m. IsPlace F (λ k P. IsTrie cmp code F left m k P) (place_of e n ls p) (part cmp code d p E)) next (places p low) }

-- Rows of tries under other links, and with another thing at one position.
use Rattle.std.proofs.Common.{◌≡◌, ◌≢◌, ◌⊎◌, ℕ, suc, ◌+◌, ◌<◌, List, [], ◌∷◌, refl, ap, sym, subst, ◌∙◌, Some, inl, inr}
use Rattle.std.specs.declared.cmp.Ordering.{Ordering}
use Rattle.std.specs.declared.cmp.Ordering.TheVariants.{Equal}
use Rattle.std.proofs.lemmas.Bool.{cases_eq}
use Rattle.elem_core.specs.Codes.{digit_at}
use Rattle.node_heap.specs.Links.{HasLink, SameBelow, here}
use Rattle.node_heap.specs.Forms.{Forms, node, trie, links_in}
use Rattle.champ_chain.specs.Entry.{Entry, others, put}
use Rattle.champ_trie.specs.Trie.{IsTrie, IsPlace, IsRow, part, place_of, links_at_place}
use Rattle.champ_trie.specs.declared.place.Place.{Place}
use Rattle.champ_trie.specs.declared.place.Place.TheVariants.{Entry as At, Node, Empty}
use Rattle.champ_trie.proofs.StayLemmas.{key-stays, trie-stays, at-link, node-link}
use Rattle.champ_trie.proofs.PartLemmas.{part-put-here, part-put-elsewhere, part-others, others-elsewhere, stands-at, row-trie}

-- one row has one place at each position
pub same-place-of : {K : Type 0} (F : Forms K) (l d e n : ℕ) (ls : List ℕ) (d' e' n' : ℕ) (ls' : List ℕ) (q : ℕ) → IsRow F l d e n ls → IsRow F l d' e' n' ls' → place_of e n ls q ≡ place_of e' n' ls' q
same-place-of F l d e n ls d' e' n' ls' q one two = let same : Some (node (trie d e n) ls) ≡ Some (node (trie d' e' n') ls') = sym one.row ∙ two.row in cc

module _ {K : Type 0} where
  -- what stands at a position is a link of the row
  pub place-linked : (F : Forms K) (l d e n p s : ℕ) (ls : List ℕ) → IsRow F l d e n ls → p < 32 → links_at_place (place_of e n ls p) ≡ s ∷ [] → HasLink (links_in F) l s
  place-linked F l d e n p s ls row small one = by_place (place_of e n ls p) refl one
    where
      by_place : (place : Place) → place_of e n ls p ≡ place → links_at_place place ≡ s ∷ [] → HasLink (links_in F) l s
      by_place Empty at none = absurd cc
      by_place (At x) at is = at-link F l d e n p s ls row small (at ∙ (let same : x ≡ s = cc in ap At same))
      by_place (Node x) at is = node-link F l d e n p s ls row small (at ∙ (let same : x ≡ s = cc in ap Node same))

module _ {K : Type 0} (cmp : K → K → Ordering) (code : K → ℕ) where
  -- what stands at a position stays where all below it is the same
  pub place-stays : (F G : Forms K) (left d : ℕ) (place : Place) (E : List (Entry K)) → ((s : ℕ) → links_at_place place ≡ s ∷ [] → SameBelow (links_in F) F G s)
      → IsPlace F (λ k P. IsTrie cmp code F left d k P) place E → IsPlace G (λ k P. IsTrie cmp code G left d k P) place E
  place-stays F G left d Empty E same is = is
  place-stays F G left d (At x) E same is = (is.0, is.1, key-stays F G x (same x refl) x is.0 (here x) is.2)
  place-stays F G left d (Node l) E same is = (is.0, trie-stays F G l (same l refl) cmp code left d l E (here l) is.1)

  -- the trie of a row with the same links, below which all is the same
  pub trie-moved : (F G : Forms K) (left d j k : ℕ) (E : List (Entry K)) → G k ≡ F j → ((s : ℕ) → HasLink (links_in F) j s → SameBelow (links_in F) F G s) → IsTrie cmp code F (suc left) d j E → IsTrie cmp code G (suc left) d k E
  unfolding IsTrie
  trie-moved F G left d j k E moved same is = record {
    entries = is.entries;
    nodes = is.nodes;
    links = is.links;
    row = record { row = moved ∙ is.row.row; sets = is.row.sets };
    places = λ p small. place-stays F G left (suc d) (place_of is.entries is.nodes is.links p) (part cmp code d p E)
        (λ s at. same s (place-linked F j d is.entries is.nodes p s is.links is.row small at)) (is.places p small);
  }

  -- a row with another thing at the position of an entry, which is the trie of the others and that entry
  pub row-with : (F G : Forms K) (left d p l m e n : ℕ) (ls : List ℕ) (e' n' : ℕ) (ls' : List ℕ) (E : List (Entry K)) (x : Entry K) → ((j k : K) → cmp j k ≡ Equal → code j ≡ code k) → digit_at (code x.key) d ≡ p
      → IsTrie cmp code F (suc left) d l E → IsRow F l d e n ls → IsRow G m d e' n' ls' → ((q : ℕ) → q < 32 → q ≢ p → place_of e' n' ls' q ≡ place_of e n ls q)
      → ((q : ℕ) → q < 32 → q ≢ p → (s : ℕ) → links_at_place (place_of e n ls q) ≡ s ∷ [] → SameBelow (links_in F) F G s)
      → IsPlace G (λ k P. IsTrie cmp code G left (d + 1) k P) (place_of e' n' ls' p) (put cmp (part cmp code d p E) x) → IsTrie cmp code G (suc left) d m (put cmp E x)
  row-with F G left d p l m e n ls e' n' ls' E x equal_codes digit is row new others same stands =
      row-trie cmp code G left d m e' n' ls' (put cmp E x) new (λ q low. by_position q low (cases_eq q p))
    where
      by_position : (q : ℕ) → q < 32 → (q ≡ p) ⊎ (q ≡ p → ⊥) → IsPlace G (λ k P. IsTrie cmp code G left (d + 1) k P) (place_of e' n' ls' q) (part cmp code d q (put cmp E x))
      by_position q low (inl at) =
          subst (λ r. IsPlace G (λ k P. IsTrie cmp code G left (d + 1) k P) (place_of e' n' ls' r) (part cmp code d r (put cmp E x))) (sym at)
          (subst (λ P. IsPlace G (λ k P. IsTrie cmp code G left (d + 1) k P) (place_of e' n' ls' p) P) (sym (part-put-here cmp code equal_codes d p x E digit)) stands)
      by_position q low (inr other) =
          let rest : part cmp code d q (put cmp E x) ≡ part cmp code d q E = part-put-elsewhere cmp code equal_codes d q x E (λ is. other (sym is ∙ digit)) in
          subst (λ P. IsPlace G (λ k P. IsTrie cmp code G left (d + 1) k P) (place_of e' n' ls' q) P) (sym rest)
          (subst (λ at. IsPlace G (λ k P. IsTrie cmp code G left (d + 1) k P) at (part cmp code d q E)) (sym (others q low other))
          (place-stays F G left (d + 1) (place_of e n ls q) (part cmp code d q E) (same q low other)
          (stands-at cmp code F left d l q E (place_of e n ls q) is (λ d' a b cs was. same-place-of F l d e n ls d' a b cs q row was) low)))

  -- a row with another thing at the position of a key, which stands for what is left of the entries there
  pub row-less : (F G : Forms K) (left d c l m e n : ℕ) (ls : List ℕ) (e' n' : ℕ) (ls' : List ℕ) (E : List (Entry K)) (key : K) → ((j k : K) → cmp j k ≡ Equal → code j ≡ code k) → c ≡ code key
      → IsTrie cmp code F (suc left) d l E → IsRow F l d e n ls → IsRow G m d e' n' ls' → ((q : ℕ) → q < 32 → q ≢ digit_at c d → place_of e' n' ls' q ≡ place_of e n ls q)
      → ((q : ℕ) → q < 32 → q ≢ digit_at c d → (s : ℕ) → links_at_place (place_of e n ls q) ≡ s ∷ [] → SameBelow (links_in F) F G s)
      → IsPlace G (λ k P. IsTrie cmp code G left (d + 1) k P) (place_of e' n' ls' (digit_at c d)) (others cmp key (part cmp code d (digit_at c d) E)) → IsTrie cmp code G (suc left) d m (others cmp key E)
  row-less F G left d c l m e n ls e' n' ls' E key equal_codes is_code is row new elsewhere same stands =
      row-trie cmp code G left d m e' n' ls' (others cmp key E) new (λ q low. by_position q low (cases_eq q (digit_at c d)))
    where
      by_position : (q : ℕ) → q < 32 → (q ≡ digit_at c d) ⊎ (q ≡ digit_at c d → ⊥) → IsPlace G (λ k P. IsTrie cmp code G left (d + 1) k P) (place_of e' n' ls' q) (part cmp code d q (others cmp key E))
      by_position q low (inl at) =
          subst (λ r. IsPlace G (λ k P. IsTrie cmp code G left (d + 1) k P) (place_of e' n' ls' r) (part cmp code d r (others cmp key E))) (sym at)
          (subst (λ P. IsPlace G (λ k P. IsTrie cmp code G left (d + 1) k P) (place_of e' n' ls' (digit_at c d)) P) (sym (part-others cmp code d (digit_at c d) key E)) stands)
      by_position q low (inr other) =
          let away : digit_at (code key) d ≢ q = λ at. other (sym at ∙ ap (λ x. digit_at x d) (sym is_code)) in
          let rest : part cmp code d q (others cmp key E) ≡ part cmp code d q E = part-others cmp code d q key E ∙ others-elsewhere cmp code equal_codes d q key E away in
          subst (λ P. IsPlace G (λ k P. IsTrie cmp code G left (d + 1) k P) (place_of e' n' ls' q) P) (sym rest)
          (subst (λ at. IsPlace G (λ k P. IsTrie cmp code G left (d + 1) k P) at (part cmp code d q E)) (sym (elsewhere q low other))
          (place-stays F G left (d + 1) (place_of e n ls q) (part cmp code d q E) (same q low other)
          (stands-at cmp code F left d l q E (place_of e n ls q) is (λ d' a b cs was. same-place-of F l d e n ls d' a b cs q row was) low)))

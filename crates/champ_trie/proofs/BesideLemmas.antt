-- Tries that differ on the way of a code alone, with more rows beside them.
use Rattle.std.proofs.Common.{◌≡◌, ℕ, zero, suc, ◌<◌, List, Some, refl, sym, subst, ◌∙◌, arith}
use Rattle.std.specs.declared.cmp.Ordering.{Ordering}
use Rattle.elem_core.specs.Codes.{digit_at}
use Rattle.node_heap.specs.Forms.{Forms, node, trie}
use Rattle.champ_chain.specs.Entry.{Entry}
use Rattle.champ_chain.proofs.FrameLemmas.{KeepsForms}
use Rattle.champ_trie.specs.Trie.{IsPlace, IsTrie, part, place_of}
use Rattle.champ_trie.specs.Edit.{SharesBeside}
use Rattle.champ_trie.specs.declared.place.Place.{Place}
use Rattle.champ_trie.specs.declared.place.Place.TheVariants.{Node}
use Rattle.champ_trie.proofs.ShareLemmas.{same-node}

-- a digit is below 32
low-digit : (c d : ℕ) → digit_at c d < 32
low-digit c d = omega arith

-- one row has one place at each position
one-place : (d e n : ℕ) (ls : List ℕ) (d' e' n' : ℕ) (ls' : List ℕ) (q : ℕ) → {K : Type 0} (f : Forms K) (l : ℕ) → f l ≡ Some (node (trie d e n) ls) → f l ≡ Some (node (trie d' e' n') ls') → place_of e n ls q ≡ place_of e' n' ls' q
one-place d e n ls d' e' n' ls' q f l one two = let same : Some (node (trie d e n) ls) ≡ Some (node (trie d' e' n') ls') = sym one ∙ two in cc

module _ {K : Type 0} (cmp : K → K → Ordering) (code : K → ℕ) where
  -- the node at a place of a trie's row is a trie
  below-place : (F : Forms K) (left d p j : ℕ) (place : Place) (E : List (Entry K)) → place ≡ Node j → IsPlace F (λ k P. IsTrie cmp code F left (suc d) k P) place (part cmp code d p E) → IsTrie cmp code F left (suc d) j (part cmp code d p E)
  below-place F left d p j place E at stands = (subst (λ q. IsPlace F (λ k P. IsTrie cmp code F left (suc d) k P) q (part cmp code d p E)) at stands).1

  -- what a trie shares with one made where more rows stand, it shares with it
  pub shares-before : (F F' G : Forms K) → KeepsForms F' F → (c left d l m : ℕ) (E : List (Entry K)) → IsTrie cmp code F' left d l E → SharesBeside F G c left d l m → SharesBeside F' G c left d l m
  unfolding IsTrie SharesBeside
  shares-before F F' G keeps c zero d l m E is shares = tt
  shares-before F F' G keeps c (suc left) d l m E is shares =
      let alike = λ (q : ℕ). one-place d shares.entries shares.nodes shares.links d is.entries is.nodes is.links q F l shares.row.row (keeps.kept l _ is.row.row) in
      record {
        entries = is.entries;
        nodes = is.nodes;
        links = is.links;
        row = is.row;
        new_entries = shares.new_entries;
        new_nodes = shares.new_nodes;
        new_links = shares.new_links;
        new_row = shares.new_row;
        others = λ q low away. shares.others q low away ∙ alike q;
        next = λ j k at there. shares-before F F' G keeps c left (suc d) j k (part cmp code d (digit_at c d) E)
            (below-place F' left d (digit_at c d) j _ E at (is.places (digit_at c d) (low-digit c d))) (shares.next j k (alike (digit_at c d) ∙ at) there);
      }

  -- a trie that stays shares all with itself
  pub shares-itself : (F G : Forms K) → KeepsForms F G → (c left d l : ℕ) (E : List (Entry K)) → IsTrie cmp code F left d l E → SharesBeside F G c left d l l
  unfolding IsTrie SharesBeside
  shares-itself F G keeps c zero d l E is = tt
  shares-itself F G keeps c (suc left) d l E is = record {
    entries = is.entries;
    nodes = is.nodes;
    links = is.links;
    row = is.row;
    new_entries = is.entries;
    new_nodes = is.nodes;
    new_links = is.links;
    new_row = record { row = keeps.kept l _ is.row.row; sets = is.row.sets };
    others = λ q low away. refl;
    next = λ j k at there. subst (λ i. SharesBeside F G c left (suc d) j i) (same-node j k (sym at ∙ there))
        (shares-itself F G keeps c left (suc d) j (part cmp code d (digit_at c d) E) (below-place F left d (digit_at c d) j _ E at (is.places (digit_at c d) (low-digit c d))));
  }

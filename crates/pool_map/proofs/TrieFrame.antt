-- What a trie is doesn't depend on rows of vectors.
use Rattle.std.proofs.Common.{◌≡◌, ℕ, zero, suc, ◌+◌, false, List, [], ◌∷◌, refl, ap, ◌∙◌, Option, Some, None}
use Rattle.std.specs.declared.cmp.Ordering.{Ordering}
use Rattle.node_heap.specs.Forms.{Form, Forms, cell, node, leaf, inner, trie, chain, pair, state, value_of}
use Rattle.champ_chain.specs.Entry.{Entry, key_at, key_of, first_value}
use Rattle.champ_chain.specs.Chain.{AreChainRows, IsChain}
use Rattle.champ_trie.specs.declared.place.Place.{Place}
use Rattle.champ_trie.specs.declared.place.Place.TheVariants.{Entry as At, Node, Empty}
use Rattle.champ_trie.specs.Trie.{IsPlace, IsTrie, IsCanonTo, place_of, part}
use Rattle.pool_carry.proofs.OwnVectors.{is_of_vector}

-- every row of F that is none of a vector is there in G
pub record KeepsOthers {K : Type 0} (F G : Forms K) : Type 0 where
  pub kept : (l : ℕ) (row : Form K) → F l ≡ Some row → is_of_vector row ≡ false → G l ≡ Some row

module _ {K : Type 0} (F G : Forms K) (keeps : KeepsOthers F G) where
  value-kept : (l : ℕ) (x : K) → value_of (F l) ≡ Some x → value_of (G l) ≡ Some x
  value-kept l x is = by_form (F l) refl is
    where
      by_form : (r : Option (Form K)) → F l ≡ r → value_of r ≡ Some x → value_of (G l) ≡ Some x
      by_form None e is = cc
      by_form (Some (cell y)) e is = ap value_of (keeps.kept l (cell y) e refl) ∙ is
      by_form (Some (node kind links)) e is = cc

  pub key-kept : (l : ℕ) (k : K) → key_at F l ≡ Some k → key_at G l ≡ Some k
  key-kept l k is = by_form (F l) refl is
    where
      by_links : (links : List ℕ) → first_value F links ≡ Some k → first_value G links ≡ Some k
      by_links [] is = cc
      by_links (j ∷ js) is = value-kept j k is

      by_form : (r : Option (Form K)) → F l ≡ r → key_of F r ≡ Some k → key_of G (G l) ≡ Some k
      by_form None e is = cc
      by_form (Some (cell y)) e is = ap (key_of G) (keeps.kept l (cell y) e refl) ∙ is
      by_form (Some (node leaf links)) e is = cc
      by_form (Some (node (inner height) links)) e is = cc
      by_form (Some (node (trie d s n) links)) e is = cc
      by_form (Some (node chain links)) e is = cc
      by_form (Some (node pair links)) e is = ap (key_of G) (keeps.kept l (node pair links) e refl) ∙ by_links links is
      by_form (Some (node state links)) e is = cc

  rows-kept : (l : Option ℕ) (es : List (Entry K)) → AreChainRows F l es → AreChainRows G l es
  unfolding AreChainRows
  rows-kept l [] rows = rows
  rows-kept l (e ∷ es) rows = record {
    link = rows.link;
    next = rows.next;
    here = rows.here;
    row = keeps.kept rows.link _ rows.row refl;
    key = key-kept e.link e.key rows.key;
    rest = rows-kept rows.next es rows.rest;
  }

  module _ (cmp : K → K → Ordering) (code : K → ℕ) where
    chain-kept : (l : ℕ) (E : List (Entry K)) → IsChain cmp F l E → IsChain cmp G l E
    chain-kept l E c = record { entries = c.entries; rows = rows-kept (Some l) c.entries c.rows; rising = c.rising; same = c.same; two = c.two }

    place-over : (B C : ℕ → List (Entry K) → Type 0) → ((l : ℕ) (P : List (Entry K)) → B l P → C l P) → (place : Place) (E : List (Entry K)) → IsPlace F B place E → IsPlace G C place E
    place-over B C below Empty E is = is
    place-over B C below (At x) E is = (is.0, is.1, key-kept x is.0 is.2)
    place-over B C below (Node l) E is = (is.0, below l E is.1)

    trie-kept : (left d l : ℕ) (E : List (Entry K)) → IsTrie cmp code F left d l E → IsTrie cmp code G left d l E
    unfolding IsTrie
    trie-kept zero d l E is = chain-kept l E is
    trie-kept (suc left) d l E is = record {
      entries = is.entries;
      nodes = is.nodes;
      links = is.links;
      row = record { row = keeps.kept l _ is.row.row refl; sets = is.row.sets };
      places = λ p low. place-over (λ k P. IsTrie cmp code F left (suc d) k P) (λ k P. IsTrie cmp code G left (suc d) k P) (λ k P below. trie-kept left (suc d) k P below)
          (place_of is.entries is.nodes is.links p) (part cmp code d p E) (is.places p low);
    }

    pub canon-kept : (deepest root : ℕ) (E : List (Entry K)) → IsCanonTo cmp code deepest F root E → IsCanonTo cmp code deepest G root E
    canon-kept deepest root E canon = record { trie = trie-kept (deepest + 1) 0 root E canon.trie; distinct = canon.distinct }

-- A canonical trie is that of its entries in any order.
use Rattle.std.proofs.Common.{◌≡◌, ℕ, zero, suc, ◌+◌, List, length, ap, subst, arith, Ordering}
use Rattle.std.proofs.lemmas.List.{nil_from_length}
use Rattle.node_heap.specs.Forms.{Forms}
use Rattle.champ_chain.specs.Entry.{Entry, entry, SameSet, same_through, AreDistinct}
use Rattle.champ_chain.proofs.SetLemmas.{same-length, same-filter, same-one}
use Rattle.champ_trie.specs.Trie.{IsPlace, IsTrie, IsCanonTo, part, place_of}
use Rattle.champ_trie.specs.declared.place.Place.{Place}
use Rattle.champ_trie.specs.declared.place.Place.TheVariants.{Entry as At, Node, Empty}

module _ {K : Type 0} (cmp : K → K → Ordering) (code : K → ℕ) (F : Forms K) where
  place-order : (left depth : ℕ) → ((k : ℕ) (P Q : List (Entry K)) → SameSet P Q → IsTrie cmp code F left (suc depth) k P → IsTrie cmp code F left (suc depth) k Q)
      → (q : Place) (P Q : List (Entry K)) → SameSet P Q → IsPlace F (λ k X. IsTrie cmp code F left (suc depth) k X) q P → IsPlace F (λ k X. IsTrie cmp code F left (suc depth) k X) q Q
  place-order left depth again Empty P Q same stands = nil_from_length Q (let size : List (Entry K) → ℕ = length in omega (arith, same-length P Q same, ap size stands))
  place-order left depth again (At x) P Q same stands = (stands.0, same-one (entry stands.0 x) Q (subst (λ xs. SameSet xs Q) stands.1 same), stands.2)
  place-order left depth again (Node k) P Q same stands = (omega (arith, stands.0, same-length P Q same), again k P Q same stands.1)

  trie-order : (left depth l : ℕ) (E D : List (Entry K)) → SameSet E D → IsTrie cmp code F left depth l E → IsTrie cmp code F left depth l D
  unfolding IsTrie
  trie-order zero depth l E D same is = record {
    entries = is.entries;
    rows = is.rows;
    rising = is.rising;
    same = same_through _ _ _ is.same same;
    two = omega (arith, is.two, same-length E D same);
  }
  trie-order (suc left) depth l E D same is = record {
    entries = is.entries;
    nodes = is.nodes;
    links = is.links;
    row = is.row;
    places = λ p small. place-order left depth (λ k P Q s t. trie-order left (suc depth) k P Q s t) (place_of is.entries is.nodes is.links p) (part cmp code depth p E) (part cmp code depth p D) (same-filter _ E D same) (is.places p small);
  }

  -- whatever the order in which the entries of each are listed
  pub canon-order : (deepest l : ℕ) (E D : List (Entry K)) → SameSet E D → IsTrie cmp code F (suc deepest) 0 l E → AreDistinct cmp D → IsCanonTo cmp code deepest F l D
  canon-order deepest l E D same trie distinct =
      let levels : suc deepest ≡ deepest + 1 = omega arith in
      record { trie = subst (λ n. IsTrie cmp code F n 0 l D) levels (trie-order (suc deepest) 0 l E D same trie); distinct = distinct }

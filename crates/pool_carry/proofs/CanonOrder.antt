-- A canonical trie takes its entries in any order, whatever the codes and the deepest depth, and has a trie row at its root.
use Rattle.std.proofs.Common.{◌≡◌, ℕ, zero, suc, ◌+◌, List, Some, length, ap, subst, arith}
use Rattle.std.specs.Ordering.{nat_cmp}
use Rattle.std.specs.Cmp.Lexicographic.{slice_cmp, nat_list_cmp_total}
use Rattle.std.proofs.lemmas.List.{nil_from_length}
use Rattle.node_heap.specs.Forms.{Forms, node, trie}
use Rattle.champ_chain.specs.Entry.{Entry, entry, SameSet, same_through}
use Rattle.champ_chain.proofs.SetLemmas.{same-length, same-filter, same-one}
use Rattle.champ_chain.proofs.RisingLemmas.{same-distinct}
use Rattle.champ_trie.specs.Trie.{IsPlace, IsTrie, IsCanonTo, place_of, part}
use Rattle.champ_trie.specs.declared.place.Place.{Place}
use Rattle.champ_trie.specs.declared.place.Place.TheVariants.{Entry as At, Node, Empty}
use Rattle.pool_text.specs.Rows.{Bytes}

module _ (code : Bytes → ℕ) (F : Forms Bytes) where
  abbrev Below : ℕ → ℕ → ℕ → List (Entry Bytes) → Type 0
  Below left depth k E = IsTrie (slice_cmp nat_cmp) code F left (suc depth) k E

  place-order : (left depth : ℕ) → ((k : ℕ) (E D : List (Entry Bytes)) → SameSet E D → Below left depth k E → Below left depth k D) → (q : Place) (E D : List (Entry Bytes)) → SameSet E D
      → IsPlace F (Below left depth) q E → IsPlace F (Below left depth) q D
  place-order left depth again Empty E D same stands = nil_from_length D (let size : List (Entry Bytes) → ℕ = length in omega (arith, same-length E D same, ap size stands))
  place-order left depth again (At x) E D same stands = (stands.0, same-one (entry stands.0 x) D (subst (λ es. SameSet es D) stands.1 same), stands.2)
  place-order left depth again (Node k) E D same stands = (omega (arith, stands.0, same-length E D same), again k E D same stands.1)

  pub trie-order : (left depth l : ℕ) (E D : List (Entry Bytes)) → SameSet E D → IsTrie (slice_cmp nat_cmp) code F left depth l E → IsTrie (slice_cmp nat_cmp) code F left depth l D
  unfolding IsTrie
  trie-order zero depth l E D same is = record {
    entries = is.entries;
    rows = is.rows;
    rising = is.rising;
    same = same_through _ _ _ is.same same;
    two = omega (arith, is.two, same-length E D same);
  }
  trie-order (suc left) depth l E D same is = record {
    entries = is.entries;
    nodes = is.nodes;
    links = is.links;
    row = is.row;
    places = λ p small.
        place-order left depth (trie-order left (suc depth)) (place_of is.entries is.nodes is.links p) (part (slice_cmp nat_cmp) code depth p E) (part (slice_cmp nat_cmp) code depth p D)
        (same-filter _ E D same) (is.places p small);
  }

  -- the canonical trie of entries is that of the same entries in another order
  pub canon-order : (deepest l : ℕ) (E D : List (Entry Bytes)) → SameSet E D → IsCanonTo (slice_cmp nat_cmp) code deepest F l E → IsCanonTo (slice_cmp nat_cmp) code deepest F l D
  canon-order deepest l E D same canon = record {
    trie = trie-order (deepest + 1) 0 l E D same canon.trie;
    distinct = same-distinct (slice_cmp nat_cmp) nat_list_cmp_total E D same canon.distinct;
  }

  row-of-trie : (left depth l : ℕ) (E : List (Entry Bytes)) → IsTrie (slice_cmp nat_cmp) code F (suc left) depth l E → (e : ℕ) × (n : ℕ) × (links : List ℕ) × (F l ≡ Some (node (trie depth e n) links))
  unfolding IsTrie
  row-of-trie left depth l E is = (is.entries, is.nodes, is.links, is.row.row)

  -- the root of a canonical trie is a trie row of depth 0
  pub root-row : (deepest l : ℕ) (E : List (Entry Bytes)) → IsCanonTo (slice_cmp nat_cmp) code deepest F l E → (e : ℕ) × (n : ℕ) × (links : List ℕ) × (F l ≡ Some (node (trie 0 e n) links))
  root-row deepest l E canon =
      let levels : deepest + 1 ≡ suc deepest = omega arith in
      row-of-trie deepest 0 l E (subst (λ n. IsTrie (slice_cmp nat_cmp) code F n 0 l E) levels canon.trie)

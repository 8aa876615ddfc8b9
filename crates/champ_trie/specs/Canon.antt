-- What a canonical trie depends on.
use Rattle.std.specs.Prelude.{◌≡◌, ℕ, List, map}
use Rattle.std.specs.List.{All, AllZip}
use Rattle.std.specs.declared.cmp.Ordering.{Ordering}
use Rattle.std.specs.declared.cmp.Ordering.TheVariants.{Equal}
use Rattle.node_heap.specs.Forms.{Forms, Tree, trees_of, IsTree, AreTrees, SimilarTree}
use Rattle.champ_chain.specs.Entry.{Entry, IsEntry, SameSet}
use Rattle.champ_trie.specs.Trie.{IsCanon}
use Rattle.champ_trie.specs.Walk.{tree_entries}

module _ {K : Type 0} where
  -- the entries unfold to these trees, one by one
  abbrev pub HaveTrees : Forms K → List (Entry K) → List (Tree K) → Type 0
  HaveTrees F E ts = AreTrees F (map (λ e. e.link) E) (trees_of ts)

  module _ (cmp : K → K → Ordering) where
    -- the trees are equal but for the values of their cells, which the order calls equal
    abbrev pub SimilarByOrder : Tree K → Tree K → Type 0
    SimilarByOrder t u = SimilarTree (λ x y. cmp x y ≡ Equal) t u

    -- the trees of the first list, in turn, are similar to those of the second in some order
    abbrev pub MatchOneToOne : List (Tree K) → List (Tree K) → Type 0
    MatchOneToOne ts us = (vs : List (Tree K)) × SameSet vs us × AllZip SimilarByOrder ts vs

  module _ (cmp : K → K → Ordering) (code : K → ℕ) where
    -- tries of the same entries unfold to the same tree
    abbrev pub TrieFollowsEntries : Type 0
    TrieFollowsEntries =
        (F : Forms K) (l m : ℕ) (E D : List (Entry K)) (t : Tree K) → SameSet E D → IsCanon cmp code F l E → IsCanon cmp code F m D → IsTree F l t → IsTree F m t

    -- tries of entries that unfold to the same trees unfold to the same tree, in whatever forms each stands
    abbrev pub TrieFollowsTrees : Type 0
    TrieFollowsTrees =
        (F G : Forms K) (l m : ℕ) (E D : List (Entry K)) (ts us : List (Tree K)) (t : Tree K) → SameSet ts us → HaveTrees F E ts → HaveTrees G D us
        → IsCanon cmp code F l E → IsCanon cmp code G m D → IsTree F l t → IsTree G m t

    -- tries with the same entries, as trees and in any order, unfold to equal trees
    abbrev pub EntriesTellTheTree : Type 0
    EntriesTellTheTree =
        (F G : Forms K) (l m : ℕ) (E D : List (Entry K)) (t u : Tree K) → IsCanon cmp code F l E → IsCanon cmp code G m D → IsTree F l t → IsTree G m u → SameSet (tree_entries t) (tree_entries u) → t ≡ u

    -- tries whose entries, as trees, are similar one to one and in any order unfold to similar trees
    abbrev pub SimilarEntriesTellSimilarTrees : Type 0
    SimilarEntriesTellSimilarTrees =
        (F G : Forms K) (l m : ℕ) (E D : List (Entry K)) (t u : Tree K) → IsCanon cmp code F l E → IsCanon cmp code G m D → IsTree F l t → IsTree G m u → MatchOneToOne cmp (tree_entries t) (tree_entries u) → SimilarByOrder cmp t u

    -- a trie has one set of entries
    abbrev pub TrieHasOneSet : Type 0
    TrieHasOneSet = (F : Forms K) (l : ℕ) (E D : List (Entry K)) → IsCanon cmp code F l E → IsCanon cmp code F l D → SameSet E D

    -- the trie of a set is that of the set in any order
    abbrev pub TrieTakesAnyOrder : Type 0
    TrieTakesAnyOrder = (F : Forms K) (l : ℕ) (E D : List (Entry K)) → SameSet E D → IsCanon cmp code F l E → IsCanon cmp code F l D

    -- each entry of a trie names its key
    abbrev pub TrieNamesKeys : Type 0
    TrieNamesKeys = (F : Forms K) (l : ℕ) (E : List (Entry K)) → IsCanon cmp code F l E → All (IsEntry F) E

-- Tries whose entries are similar one to one.
use Rattle.std.proofs.Common.{◌≡◌, ℕ, List, map, sym, subst, Some, None}
use Rattle.std.specs.List.{AllZip}
use Rattle.std.specs.Cmp.{IsTotalOrder}
use Rattle.std.specs.declared.cmp.Ordering.{Ordering}
use Rattle.std.specs.declared.cmp.Ordering.TheVariants.{Equal}
use Rattle.elem_core.specs.declared.codes.TheConstants.{LEVELS}
use Rattle.node_heap.specs.Forms.{Forms, node, Kind, Tree, Trees, tree_node, tree_then, IsTree, AreTrees, SimilarTree, SimilarTrees, similar_cut, similar_cell, similar_node, similar_none, similar_then, are_none, are_then}
use Rattle.node_heap.proofs.Trees.{IsTree-unique}
use Rattle.champ_chain.specs.Entry.{Entry, SameSet, same_through}
use Rattle.champ_chain.proofs.SetLemmas.{same-sym, Among, same-among}
use Rattle.champ_trie.specs.Trie.{IsCanon}
use Rattle.champ_trie.specs.Walk.{tree_entries}
use Rattle.champ_trie.specs.Canon.{SimilarEntriesTellSimilarTrees}
use Rattle.champ_trie.proofs.GatherLemmas.{same-map}
use Rattle.champ_trie.proofs.WalkLemmas.{trie-entries}
use Rattle.champ_trie.proofs.CanonLemmas.{Match, AreMatched, tries-match, IsPlanted, matches, same-lift, tree-inside, Planted, plant, tree_key, key-tree, among-map}
use Rattle.champ_trie.proofs.TreeLemmas.{in-order}

module _ {K : Type 0} (Similar : K → K → Type 0) where
  -- the links unfold to similar trees alone
  abbrev UnfoldSimilar : Forms K → Forms K → ℕ → ℕ → Type 0
  UnfoldSimilar F G l m = (t u : Tree K) → IsTree F l t → IsTree G m u → SimilarTree Similar t u

  trees-similar : (F G : Forms K) (ls ks : List ℕ) (ts us : Trees K) → AllZip (UnfoldSimilar F G) ls ks → AreTrees F ls ts → AreTrees G ks us → SimilarTrees Similar ts us
  trees-similar F G xs ys ts us zip are_none are_none = similar_none
  trees-similar F G xs ys ts us zip are_none (are_then k u ks more is are) = absurd zip
  trees-similar F G xs ys ts us zip (are_then l t ls rest is are) are_none = absurd zip
  trees-similar F G xs ys ts us zip (are_then l t ls rest is are) (are_then k u ks more at others) = similar_then t u rest more (zip.0 t u is at) (trees-similar F G ls ks rest more zip.1 are others)

  row-similar : (F G : Forms K) (l m : ℕ) (kind : Kind) (ls ks : List ℕ) → F l ≡ Some (node kind ls) → G m ≡ Some (node kind ks) → AllZip (UnfoldSimilar F G) ls ks → UnfoldSimilar F G l m
  row-similar F G l m kind ls ks here there zip t u is at =
      let first = tree-inside F l t kind ls here is in
      let second = tree-inside G m u kind ks there at in
      subst (λ x. SimilarTree Similar x u) (sym first.1) (subst (λ y. SimilarTree Similar (tree_node kind first.0) y) (sym second.1) (similar_node kind first.0 second.0 (trees-similar F G ls ks first.0 second.0 zip first.2 second.2)))

  same-values : (x y j k : K) → Similar x y → Some x ≡ Some j → Some y ≡ Some k → Similar j k
  same-values x y j k similar e f = let first : x ≡ j = cc in let second : y ≡ k = cc in subst (λ n. Similar j n) second (subst (λ n. Similar n y) first similar)

  -- similar trees of entries have similar keys
  keys-similar : (t u : Tree K) (j k : K) → SimilarTree Similar t u → tree_key t ≡ Some j → tree_key u ≡ Some k → Similar j k
  keys-similar a b j k similar_cut e f = absurd (let none : None ≡ Some j = e in cc)
  keys-similar a b j k (similar_cell x y similar) e f = same-values x y j k similar e f
  keys-similar a b j k (similar_node kind ts us are) e f = by_first ts us are e f
    where
      by_tree : (t u : Tree K) (ts us : Trees K) → SimilarTree Similar t u → tree_key (tree_node kind (tree_then t ts)) ≡ Some j → tree_key (tree_node kind (tree_then u us)) ≡ Some k → Similar j k
      by_tree _ _ ts us similar_cut e f = absurd (let none : None ≡ Some j = e in cc)
      by_tree _ _ ts us (similar_cell x y similar) e f = same-values x y j k similar e f
      by_tree _ _ ts us (similar_node kind' ts' us' are') e f = absurd (let none : None ≡ Some j = e in cc)

      by_first : (ts us : Trees K) → SimilarTrees Similar ts us → tree_key (tree_node kind ts) ≡ Some j → tree_key (tree_node kind us) ≡ Some k → Similar j k
      by_first _ _ similar_none e f = absurd (let none : None ≡ Some j = e in cc)
      by_first _ _ (similar_then t u ts us first rest) e f = by_tree t u ts us first e f

module _ {K : Type 0} (cmp : K → K → Ordering) (code : K → ℕ) (o : IsTotalOrder cmp) (equal_codes : (x y : K) → cmp x y ≡ Equal → code x ≡ code y) where
  abbrev EqualKeys : K → K → Type 0
  EqualKeys x y = cmp x y ≡ Equal

  module _ (F G : Forms K) where
    -- entries that unfold to similar trees
    abbrev AreSimilar : Match K → Type 0
    AreSimilar w = AreMatched cmp code o F G (UnfoldSimilar EqualKeys F G) (row-similar EqualKeys F G) w

    similar-match : (z y : Planted K) → SimilarTree EqualKeys z.tree y.tree → IsPlanted F z → IsPlanted G y → AreSimilar (record { first = z.of; second = y.of })
    similar-match z y similar here there =
        let keys : EqualKeys z.of.key y.of.key = keys-similar EqualKeys z.tree y.tree z.of.key y.of.key similar (key-tree F z.of.link z.of.key z.tree here.0 here.1) (key-tree G y.of.link y.of.key y.tree there.0 there.1) in (
          keys,
          equal_codes _ _ keys,
          λ t u is at. subst (λ a. SimilarTree EqualKeys a u) (IsTree-unique F z.of.link z.tree t here.1 is) (subst (λ b. SimilarTree EqualKeys z.tree b) (IsTree-unique G y.of.link y.tree u there.1 at) similar),
        )

  -- the entries of a trie in the order of the walk, each beside its tree
  planted : (F : Forms K) (l : ℕ) (E : List (Entry K)) (t : Tree K) → IsCanon cmp code F l E → IsTree F l t
      → (Z : List (Planted K)) × SameSet (map (λ z. z.of) Z) E × (map (λ z. z.tree) Z ≡ tree_entries t) × ((z : Planted K) → Among z Z → IsPlanted F z)
  planted F l E t canon is =
      let walked = in-order cmp code o F l E t canon is in
      let beside = plant F walked.0 (tree_entries t) walked.2 in
      let same : SameSet (map (λ z. z.of) beside.0) E = subst (λ xs. SameSet xs E) (sym beside.1) (same-sym _ _ walked.1) in
      (beside.0, same, beside.2, λ z i. (trie-entries cmp code F LEVELS 0 l E canon.trie z.of (same-among z.of (map (λ z. z.of) beside.0) E same (among-map (λ (y : Planted K). y.of) z beside.0 i)), beside.3 z i))

  pub similar-entries-tell : SimilarEntriesTellSimilarTrees cmp code
  similar-entries-tell F G l m E D t u here there is at similar =
      let first = planted F l E t here is in
      let second = planted G m D u there at in
      let lift = same-lift (λ (z : Planted K). z.tree) second.0 (tree_entries u) similar.0 second.2 (same-sym _ _ similar.1) in
      let both = matches F G (SimilarTree EqualKeys) (λ w. AreSimilar F G w) (similar-match F G) first.0 lift.0 (subst (λ xs. AllZip (SimilarTree EqualKeys) xs (map (λ z. z.tree) lift.0)) (sym first.2) (subst (λ ys. AllZip (SimilarTree EqualKeys) (tree_entries t) ys) (sym lift.2) similar.2)) first.3 (λ z i. second.3 z (same-among z lift.0 second.0 (same-sym _ _ lift.1) i)) in
      tries-match cmp code o F G (UnfoldSimilar EqualKeys F G) (row-similar EqualKeys F G) LEVELS 0 l m both.0 E D
      (subst (λ xs. SameSet xs E) (sym both.1) first.1)
      (subst (λ xs. SameSet xs D) (sym both.2) (same_through _ _ _ (same-map (λ z. z.of) lift.0 second.0 (same-sym _ _ lift.1)) second.1))
      both.3 here.trie there.trie t u is at

-- What a map or a set unfolds to follows from its contents.
use Rattle.std.proofs.Common.{◌≡◌, ℕ, List, [], ◌∷◌, refl, ap, sym, subst, ◌∙◌, Some}
use Rattle.std.specs.Prelude.{map}
use Rattle.std.specs.List.{All, AllZip}
use Rattle.std.proofs.lemmas.List.Elements.{All-head, All-tail}
use Rattle.std.specs.Cmp.{IsTotalOrder}
use Rattle.std.specs.declared.cmp.Ordering.{Ordering}
use Rattle.std.specs.declared.cmp.Ordering.TheVariants.{Equal}
use Rattle.elem_core.specs.Codes.{masked_code}
use Rattle.node_heap.specs.Forms.{Forms, Tree, IsTree, is_cell_tree, is_node_tree, are_none, are_then, similar_cell, similar_node, similar_none, similar_then, cell, node, pair, tree_cell, tree_node, tree_then, no_trees, trees_of}
use Rattle.node_heap.specs.Heap.{Heap, form_at}
use Rattle.node_heap.proofs.Trees.{IsTree-unique}
use Rattle.champ_chain.specs.Entry.{Entry, SameSet, same_through}
use Rattle.champ_chain.proofs.SetLemmas.{same-sym}
use Rattle.champ_trie.specs.Canon.{HaveTrees, SimilarByOrder, MatchOneToOne}
use Rattle.champ_trie.specs.Trie.{IsTrieOf}
use Rattle.champ_trie.specs.Walk.{tree_entries}
use Rattle.champ_trie.proofs.GatherLemmas.{same-map}
use Rattle.champ_trie.proofs.CanonLemmas.{has-one-set, takes-any-order, follows-trees, trees-inside, trees-none, same-lift}
use Rattle.champ_trie.proofs.TreeLemmas.{in-order}
use Rattle.champ_trie.proofs.SimilarLemmas.{similar-entries-tell}
use Rattle.champ_kinds.specs.Root.{Root}
use Rattle.champ_kinds.specs.Binding.{Binding, TreeBinding, binding, Unfolds, IsSimilarBinding}
use Rattle.champ_kinds.specs.Kinds.{IsKeyCell, IsPair, HasEntries}
use Rattle.champ_kinds.specs.Laws.{RootHasOneMap, MapTakesAnyOrder, RootHasOneSet, SetTakesAnyOrder, EqualMapsHaveEqualTrees, SimilarMapsHaveSimilarTrees, EqualTreesAreOfOneMap, EqualTreesAreOfOneSet, EqualSetsHaveEqualTrees, SimilarSetsHaveSimilarTrees}
use Rattle.champ_kinds.proofs.ZipLemmas.{all-turned, zip-flip, zip-unique, zip-follows, one-to-one-turned, one-to-one-map}

-- the tree of an entry with this binding
abbrev pair_tree : {K : Type 0} → TreeBinding K → Tree K
pair_tree b = tree_node pair (tree_then (tree_cell b.key) (tree_then b.tree no_trees))

pair-similar : {K : Type 0} (cmp : K → K → Ordering) (b c : TreeBinding K) → IsSimilarBinding cmp b c → SimilarByOrder cmp (pair_tree b) (pair_tree c)
pair-similar cmp b c is = similar_node pair _ _ (similar_then _ _ _ _ (similar_cell b.key c.key is.key) (similar_then _ _ _ _ is.tree similar_none))

pair_tree-once : {K : Type 0} (b c : TreeBinding K) → pair_tree b ≡ pair_tree c → b ≡ c
pair_tree-once {K = K} b c same =
    let keys : b.key ≡ c.key = cc in
    let trees : b.tree ≡ c.tree = cc in
    let both : K → Tree K → TreeBinding K = λ k t. record { key = k; tree = t } in
    ap (λ k. both k b.tree) keys ∙ ap (λ t. both c.key t) trees

cell-once : {K : Type 0} (j k : K) → tree_cell j ≡ tree_cell k → j ≡ k
cell-once j k same = cc

map-once : {X Y : Type 0} (f : X → Y) → ((x y : X) → f x ≡ f y → x ≡ y) → (xs ys : List X) → map f xs ≡ map f ys → xs ≡ ys
map-once f one [] [] same = refl
map-once f one [] (y ∷ ys) same = absurd (cc)
map-once f one (x ∷ xs) [] same = absurd (cc)
map-once f one (x ∷ xs) (y ∷ ys) same =
    let first : f x ≡ f y = cc in
    let rest : map f xs ≡ map f ys = cc in
    ap (λ z. z ∷ xs) (one x y first) ∙ ap (λ zs. y ∷ zs) (map-once f one xs ys rest)

module _ {K : Type 0} (F : Forms K) where
  -- an entry has one binding
  pub pair-once : (e : Entry K) (b c : Binding K) → IsPair F e b → IsPair F e c → b ≡ c
  pair-once e b c one two =
      let rows : Some (node pair (one.key_cell ∷ b.value ∷ [])) ≡ Some (node pair (two.key_cell ∷ c.value ∷ [])) = sym one.row ∙ two.row in
      let values : b.value ≡ c.value = cc in
      let keys : b.key ≡ c.key = one.key ∙ sym two.key in
      ap (λ k. binding k b.value) keys ∙ ap (λ v. binding c.key v) values

  pair-unfolds : (e : Entry K) (b : Binding K) (t : TreeBinding K) → IsPair F e b → Unfolds F b t → IsTree F e.link (pair_tree t)
  pair-unfolds e b t p u =
      is_node_tree e.link pair (p.key_cell ∷ b.value ∷ []) _ p.row
      (are_then p.key_cell (tree_cell t.key) _ _ (is_cell_tree p.key_cell t.key (p.cell ∙ ap (λ k. Some (cell k)) (sym p.key ∙ u.key))) (are_then b.value t.tree [] no_trees u.tree are_none))

  pub pairs-unfold : (E : List (Entry K)) (M : List (Binding K)) (ts : List (TreeBinding K)) → AllZip (IsPair F) E M → AllZip (Unfolds F) M ts → HaveTrees F E (map pair_tree ts)
  pairs-unfold [] [] [] pairs us = are_none
  pairs-unfold [] [] (t ∷ ts) pairs us = absurd us
  pairs-unfold [] (b ∷ bs) ts pairs us = absurd pairs
  pairs-unfold (e ∷ es) [] ts pairs us = absurd pairs
  pairs-unfold (e ∷ es) (b ∷ bs) [] pairs us = absurd us
  pairs-unfold (e ∷ es) (b ∷ bs) (t ∷ ts) pairs us = are_then e.link (pair_tree t) _ _ (pair-unfolds e b t pairs.0 us.0) (pairs-unfold es bs ts pairs.1 us.1)

  -- cells of these keys
  pub have-cells : (E : List (Entry K)) (ks : List K) → map (λ e. e.key) E ≡ ks → All (IsKeyCell F) E → HaveTrees F E (map tree_cell ks)
  have-cells E ks are cells = subst (λ js. HaveTrees F E (map tree_cell js)) are (each E cells)
    where
      each : (E : List (Entry K)) → All (IsKeyCell F) E → HaveTrees F E (map tree_cell (map (λ e. e.key) E))
      each [] cells = are_none
      each (e ∷ es) cells = are_then e.link (tree_cell e.key) _ _ (is_cell_tree e.link e.key (All-head (IsKeyCell F) e es cells)) (each es (All-tail (IsKeyCell F) e es cells))

  -- trees of links, one by one
  trees-zip : (E : List (Entry K)) (ts : List (Tree K)) → HaveTrees F E ts → AllZip (λ e t. IsTree F e.link t) E ts
  trees-zip [] [] have = tt
  trees-zip [] (t ∷ ts) have = let bad : tree_then t (trees_of ts) ≡ no_trees = (trees-none F [] (trees_of (t ∷ ts)) have).0 refl in absurd cc
  trees-zip (e ∷ es) [] have = let bad : e.link ∷ map (λ d. d.link) es ≡ [] = (trees-none F (map (λ d. d.link) (e ∷ es)) no_trees have).1 refl in absurd cc
  trees-zip (e ∷ es) (t ∷ ts) have = let first = trees-inside F (map (λ d. d.link) (e ∷ es)) (trees_of (t ∷ ts)) e.link (map (λ d. d.link) es) t (trees_of ts) refl refl have in (first.0, trees-zip es ts first.1)

  -- entries in another order have their trees in that order
  trees-follow : (E D : List (Entry K)) (ts us : List (Tree K)) → SameSet E D → HaveTrees F E ts → HaveTrees F D us → SameSet ts us
  trees-follow E D ts us same have also =
      let IsOf = λ (e : Entry K) (t : Tree K). IsTree F e.link t in
      let turned = zip-follows IsOf E D ts same (trees-zip E ts have) in
      subst (λ vs. SameSet ts vs) (zip-unique IsOf (λ e t u is at. IsTree-unique F e.link t u is at) D turned.0 us turned.2 (trees-zip D us also)) turned.1

module _ {T : Type 0} (cmp : T → T → Ordering) (code : T → ℕ) (o : IsTotalOrder cmp) (equal_codes : (j k : T) → cmp j k ≡ Equal → code j ≡ code k) where
  -- the trees of the entries are those in the root's tree
  entry-trees : (h : Heap T) (r : Root) (E : List (Entry T)) (ts : List (Tree T)) (t : Tree T) → HasEntries cmp code h r E → HaveTrees (form_at h) E ts → IsTree (form_at h) r.root t → SameSet ts (tree_entries t)
  entry-trees h r E ts t here have is =
      let walked = in-order cmp _ o (form_at h) r.root E t here.trie is in
      trees-follow (form_at h) E walked.0 ts (tree_entries t) walked.1 have walked.2

  module _ (h g : Heap T) (r s : Root) (E D : List (Entry T)) (ts us : List (Tree T)) (t u : Tree T) (bits : r.bits ≡ s.bits) (here : HasEntries cmp code h r E) (there : HasEntries cmp code g s D)
      (have : HaveTrees (form_at h) E ts) (also : HaveTrees (form_at g) D us) (is : IsTree (form_at h) r.root t) (at : IsTree (form_at g) s.root u) where
    there-too : IsTrieOf cmp code r.bits g s.root D
    there-too = subst (λ b. IsTrieOf cmp code b g s.root D) (sym bits) there.trie

    -- roots of entries with the same trees
    equal-roots : SameSet ts us → t ≡ u
    equal-roots same = IsTree-unique (form_at g) s.root t u (follows-trees cmp _ o (form_at h) (form_at g) r.root s.root E D ts us t same have also here.trie there-too is) at

    -- roots of entries with similar trees
    similar-roots : MatchOneToOne cmp ts us → SimilarByOrder cmp t u
    similar-roots go =
        similar-entries-tell cmp _ o (λ j k e. ap (λ n. masked_code n r.bits) (equal_codes j k e)) (form_at h) (form_at g) r.root s.root E D t u here.trie there-too is at
        (one-to-one-turned (SimilarByOrder cmp) ts (tree_entries t) us (tree_entries u) (entry-trees h r E ts t here have is) (entry-trees g s D us u there also at) go)

  pub root-one_map : RootHasOneMap cmp code
  root-one_map h r M N here there =
      let IsHere = IsPair (form_at h) in
      let turned = zip-follows IsHere here.entries there.entries M (has-one-set cmp _ o (form_at h) r.root here.entries there.entries here.rooted.trie there.rooted.trie) here.pairs in
      subst (λ L. SameSet M L) (zip-unique IsHere (pair-once (form_at h)) there.entries turned.0 N turned.2 there.pairs) turned.1

  pub map-any_order : MapTakesAnyOrder cmp code
  map-any_order h r M N same here =
      let IsHere = IsPair (form_at h) in
      let turned = zip-follows (λ b e. IsHere e b) M N here.entries same (zip-flip IsHere here.entries M here.pairs) in
      record {
        entries = turned.0;
        rooted = record { bits = here.rooted.bits; trie = takes-any-order cmp _ o (form_at h) r.root here.entries turned.0 turned.1 here.rooted.trie };
        pairs = zip-flip (λ b e. IsHere e b) N turned.0 turned.2;
      }

  pub root-one_set : RootHasOneSet cmp code
  root-one_set h r E D here there = has-one-set cmp _ o (form_at h) r.root E D here.rooted.trie there.rooted.trie

  pub set-any_order : SetTakesAnyOrder cmp code
  set-any_order h r E D same here = record {
    rooted = record { bits = here.rooted.bits; trie = takes-any-order cmp _ o (form_at h) r.root E D same here.rooted.trie };
    cells = all-turned (IsKeyCell (form_at h)) E D same here.cells;
  }

  pub equal-maps : EqualMapsHaveEqualTrees cmp code
  equal-maps h g r s bs cs t u bits here there same =
      equal-roots h g r s here.map.entries there.map.entries (map pair_tree bs) (map pair_tree cs) t u bits here.map.rooted there.map.rooted
      (pairs-unfold (form_at h) here.map.entries here.bindings bs here.map.pairs here.values) (pairs-unfold (form_at g) there.map.entries there.bindings cs there.map.pairs there.values) here.tree there.tree (same-map pair_tree bs cs same)

  pub similar-maps : SimilarMapsHaveSimilarTrees cmp code
  similar-maps h g r s bs cs t u bits here there go =
      similar-roots h g r s here.map.entries there.map.entries (map pair_tree bs) (map pair_tree cs) t u bits here.map.rooted there.map.rooted
      (pairs-unfold (form_at h) here.map.entries here.bindings bs here.map.pairs here.values) (pairs-unfold (form_at g) there.map.entries there.bindings cs there.map.pairs there.values) here.tree there.tree
      (one-to-one-map (IsSimilarBinding cmp) (SimilarByOrder cmp) pair_tree (λ b c is. pair-similar cmp b c is) bs cs go)

  pub equal-sets : EqualSetsHaveEqualTrees cmp code
  equal-sets h g r s js ks t u bits here there same =
      equal-roots h g r s here.entries there.entries (map tree_cell js) (map tree_cell ks) t u bits here.set.rooted there.set.rooted
      (have-cells (form_at h) here.entries js here.have here.set.cells) (have-cells (form_at g) there.entries ks there.have there.set.cells) here.tree there.tree (same-map tree_cell js ks same)

  pub similar-sets : SimilarSetsHaveSimilarTrees cmp code
  similar-sets h g r s js ks t u bits here there go =
      similar-roots h g r s here.entries there.entries (map tree_cell js) (map tree_cell ks) t u bits here.set.rooted there.set.rooted
      (have-cells (form_at h) here.entries js here.have here.set.cells) (have-cells (form_at g) there.entries ks there.have there.set.cells) here.tree there.tree
      (one-to-one-map (λ j k. cmp j k ≡ Equal) (SimilarByOrder cmp) tree_cell (λ j k is. similar_cell j k is) js ks go)

  -- what is in a tree alone is the same in two roots of one tree
  same-contents : {X : Type 0} (f : X → Tree T) → ((x y : X) → f x ≡ f y → x ≡ y) → (xs ys : List X) (ts : List (Tree T)) → SameSet (map f xs) ts → SameSet (map f ys) ts → SameSet xs ys
  same-contents f one xs ys ts here there =
      let lift = same-lift f xs (map f xs) (map f ys) refl (same_through _ _ _ here (same-sym _ _ there)) in
      subst (λ zs. SameSet xs zs) (map-once f one lift.0 ys lift.2) lift.1

  pub one-map : EqualTreesAreOfOneMap cmp code
  one-map h g r s bs cs t here there =
      same-contents pair_tree (λ b c same. pair_tree-once b c same) bs cs (tree_entries t)
      (entry-trees h r here.map.entries (map pair_tree bs) t here.map.rooted (pairs-unfold (form_at h) here.map.entries here.bindings bs here.map.pairs here.values) here.tree)
      (entry-trees g s there.map.entries (map pair_tree cs) t there.map.rooted (pairs-unfold (form_at g) there.map.entries there.bindings cs there.map.pairs there.values) there.tree)

  pub one-set : EqualTreesAreOfOneSet cmp code
  one-set h g r s js ks t here there =
      same-contents tree_cell (λ j k same. cell-once j k same) js ks (tree_entries t)
      (entry-trees h r here.entries (map tree_cell js) t here.set.rooted (have-cells (form_at h) here.entries js here.have here.set.cells) here.tree)
      (entry-trees g s there.entries (map tree_cell ks) t there.set.rooted (have-cells (form_at g) there.entries ks there.have there.set.cells) there.tree)

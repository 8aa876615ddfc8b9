-- The walk over a trie and the tree that the trie unfolds to.
use Rattle.std.proofs.Common.{◌≡◌, ℕ, zero, suc, ◌+◌, ◌≤◌, List, [], ◌∷◌, ◌++◌, length, take, drop, get_or, map, refl, ap, sym, subst, arith, Option, Some, append-nil}
use Rattle.std.specs.Prelude.{option_to_list}
use Rattle.std.specs.List.{All, flat_map}
use Rattle.std.proofs.lemmas.List.Concat.{flat_map-append}
use Rattle.std.proofs.lemmas.List.Elements.{All-head, All-tail, All-cons, All-nil}
use Rattle.std.specs.Cmp.{IsTotalOrder}
use Rattle.std.specs.declared.cmp.Ordering.{Ordering}
use Rattle.elem_core.specs.declared.codes.TheConstants.{LEVELS}
use Rattle.node_heap.proofs.Trees.{IsTree-unique}
use Rattle.node_heap.specs.Forms.{Form, Forms, Tree, Trees, no_trees, tree_then, trees_of, IsTree, AreTrees, is_cell_tree, is_node_tree, are_none, are_then}
use Rattle.champ_chain.specs.Entry.{Entry, SameSet}
use Rattle.champ_chain.specs.Chain.{AreChainRows}
use Rattle.champ_chain.proofs.SetLemmas.{same-length, same-sym}
use Rattle.champ_trie.specs.Trie.{IsTrie, IsCanon}
use Rattle.champ_trie.specs.Canon.{HaveTrees, EntriesTellTheTree}
use Rattle.champ_trie.specs.Walk.{entries_first, tree_entries, entries_among, own_entries, rows_below, rows_from, entries_of}
use Rattle.champ_trie.specs.Stack.{IsLayer}
use Rattle.champ_trie.proofs.WalkLemmas.{rows-all, trie-walk}
use Rattle.champ_trie.proofs.CanonLemmas.{trees-inside, trees-none, same-lift, takes-any-order, follows-trees}

module _ {K : Type 0} (F : Forms K) where
  trees-append : (xs ys : List ℕ) (ts us : List (Tree K)) → AreTrees F xs (trees_of ts) → AreTrees F ys (trees_of us) → AreTrees F (xs ++ ys) (trees_of (ts ++ us))
  trees-append [] ys [] us first second = second
  trees-append [] ys (t ∷ ts) us first second = absurd (let none : tree_then t (trees_of ts) ≡ no_trees = (trees-none F [] (tree_then t (trees_of ts)) first).0 refl in cc)
  trees-append (x ∷ xs) ys [] us first second = absurd (let none : x ∷ xs ≡ [] = (trees-none F (x ∷ xs) no_trees first).1 refl in cc)
  trees-append (x ∷ xs) ys (t ∷ ts) us first second =
      let inside = trees-inside F (x ∷ xs) (tree_then t (trees_of ts)) x xs t (trees_of ts) refl refl first in
      are_then x t (xs ++ ys) (trees_of (ts ++ us)) inside.0 (trees-append xs ys ts us inside.1 second)

  -- the first links are entries, and the others give these entries
  split-trees : (k : ℕ) (links more : List ℕ) (us : Trees K) → AreTrees F links us → ((vs : Trees K) → AreTrees F (drop k links) vs → AreTrees F more (trees_of (entries_among 0 vs))) → AreTrees F (take k links ++ more) (trees_of (entries_among k us))
  split-trees zero links more us are below = below us are
  split-trees (suc k) links more us are_none below = below no_trees are_none
  split-trees (suc k) links more us (are_then l t ls ts is are) below = are_then l t (take k ls ++ more) (trees_of (entries_among k ts)) is (split-trees k ls more ts are below)

  -- the entries from a row on, where those from the rows below it are known
  row-trees : (a l : ℕ) (t : Tree K) → IsTree F l t → ((vs : Trees K) → AreTrees F (rows_below (F l)) vs → AreTrees F (entries_of F (flat_map (rows_from a F) (rows_below (F l)))) (trees_of (entries_among 0 vs))) → AreTrees F (entries_of F (rows_from (suc a) F l)) (trees_of (tree_entries t))
  unfolding rows_from
  row-trees a x t (is_cell_tree l value row) below =
      let P : Option (Form K) → Type 0 = λ r. AreTrees F (own_entries r ++ entries_of F (flat_map (rows_from a F) (rows_below r))) no_trees in
      subst P (sym row) are_none
  row-trees a x t (is_node_tree l kind links us row are) below =
      let P : Option (Form K) → Type 0 = λ r. AreTrees F (own_entries r ++ entries_of F (flat_map (rows_from a F) (rows_below r))) (trees_of (entries_among (entries_first kind) us)) in
      let Q : Option (Form K) → Type 0 = λ r. (vs : Trees K) → AreTrees F (rows_below r) vs → AreTrees F (entries_of F (flat_map (rows_from a F) (rows_below r))) (trees_of (entries_among 0 vs)) in
      subst P (sym row) (split-trees (entries_first kind) links (entries_of F (flat_map (rows_from a F) (drop (entries_first kind) links))) us are (subst Q row below))

  -- the same of rows in turn
  list-trees : (a : ℕ) (rows : List ℕ) (ts : Trees K) → AreTrees F rows ts → All (λ l. (t : Tree K) → IsTree F l t → AreTrees F (entries_of F (rows_from a F l)) (trees_of (tree_entries t))) rows
      → AreTrees F (entries_of F (flat_map (rows_from a F) rows)) (trees_of (entries_among 0 ts))
  list-trees a rows ts are_none each = are_none
  list-trees a rows ts (are_then l t ls us is are) each =
      subst (λ xs. AreTrees F xs (trees_of (tree_entries t ++ entries_among 0 us))) (sym (flat_map-append (λ k. own_entries (F k)) (rows_from a F l) (flat_map (rows_from a F) ls)))
      (trees-append (entries_of F (rows_from a F l)) (entries_of F (flat_map (rows_from a F) ls)) (tree_entries t) (entries_among 0 us)
      (All-head (λ l. (t : Tree K) → IsTree F l t → AreTrees F (entries_of F (rows_from a F l)) (trees_of (tree_entries t))) l ls each t is)
      (list-trees a ls us are (All-tail (λ l. (t : Tree K) → IsTree F l t → AreTrees F (entries_of F (rows_from a F l)) (trees_of (tree_entries t))) l ls each)))

  rest-trees : (a : ℕ) (next : Option ℕ) (es : List (Entry K)) → AreChainRows F next es → length es ≤ a → (ts : Trees K) → AreTrees F (option_to_list next) ts → AreTrees F (entries_of F (flat_map (rows_from a F) (option_to_list next))) (trees_of (entries_among 0 ts))
  unfolding AreChainRows
  rest-trees a next [] rows few ts are =
      let none : ts ≡ no_trees = (trees-none F (option_to_list next) ts are).0 (ap option_to_list rows) in
      subst (λ x. AreTrees F (entries_of F (flat_map (rows_from a F) (option_to_list x))) (trees_of (entries_among 0 ts))) (sym rows)
      (subst (λ u. AreTrees F [] (trees_of (entries_among 0 u))) (sym none) are_none)
  rest-trees zero next (e ∷ es) rows few ts are = absurd (omega arith)
  rest-trees (suc a) next (e ∷ es) rows few ts are =
      let R : List ℕ → Type 0 = λ xs. (vs : Trees K) → AreTrees F xs vs → AreTrees F (entries_of F (flat_map (rows_from a F) xs)) (trees_of (entries_among 0 vs)) in
      let below : R (rows_below (F rows.link)) = subst R (sym (ap rows_below rows.row)) (λ vs v. rest-trees a rows.next es rows.rest (omega (arith, few)) vs v) in
      let P : ℕ → Type 0 = λ l. (t : Tree K) → IsTree F l t → AreTrees F (entries_of F (rows_from (suc a) F l)) (trees_of (tree_entries t)) in
      subst (λ x. AreTrees F (entries_of F (flat_map (rows_from (suc a) F) (option_to_list x))) (trees_of (entries_among 0 ts))) (sym rows.here)
      (list-trees (suc a) (rows.link ∷ []) ts (subst (λ x. AreTrees F (option_to_list x) ts) rows.here are) (All-cons P rows.link [] (λ t is. row-trees a rows.link t is below) (All-nil P)))

  module _ (n : ℕ) (short : (next : Option ℕ) (es : List (Entry K)) → AreChainRows F next es → length es ≤ n) where
    layer-trees : (m : ℕ) (rows : List ℕ) → IsLayer F m rows → (a : ℕ) → m + n ≤ a → (ts : Trees K) → AreTrees F rows ts → AreTrees F (entries_of F (flat_map (rows_from a F) rows)) (trees_of (entries_among 0 ts))
    unfolding IsLayer
    layer-trees zero rows rest a enough ts are =
        subst (λ xs. AreTrees F (entries_of F (flat_map (rows_from a F) xs)) (trees_of (entries_among 0 ts))) (sym rest.list)
        (rest-trees a rest.next rest.entries rest.chain (omega (arith, enough, short _ _ rest.chain)) ts (subst (λ xs. AreTrees F xs ts) rest.list are))
    layer-trees (suc m) rows all zero enough ts are = absurd (omega arith)
    layer-trees (suc m) rows all (suc a) enough ts are =
        list-trees (suc a) rows ts are (λ i d low t is. row-trees a (get_or rows i d) t is (layer-trees m (rows_below (F (get_or rows i d))) (all i d low).1 a (omega arith)))

    -- the walk gives the entries of the tree in turn
    pub walk-trees : (m l : ℕ) (t : Tree K) → IsLayer F m (rows_below (F l)) → (a : ℕ) → m + n + 1 ≤ a → IsTree F l t → AreTrees F (entries_of F (rows_from a F l)) (trees_of (tree_entries t))
    walk-trees m l t layer zero enough is = absurd (omega arith)
    walk-trees m l t layer (suc a) enough is = row-trees a l t is (layer-trees m (rows_below (F l)) layer a (omega arith))

module _ {K : Type 0} (cmp : K → K → Ordering) (code : K → ℕ) (F : Forms K) where
  -- the same of a canonical trie, as deep as it has entries
  pub trie-trees : (left depth l : ℕ) (E : List (Entry K)) → IsTrie cmp code F left depth l E → (a n : ℕ) → length E ≤ n → left + n ≤ a → (t : Tree K) → IsTree F l t → AreTrees F (entries_of F (rows_from a F l)) (trees_of (tree_entries t))
  unfolding IsTrie
  trie-trees zero depth l E these a n few enough t is =
      let all : rows_from a F l ++ [] ≡ rows_from a F l = append-nil _ in
      let none : tree_entries t ++ [] ≡ tree_entries t = append-nil _ in
      subst (λ xs. AreTrees F (entries_of F xs) (trees_of (tree_entries t))) all
      (subst (λ us. AreTrees F (entries_of F (rows_from a F l ++ [])) (trees_of us)) none
      (rest-trees F a (Some l) these.entries these.rows (omega (arith, few, enough, same-length _ _ these.same)) (tree_then t no_trees) (are_then l t [] no_trees is are_none)))
  trie-trees (suc left) depth l E row zero n few enough t is = absurd (omega arith)
  trie-trees (suc left) depth l E row (suc a) n few enough t is =
      row-trees F a l t is (λ vs v. list-trees F a (rows_below (F l)) vs v
      (rows-all cmp code F (λ k. (u : Tree K) → IsTree F k u → AreTrees F (entries_of F (rows_from a F k)) (trees_of (tree_entries u))) depth l E (λ k P. IsTrie cmp code F left (suc depth) k P) row
      (λ k P fewer t' u is'. trie-trees left (suc depth) k P t' a n (omega (arith, few, fewer)) (omega (arith, enough)) u is')))

module _ {K : Type 0} (cmp : K → K → Ordering) (code : K → ℕ) (o : IsTotalOrder cmp) where
  -- the entries in the order of the walk, which have the trees of the tree's entries
  pub in-order : (F : Forms K) (l : ℕ) (E : List (Entry K)) (t : Tree K) → IsCanon cmp code F l E → IsTree F l t → (D : List (Entry K)) × SameSet E D × HaveTrees F D (tree_entries t)
  in-order F l E t canon is =
      let n = length E in
      let a = LEVELS + n in
      let links = trie-walk cmp code F LEVELS 0 l E canon.trie a n (omega arith) (omega arith) in
      let trees = trie-trees cmp code F LEVELS 0 l E canon.trie a n (omega arith) (omega arith) t is in
      let lift = same-lift (λ (e : Entry K). e.link) E (map (λ e. e.link) E) (entries_of F (rows_from a F l)) refl (same-sym _ _ links) in
      (lift.0, lift.1, subst (λ ls. AreTrees F ls (trees_of (tree_entries t))) (sym lift.2) trees)

  pub entries-tell : EntriesTellTheTree cmp code
  entries-tell F G l m E D t u here there is at same =
      let first = in-order F l E t here is in
      let second = in-order G m D u there at in
      IsTree-unique G m t u
      (follows-trees cmp code o F G l m first.0 second.0 (tree_entries t) (tree_entries u) t same first.2 second.2 (takes-any-order cmp code o F l E first.0 first.1 here) (takes-any-order cmp code o G m D second.0 second.1 there) is) at

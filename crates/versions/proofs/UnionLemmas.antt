-- The keys and the entries of merged sets and maps.
use Rattle.std.proofs.Common.{◌≡◌, ◌≤◌, Bool, true, false, not, cond, List, [], ◌∷◌, ◌++◌, Option, Some, None, refl, ap, sym, ◌∙◌}
use Rattle.std.specs.Prelude.{◌&&◌, ◌||◌, count_by, is_some}
use Rattle.std.specs.Ordering.{eq_by_cmp, is_eq}
use Rattle.std.specs.Cmp.{IsTotalOrder}
use Rattle.std.specs.declared.cmp.Ordering.{Ordering}
use Rattle.std.specs.declared.cmp.Ordering.TheVariants.{Equal}
use Rattle.std.specs.FinMap.{find}
use Rattle.std.specs.FinMap.Entries.{find-where_key, find_tied}
use Rattle.std.specs.List.{filter, list_any}
use Rattle.std.proofs.lemmas.List.Folds.{list_any-append}
use Rattle.champ_chain.specs.Entry.{SameSet, same_none, same_first, same_turned, same_through}
use Rattle.champ_chain.proofs.SetLemmas.{same-refl, same-sym, same-filter}
use Rattle.versions.specs.Sorted.{both, by_keys, has, less, map_both, map_less, map_union, sorted_keys, union}
use Rattle.versions.proofs.SortLemmas.{AreOnce, by_keys-same, find-by_keys, has-sorted, is-equal, same-by_keys, same-sorted, sorted-same, where-by_keys, where-sorted}

module _ {X : Type 0} where
  same-front : (xs us ys : List X) → SameSet xs us → SameSet (xs ++ ys) (us ++ ys)
  same-front _ _ ys same_none = same-refl ys
  same-front _ _ ys (same_first x xs us s) = same_first x _ _ (same-front xs us ys s)
  same-front _ _ ys (same_turned x z xs) = same_turned x z (xs ++ ys)
  same-front _ _ ys (same_through xs ws us s t) = same_through _ _ _ (same-front xs ws ys s) (same-front ws us ys t)

  same-behind : (xs ys vs : List X) → SameSet ys vs → SameSet (xs ++ ys) (xs ++ vs)
  same-behind [] ys vs s = s
  same-behind (x ∷ xs) ys vs s = same_first x _ _ (same-behind xs ys vs s)

  -- two lists in any order, one behind the other
  same-joined : (xs us ys vs : List X) → SameSet xs us → SameSet ys vs → SameSet (xs ++ ys) (us ++ vs)
  same-joined xs us ys vs s t = same_through _ _ _ (same-front xs us ys s) (same-behind us ys vs t)

  -- what passes one test passes another that answers alike
  pub filter-as : (p q : X → Bool) → ((x : X) → p x ≡ q x) → (xs : List X) → filter p xs ≡ filter q xs
  filter-as p q same xs = λ i. filter (λ x. same x i) xs

module _ {K : Type 0} (R : K → K → Ordering) (o : IsTotalOrder R) where
  -- equal keys stand in the same sets
  has-alike : (ks : List K) (x y : K) → R x y ≡ Equal → has R x ks ≡ has R y ks
  has-alike ks x y tie = λ i. list_any (λ k. is_eq (o.congr x y k tie i)) ks

  pub both-sorted : (A B : List K) → sorted_keys R (both R A B) ≡ both R (sorted_keys R A) (sorted_keys R B)
  both-sorted A B = where-sorted R o (λ k. has R k B) (has-alike B) A ∙ filter-as _ _ (λ k. sym (has-sorted R o k B)) (sorted_keys R A)

  pub less-sorted : (A B : List K) → sorted_keys R (less R A B) ≡ less R (sorted_keys R A) (sorted_keys R B)
  less-sorted A B = where-sorted R o (λ k. not (has R k B)) (λ x y tie. ap not (has-alike B x y tie)) A ∙ filter-as _ _ (λ k. ap not (sym (has-sorted R o k B))) (sorted_keys R A)

  pub union-sorted : (A B : List K) → ((q : K) → count_by (eq_by_cmp R q) A ≤ 1) → ((q : K) → count_by (eq_by_cmp R q) B ≤ 1) → ((q : K) → count_by (eq_by_cmp R q) (A ++ less R B A) ≤ 1)
      → sorted_keys R (A ++ less R B A) ≡ union R (sorted_keys R A) (sorted_keys R B)
  union-sorted A B first second once =
      let rest = same-filter (λ k. not (has R k A)) B (sorted_keys R B) (same-sym _ _ (sorted-same R o B second)) in
      same-sorted R o _ _ (same-joined A (sorted_keys R A) _ _ (same-sym _ _ (sorted-same R o A first)) rest) once
      ∙ ap (λ ks. sorted_keys R (sorted_keys R A ++ ks)) (filter-as _ _ (λ k. ap not (sym (has-sorted R o k A))) (sorted_keys R B))

  -- a list has a key among those that pass a test just where it has the key and the key passes
  has-where : (p : K → Bool) → ((x y : K) → R x y ≡ Equal → p x ≡ p y) → (q : K) (ks : List K) → has R q (filter p ks) ≡ (p q && has R q ks)
  has-where p also q [] = elim (p q) as (λ b. false ≡ (b && false)) [ true ↦ refl | false ↦ refl ]
  has-where p also q (k ∷ ks) = by_test (eq_by_cmp R q k) refl (has-where p also q ks)
    where
      by_test : (b : Bool) → eq_by_cmp R q k ≡ b → has R q (filter p ks) ≡ (p q && has R q ks) → has R q (filter p (k ∷ ks)) ≡ (p q && has R q (k ∷ ks))
      by_test true hit rest =
          ap (λ b. has R q (cond b (k ∷ filter p ks) (filter p ks))) (sym (also q k (is-equal (R q k) hit)))
          ∙ elim (p q) as (λ b. has R q (filter p ks) ≡ (b && has R q ks) → has R q (cond b (k ∷ filter p ks) (filter p ks)) ≡ (b && has R q (k ∷ ks))) [
            | true ↦ λ _. ap (λ t. t || has R q (filter p ks)) hit ∙ sym (ap (λ t. t || has R q ks) hit)
            | false ↦ λ none. none
          ] rest
      by_test false miss rest =
          let same = rest ∙ sym (ap (λ t. p q && (t || has R q ks)) miss) in
          elim (p k) as (λ b. has R q (cond b (k ∷ filter p ks) (filter p ks)) ≡ (p q && has R q (k ∷ ks))) [
            | true ↦ ap (λ t. t || has R q (filter p ks)) miss ∙ same
            | false ↦ same
          ]

  -- what merged sets have
  pub has-both : (q : K) (ks js : List K) → has R q (both R ks js) ≡ (has R q js && has R q ks)
  has-both q ks js = has-where (λ k. has R k js) (has-alike js) q ks

  pub has-less : (q : K) (ks js : List K) → has R q (less R ks js) ≡ (not (has R q js) && has R q ks)
  has-less q ks js = has-where (λ k. not (has R k js)) (λ x y tie. ap not (has-alike js x y tie)) q ks

  pub has-union : (q : K) (ks js : List K) → has R q (union R ks js) ≡ (has R q ks || has R q js)
  has-union q ks js = has-sorted R o q (ks ++ less R js ks) ∙ list_any-append (eq_by_cmp R q) ks (less R js ks) ∙ ap (λ t. has R q ks || t) (has-less q js ks) ∙ either (has R q ks) (has R q js)
    where
      either : (a b : Bool) → (a || (not a && b)) ≡ (a || b)
      either true b = refl
      either false b = refl

module _ {K V : Type 0} (R : K → K → Ordering) (o : IsTotalOrder R) where
  -- equal keys stand in the same maps
  bound-alike : (es : List (K × V)) (x y : K) → R x y ≡ Equal → is_some (find R x es) ≡ is_some (find R y es)
  bound-alike es x y tie = ap is_some (sym (find_tied R o x y tie es))

  pub both-by_keys : (es ds : List (K × V)) → by_keys R (map_both R es ds) ≡ map_both R (by_keys R es) (by_keys R ds)
  both-by_keys es ds = where-by_keys R o (λ k. is_some (find R k ds)) (bound-alike ds) es ∙ filter-as _ _ (λ e. ap is_some (sym (find-by_keys R o e.0 ds))) (by_keys R es)

  pub less-by_keys : (es ds : List (K × V)) → by_keys R (map_less R es ds) ≡ map_less R (by_keys R es) (by_keys R ds)
  less-by_keys es ds = where-by_keys R o (λ k. not (is_some (find R k ds))) (λ x y tie. ap not (bound-alike ds x y tie)) es ∙ filter-as _ _ (λ e. ap (λ r. not (is_some r)) (sym (find-by_keys R o e.0 ds))) (by_keys R es)

  pub union-by_keys : (es ds : List (K × V)) → AreOnce R es → AreOnce R ds → AreOnce R (es ++ map_less R ds es) → by_keys R (es ++ map_less R ds es) ≡ map_union R (by_keys R es) (by_keys R ds)
  union-by_keys es ds first second once =
      let rest = same-filter (λ (d : K × V). not (is_some (find R d.0 es))) ds (by_keys R ds) (same-sym _ _ (by_keys-same R o ds second)) in
      same-by_keys R o _ _ (same-joined es (by_keys R es) _ _ (same-sym _ _ (by_keys-same R o es first)) rest) once
      ∙ ap (λ us. by_keys R (by_keys R es ++ us)) (filter-as _ _ (λ d. ap (λ r. not (is_some r)) (sym (find-by_keys R o d.0 es))) (by_keys R ds))

  find-joined : (q : K) (es ds : List (K × V)) → find R q (es ++ ds) ≡ cond (is_some (find R q es)) (find R q es) (find R q ds)
  find-joined q [] ds = refl
  find-joined q (e ∷ es) ds =
      elim (eq_by_cmp R q e.0) as (λ b. cond b (Some e.1) (find R q (es ++ ds)) ≡ cond (is_some (cond b (Some e.1) (find R q es))) (cond b (Some e.1) (find R q es)) (find R q ds)) [
        | true ↦ refl
        | false ↦ find-joined q es ds
      ]

  -- what merged maps have at a key: what the first has there, where it passes; of a union else what the second has
  pub found-both : (q : K) (es ds : List (K × V)) → find R q (map_both R es ds) ≡ cond (is_some (find R q ds)) (find R q es) None
  found-both q es ds = find-where_key R (λ k. is_some (find R k ds)) q (λ x tie. sym (bound-alike ds q x tie)) es

  pub found-less : (q : K) (es ds : List (K × V)) → find R q (map_less R es ds) ≡ cond (is_some (find R q ds)) None (find R q es)
  found-less q es ds = find-where_key R (λ k. not (is_some (find R k ds))) q (λ x tie. ap not (sym (bound-alike ds q x tie))) es ∙ turned (is_some (find R q ds)) (find R q es)
    where
      turned : (b : Bool) (r : Option V) → cond (not b) r None ≡ cond b None r
      turned true r = refl
      turned false r = refl

  pub found-union : (q : K) (es ds : List (K × V)) → find R q (map_union R es ds) ≡ cond (is_some (find R q es)) (find R q es) (find R q ds)
  found-union q es ds =
      find-by_keys R o q (es ++ map_less R ds es) ∙ find-joined q es (map_less R ds es)
      ∙ ap (cond (is_some (find R q es)) (find R q es)) (find-where_key R (λ k. not (is_some (find R k es))) q (λ x tie. ap (λ r. not (is_some r)) (find_tied R o q x tie es)) ds) ∙ either (find R q es) (find R q ds)
    where
      either : (r s : Option V) → cond (is_some r) r (cond (not (is_some r)) s None) ≡ cond (is_some r) r s
      either None s = refl
      either (Some v) s = refl

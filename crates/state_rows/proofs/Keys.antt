-- Names in whatever order, and the names of a finite map.
use Rattle.std.proofs.Common.{T, ◌≡◌, ℕ, ◌+◌, ◌≤◌, Bool, true, false, cond, not, ◌&&◌, ◌||◌, List, [], ◌∷◌, Option, Some, None, option_map, is_some, map, refl, ap, sym, subst, ◌∙◌, arith}
use Rattle.std.specs.Prelude.{count_by}
use Rattle.std.specs.List.{find, filter, list_any}
use Rattle.std.specs.Ordering.{eq_by_cmp, is_eq, is_lt, nat_cmp, match_ordering}
use Rattle.std.specs.declared.cmp.Ordering.{Ordering}
use Rattle.std.specs.declared.cmp.Ordering.TheVariants.{Less, Equal, Greater}
use Rattle.std.specs.Cmp.{tied_itself}
use Rattle.std.specs.Cmp.Lexicographic.{slice_cmp, nat_list_cmp_total}
use Rattle.std.specs.FinMap as finite
use Rattle.std.specs.FinMap.Entries as sorted
use Rattle.std.specs.FinMap.{nat_cmp-IsAntisymmetric, slice_cmp-IsAntisymmetric}
use Rattle.champ_chain.specs.Entry.{Entry, SameSet, same_none, same_first, same_turned, same_through, has_key}
use Rattle.champ_chain.proofs.SetLemmas.{same-refl, count-cons}
use Rattle.champ_trie.proofs.GatherLemmas.{same-map}
use Rattle.shell_terms.specs.Edit.{Bytes}
use Rattle.plain_space.specs.Workspace.{Named}

-- the order of names
abbrev pub by_bytes : Bytes → Bytes → Ordering
by_bytes = slice_cmp nat_cmp

equal : (r : Ordering) → is_eq r ≡ true → r ≡ Equal
equal Less e = absurd cc
equal Equal e = refl
equal Greater e = absurd cc

-- names that the order calls equal are equal
pub same-name : (j k : Bytes) → is_eq (by_bytes j k) ≡ true → j ≡ k
same-name j k e = slice_cmp-IsAntisymmetric nat_cmp-IsAntisymmetric j k (equal (by_bytes j k) e)

pub own-name : (k : Bytes) → is_eq (by_bytes k k) ≡ true
own-name k = ap is_eq (tied_itself nat_list_cmp_total k)

-- ## Look-ups beside and at a name

module _ {X : Type 0} (name : X → Bytes) where
  -- whether this is named so
  abbrev pub is_named : Bytes → X → Bool
  is_named k x = is_eq (by_bytes k (name x))

  -- those that are named otherwise
  abbrev pub unnamed : Bytes → List X → List X
  unnamed k xs = filter (λ x. not (is_named k x)) xs

  pub found-beside : (j k : Bytes) → is_eq (by_bytes j k) ≡ false → (xs : List X) → find (is_named j) (unnamed k xs) ≡ find (is_named j) xs
  found-beside j k other [] = refl
  found-beside j k other (x ∷ xs) = at_head (is_named k x) refl (found-beside j k other xs)
    where
      at_head : (t : Bool) → is_named k x ≡ t → find (is_named j) (unnamed k xs) ≡ find (is_named j) xs
          → find (is_named j) (cond (not t) (x ∷ unnamed k xs) (unnamed k xs)) ≡ cond (is_named j x) (Some x) (find (is_named j) xs)
      at_head true here rest =
          let differs : is_named j x ≡ false = ap (λ n. is_eq (by_bytes j n)) (sym (same-name k (name x) here)) ∙ other in
          rest ∙ ap (λ t. cond t (Some x) (find (is_named j) xs)) (sym differs)
      at_head false here rest = ap (λ o. cond (is_named j x) (Some x) o) rest

  pub found-gone : (k : Bytes) (xs : List X) → find (is_named k) (unnamed k xs) ≡ None
  found-gone k [] = refl
  found-gone k (x ∷ xs) = at_head (is_named k x) refl (found-gone k xs)
    where
      at_head : (t : Bool) → is_named k x ≡ t → find (is_named k) (unnamed k xs) ≡ None → find (is_named k) (cond (not t) (x ∷ unnamed k xs) (unnamed k xs)) ≡ None
      at_head true here rest = rest
      at_head false here rest = ap (λ t. cond t (Some x) (find (is_named k) (unnamed k xs))) here ∙ rest

  pub found-among : (k : Bytes) (xs : List X) → is_some (find (is_named k) xs) ≡ list_any (eq_by_cmp by_bytes k) (map name xs)
  found-among k [] = refl
  found-among k (x ∷ xs) = at_head (is_named k x) (found-among k xs)
    where
      at_head : (t : Bool) → is_some (find (is_named k) xs) ≡ list_any (eq_by_cmp by_bytes k) (map name xs)
          → is_some (cond t (Some x) (find (is_named k) xs)) ≡ (t || list_any (eq_by_cmp by_bytes k) (map name xs))
      at_head true rest = refl
      at_head false rest = rest

-- ## Names that are all different

-- whether the name is in the list
abbrev pub among : Bytes → List Bytes → Bool
among k ks = list_any (eq_by_cmp by_bytes k) ks

abbrev pub AreApart : List Bytes → Type 0
AreApart [] = Unit {0}
AreApart (k ∷ ks) = (among k ks ≡ false) × AreApart ks

counted-none : (k : Bytes) (E : List (Entry Bytes)) → count_by (has_key by_bytes k) E ≤ 0 → among k (map (λ e. e.key) E) ≡ false
counted-none k [] none = refl
counted-none k (e ∷ E) none = at_head (has_key by_bytes k e) (omega (arith, none, count-cons (has_key by_bytes k) e E)) (λ more. counted-none k E more)
  where
    at_head : (t : Bool) → (let n : ℕ = cond t 1 0 in n) + count_by (has_key by_bytes k) E ≤ 0 → (count_by (has_key by_bytes k) E ≤ 0 → among k (map (λ e. e.key) E) ≡ false) → (t || among k (map (λ e. e.key) E)) ≡ false
    at_head true none later = absurd (omega arith)
    at_head false none later = later (omega (arith, none))

-- the keys of entries are different
pub apart-entries : (E : List (Entry Bytes)) → ((k : Bytes) → count_by (has_key by_bytes k) E ≤ 1) → AreApart (map (λ e. e.key) E)
apart-entries [] once = tt
apart-entries (e ∷ E) once =
    let first : (let n : ℕ = cond (has_key by_bytes e.key e) 1 0 in n) ≡ 1 = ap (λ t. let n : ℕ = cond t 1 0 in n) (own-name e.key) in
    (counted-none e.key E (omega (arith, once e.key, count-cons (has_key by_bytes e.key) e E, first)), apart-entries E (λ k. omega (arith, once k, count-cons (has_key by_bytes k) e E)))

-- ## Lists of names and sorted lists

abbrev unit : Bytes → Bytes × Unit {0}
unit k = (k, tt)

names-units : (ks : List Bytes) → map (λ e. e.0) (map unit ks) ≡ ks
names-units [] = refl
names-units (k ∷ ks) = ap (λ js. k ∷ js) (names-units ks)

names-of-units : {X : Type 0} (es : List (Bytes × X)) → map (λ e. e.0) (map (λ e. unit e.0) es) ≡ map (λ e. e.0) es
names-of-units [] = refl
names-of-units (e ∷ es) = ap (λ js. e.0 ∷ js) (names-of-units es)

-- other values leave names as they are
module _ {X Y : Type 0} (of : X → Y) where
  abbrev pub with_values : List (Bytes × X) → List (Bytes × Y)
  with_values es = map (λ e. (e.0, of e.1)) es

  below-values : (k : Bytes) (es : List (Bytes × X)) → sorted.below_all by_bytes k (with_values es) ≡ sorted.below_all by_bytes k es
  below-values k [] = refl
  below-values k (e ∷ es) = ap (λ t. is_lt (by_bytes k e.0) && t) (below-values k es)

  pub sorted-values : (es : List (Bytes × X)) → sorted.is_sorted by_bytes (with_values es) ≡ sorted.is_sorted by_bytes es
  sorted-values [] = refl
  sorted-values (e ∷ es) = ap (λ t. t && sorted.is_sorted by_bytes (with_values es)) (below-values e.0 es) ∙ ap (λ t. sorted.below_all by_bytes e.0 es && t) (sorted-values es)

  pub find-values : (q : Bytes) (es : List (Bytes × X)) → sorted.find by_bytes q (with_values es) ≡ option_map of (sorted.find by_bytes q es)
  find-values q [] = refl
  find-values q (e ∷ es) = at_head (eq_by_cmp by_bytes q e.0) (find-values q es)
    where
      at_head : (t : Bool) → sorted.find by_bytes q (with_values es) ≡ option_map of (sorted.find by_bytes q es)
          → cond t (Some (of e.1)) (sorted.find by_bytes q (with_values es)) ≡ option_map of (cond t (Some e.1) (sorted.find by_bytes q es))
      at_head true rest = refl
      at_head false rest = rest

same-unit : (o p : Option (Unit {0})) → is_some o ≡ is_some p → o ≡ p
same-unit None None e = refl
same-unit None (Some tt) e = absurd cc
same-unit (Some tt) None e = absurd cc
same-unit (Some x) (Some y) e = refl

-- a new name put into a list is one more of it
put-new : {X : Type 0} (k : Bytes) (v : X) (es : List (Bytes × X)) → is_some (sorted.find by_bytes k es) ≡ false → SameSet ((k, v) ∷ es) (sorted.put by_bytes k v es)
put-new k v [] new = same-refl ((k, v) ∷ [])
put-new {X} k v (e ∷ es) new = at_head (by_bytes k e.0) new (λ later. put-new k v es later)
  where
    at_head : (r : Ordering) → is_some (cond (is_eq r) (Some e.1) (sorted.find by_bytes k es)) ≡ false
        → (is_some (sorted.find by_bytes k es) ≡ false → SameSet ((k, v) ∷ es) (sorted.put by_bytes k v es))
        → SameSet ((k, v) ∷ e ∷ es) (match_ordering r ((k, v) ∷ e ∷ es) ((e.0, v) ∷ es) (e ∷ sorted.put by_bytes k v es))
    at_head Less new later = same-refl ((k, v) ∷ e ∷ es)
    at_head Equal new later = absurd cc
    at_head Greater new later = same_through _ _ _ (same_turned (k, v) e es) (same_first e _ _ (later new))

-- the finite map of these entries
abbrev pub gathered : {X : Type 0} → List (Bytes × X) → Named X
gathered es = finite.from_entries es

-- what is gathered is found as in the list
pub gathered-find : {X : Type 0} (q : Bytes) (es : List (Bytes × X)) → sorted.find by_bytes q (finite.entries (gathered es)) ≡ sorted.find by_bytes q es
gathered-find q es = sym (finite.get-entries (gathered es) q) ∙ finite.get-from_entries nat_list_cmp_total es q

gathered-among : {X : Type 0} (q : Bytes) (es : List (Bytes × X)) → is_some (sorted.find by_bytes q (finite.entries (gathered es))) ≡ among q (map (λ e. e.0) es)
gathered-among q es = ap is_some (gathered-find q es) ∙ sorted.is_some-find by_bytes q es

-- entries of different names, sorted, are the same entries
pub gathered-same : {X : Type 0} (es : List (Bytes × X)) → AreApart (map (λ e. e.0) es) → SameSet es (finite.entries (gathered es))
gathered-same {X} [] apart = subst (SameSet []) (sym (no-entries (finite.entries (gathered {X = X} [])) (λ q. gathered-among {X = X} q []))) same_none
  where
    no-entries : (es : List (Bytes × X)) → ((q : Bytes) → is_some (sorted.find by_bytes q es) ≡ false) → es ≡ []
    no-entries [] none = refl
    no-entries (e ∷ es) none = absurd (let found : is_some (cond true (Some e.1) (sorted.find by_bytes e.0 es)) ≡ false = ap (λ t. is_some (cond t (Some e.1) (sorted.find by_bytes e.0 es))) (sym (own-name e.0)) ∙ none e.0 in cc)
gathered-same (e ∷ es) apart =
    let new = put-new e.0 e.1 (finite.entries (gathered es)) (gathered-among e.0 es ∙ apart.0) in
    subst (SameSet (e ∷ es)) (sym (finite.entries-insert nat_list_cmp_total (gathered es) e.0 e.1))
    (same_through _ _ _ (same_first e _ _ (gathered-same es apart.1)) new)

-- different names are the names of a finite map that has these names, in some order
pub keys-same : {X : Type 0} (ks : List Bytes) (m : Named X) → AreApart ks → ((q : Bytes) → among q ks ≡ finite.contains_key m q) → SameSet ks (finite.keys m)
keys-same ks m apart has =
    let es = finite.entries m in
    let fs = map (λ (e : Bytes × _). unit e.0) es in
    let found : (q : Bytes) → sorted.find by_bytes q (finite.entries (gathered (map unit ks))) ≡ sorted.find by_bytes q fs =
    λ q. same-unit _ _ (gathered-among q (map unit ks) ∙ ap (among q) (names-units ks) ∙ has q ∙ finite.contains_key-keys m q ∙ ap (among q) (sym (names-of-units es)) ∙ sym (sorted.is_some-find by_bytes q fs)) in
    let same : finite.entries (gathered (map unit ks)) ≡ fs =
    sorted.same_entries by_bytes nat_list_cmp_total (slice_cmp-IsAntisymmetric nat_cmp-IsAntisymmetric) (finite.entries (gathered (map unit ks))) fs
    (finite.entries_sorted (gathered (map unit ks))) (subst T (sym (sorted-values (λ _. tt) es)) (finite.entries_sorted m)) found in
    subst (λ (js : List Bytes). SameSet js (finite.keys m)) (names-units ks)
    (subst (SameSet (map (λ e. e.0) (map unit ks))) (names-of-units es)
    (subst (λ (gs : List (Bytes × Unit {0})). SameSet (map (λ e. e.0) (map unit ks)) (map (λ e. e.0) gs)) same
    (same-map (λ (e : Bytes × Unit {0}). e.0) (map unit ks) (finite.entries (gathered (map unit ks))) (gathered-same (map unit ks) (subst AreApart (sym (names-units ks)) apart)))))

-- a test counts the names of things
pub count-names : {X : Type 0} (test : Bytes → Bool) (name : X → Bytes) (xs : List X) → count_by (λ x. test (name x)) xs ≡ count_by test (map name xs)
count-names test name [] = refl
count-names test name (x ∷ xs) = omega (arith, count-cons (λ y. test (name y)) x xs, count-cons test (name x) (map name xs), count-names test name xs)

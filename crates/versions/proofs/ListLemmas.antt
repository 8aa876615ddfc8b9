-- The values of the cells of a vector, by the links of its elements.
use Rattle.std.proofs.Common.{◌≡◌, ℕ, zero, suc, ◌-◌, List, [], ◌∷◌, length, map, get_or, take, drop, Option, Some, None, refl, ap, sym, ◌∙◌, subst, arith, Bor}
use Rattle.std.specs.Prelude.{filter_map, IsSome, is_some, unwrap_or, option_copied, MatchOption}
use Rattle.std.specs.List.{All, cons_option}
use Rattle.std.proofs.lemmas.List.{length-map, take_all}
use Rattle.node_heap.specs.Forms.{Row, value_of}
use Rattle.node_heap.specs.Heap.{Heap, row_at}
use Rattle.node_heap.specs.Calls.{KeepsBelow, Extends}
use Rattle.rrb_core.specs.Vector.{elements, height_at}
use Rattle.rrb_core.proofs.CallerLemmas.{elements-reached, vector-stays, well-live}
use Rattle.versions.specs.Store.{Versions, list_of}
use Rattle.versions.specs.Roots.{root_of, values_in, HasRoots, IsKind}
use Rattle.versions.specs.Rooted.{value_at, list_at, IsListOf}
use Rattle.versions.proofs.MadeLemmas.{value-at}

module _ {X : Type 0} where
  -- a list whose values are all there is that of the values
  filter-some : (xs : List X) → filter_map (λ (o : Option X). o) (map Some xs) ≡ xs
  filter-some [] = refl
  filter-some (x ∷ xs) = ap (λ ys. x ∷ ys) (filter-some xs)

  filter-map : {A : Type 0} (f : A → Option X) (ks : List A) → filter_map f ks ≡ filter_map (λ (o : Option X). o) (map f ks)
  filter-map f [] = refl
  filter-map f (k ∷ ks) = ap (cons_option (f k)) (filter-map f ks)

  pub values-are : {A : Type 0} (f : A → Option X) (ks : List A) (xs : List X) → map f ks ≡ map Some xs → filter_map f ks ≡ xs
  values-are f ks xs is = filter-map f ks ∙ ap (filter_map (λ (o : Option X). o)) is ∙ filter-some xs

  pub map-same : {A : Type 0} (f g : A → Option X) (ks : List A) → All (λ k. f k ≡ g k) ks → map f ks ≡ map g ks
  map-same f g [] all = refl
  map-same f g (k ∷ ks) all = λ i. all 0 k (omega arith) i ∷ map-same f g ks (λ j d b. all (suc j) d (omega (arith, b))) i

  pub all-some : {A : Type 0} (f : A → Option X) (ks : List A) (xs : List X) → map f ks ≡ map Some xs → All (λ k. IsSome (f k)) ks
  all-some f [] xs is j d b = absurd (omega (arith, b))
  all-some f (k ∷ ks) [] is j d b = absurd (let bad = is in cc)
  all-some f (k ∷ ks) (x ∷ xs) is zero d b = ap is_some (ap (λ os. get_or os 0 None) is)
  all-some f (k ∷ ks) (x ∷ xs) is (suc j) d b = all-some f ks xs (ap (drop 1) is) j d (omega (arith, b))

-- a value that is there, and then those of the rest
pub yields-value : {X : Type 0} (r : Option (Bor X)) (o : Option X) (xs : List X) → option_copied r ≡ o → IsSome o → MatchOption r ((cons_option o xs ≡ []) × (xs ≡ [])) (λ x. cons_option o xs ≡ x.now ∷ xs)
yields-value None None xs is some = absurd (let bad = some in cc)
yields-value None (Some x) xs is some = absurd (let bad = is in cc)
yields-value (Some x) o xs is some = ap (λ p. cons_option p xs) (sym is)

-- what holds of all elements holds of all but the first
pub all-rest : {X : Type 0} (P : X → Type 0) (x : X) (xs : List X) → All P (x ∷ xs) → All P xs
all-rest P x xs all i d short = all (suc i) d (omega (arith, short))

pub row-there : {T : Type 0} (r : Option (Row T)) → IsSome (value_of r) → IsSome r
row-there None some = some
row-there (Some r) some = refl

-- a part that is the whole
pub part-whole : (zs : List ℕ) (n : ℕ) → n ≡ length zs → take (n - 0) (drop 0 zs) ≡ zs
part-whole zs n all = take_all (n - 0) zs (omega (arith, all))

module _ {T : Type 0} where
  -- the vector's list is that of its values
  pub list-read : (h : Heap T) (l : ℕ) (xs : List T) → IsListOf h l xs → list_at h l ≡ xs
  list-read h l xs is = values-are (value_at h) (elements h l) xs is.cells

  -- each of its links names a cell
  pub all-values : (h : Heap T) (l : ℕ) (xs : List T) → IsListOf h l xs → All (λ z. IsSome (value_at h z)) (elements h l)
  all-values h l xs is = all-some (value_at h) (elements h l) xs is.cells

  pub list-length : (h : Heap T) (l : ℕ) (xs : List T) → IsListOf h l xs → length (elements h l) ≡ length xs
  list-length h l xs is = sym (length-map (elements h l) (value_at h)) ∙ ap length is.cells ∙ length-map xs Some

  -- a list stays where all that its root reaches is the same
  pub list-stays : (old new : Heap T) (l : ℕ) (xs : List T) → KeepsBelow old new l → IsListOf old l xs → IsListOf new l xs
  list-stays old new l xs kept is =
      let same = vector-stays T old new l kept is.good in
      let reached = elements-reached old l in
      record {
        good = same.0;
        cells = ap (map (value_at new)) same.1 ∙ map-same (value_at new) (value_at old) (elements old l) (λ k d b. ap value_of (kept (get_or (elements old l) k d) (reached k d b))) ∙ is.cells;
      }

  list-live : (h : Heap T) (l : ℕ) (xs : List T) → IsListOf h l xs → IsSome (row_at h l)
  list-live h l xs is = well-live h (height_at h l) l is.good.shape.well

  -- lists are a kind of root
  pub list-kind : IsKind {T = T} {V = List T} IsListOf list_at
  list-kind = record { one = list-read; live = list-live; stays = list-stays }

  pub lists-stay : (old new : Heap T) → Extends old new → (l : ℕ) (xs : List T) → IsListOf old l xs → IsListOf new l xs
  lists-stay old new extends l xs is = list-stays old new l xs (extends.kept l (list-live old l xs is)) is

  -- the root of a version that is held is that of its list
  pub seen-list : (h : Heap T) (roots : List (Option ℕ)) (v l : ℕ) {had : Versions (List T)} → HasRoots IsListOf list_at h roots → values_in list_at h roots ≡ had → root_of roots v ≡ Some l → IsListOf h l (list_of had v)
  seen-list h roots v l {had} has seen at = subst (IsListOf h l) (sym (ap (λ o. unwrap_or o []) (value-at list_at h roots v had seen l at))) (has.stands v l at)

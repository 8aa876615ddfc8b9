-- Lists of the code: a row more, a link more, a line more.
use Rattle.std.proofs.Common.{◌≡◌, ℕ, ◌+◌, ◌<◌, refl, ap, sym, subst, ◌∙◌, arith, Bool, true, false, cond, List, [], ◌∷◌, ◌++◌, append-nil, append_assoc, length, map, get_or, take, Some, None, Option}
use Rattle.std.specs.List.{All, filter, flat_map}
use Rattle.std.proofs.lemmas.List.{map-append, take_more}
use Rattle.std.proofs.lemmas.List.Elements.{All-nil, All-cons, All-append}
use Rattle.std.proofs.lemmas.Option.{slice_get_within}
use Rattle.pool_order.specs.Order.{with_all_new, firsts}
use Rattle.pool_order.proofs.Firsts.{with_all-append}
use Rattle.pool_text.specs.Rows.{Bytes, row_form}
use Rattle.pool_text.specs.declared.row.Row.{Row}
use Rattle.node_heap.specs.Links.{count}
use Rattle.node_heap.specs.Forms.{Form, cell, node, leaf, inner, trie, chain, pair, state, links_of}
use Rattle.pool_text.specs.Pool.{forms_in, row_count}
use Rattle.pool_text.specs.declared.pool.Pool.{Pool}
use Rattle.pool_text.specs.declared.row.Row.TheVariants.{Cell, Leaf, Inner, Trie, Chain, Pair, State}
use Rattle.pool_check.specs.Rows.{links_lead_back}
use Rattle.pool_check.proofs.TestLemmas.{leads-down}
use Rattle.pool_map.specs.Lines.{is_cell, leaf_links}

-- one more of what is made of each
pub map-more : {X Y : Type 0} (f : X → Y) (xs : List X) (i : ℕ) (d : X) (made new : List Y) (y : Y) → i < length xs → made ≡ map f (take i xs) → y ≡ f (get_or xs i d) → new ≡ made ++ y ∷ [] → new ≡ map f (take (i + 1) xs)
map-more f xs i d made new y low are is more =
    more ∙ ap (λ ys. ys ++ y ∷ []) are ∙ ap (λ z. map f (take i xs) ++ z ∷ []) is
    ∙ sym (ap (map f) (take_more xs i d low) ∙ map-append f (take i xs) (get_or xs i d ∷ []))

-- one more that holds of each
pub all-more : {X : Type 0} (P : X → Type 0) (xs : List X) (i : ℕ) (d : X) → i < length xs → All P (take i xs) → P (get_or xs i d) → All P (take (i + 1) xs)
all-more P xs i d low all is = subst (All P) (sym (take_more xs i d low)) (All-append P (take i xs) (get_or xs i d ∷ []) all (All-cons P (get_or xs i d) [] is (All-nil P)))

filter-one : (p : ℕ → Bool) (x : ℕ) (t : Bool) → p x ≡ t → filter p (x ∷ []) ≡ cond t (x ∷ []) []
filter-one p x t is = ap (λ b. cond b (x ∷ []) []) is

filter-append : {X : Type 0} (p : X → Bool) (xs ys : List X) → filter p (xs ++ ys) ≡ filter p xs ++ filter p ys
filter-append p [] ys = refl
filter-append p (x ∷ xs) ys = by_test (p x) (filter-append p xs ys)
  where
    by_test : (t : Bool) → filter p (xs ++ ys) ≡ filter p xs ++ filter p ys → cond t (x ∷ filter p (xs ++ ys)) (filter p (xs ++ ys)) ≡ cond t (x ∷ filter p xs) (filter p xs) ++ filter p ys
    by_test true later = ap (λ zs. x ∷ zs) later
    by_test false later = later

-- one link more that is kept, or isn't
module _ (p : ℕ → Bool) (old links : List ℕ) (i d : ℕ) (low : i < length links) where
  filter-more : filter p (take (i + 1) links) ≡ filter p (take i links) ++ filter p (get_or links i d ∷ [])
  filter-more = ap (filter p) (take_more links i d low) ∙ filter-append p (take i links) (get_or links i d ∷ [])

  pub new-kept : (keys new : List ℕ) → keys ≡ with_all_new old (filter p (take i links)) → p (get_or links i d) ≡ true → new ≡ with_all_new keys (get_or links i d ∷ []) → new ≡ with_all_new old (filter p (take (i + 1) links))
  new-kept keys new are is more =
      more ∙ ap (λ ks. with_all_new ks (get_or links i d ∷ [])) are ∙ sym (with_all-append old (filter p (take i links)) (get_or links i d ∷ []))
      ∙ ap (with_all_new old) (ap (λ zs. filter p (take i links) ++ zs) (sym (filter-one p (get_or links i d) true is)) ∙ sym filter-more)

  pub none-kept : (keys : List ℕ) → keys ≡ with_all_new old (filter p (take i links)) → p (get_or links i d) ≡ false → keys ≡ with_all_new old (filter p (take (i + 1) links))
  none-kept keys are is =
      are ∙ ap (with_all_new old) (sym (append-nil (filter p (take i links))) ∙ ap (λ zs. filter p (take i links) ++ zs) (sym (filter-one p (get_or links i d) false is)) ∙ sym filter-more)

-- one row more
module _ {X : Type 0} (f : X → List ℕ) (xs : List X) (i : ℕ) (d : X) (low : i < length xs) where
  flat-append : (ys zs : List X) → flat_map f (ys ++ zs) ≡ flat_map f ys ++ flat_map f zs
  flat-append [] zs = refl
  flat-append (y ∷ ys) zs = ap (λ ks. f y ++ ks) (flat-append ys zs) ∙ sym (append_assoc (f y) (flat_map f ys) (flat_map f zs))

  flat-more : flat_map f (take (i + 1) xs) ≡ flat_map f (take i xs) ++ f (get_or xs i d)
  flat-more =
      ap (flat_map f) (take_more xs i d low) ∙ flat-append (take i xs) (get_or xs i d ∷ [])
      ∙ ap (λ ks. flat_map f (take i xs) ++ ks) (append-nil (f (get_or xs i d)))

  pub firsts-row : (keys new : List ℕ) → keys ≡ firsts (flat_map f (take i xs)) → new ≡ with_all_new keys (f (get_or xs i d)) → new ≡ firsts (flat_map f (take (i + 1) xs))
  firsts-row keys new are more =
      more ∙ ap (λ ks. with_all_new ks (f (get_or xs i d))) are ∙ sym (with_all-append [] (flat_map f (take i xs)) (f (get_or xs i d))) ∙ ap (with_all_new []) (sym flat-more)

pub map-both : {X Y Z : Type 0} (f : X → Y) (g : Y → Z) (xs : List X) → map (λ x. g (f x)) xs ≡ map g (map f xs)
map-both f g [] = refl
map-both f g (x ∷ xs) = ap (λ ys. g (f x) ∷ ys) (map-both f g xs)

-- one more at the end of what is made of each, after what was there
pub tail-more : {X Y : Type 0} (f : X → Y) (xs : List X) (i : ℕ) (d : X) (old made new : List Y) (y : Y) → i < length xs → made ≡ old ++ map f (take i xs) → y ≡ f (get_or xs i d) → new ≡ made ++ y ∷ [] → new ≡ old ++ map f (take (i + 1) xs)
tail-more f xs i d old made new y low are is more =
    more ∙ ap (λ ys. ys ++ y ∷ []) are ∙ append_assoc old (map f (take i xs)) (y ∷ [])
    ∙ ap (λ zs. old ++ zs) (map-more f xs i d (map f (take i xs)) (map f (take i xs) ++ y ∷ []) y low refl is refl)

-- the elements of a leaf are its links
pub leaf-linked : (row : Form Bytes) (k : ℕ) → 0 < count k (leaf_links row) → 0 < count k (links_of (Some row))
leaf-linked (cell text) k some = absurd (omega (arith, some))
leaf-linked (node leaf links) k some = some
leaf-linked (node (inner height) links) k some = absurd (omega (arith, some))
leaf-linked (node (trie d e n) links) k some = absurd (omega (arith, some))
leaf-linked (node chain links) k some = absurd (omega (arith, some))
leaf-linked (node pair links) k some = absurd (omega (arith, some))
leaf-linked (node state links) k some = absurd (omega (arith, some))

-- a row that is none of the cells
pub no-cell : (row : Row) → ((text : Bytes) → row ≡ Cell text → ⊥) → is_cell (Some (row_form row)) ≡ false
no-cell (Cell text) none = absurd (none text refl)
no-cell (Leaf links) none = refl
no-cell (Inner height links) none = refl
no-cell (Trie depth e n links) none = refl
no-cell (Chain links) none = refl
no-cell (Pair k v) none = refl
no-cell (State buffers stars) none = refl

-- each link of a pool's row names a row
pub links-low : (P : Pool) → links_lead_back P ≡ true → (l k : ℕ) → 0 < count k (links_of (forms_in P l)) → k < row_count P
links-low P back l k has = by_form (forms_in P l) refl has
  where
    by_form : (r : Option (Form Bytes)) → forms_in P l ≡ r → 0 < count k (links_of r) → k < row_count P
    by_form None is has = absurd (omega (arith, has))
    by_form (Some row) is has = omega (arith, leads-down P back l k (let there : 0 < count k (links_of (forms_in P l)) = subst (λ q. 0 < count k (links_of q)) (sym is) has in there), slice_get_within P.rows l row is)

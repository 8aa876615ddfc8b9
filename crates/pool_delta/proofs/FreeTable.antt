-- What a table of free places is once a place is put or taken.
use Rattle.std.proofs.Common.{◌≡◌, ℕ, zero, suc, ◌+◌, ◌-◌, ◌<◌, Bool, true, false, ◌&&◌, cond, List, [], ◌∷◌, ◌++◌, length, map, get_or, Some, drop, refl, ap, sym, subst, ◌∙◌, arith}
use Rattle.std.specs.Prelude.{reverse, slice_get, Option, None, option_to_list}
use Rattle.std.specs.Option.{MatchOption}
use Rattle.std.specs.declared.vec.Vec.{Vec}
use Rattle.std.proofs.lemmas.List.{reverse-append, reverse-reverse}
use Rattle.std.proofs.lemmas.Bool.{both_ways}
use Rattle.node_heap.specs.Links.{count}
use Rattle.node_heap.specs.Forms.{Form}
use Rattle.node_heap.proofs.Counts.{test_same, count-cons}
use Rattle.pool_text.specs.Rows.{Bytes}
use Rattle.pool_delta.specs.Forms.{same_form}
use Rattle.pool_delta.specs.Free.{key_form, free_from, stacked, stack_of, AreFree, AreFreeFrom, Puts, Takes}
use Rattle.pool_delta.specs.declared.free.FreePlaces.{FreePlaces}
use Rattle.pool_delta.specs.declared.free.RowKey.{RowKey}
use Rattle.pool_delta.specs.contracts.free.RowKeyPartialEq.TheImpl as same
use Rattle.pool_delta.proofs.SameForm.{forms-are, form-same}
use Rattle.pool_delta.proofs.FreeStacks.{zero-of, free-row, none-taken, first-taken}
use Rattle.pool_delta.proofs.KeyEq.{eq-is, is-eq}

-- the stacks of a table
abbrev pub Stacks : Type 0
Stacks = RowKey → List ℕ

abbrev pub AreStacks : ℕ → List (Form Bytes) → List ℕ → Stacks → Type 0
AreStacks place rows taken stacks = (key : RowKey) → stacks key ≡ reverse (free_from taken (key_form key) place rows)

one_key : (place : ℕ) (rows : List (Form Bytes)) (taken : List ℕ) (stacks : Stacks) → AreStacks place rows taken stacks → (k q : RowKey) → key_form k ≡ key_form q → stacks q ≡ stacks k
one_key place rows taken stacks are k q e = are q ∙ sym (are k ∙ ap (λ f. reverse (free_from taken f place rows)) e)

unreversed : (xs ys : List ℕ) → xs ≡ reverse ys → ys ≡ reverse xs
unreversed xs ys e = sym (ap reverse e ∙ reverse-reverse ys)

-- one row more before them
pub put-before : (place : ℕ) (rows : List (Form Bytes)) (key : RowKey) (old new : Stacks) → AreStacks (place + 1) rows [] old
    → ((q : RowKey) → new q ≡ cond ((same.ghosts).eq key q) (old key ++ place ∷ []) (old q)) → AreStacks place (key_form key ∷ rows) [] new
put-before place rows key old new are puts q = by_test ((same.ghosts).eq key q) refl (same_form (key_form q) (key_form key)) refl
  where
    rest : List ℕ
    rest = free_from [] (key_form q) (place + 1) rows

    by_test : (a : Bool) → (same.ghosts).eq key q ≡ a → (b : Bool) → same_form (key_form q) (key_form key) ≡ b → new q ≡ reverse (cond (same_form (key_form q) (key_form key) && true) (place ∷ rest) rest)
    by_test true is true is' =
        puts q ∙ ap (λ c. cond c (old key ++ place ∷ []) (old q)) is
        ∙ ap (λ xs. xs ++ place ∷ []) (sym (one_key (place + 1) rows [] old are key q (eq-is key q is)) ∙ are q)
        ∙ sym (reverse-append (place ∷ []) rest)
        ∙ ap (λ c. reverse (cond (c && true) (place ∷ rest) rest)) (sym is')
    by_test false is false is' = puts q ∙ ap (λ c. cond c (old key ++ place ∷ []) (old q)) is ∙ are q ∙ ap (λ c. reverse (cond (c && true) (place ∷ rest) rest)) (sym is')
    by_test true is false is' = absurd (both_ways (same_form (key_form q) (key_form key)) is' (ap (same_form (key_form q)) (eq-is key q is) ∙ form-same (key_form q)))
    by_test false is true is' = absurd (both_ways ((same.ghosts).eq key q) is (is-eq key q (sym (forms-are (key_form q) (key_form key) is'))))

-- the top one is taken
module _ (rows : List (Form Bytes)) (taken : List ℕ) (key : RowKey) (old : Stacks) (are : AreStacks 0 rows taken old) where
  module _ (xs : List ℕ) (x : ℕ) (top : old key ≡ xs ++ x ∷ []) where
    pub taken-first : free_from taken (key_form key) 0 rows ≡ x ∷ reverse xs
    taken-first = unreversed (xs ++ x ∷ []) (free_from taken (key_form key) 0 rows) (sym top ∙ are key) ∙ reverse-append xs (x ∷ [])

    -- it is no place of another row
    not-other : (q : RowKey) → (same.ghosts).eq key q ≡ false → count x (free_from taken (key_form q) 0 rows) ≡ 0
    not-other q apart = zero-of (count x (free_from taken (key_form q) 0 rows)) (λ n many.
        let other = free-row taken (key_form q) 0 rows x (omega (arith, many)) in
        let own = free-row taken (key_form key) 0 rows x (omega (arith, ap (count x) taken-first, count-cons x x (reverse xs), test_same x x refl)) in
        let place : other.0 ≡ own.0 = omega (arith, other.1, own.1) in
        let form : Some (key_form key) ≡ Some (key_form q) = sym own.2 ∙ ap (slice_get rows) (sym place) ∙ other.2 in
        let form' : key_form key ≡ key_form q = cc in
        both_ways ((same.ghosts).eq key q) apart (is-eq key q form'))

    pub taken-rest : (new : Stacks) → ((q : RowKey) → new q ≡ cond ((same.ghosts).eq key q) xs (old q)) → AreStacks 0 rows (taken ++ x ∷ []) new
    taken-rest new takes q = by_test ((same.ghosts).eq key q) refl
      where
        by_test : (a : Bool) → (same.ghosts).eq key q ≡ a → new q ≡ reverse (free_from (taken ++ x ∷ []) (key_form q) 0 rows)
        by_test true is =
            takes q ∙ ap (λ c. cond c xs (old q)) is ∙ sym (reverse-reverse xs)
            ∙ ap reverse (sym (first-taken taken x (reverse xs) (key_form key) 0 rows taken-first))
            ∙ ap (λ f. reverse (free_from (taken ++ x ∷ []) f 0 rows)) (eq-is key q is)
        by_test false is = takes q ∙ ap (λ c. cond c xs (old q)) is ∙ are q ∙ ap reverse (sym (none-taken taken x (key_form q) 0 rows (not-other q is)))

  pub taken-none : old key ≡ [] → free_from taken (key_form key) 0 rows ≡ []
  taken-none empty = unreversed [] (free_from taken (key_form key) 0 rows) (sym empty ∙ are key)

  -- an empty stack stays
  pub none-rest : (new : Stacks) → old key ≡ [] → ((q : RowKey) → new q ≡ cond ((same.ghosts).eq key q) [] (old q)) → AreStacks 0 rows taken new
  none-rest new empty takes q = by_test ((same.ghosts).eq key q) refl
    where
      by_test : (a : Bool) → (same.ghosts).eq key q ≡ a → new q ≡ reverse (free_from taken (key_form q) 0 rows)
      by_test true is = takes q ∙ ap (λ c. cond c [] (old q)) is ∙ sym empty ∙ sym (one_key 0 rows taken old are key q (eq-is key q is)) ∙ are q
      by_test false is = takes q ∙ ap (λ c. cond c [] (old q)) is ∙ are q

-- ## Tables

pub stacked-cond : {A : Type 0} (b : Bool) (w : Vec ℕ A) (o : Option (Vec ℕ A)) → stacked (cond b (Some w) o) ≡ cond b w.items (stacked o)
stacked-cond true w o = refl
stacked-cond false w o = refl

no_items : (xs : List ℕ) → length xs ≡ 0 → xs ≡ []
no_items [] e = refl
no_items (x ∷ xs) e = absurd (omega (arith, e))

-- what pop leaves is what taking leaves
pub after-take : (rows : List (Form Bytes)) (taken : List ℕ) (key : RowKey) (old new : FreePlaces) (xs : List ℕ) (n m : ℕ) (popped : Option ℕ) → AreFree rows taken old
    → stack_of old key ≡ xs ++ option_to_list popped → m ≡ length xs → MatchOption popped ((n ≡ 0) × (m ≡ 0)) (λ _. m + 1 ≡ n)
    → ((q : RowKey) → stack_of new q ≡ cond ((same.ghosts).eq key q) xs (stack_of old q)) → Takes rows taken (key_form key) new popped
after-take rows taken key old new xs n m None are top len cases takes =
    let empty : xs ≡ [] = no_items xs (omega (arith, len, cases.1)) in
    let bare : stack_of old key ≡ [] = top ∙ ap (λ ys. ys ++ []) empty in
    (taken-none rows taken key (stack_of old) are bare, none-rest rows taken key (stack_of old) are (stack_of new) bare (λ q. takes q ∙ ap (λ ys. cond ((same.ghosts).eq key q) ys (stack_of old q)) empty))
after-take rows taken key old new xs n m (Some x) are top len cases takes =
    ((reverse xs, taken-first rows taken key (stack_of old) are xs x top), taken-rest rows taken key (stack_of old) are xs x top (stack_of new) takes)

-- where there is no stack, nothing is taken
pub after-none : (rows : List (Form Bytes)) (taken : List ℕ) (key : RowKey) (old : FreePlaces) → AreFree rows taken old → stack_of old key ≡ [] → Takes rows taken (key_form key) old None
after-none rows taken key old are bare = (taken-none rows taken key (stack_of old) are bare, are)

pub after-put : (key : RowKey) (place : ℕ) (old new : FreePlaces) → ((q : RowKey) → stack_of new q ≡ cond ((same.ghosts).eq key q) (stack_of old key ++ place ∷ []) (stack_of old q)) → Puts old key place new
after-put key place old new puts rows are = put-before place rows key (stack_of old) (stack_of new) are puts

-- ## From the last row to the first

drop-at : {X : Type 0} (xs : List X) (p : ℕ) (x : X) → slice_get xs p ≡ Some x → drop p xs ≡ x ∷ drop (p + 1) xs
drop-at [] p x at = absurd cc
drop-at (y ∷ xs) zero x at = (let same : y ≡ x = cc in ap (λ z. z ∷ xs) same)
drop-at (y ∷ xs) (suc p) x at = drop-at xs p x at ∙ ap (λ n. x ∷ drop n (y ∷ xs)) (longer p)
  where
    longer : (p : ℕ) → suc (p + 1) ≡ suc p + 1
    longer p = omega arith

pub put-next : (rows : List (Form Bytes)) (n : ℕ) (key : RowKey) (old new : FreePlaces) → 0 < n → slice_get rows (n - 1) ≡ Some (key_form key)
    → AreFreeFrom n (drop n rows) [] old → Puts old key (n - 1) new → AreFreeFrom (n - 1) (drop (n - 1) rows) [] new
put-next rows n key old new some at are puts =
    subst (λ (rs : List (Form Bytes)). AreFreeFrom (n - 1) rs [] new) (sym (drop-at rows (n - 1) (key_form key) at))
    (puts (drop (n - 1 + 1) rows) (subst (λ (m : ℕ). AreFreeFrom m (drop m rows) [] old) (before n some) are))
  where
    before : (n : ℕ) → 0 < n → n ≡ n - 1 + 1
    before n some = omega (arith, some)

-- what stands at a place of a mapped list
pub map-at : {X Y : Type 0} (f : X → Y) (xs : List X) (i : ℕ) (d : X) → i < length xs → slice_get (map f xs) i ≡ Some (f (get_or xs i d))
map-at f [] i d low = absurd (omega (arith, low))
map-at f (x ∷ xs) zero d low = refl
map-at f (x ∷ xs) (suc i) d low = map-at f xs i d (omega (arith, low))

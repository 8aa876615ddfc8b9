-- Keys are equal where their forms are.
use Rattle.std.proofs.Common.{◌≡◌, ℕ, refl, ap, ◌∙◌, Bool, true, ◌&&◌, List, [], ◌∷◌}
use Rattle.std.specs.Prelude.{nat_eq}
use Rattle.std.specs.String.{string_bytes}
use Rattle.std.proofs.lemmas.Bool.{eqb-true, eq-eqb}
use Rattle.std.proofs.lemmas.Slice.Eq.{bytes_eq-Decides}
use lib.Pointwise.{pointwise}
use Rattle.pool_check.proofs.TestLemmas.{and-first, and-second, not-both}
use Rattle.pool_delta.specs.Free.{kind_form, key_form}
use Rattle.pool_delta.specs.declared.free.NodeKind.{NodeKind}
use Rattle.pool_delta.specs.declared.free.NodeKind.TheVariants.{Leaf, Inner, Trie, Chain, Pair, State}
use Rattle.pool_delta.specs.declared.free.RowKey.{RowKey}
use Rattle.pool_delta.specs.declared.free.RowKey.TheVariants.{Cell, Node}
use Rattle.pool_delta.specs.contracts.free.RowKeyPartialEq.TheImpl as same
use Rattle.pool_delta.specs.contracts.free.NodeKindPartialEq.TheImpl as same_kinds

same-numbers : (xs ys : List ℕ) → pointwise nat_eq xs ys ≡ true → xs ≡ ys
same-numbers [] [] is = refl
same-numbers [] (y ∷ ys) is = absurd (not-both is)
same-numbers (x ∷ xs) [] is = absurd (not-both is)
same-numbers (x ∷ xs) (y ∷ ys) is =
    ap (λ z. z ∷ xs) (eqb-true x y (and-first (nat_eq x y) (pointwise nat_eq xs ys) is)) ∙ ap (λ zs. y ∷ zs) (same-numbers xs ys (and-second (nat_eq x y) (pointwise nat_eq xs ys) is))

numbers-same : (xs : List ℕ) → pointwise nat_eq xs xs ≡ true
numbers-same [] = refl
numbers-same (x ∷ xs) = ap (λ b. b && pointwise nat_eq xs xs) (eq-eqb x x refl) ∙ numbers-same xs

both-true : (a b : Bool) → a ≡ true → b ≡ true → (a && b) ≡ true
both-true a b a-is b-is = ap (λ x. x && b) a-is ∙ b-is

kind-is : (r s : NodeKind) → (same_kinds.ghosts).eq r s ≡ true → kind_form r ≡ kind_form s
kind-is Leaf Leaf is = refl
kind-is (Inner h) (Inner i) is = (let h-is : h ≡ i = eqb-true h i is in cc)
kind-is (Trie d e n) (Trie d' e' n') is =
    let rest = and-second (nat_eq d d') (nat_eq e e' && nat_eq n n') is in
    let d-is : d ≡ d' = eqb-true d d' (and-first (nat_eq d d') (nat_eq e e' && nat_eq n n') is) in
    let e-is : e ≡ e' = eqb-true e e' (and-first (nat_eq e e') (nat_eq n n') rest) in
    let n-is : n ≡ n' = eqb-true n n' (and-second (nat_eq e e') (nat_eq n n') rest) in
    cc
kind-is Chain Chain is = refl
kind-is Pair Pair is = refl
kind-is State State is = refl
kind-is _ _ is = absurd (not-both is)

is-kind : (r s : NodeKind) → kind_form r ≡ kind_form s → (same_kinds.ghosts).eq r s ≡ true
is-kind Leaf Leaf is = refl
is-kind (Inner h) (Inner i) is = (let h-is : h ≡ i = cc in eq-eqb h i h-is)
is-kind (Trie d e n) (Trie d' e' n') is =
    let d-is : d ≡ d' = cc in
    let e-is : e ≡ e' = cc in
    let n-is : n ≡ n' = cc in
    both-true _ _ (eq-eqb d d' d-is) (both-true _ _ (eq-eqb e e' e-is) (eq-eqb n n' n-is))
is-kind Chain Chain is = refl
is-kind Pair Pair is = refl
is-kind State State is = refl
is-kind _ _ is = absurd cc

pub eq-is : (r s : RowKey) → (same.ghosts).eq r s ≡ true → key_form r ≡ key_form s
eq-is (Cell x) (Cell y) is = (let text : string_bytes x ≡ string_bytes y = (bytes_eq-Decides (string_bytes x) (string_bytes y)).0 is in cc)
eq-is (Node k ls) (Node k' ls') is =
    let links = pointwise nat_eq ls.items ls'.items in
    let k-is : kind_form k ≡ kind_form k' = kind-is k k' (and-first ((same_kinds.ghosts).eq k k') links is) in
    let ls-is : ls.items ≡ ls'.items = same-numbers ls.items ls'.items (and-second ((same_kinds.ghosts).eq k k') links is) in
    cc
eq-is (Cell x) (Node k ls) is = absurd (not-both is)
eq-is (Node k ls) (Cell x) is = absurd (not-both is)

pub is-eq : (r s : RowKey) → key_form r ≡ key_form s → (same.ghosts).eq r s ≡ true
is-eq (Cell x) (Cell y) is = (let text : string_bytes x ≡ string_bytes y = cc in (bytes_eq-Decides (string_bytes x) (string_bytes y)).1 text)
is-eq (Node k ls) (Node k' ls') is =
    let k-is : kind_form k ≡ kind_form k' = cc in
    let ls-is : ls.items ≡ ls'.items = cc in
    both-true _ _ (is-kind k k' k-is) (ap (λ ks. pointwise nat_eq ks ls'.items) ls-is ∙ numbers-same ls'.items)
is-eq (Cell x) (Node k ls) is = absurd cc
is-eq (Node k ls) (Cell x) is = absurd cc

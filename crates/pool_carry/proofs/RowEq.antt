-- Rows of tries are equal where their forms are.
use Rattle.std.proofs.Common.{◌≡◌, ℕ, refl, ap, ◌∙◌, Bool, true, ◌&&◌, Option, Some, None}
use Rattle.std.specs.Prelude.{nat_eq, option_to_list}
use Rattle.std.specs.Option.{option_eq}
use Rattle.std.proofs.lemmas.Bool.{eqb-true, eq-eqb}
use lib.Pointwise.{pointwise}
use Rattle.pool_check.proofs.TestLemmas.{and-first, and-second, not-both}
use Rattle.pool_carry.specs.Making.{trie_row_form}
use Rattle.pool_carry.specs.declared.made.MadeRow.{MadeRow}
use Rattle.pool_carry.specs.declared.made.MadeRow.TheVariants.{Trie, Chain}
use Rattle.pool_carry.specs.contracts.made.MadeRowPartialEq.TheImpl as same
use Rattle.pool_carry.proofs.FirstRows.{same-numbers, numbers-same}

both-true : (a b : Bool) → a ≡ true → b ≡ true → (a && b) ≡ true
both-true a b a-is b-is = ap (λ x. x && b) a-is ∙ b-is

option-same : (o p : Option ℕ) → option_eq nat_eq o p ≡ true → o ≡ p
option-same None None is = refl
option-same None (Some y) is = absurd (not-both is)
option-same (Some x) None is = absurd (not-both is)
option-same (Some x) (Some y) is = ap Some (eqb-true x y is)

same-option : (o p : Option ℕ) → option_to_list o ≡ option_to_list p → option_eq nat_eq o p ≡ true
same-option None None is = refl
same-option None (Some y) is = absurd cc
same-option (Some x) None is = absurd cc
same-option (Some x) (Some y) is = eq-eqb x y cc

pub eq-is : (r s : MadeRow) → (same.ghosts).eq r s ≡ true → trie_row_form r ≡ trie_row_form s
eq-is (Trie d e m ls) (Trie d' e' m' ls') is =
    let links = pointwise nat_eq ls.items ls'.items in
    let rest = and-second (nat_eq d d') (nat_eq e e' && (nat_eq m m' && links)) is in
    let last = and-second (nat_eq e e') (nat_eq m m' && links) rest in
    let d-is : d ≡ d' = eqb-true d d' (and-first (nat_eq d d') (nat_eq e e' && (nat_eq m m' && links)) is) in
    let e-is : e ≡ e' = eqb-true e e' (and-first (nat_eq e e') (nat_eq m m' && links) rest) in
    let m-is : m ≡ m' = eqb-true m m' (and-first (nat_eq m m') links last) in
    let ls-is : ls.items ≡ ls'.items = same-numbers ls.items ls'.items (and-second (nat_eq m m') links last) in
    cc
eq-is (Trie d e m ls) (Chain k o) is = absurd (not-both is)
eq-is (Chain k o) (Trie d e m ls) is = absurd (not-both is)
eq-is (Chain k o) (Chain l p) is =
    let k-is : k ≡ l = eqb-true k l (and-first (nat_eq k l) (option_eq nat_eq o p) is) in
    let o-is : o ≡ p = option-same o p (and-second (nat_eq k l) (option_eq nat_eq o p) is) in
    cc

pub is-eq : (r s : MadeRow) → trie_row_form r ≡ trie_row_form s → (same.ghosts).eq r s ≡ true
is-eq (Trie d e m ls) (Trie d' e' m' ls') is =
    let d-is : d ≡ d' = cc in
    let e-is : e ≡ e' = cc in
    let m-is : m ≡ m' = cc in
    let ls-is : ls.items ≡ ls'.items = cc in
    both-true _ _ (eq-eqb d d' d-is) (both-true _ _ (eq-eqb e e' e-is) (both-true _ _ (eq-eqb m m' m-is) (ap (λ ks. pointwise nat_eq ks ls'.items) ls-is ∙ numbers-same ls'.items)))
is-eq (Trie d e m ls) (Chain k o) is = absurd cc
is-eq (Chain k o) (Trie d e m ls) is = absurd cc
is-eq (Chain k o) (Chain l p) is =
    let k-is : k ≡ l = cc in
    let o-is : option_to_list o ≡ option_to_list p = cc in
    both-true _ _ (eq-eqb k l k-is) (same-option o p o-is)

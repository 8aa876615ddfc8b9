-- Numbers, and lists of numbers, read off a value.
use Rattle.std.proofs.Common.{◌≡◌, ℕ, ◌<◌, ◌≤◌, Bool, true, false, cond, Option, Some, None, List, map, length, refl, ap, sym, ◌∙◌, arith}
use Rattle.std.specs.Prelude.{◌⊎◌, option_and_then}
use Rattle.std.proofs.lemmas.Bool.Decides.{nat_tests}
use Rattle.serde_json.specs.Data.{Data, null, boolean, number, string, array, object}
use Rattle.serde_json.specs.Find.{as_array}
use Rattle.serde_json.specs.View.{view, items_view}
use Rattle.serde_json.specs.declared.value.Value.{Value}
use Rattle.pool_text.specs.Rows.{is_between}
use Rattle.pool_text.specs.Document.{number_in, elements_in, all_of, numbers_in, kept_if}
use Rattle.pool_text.specs.Parsing.{numbers_between}
use Rattle.pool_text.proofs.ReadBack.{item_list-items}
use Rattle.pool_text.proofs.EachRead.{length-all_of}

pub elements-are : (d : Data) (vs : List Value) → Some (items_view vs) ≡ as_array d → Some (map view vs) ≡ elements_in d
elements-are null vs e = absurd (let f : Some (items_view vs) ≡ None = e in cc)
elements-are (boolean b) vs e = absurd (let f : Some (items_view vs) ≡ None = e in cc)
elements-are (number n) vs e = absurd (let f : Some (items_view vs) ≡ None = e in cc)
elements-are (string s) vs e = absurd (let f : Some (items_view vs) ≡ None = e in cc)
elements-are (array ds) vs e = ap (λ es. Some es) (sym (item_list-items (map view vs))) ∙ ap (λ o. elements_in (array o)) (let f : Some (items_view vs) ≡ Some ds = e in let g : items_view vs ≡ ds = cc in g)
elements-are (object ms) vs e = absurd (let f : Some (items_view vs) ≡ None = e in cc)

pub between-true : (least most n : ℕ) → least ≤ n → n ≤ most → is_between least most n ≡ true
between-true least most n low high = grind (arith, nat_tests)

pub between-false : (least most n : ℕ) → (n < least) ⊎ (most < n) → is_between least most n ≡ false
between-false least most n out = grind (arith, nat_tests)

module _ {X : Type 0} (test : X → Bool) where
  pub kept-all : (o : Option X) → ((x : X) → o ≡ Some x → test x ≡ true) → kept_if test o ≡ o
  kept-all None pass = refl
  kept-all (Some x) pass = ap (λ b. cond b (Some x) None) (pass x refl)

  pub kept-none : (o : Option X) → ((x : X) → o ≡ Some x → test x ≡ false) → kept_if test o ≡ None
  kept-none None fail = refl
  kept-none (Some x) fail = ap (λ b. cond b (Some x) None) (fail x refl)

  -- what is kept passes the test
  pub kept-passes : (o : Option X) (x : X) → kept_if test o ≡ Some x → test x ≡ true
  kept-passes None x e = absurd (let f : None ≡ Some x = e in cc)
  kept-passes (Some y) x e = passes (test y) refl e
    where
      passes : (b : Bool) → test y ≡ b → cond b (Some y) None ≡ Some x → test x ≡ true
      passes true is f = let g : Some y ≡ Some x = f in let same : y ≡ x = cc in ap test (sym same) ∙ is
      passes false is f = absurd (let g : None ≡ Some x = f in cc)

pub four-of : (d : Data) (ns : List ℕ) → numbers_between 4 4 d ≡ Some ns → length ns ≡ 4
four-of d ns e =
    let pass = kept-passes (λ ms. is_between 4 4 (length ms)) (numbers_in d) ns e in
    grind (arith, nat_tests)

module _ (least most : ℕ) (d : Data) (ds : List Data) (are : elements_in d ≡ Some ds) where
  numbers-of : numbers_in d ≡ all_of number_in ds
  numbers-of = ap (option_and_then (all_of number_in)) are

  -- too few or too many
  pub numbers-out : (n : ℕ) → length ds ≡ n → (n < least) ⊎ (most < n) → numbers_between least most d ≡ None
  numbers-out n size out = kept-none (λ ns. is_between least most (length ns)) (numbers_in d) (λ ns is. ap (is_between least most) (length-all_of number_in ds ns (sym numbers-of ∙ is) ∙ size) ∙ between-false least most n out)

  pub numbers-in : (n : ℕ) → length ds ≡ n → least ≤ n → n ≤ most → all_of number_in ds ≡ numbers_between least most d
  numbers-in n size low high = sym numbers-of ∙ sym (kept-all (λ ns. is_between least most (length ns)) (numbers_in d) (λ ns is. ap (is_between least most) (length-all_of number_in ds ns (sym numbers-of ∙ is) ∙ size) ∙ between-true least most n low high))

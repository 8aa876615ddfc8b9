-- What a text is read as, by what the library reads.
use Rattle.std.proofs.Common.{◌≡◌, ◌∙◌, ◌&&◌, ℕ, zero, suc, ◌+◌, ◌-◌, ◌*◌, ◌<◌, ◌≤◌, ◌^◌, true, false, List, [], ◌∷◌, length, drop, Option, Some, None, slice_index, sym, ap, refl, add-one, arith, get_or}
use Rattle.std.specs.Prelude.{IfSome, IfNone}
use Rattle.std.specs.Char.{digit_value, is_ascii_digit}
use Rattle.std.specs.Option.{ForSome}
use Rattle.std.specs.Str.{all_ascii_digits}
use Rattle.std.specs.Str.Parse.{digits_value, digits_value_after}
use Rattle.std.proofs.lemmas.Bool.{lt-ltb, le-leb, ne_eqb, ltb-true, leb-true, and_parts, and_from, false≢true, not-true, not_from_false, false_from_ne_true}
use Rattle.std.proofs.lemmas.Str.{digit_value_digit}
use Rattle.std.proofs.lemmas.Str.Parse.{IsNumeralModel, numerals_by_value, tells_all_ascii_digits}
use Rattle.std.specs.Fmt.{decimal, digits}
use Rattle.std.proofs.lemmas.Fmt.{decimal_nonempty, first_decimal, digits_decimal, digits_value-decimal}
use Rattle.shell_words.specs.Number.{leading_zero, is_number, number_to}

-- the digits are the library's
own : IsNumeralModel (λ ds. all_ascii_digits ds ≡ true) (digits_value 10)
own = numerals_by_value _ tells_all_ascii_digits

-- what a number is, part by part
record Numeral (most : ℕ) (text : List ℕ) : Type 0 where
  some : 0 < length text
  digits : all_ascii_digits text ≡ true
  plain : leading_zero text ≡ false
  fits : digits_value 10 text ≤ most

numeral_by_test : (most : ℕ) (text : List ℕ) → is_number most text ≡ true → Numeral most text
unfolding is_number
numeral_by_test most text test =
    let a = and_parts _ _ test in
    let b = and_parts _ _ a.0 in
    let c = and_parts _ _ b.0 in
    record { some = ltb-true _ _ c.0; digits = c.1; plain = not-true _ b.1; fits = leb-true _ _ a.1 }

is_number-yes : (most : ℕ) (text : List ℕ) → Numeral most text → is_number most text ≡ true
unfolding is_number
is_number-yes most text numeral =
    let some = lt-ltb 0 (length text) numeral.some in
    let fits = le-leb (digits_value 10 text) most numeral.fits in
    and_from _ _ (and_from _ _ (and_from _ _ some numeral.digits) (not_from_false _ numeral.plain)) fits

number_to-none : (most : ℕ) (text : List ℕ) → (Numeral most text → ⊥) → number_to most text ≡ None
unfolding number_to
number_to-none most text other =
    let e = false_from_ne_true (is_number most text) (λ test. other (numeral_by_test most text test)) in
    rw e refl

number_to-some : (most : ℕ) (text : List ℕ) → Numeral most text → number_to most text ≡ Some (digits_value 10 text)
unfolding number_to
number_to-some most text numeral =
    let e = is_number-yes most text numeral in
    rw e refl

module _ (most : ℕ) (text : List ℕ) where
  -- nothing writes no number
  pub number_to-empty : length text ≡ 0 → number_to most text ≡ None
  number_to-empty none = number_to-none most text (λ numeral. let some = numeral.some in absurd (omega (arith, none, some)))

  -- nor does a leading zero
  pub number_to-zero : leading_zero text ≡ true → number_to most text ≡ None
  number_to-zero padded = number_to-none most text (λ numeral. false≢true (sym numeral.plain ∙ padded))

  -- else digits write what they are read as, where that isn't too large
  pub number_to-digits : (r : Option ℕ) → (length text ≡ 0 → ⊥) → leading_zero text ≡ false
      → IfSome r (λ n. (all_ascii_digits text ≡ true) × (n ≡ digits_value 10 text)) → ForSome r (λ n. n ≤ most) → IfNone r (all_ascii_digits text ≡ true → most < digits_value 10 text) → r ≡ number_to most text
  number_to-digits None some plain read bound none =
      sym (number_to-none most text (λ numeral. let over = none numeral.digits in let fits = numeral.fits in absurd (omega (arith, over, fits))))
  number_to-digits (Some n) some plain read bound none =
      let within : n ≤ most = bound n refl in
      sym (number_to-some most text (record { some = omega (arith, some); digits = read.0; plain = plain; fits = omega (arith, within, read.1) }) ∙ ap (λ v. Some v) (sym read.1))

-- the bytes from an index on, one after the other
left-more : (bytes : List ℕ) (i byte : ℕ) → i < length bytes → byte ≡ get_or bytes i 0 → drop i bytes ≡ byte ∷ drop (i + 1) bytes
left-more [] i byte low is = absurd (omega (arith, low))
left-more (b ∷ bs) zero byte low is = let same : byte ≡ b = is in ap (λ x. x ∷ bs) (sym same)
left-more (b ∷ bs) (suc i) byte low is = rw add-one (rw add-one at (left-more bs i byte (omega (arith, low)) is))

nothing-left : (i : ℕ) → ◌≡◌ {A = List ℕ} (drop i []) []
nothing-left zero = refl
nothing-left (suc i) = refl

pub none-left : (bytes : List ℕ) (i : ℕ) → length bytes ≤ i → drop i bytes ≡ []
none-left [] i past = nothing-left i
none-left (b ∷ bs) zero past = absurd (omega (arith, past))
none-left (b ∷ bs) (suc i) past = none-left bs i (omega (arith, past))

-- what a number is at least, once digits follow
after-more : (n : ℕ) (ds : List ℕ) → n ≤ digits_value_after 10 n ds
after-more n [] = omega arith
after-more n (d ∷ ds) = omega (arith, after-more (n * 10 + digit_value d) ds)

digit-is : (byte : ℕ) → is_ascii_digit byte ≡ true → digit_value byte ≡ byte - 48
digit-is byte digit =
    let parts = and_parts _ _ digit in
    omega (arith, digit_value_digit byte (leb-true _ _ parts.0, leb-true _ _ parts.1))

module _ (bytes : List ℕ) (i byte : ℕ) (low : i < length bytes) (is : byte ≡ get_or bytes i 0) where
  -- one digit more
  pub digit-more : is_ascii_digit byte ≡ true → all_ascii_digits (drop i bytes) ≡ all_ascii_digits (drop (i + 1) bytes)
  digit-more digit = ap all_ascii_digits (left-more bytes i byte low is) ∙ ap (λ b. b && all_ascii_digits (drop (i + 1) bytes)) digit

  value-after : (n : ℕ) → digits_value_after 10 n (drop i bytes) ≡ digits_value_after 10 (n * 10 + digit_value byte) (drop (i + 1) bytes)
  value-after n = ap (digits_value_after 10 n) (left-more bytes i byte low is)

module _ (bytes : List ℕ) (i byte n : ℕ) where
  pub value-more : (more : ℕ) → i < length bytes → byte ≡ get_or bytes i 0 → is_ascii_digit byte ≡ true → more ≡ n * 10 + (byte - 48) → digits_value_after 10 n (drop i bytes) ≡ digits_value_after 10 more (drop (i + 1) bytes)
  value-more more low is digit grown =
      let same : n * 10 + digit_value byte ≡ more = omega (arith, digit-is byte digit, grown) in
      value-after bytes i byte low is n ∙ ap (λ m. digits_value_after 10 m (drop (i + 1) bytes)) same

  -- a digit that makes it too large
  pub past-most : (most : ℕ) → i < length bytes → byte ≡ get_or bytes i 0 → all_ascii_digits (drop i bytes) ≡ true → digits_value 10 bytes ≡ digits_value_after 10 n (drop i bytes)
      → (is_ascii_digit byte ≡ true → most < n * 10 + (byte - 48)) → most < digits_value 10 bytes
  past-most most low is digits value large =
      let parts = and_parts _ _ (sym (ap all_ascii_digits (left-more bytes i byte low is)) ∙ digits) in
      omega (arith, large parts.0, digit-is byte parts.0, value, value-after bytes i byte low is n, after-more (n * 10 + digit_value byte) (drop (i + 1) bytes))

-- all are read
pub all-read : (bytes : List ℕ) (i n : ℕ) → drop i bytes ≡ [] → all_ascii_digits bytes ≡ all_ascii_digits (drop i bytes) → digits_value 10 bytes ≡ digits_value_after 10 n (drop i bytes)
    → (all_ascii_digits bytes ≡ true) × (n ≡ digits_value 10 bytes)
all-read bytes i n left digits value = (digits ∙ ap all_ascii_digits left, sym (value ∙ ap (digits_value_after 10 n) left))

-- what a number writes of itself has no leading zero
decimal_plain : (n : ℕ) → n < 2 ^ 64 → leading_zero (decimal n) ≡ false
unfolding digits
decimal_plain zero small = refl
decimal_plain (suc n) small =
    let first : 48 < get_or (decimal (suc n)) 0 0 = first_decimal (suc n) (omega arith) small in
    let other = ne_eqb (slice_index (decimal (suc n)) 0) 48 (λ e. omega (arith, first, e)) in
    rw other refl

-- and reads as the number
pub number_to-decimal : (most n : ℕ) → n ≤ most → n < 2 ^ 64 → number_to most (decimal n) ≡ Some n
number_to-decimal most n within small =
    let same : digits_value 10 (decimal n) ≡ n = digits_value-decimal own n small in
    number_to-some most (decimal n) (record {
      some = decimal_nonempty n small;
      digits = digits_decimal own n small;
      plain = decimal_plain n small;
      fits = omega (arith, same);
    }) ∙ ap (λ v. Some v) same

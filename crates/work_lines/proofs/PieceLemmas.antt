-- What the grammar of a line makes of pieces that are names and numbers.
use Rattle.std.proofs.Common.{◌≡◌, ◌≢◌, ◌∙◌, ℕ, zero, suc, ◌+◌, ◌-◌, ◌<◌, ◌≤◌, ◌^◌, Bool, true, false, ◌||◌, ◌&&◌, List, [], ◌∷◌, ◌++◌, length, take, drop, Some, None, Ok, sym, ap, refl, arith}
use Rattle.std.specs.Prelude.{decimal, nat_le, unwrap_or, IsTrue, bytes_eq, Contains}
use Rattle.std.specs.List.{list_any, list_all, position_or_len}
use Rattle.std.specs.Map.{lookup}
use Rattle.std.specs.Str.{IsAscii}
use Rattle.std.specs.Str.Parse.{AllDigits}
use Rattle.std.proofs.Math.Seq.{take-append_seam, drop-append-add}
use Rattle.std.proofs.lemmas.Bool.{le-leb, leb-true, ne_eqb, and_parts, and_from, false≢true}
use Rattle.std.proofs.lemmas.List.{length-append}
use Rattle.std.proofs.lemmas.List.Sums.{AllPass-from_list_all}
use Rattle.std.proofs.lemmas.Fmt.{decimal_is_IsNumeral, length-decimal-le}
use Rattle.std.proofs.lemmas.Str.{IsUtf8-from_ascii}
use Rattle.std.proofs.lemmas.Str.Parse.{digit_from_value}
use Rattle.std.proofs.lemmas.List.Folds.{list_all-append}
use Rattle.std.proofs.lemmas.List.Elements.{All-contains}
use Rattle.std.proofs.lemmas.Bool.Decides.{nat_tests}
use Rattle.elem_core.specs.declared.TheConstants.{MAX_LINE}
use Rattle.elem_core.specs.Cell.{IsCell}
use Rattle.elem_core.specs.Naming.{IsName, is_name_byte}
use Rattle.shell_terms.specs.Command.{PlainCommand}
use Rattle.shell_words.specs.Grammar.{RestMeaning, is_space, first_piece, after_piece, if_named, a_name, a_number, commands}
use Rattle.shell_words.proofs.NumberLemmas.{number_to-decimal}
use Rattle.shell_words.proofs.GrammarLemmas.{if_named-yes}
use Rattle.shell_words.proofs.CommandLemmas.{meaning-word}
use Rattle.work_lines.specs.Commands.{is_made, IsLineOf}

-- ## Pieces without a space

abbrev pub Unspaced : List ℕ → Type 0
Unspaced xs = list_any is_space xs ≡ false

nor : (a b : Bool) → (a || b) ≡ false → (a ≡ false) × (b ≡ false)
nor true b e = absurd (false≢true (sym e))
nor false b e = (refl, e)

position-spaced : (xs rest : List ℕ) → Unspaced xs → position_or_len is_space (xs ++ 32 ∷ rest) ≡ length xs
position-spaced [] rest un = refl
position-spaced (x ∷ xs) rest un =
    let parts = nor (is_space x) (list_any is_space xs) un in
    let later = position-spaced xs rest parts.1 in
    rw parts.0 (omega (arith, later))

position-whole : (xs : List ℕ) → Unspaced xs → position_or_len is_space xs ≡ length xs
position-whole [] un = refl
position-whole (x ∷ xs) un =
    let parts = nor (is_space x) (list_any is_space xs) un in
    let later = position-whole xs parts.1 in
    rw parts.0 (omega (arith, later))

or_true : (b : Bool) → (b || true) ≡ true
or_true true = refl
or_true false = refl

any-spaced : (xs rest : List ℕ) → list_any is_space (xs ++ 32 ∷ rest) ≡ true
any-spaced [] rest = refl
any-spaced (x ∷ xs) rest = rw (any-spaced xs rest) (or_true (is_space x))

take_all : (xs : List ℕ) → take (length xs) xs ≡ xs
take_all [] = refl
take_all (x ∷ xs) = ap (x ∷◌) (take_all xs)

module _ (xs : List ℕ) (un : Unspaced xs) where
  pub first-spaced : (rest : List ℕ) → first_piece (xs ++ 32 ∷ rest) ≡ xs
  unfolding first_piece
  first-spaced rest = ap (λ n. take n (xs ++ 32 ∷ rest)) (position-spaced xs rest un) ∙ take-append_seam xs (32 ∷ rest)

  pub after-spaced : (rest : List ℕ) → after_piece (xs ++ 32 ∷ rest) ≡ Some rest
  unfolding after_piece
  after-spaced rest =
      let behind : drop (position_or_len is_space (xs ++ 32 ∷ rest) + 1) (xs ++ 32 ∷ rest) ≡ rest =
      ap (λ n. drop (n + 1) (xs ++ 32 ∷ rest)) (position-spaced xs rest un) ∙ drop-append-add xs (32 ∷ rest) 1 in
      rw (any-spaced xs rest) (ap (λ v. Some v) behind)

  first-whole : first_piece xs ≡ xs
  unfolding first_piece
  first-whole = ap (λ n. take n xs) (position-whole xs un) ∙ take_all xs

  after-whole : after_piece xs ≡ None
  unfolding after_piece
  after-whole = rw un refl

  -- a piece that is a name
  pub name-then : (rest : List ℕ) (more : List ℕ → RestMeaning) (c : PlainCommand) → IsName xs → more xs (Some rest) ≡ Ok c → a_name more (Some (xs ++ 32 ∷ rest)) ≡ Ok c
  unfolding a_name
  name-then rest more c named is = rw (first-spaced rest, after-spaced rest) (ap (if_named xs) is ∙ if_named-yes xs c named)

  pub name-last : (more : List ℕ → RestMeaning) (c : PlainCommand) → IsName xs → more xs None ≡ Ok c → a_name more (Some xs) ≡ Ok c
  unfolding a_name
  name-last more c named is = rw (first-whole, after-whole) (ap (if_named xs) is ∙ if_named-yes xs c named)

-- the bytes of lines here
abbrev pub is_line_byte : ℕ → Bool
is_line_byte c = nat_le 32 c && nat_le c 122

-- ## Digits

digits-pass : (p : ℕ → Bool) → ((c : ℕ) → 48 ≤ c → c ≤ 57 → p c ≡ true) → (ds : List ℕ) → AllDigits 10 ds → list_all p ds ≡ true
digits-pass p each [] digits = refl
digits-pass p each (c ∷ cs) digits =
    let value = digit_from_value c digits.0 in
    and_from _ _ (each c (omega (arith, value)) (omega (arith, value))) (digits-pass p each cs digits.1)

name_bytes-unspaced : (xs : List ℕ) → list_all is_name_byte xs ≡ true → Unspaced xs
name_bytes-unspaced [] pass = refl
name_bytes-unspaced (x ∷ xs) pass =
    let parts = and_parts (is_name_byte x) (list_all is_name_byte xs) pass in
    let other = ne_eqb x 32 (λ e. false≢true (sym (ap is_name_byte e) ∙ parts.0)) in
    rw other (name_bytes-unspaced xs parts.1)

digit_named : (c : ℕ) → 48 ≤ c → c ≤ 57 → is_name_byte c ≡ true
digit_named c low high = grind (arith, nat_tests)

digit_written : (c : ℕ) → 48 ≤ c → c ≤ 57 → is_line_byte c ≡ true
digit_written c low high = and_from _ _ (le-leb 32 c (omega arith)) (le-leb c 122 (omega arith))

module _ (n : ℕ) (small : n < 2 ^ 32) where
  all_digits : AllDigits 10 (decimal n)
  all_digits = (decimal_is_IsNumeral n (omega arith)).0.1

  number_unspaced : Unspaced (decimal n)
  number_unspaced = name_bytes-unspaced (decimal n) (digits-pass is_name_byte digit_named (decimal n) all_digits)

  -- a piece that is a number
  pub number-then : (rest : List ℕ) (more : ℕ → RestMeaning) → a_number more (Some (decimal n ++ 32 ∷ rest)) ≡ more n (Some rest)
  unfolding a_number
  number-then rest more =
      let reads = number_to-decimal (2 ^ 32 - 1) n (omega arith) (omega arith) in
      rw (first-spaced (decimal n) number_unspaced rest, after-spaced (decimal n) number_unspaced rest, reads) refl

  pub number-last : (more : ℕ → RestMeaning) → a_number more (Some (decimal n)) ≡ more n None
  unfolding a_number
  number-last more =
      let reads = number_to-decimal (2 ^ 32 - 1) n (omega arith) (omega arith) in
      rw (first-whole (decimal n) number_unspaced, after-whole (decimal n) number_unspaced, reads) refl

  -- a letter and a number are a name
  module _ (letter : ℕ) (named : is_name_byte letter ≡ true) where
    pub lettered_unspaced : Unspaced (letter ∷ decimal n)
    lettered_unspaced = name_bytes-unspaced (letter ∷ decimal n) (and_from _ _ named (digits-pass is_name_byte digit_named (decimal n) all_digits))

    pub lettered : letter ≢ 46 → letter ≢ 45 → IsName (letter ∷ decimal n)
    lettered no_stop no_hyphen =
        let long = length-decimal-le 10 n (omega arith) (omega arith) (omega arith) in
        record {
          some = omega arith;
          short = omega (arith, long);
          alphabet = AllPass-from_list_all is_name_byte (letter ∷ decimal n) (and_from _ _ named (digits-pass is_name_byte digit_named (decimal n) all_digits));
          no_stop_first = λ e. no_stop (ap (λ o. unwrap_or o 0) e);
          no_hyphen_first = λ e. no_hyphen (ap (λ o. unwrap_or o 0) e);
        }

-- ## Parts of a line

-- bytes that may stand in a line here, at most so many
pub record IsPart (most : ℕ) (bytes : List ℕ) : Type 0 where
  pub bytes_pass : list_all is_line_byte bytes ≡ true
  pub short : length bytes ≤ most

pub part-number : (n : ℕ) → n < 2 ^ 32 → IsPart 10 (decimal n)
part-number n small = record {
  bytes_pass = digits-pass is_line_byte digit_written (decimal n) (all_digits n small);
  short = length-decimal-le 10 n (omega arith) (omega arith) (omega arith);
}

pub part-letter : (letter most : ℕ) (bytes : List ℕ) → is_line_byte letter ≡ true → IsPart most bytes → IsPart (1 + most) (letter ∷ bytes)
part-letter letter most bytes passes part = record {
  bytes_pass = and_from _ _ passes part.bytes_pass;
  short = let short = part.short in omega (arith, short);
}

-- parts with a space between them
pub part-joined : (m k : ℕ) (xs ys : List ℕ) → IsPart m xs → IsPart k ys → IsPart (m + (1 + k)) (xs ++ 32 ∷ ys)
part-joined m k xs ys one two = record {
  bytes_pass = list_all-append is_line_byte xs (32 ∷ ys) ∙ and_from _ _ one.bytes_pass two.bytes_pass;
  short = let a = one.short in let b = two.short in omega (arith, a, b, length-append xs (32 ∷ ys));
}

line_ascii : (bytes : List ℕ) → list_all is_line_byte bytes ≡ true → IsAscii bytes
line_ascii [] passes i = omega arith
line_ascii (c ∷ cs) passes zero =
    let here = (and_parts (is_line_byte c) (list_all is_line_byte cs) passes).0 in
    let high = leb-true c 122 (and_parts (nat_le 32 c) (nat_le c 122) here).1 in
    omega (arith, high)
line_ascii (c ∷ cs) passes (suc i) = line_ascii cs (and_parts (is_line_byte c) (list_all is_line_byte cs) passes).1 i

line_cell : (most : ℕ) (bytes : List ℕ) → most ≤ MAX_LINE → IsPart most bytes → IsCell bytes
line_cell most bytes few part = record {
  unbroken = λ (broken : Contains bytes 10). false≢true (All-contains (λ c. is_line_byte c ≡ true) bytes 10 (AllPass-from_list_all is_line_byte bytes part.bytes_pass) broken);
  short = let short = part.short in omega (arith, short);
}

-- A line of a word of the grammar, and of what the rest of the line means.
pub line-of : (most : ℕ) (line word : List ℕ) (read : RestMeaning) (command : PlainCommand) → most ≤ MAX_LINE → IsPart most line → first_piece line ≡ word
    → lookup (bytes_eq word) commands ≡ Some read → read (after_piece line) ≡ Ok command → IsTrue (is_made command) → IsLineOf line command
line-of most line word read command few part first found reads made = record {
  cell = line_cell most line few part;
  means = meaning-word line word read (IsUtf8-from_ascii line (line_ascii line part.bytes_pass)) first found ∙ reads;
  made = made;
}

-- a word with more behind it
pub word-line : (most : ℕ) (word rest : List ℕ) (read : RestMeaning) (command : PlainCommand) → Unspaced word → most + 11 ≤ MAX_LINE → length word ≤ 10 → list_all is_line_byte word ≡ true
    → IsPart most rest → lookup (bytes_eq word) commands ≡ Some read → read (Some rest) ≡ Ok command → IsTrue (is_made command) → IsLineOf (word ++ 32 ∷ rest) command
word-line most word rest read command un few short passes part found reads made =
    line-of (10 + (1 + most)) (word ++ 32 ∷ rest) word read command (omega arith) (part-joined 10 most word rest (record { bytes_pass = passes; short = short }) part)
    (first-spaced word un rest) found (ap read (after-spaced word un rest) ∙ reads) made

-- a word alone
pub word-alone : (word : List ℕ) (read : RestMeaning) (command : PlainCommand) → Unspaced word → length word ≤ 10 → list_all is_line_byte word ≡ true
    → lookup (bytes_eq word) commands ≡ Some read → read None ≡ Ok command → IsTrue (is_made command) → IsLineOf word command
word-alone word read command un short passes found reads made =
    line-of 10 word word read command (omega arith) (record { bytes_pass = passes; short = short }) (first-whole word un) found (ap read (after-whole word un) ∙ reads) made

-- The parts of a document, read off its members one after another.
use Rattle.std.proofs.Common.{◌≡◌, ℕ, true, false, cond, Option, Some, None, option_map, List, [], ◌∷◌, length, bytes_eq, refl, ap, sym, ◌∙◌, arith, inr}
use Rattle.std.specs.Prelude.{option_and_then, codes}
use Rattle.std.specs.Option.{option_or}
use Rattle.serde_json.specs.Data.{Data, null, boolean, number, string, array, object, Members}
use Rattle.serde_json.specs.Find.{as_object, as_str}
use Rattle.pool_text.specs.Rows.{Bytes, is_between}
use Rattle.pool_text.specs.Document.{DocumentParts, number_in, elements_in, numbers_in, four, kept_if, document_keys, older_keys, values_at, history_in, fits_version, parts_read, parts_by_format, parts_from, parts_in}
use Rattle.pool_text.specs.Parsing.{with_history, numbers_between}
use Rattle.pool_text.proofs.NumbersRead.{between-false}

-- the values of a document's keys, or of an older one's, among these members
abbrev values_in : Members → Option (List Data)
values_in ms = option_or (values_at document_keys ms) (values_at older_keys ms)

object-parts : (d : Data) (ms : Members) → Some ms ≡ as_object d → parts_in d ≡ option_and_then parts_from (values_in ms)
object-parts null ms e = absurd (let f : Some ms ≡ None = e in cc)
object-parts (boolean b) ms e = absurd (let f : Some ms ≡ None = e in cc)
object-parts (number n) ms e = absurd (let f : Some ms ≡ None = e in cc)
object-parts (string s) ms e = absurd (let f : Some ms ≡ None = e in cc)
object-parts (array ds) ms e = absurd (let f : Some ms ≡ None = e in cc)
object-parts (object found) ms e = let f : Some ms ≡ Some found = e in let same : found ≡ ms = cc in ap (λ ns. option_and_then parts_from (values_in ns)) same

-- the parts by the values that the members have
pub by-values : (d : Data) (ms found : Members) (o : Option (List Data)) → Some ms ≡ as_object d → found ≡ ms → values_in found ≡ o → parts_in d ≡ option_and_then parts_from o
by-values d ms found o is same values = object-parts d ms is ∙ ap (λ ns. option_and_then parts_from (values_in ns)) (sym same) ∙ ap (option_and_then parts_from) values

-- the first values and the next ones
pub then-more : (before : List Data → List Data) (o p q : Option (List Data)) → q ≡ option_map before o → o ≡ p → q ≡ option_map before p
then-more before o p q e more = e ∙ ap (option_map before) more

-- a first value of both lists of keys, and the next ones
pub both-more : (d : Data) (o p q r s : Option (List Data)) → q ≡ option_map (λ ds. d ∷ ds) o → r ≡ option_map (λ ds. d ∷ ds) p → option_or o p ≡ s → option_or q r ≡ option_map (λ ds. d ∷ ds) s
both-more d o p q r s is_q is_r more = by o is_q ∙ ap (option_map (λ ds. d ∷ ds)) more
  where
    by : (x : Option (List Data)) → q ≡ option_map (λ ds. d ∷ ds) x → option_or q r ≡ option_map (λ ds. d ∷ ds) (option_or x p)
    by None is = ap (λ y. option_or y r) is ∙ is_r
    by (Some ds) is = ap (λ y. option_or y r) is

-- neither list of keys is there
pub neither : (q r : Option (List Data)) → q ≡ None → r ≡ None → option_or q r ≡ None
neither q r none_q none_r = ap (λ x. option_or x r) none_q ∙ none_r

-- nothing was found
pub no-answer : {X Y : Type 0} (f : X → Option Y) (o : Option X) → o ≡ None → None ≡ option_and_then f o
no-answer f o e = sym (ap (option_and_then f) e)

-- ## The format

-- the parts where the format is this text
text-format : (format : Data) (text : Bytes) (parts : Option DocumentParts) → Some text ≡ as_str format → parts_by_format format parts ≡ cond (bytes_eq text (codes "ewig-pool")) parts None
text-format null text parts e = absurd (let f : Some text ≡ None = e in cc)
text-format (boolean b) text parts e = absurd (let f : Some text ≡ None = e in cc)
text-format (number n) text parts e = absurd (let f : Some text ≡ None = e in cc)
text-format (string s) text parts e = let f : Some text ≡ Some s = e in let same : s ≡ text = cc in ap (λ t. cond (bytes_eq t (codes "ewig-pool")) parts None) same
text-format (array ds) text parts e = absurd (let f : Some text ≡ None = e in cc)
text-format (object ms) text parts e = absurd (let f : Some text ≡ None = e in cc)

other-value : (format : Data) (parts : Option DocumentParts) → None ≡ as_str format → parts_by_format format parts ≡ None
other-value null parts e = refl
other-value (boolean b) parts e = refl
other-value (number n) parts e = refl
other-value (string s) parts e = absurd (let f : None ≡ Some s = e in cc)
other-value (array ds) parts e = refl
other-value (object ms) parts e = refl

module _ (bits format : Data) (history : Option Data) (roots rows version : Data) where
  abbrev pub found_values : List Data
  found_values = bits ∷ format ∷ with_history history (roots ∷ rows ∷ version ∷ [])

  abbrev found_parts : Option DocumentParts
  found_parts = parts_read bits history roots rows version

  of-values : parts_from found_values ≡ parts_by_format format found_parts
  of-values = by history
    where
      by : (value : Option Data) → parts_from (bits ∷ format ∷ with_history value (roots ∷ rows ∷ version ∷ [])) ≡ parts_by_format format (parts_read bits value roots rows version)
      by None = refl
      by (Some value) = refl

  -- the values where the format is the pool's, and where it isn't
  pub by-format : (text : Bytes) → Some text ≡ as_str format → bytes_eq text (codes "ewig-pool") ≡ true → parts_from found_values ≡ found_parts
  by-format text e is = of-values ∙ text-format format text found_parts e ∙ ap (λ b. cond b found_parts None) is

  pub other-format : (text : Bytes) → Some text ≡ as_str format → bytes_eq text (codes "ewig-pool") ≡ false → parts_from found_values ≡ None
  other-format text e other = of-values ∙ text-format format text found_parts e ∙ ap (λ b. cond b found_parts None) other

  pub no-format : None ≡ as_str format → parts_from found_values ≡ None
  no-format e = of-values ∙ other-value format found_parts e

-- ## The parts

-- there are four roots where there are from 4 to 4 of them
four-between : (ns : List ℕ) → four ns ≡ cond (is_between 4 4 (length ns)) (Some ns) None
four-between [] = refl
four-between (a ∷ []) = refl
four-between (a ∷ b ∷ []) = refl
four-between (a ∷ b ∷ c ∷ []) = refl
four-between (a ∷ b ∷ c ∷ d ∷ []) = refl
four-between (a ∷ b ∷ c ∷ d ∷ e ∷ ns) =
    let more : is_between 4 4 (length (a ∷ b ∷ c ∷ d ∷ e ∷ ns)) ≡ false = between-false 4 4 (length (a ∷ b ∷ c ∷ d ∷ e ∷ ns)) (inr (omega arith)) in
    ap (λ t. cond t (Some (a ∷ b ∷ c ∷ d ∷ e ∷ ns)) None) (sym more)

roots-between : (o : Option (List ℕ)) → option_and_then four o ≡ option_and_then (λ ns. cond (is_between 4 4 (length ns)) (Some ns) None) o
roots-between None = refl
roots-between (Some ns) = four-between ns

pub roots-are : (d : Data) → option_and_then four (numbers_in d) ≡ numbers_between 4 4 d
roots-are d = roots-between (numbers_in d)

module _ (bits : Data) (history : Option Data) (roots rows version : Data) where
  abbrev versions : Option ℕ
  versions = kept_if (fits_version history) (number_in version)

  abbrev with_rows : ℕ → ℕ → List ℕ → Option DocumentParts
  with_rows = λ b h rs. option_and_then (λ ds. option_map (λ v. record { bits = b; history = h; roots = rs; rows = ds; version = v }) versions) (elements_in rows)

  abbrev found_roots : Option (List ℕ)
  found_roots = option_and_then four (numbers_in roots)

  abbrev no_parts : Option DocumentParts
  no_parts = None

  none-then : (o : Option ℕ) → option_and_then (λ (n : ℕ). no_parts) o ≡ None
  none-then None = refl
  none-then (Some n) = refl

  pub no-roots : numbers_between 4 4 roots ≡ None → parts_read bits history roots rows version ≡ None
  no-roots none =
      ap (λ o. option_and_then (λ b. option_and_then (λ h. option_and_then (with_rows b h) o) (history_in history)) (number_in bits)) (roots-are roots ∙ none)
      ∙ ap (λ o. option_and_then (λ (b : ℕ). o) (number_in bits)) (none-then (history_in history))
      ∙ none-then (number_in bits)

  pub all-parts : (b h v : ℕ) (rs : List ℕ) (ds : List Data) → number_in bits ≡ Some b → history_in history ≡ Some h → numbers_between 4 4 roots ≡ Some rs → elements_in rows ≡ Some ds → versions ≡ Some v
      → parts_read bits history roots rows version ≡ Some (record { bits = b; history = h; roots = rs; rows = ds; version = v })
  all-parts b h v rs ds is_b is_h is_rs is_ds is_v =
      ap (λ o. option_and_then (λ n. option_and_then (λ m. option_and_then (with_rows n m) found_roots) (history_in history)) o) is_b
      ∙ ap (λ o. option_and_then (λ m. option_and_then (with_rows b m) found_roots) o) is_h
      ∙ ap (option_and_then (with_rows b h)) (roots-are roots ∙ is_rs)
      ∙ ap (option_and_then (λ es. option_map (λ n. record { bits = b; history = h; roots = rs; rows = es; version = n }) versions)) is_ds
      ∙ ap (option_map (λ n. record { bits = b; history = h; roots = rs; rows = ds; version = n })) is_v

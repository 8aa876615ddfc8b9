-- What the words after the program's name mean.
use Rattle.std.specs.Prelude.{ℕ, ◌-◌, ◌^◌, Bool, true, false, not, ◌&&◌, ◌==◌, if◌then◌else◌}
use Rattle.std.specs.Prelude.{List, [], ◌∷◌, find}
use Rattle.std.specs.Prelude.{Option, Some, None, is_some, option_map, option_and_then, unwrap_or, codes, bytes_eq}
use Rattle.std.specs.List.{list_any, before_first, after_first}
use Rattle.elem_core.specs.declared.codes.TheConstants.{CODE_BITS}
use Rattle.elem_core.specs.Naming.{is_name}
use Rattle.shell_words.specs.Number.{number_to}

-- A word or a part of one, as its bytes.
abbrev pub Text : Type 0
Text = List ℕ

-- The four options.
pub data Key : Type 0 where
  the_bits : Key
  the_document : Key
  the_seed : Key
  the_count : Key

-- An option's name, which stands behind `--`.
abbrev pub name_of : Key → Text
name_of the_bits = codes "bits"
name_of the_document = codes "open"
name_of the_seed = codes "work"
name_of the_count = codes "count"

-- The option of a name.
unfoldable pub key_named : Text → Option Key
key_named name = find (λ key. bytes_eq (name_of key) name) (the_bits ∷ the_document ∷ the_seed ∷ the_count ∷ [])

-- The bytes of a hyphen and of an equals sign.
abbrev pub is_hyphen : ℕ → Bool
is_hyphen byte = byte == 45

abbrev pub is_equals : ℕ → Bool
is_equals byte = byte == 61

-- Whether the text begins with a hyphen.
abbrev pub begins_with_hyphen : Text → Bool
begins_with_hyphen [] = false
begins_with_hyphen (byte ∷ rest) = is_hyphen byte

-- What stands behind the two hyphens that a word begins with.
abbrev pub after_hyphens : Text → Option Text
after_hyphens (a ∷ b ∷ rest) = if is_hyphen a && is_hyphen b then Some rest else None
after_hyphens _ = None

-- The option that the text `K` or `K=V` names, and V where it has one.
abbrev pub named : Text → Option (Key × Option Text)
named rest = option_map
    (λ key. (key, if list_any is_equals rest then Some (after_first is_equals rest) else None))
    (key_named (before_first is_equals rest))

-- The option that a word `--K` or `--K=V` names, and V where it has one. Any other word names none.
unfoldable pub option_of : Text → Option (Key × Option Text)
option_of word = option_and_then named (after_hyphens word)

-- Options in the order of the words, each with its value.
abbrev pub Given : Type 0
Given = List (Key × Text)

-- The option with its value, before the others.
abbrev pub first_given : Key → Text → Option Given → Option Given
first_given key value = option_map (λ rest. (key, value) ∷ rest)

-- Goes on behind a word that names an option: with nothing to wait for, or with an option that waits for its value.
abbrev pub begun : Option (Key × Option Text) → (Option Key → Option Given) → Option Given
begun None more = None
begun (Some (key, Some value)) more = first_given key value (more None)
begun (Some (key, None)) more = more (Some key)

-- The options that the words give, where one may wait for the next word as its value. Such a value doesn't begin with a hyphen.
unfoldable pub given_by : List Text → Option Key → Option Given
given_by [] None = Some []
given_by [] (Some key) = None
given_by (word ∷ rest) None = begun (option_of word) (given_by rest)
given_by (word ∷ rest) (Some key) = if begins_with_hyphen word then None else first_given key word (given_by rest None)

-- Whether it is this option that is given.
abbrev pub is_option : Key → Key × Text → Bool
is_option key pair = bytes_eq (name_of pair.0) (name_of key)

-- No option stands twice.
abbrev pub each_once : Given → Bool
each_once [] = true
each_once (pair ∷ rest) = not (list_any (is_option pair.0) rest) && each_once rest

-- The value of an option, where it is given.
abbrev pub value_given : Key → Given → Option Text
value_given key pairs = option_map (λ pair. pair.1) (find (is_option key) pairs)

-- The text, where it is a name.
abbrev pub name_in : Text → Option Text
name_in text = if is_name text then Some text else None

-- What the program was asked for: how many bits of a code it keeps, the document that it begins with, and the seed and the
-- number of the commands that it makes by itself.
pub record PlainOptions : Type 0 where
  pub bits : ℕ
  pub first : Option Text
  pub work : Option (ℕ × ℕ)

-- The most commands that the program makes by itself, behind the eight that make buffers.
abbrev pub most_count : ℕ
most_count = 100000

-- An option that isn't given, or one whose value reads.
abbrev pub if_given : {A : Type 0} → (Text → Option A) → Option Text → Option (Option A)
if_given read None = Some None
if_given read (Some text) = option_map (λ a. Some a) (read text)

-- The seed and the count come together or not at all, and not with a document.
abbrev pub pair : Bool → Option ℕ → Option ℕ → Option (Option (ℕ × ℕ))
pair opens None None = Some None
pair false (Some seed) (Some count) = Some (Some (seed, count))
pair opens _ _ = None

-- The options of values that were read.
abbrev pub together : ℕ → Option Text → Option ℕ → Option ℕ → Option PlainOptions
together kept first seed count =
    option_map (λ work. record { bits = kept; first = first; work = work }) (pair (is_some first) seed count)

-- The options of the values of `--bits`, `--open`, `--work` and `--count`, each of which may not be given; or None where one
-- doesn't read. Without `--bits` a space keeps all bits of a code.
unfoldable pub options_of : Option Text → Option Text → Option Text → Option Text → Option PlainOptions
options_of b o w c =
    option_and_then (λ bits. option_and_then (λ first. option_and_then (λ seed. option_and_then (λ count.
    together (unwrap_or bits CODE_BITS) first seed count)
    (if_given (number_to most_count) c)) (if_given (number_to (2 ^ 64 - 1)) w)) (if_given name_in o)) (if_given (number_to CODE_BITS) b)

-- The same of options in the order of the words, each at most once.
unfoldable pub options_given : Given → Option PlainOptions
options_given pairs =
    if each_once pairs
    then options_of (value_given the_bits pairs) (value_given the_document pairs) (value_given the_seed pairs) (value_given the_count pairs)
    else None

-- The options that the words ask for, or None where they don't read.
unfoldable pub options : List Text → Option PlainOptions
options words = option_and_then options_given (given_by words None)

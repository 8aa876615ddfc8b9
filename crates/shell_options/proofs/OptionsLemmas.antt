-- From what `clap` makes of the words to the options that they mean.
use Rattle.std.proofs.lemmas.Slice.Eq.{bytes_eq-Decides}
use Rattle.clap.specs.Words.{fault_of, matches_of}
use Rattle.std.specs.Prelude.{Result, Ok, Err, IfOk, drop, slice_index_or, string_bytes}
use Rattle.std.proofs.Common.{String, inl, inr}
use Rattle.clap.specs.Words.{found_of, first_value}
use Rattle.shell_options.specs.declared.WordsFault.{WordsFault}
use Rattle.shell_options.specs.declared.WordsFault.TheVariants.{Usage, Memory}
use Rattle.shell_options.specs.Shown.{ReadsWords, fault_by}
use Rattle.clap.specs.Words.{FailsBy, HasMatchesOf, IsAmong, kind_of, is_simple_and_free, App}
use Rattle.clap.specs.declared.error.Error.{Error}
use Rattle.clap.specs.declared.parser.matches.ArgMatches.{ArgMatches}
use Rattle.std.proofs.Common.{◌≡◌, ◌≢◌, ◌∙◌, ◌++◌, ◌&&◌, ◌||◌, ◌==◌, not, ℕ, Bool, true, false, List, [], ◌∷◌, map, Option, Some, None, option_map, is_some, codes, bytes_eq, refl, sym, subst, ap, cond, length, zero, suc, ◌<◌, arith, append-nil, append_assoc, true≢false}
use Rattle.std.specs.Prelude.{unwrap_or, if◌then◌else◌, MatchOption, find, option_and_then, slice_get}
use Rattle.std.specs.List.{list_any}
use Rattle.std.specs.Char.{encode_utf8}
use Rattle.std.specs.Str.{chars, is_utf8, encode_utf8_all, all_scalars}
use Rattle.std.proofs.lemmas.Bool.{and_parts}
use Rattle.std.proofs.lemmas.Bool.{eqb-true}
use Rattle.clap.specs.Lexer.{long_of, long_of_rest, strip_byte, short_of}
use Rattle.clap.specs.Walk.{Row, first_of}
use Rattle.clap.proofs.WalkLemmas.{find-map, first_value-rows}
use Rattle.shell_options.specs.Options.{Text, Key, the_bits, the_document, the_seed, the_count, name_of, key_named, Given, PlainOptions, is_option, begins_with_hyphen, option_of, given_by, begun, first_given, each_once, value_given, options_given, options_of, options, named}
use Rattle.shell_options.specs.Split.{app, Splits, hyphen, hyphens, is_bare, AreWords, row_of}
use Rattle.shell_options.proofs.SplitLemmas.{Look, long, short, other, Looks, HaveLooks, no_words, more_words, split, added, met, key_in, Pending, Fails, Parses, parse_verdict, app_is_simple, app_simple}

-- ---- what a word is

first_char : (c : ℕ) (rest : Text) → is_utf8 (45 ∷ c ∷ rest) ≡ true → (x : ℕ) × (slice_get (chars (c ∷ rest)) 0 ≡ Some x)
unfolding chars encode_utf8 is_utf8
first_char c rest utf8 = go (chars (c ∷ rest)) refl
  where
    go : (cs : List ℕ) → chars (c ∷ rest) ≡ cs → (x : ℕ) × (slice_get (chars (c ∷ rest)) 0 ≡ Some x)
    go [] e =
        let same : bytes_eq (encode_utf8_all (45 ∷ chars (c ∷ rest))) (45 ∷ c ∷ rest) ≡ true = (and_parts (all_scalars (45 ∷ chars (c ∷ rest))) (bytes_eq (encode_utf8_all (45 ∷ chars (c ∷ rest))) (45 ∷ c ∷ rest)) utf8).1 in
        let wrong : bytes_eq (encode_utf8_all (45 ∷ [])) (45 ∷ c ∷ rest) ≡ true = subst (λ cs. bytes_eq (encode_utf8_all (45 ∷ cs)) (45 ∷ c ∷ rest) ≡ true) e same in
        absurd (true≢false (sym wrong))
    go (x ∷ cs) e = (x, rw e refl)

look_hyphens : (rest : Text) → bytes_eq (45 ∷ 45 ∷ rest) hyphens ≡ false → Look (45 ∷ 45 ∷ rest)
look_hyphens [] two = absurd (true≢false two)
look_hyphens (d ∷ rest) two = long (45 ∷ 45 ∷ d ∷ rest) _ _ refl refl

look_hyphen : (rest : Text) → is_utf8 (45 ∷ rest) ≡ true → bytes_eq (45 ∷ rest) hyphen ≡ false → bytes_eq (45 ∷ rest) hyphens ≡ false → Look (45 ∷ rest)
look_hyphen [] utf8 one two = absurd (true≢false one)
look_hyphen (c ∷ rest) utf8 one two = go (c == 45) refl
  where
    go : (b : Bool) → (c == 45) ≡ b → Look (45 ∷ c ∷ rest)
    go true e =
        let is : 45 ≡ c = sym (eqb-true c 45 e) in
        subst (λ d. Look (45 ∷ d ∷ rest)) is (look_hyphens rest (subst (λ d. bytes_eq (45 ∷ d ∷ rest) hyphens ≡ false) (sym is) two))
    go false e =
        let first = first_char c rest utf8 in
        short (45 ∷ c ∷ rest) (c ∷ rest) first.0 (rw e refl) (rw e refl) first.1 (omega arith) refl

look_at : (word : Text) → is_utf8 word ≡ true → bytes_eq word hyphen ≡ false → bytes_eq word hyphens ≡ false → Look word
look_at [] utf8 one two = other [] refl refl refl
look_at (a ∷ rest) utf8 one two = go (a == 45) refl
  where
    go : (b : Bool) → (a == 45) ≡ b → Look (a ∷ rest)
    go false e = other (a ∷ rest) (rw e refl) (rw e refl) e
    go true e =
        let is : 45 ≡ a = sym (eqb-true a 45 e) in
        subst (λ d. Look (d ∷ rest)) is (look_hyphen rest (subst (λ d. is_utf8 (d ∷ rest) ≡ true) (sym is) utf8)
        (subst (λ d. bytes_eq (d ∷ rest) hyphen ≡ false) (sym is) one) (subst (λ d. bytes_eq (d ∷ rest) hyphens ≡ false) (sym is) two))

pub is_word : (word : Text) → is_utf8 word ≡ true → bytes_eq word hyphen ≡ false → bytes_eq word hyphens ≡ false → Looks word
is_word word utf8 one two = record { two = two; look = look_at word utf8 one two }

option_behind : (n : Bool) (rest : Text) → option_and_then named (if n then Some rest else None)
    ≡ option_and_then key_in (option_and_then long_of_rest (if n then Some rest else None))
unfolding key_named
option_behind true [] = refl
option_behind true (c ∷ rest) = refl
option_behind false rest = refl

-- a word is an option for the program just where it is for `clap`
option_of_is : (word : Text) → option_of word ≡ option_and_then key_in (long_of word)
unfolding option_of key_named
option_of_is [] = refl
option_of_is (a ∷ []) = go (a == 45)
  where
    go : (b : Bool) → None ≡ option_and_then key_in (option_and_then long_of_rest (option_and_then (strip_byte 45) (cond b (Some []) None)))
    go true = refl
    go false = refl
option_of_is (a ∷ b ∷ rest) = go (a == 45)
  where
    go : (m : Bool) → option_and_then named (if m && (b == 45) then Some rest else None)
        ≡ option_and_then key_in (option_and_then long_of_rest (option_and_then (strip_byte 45) (cond m (Some (b ∷ rest)) None)))
    go true = option_behind (b == 45) rest
    go false = refl

begins_is : (word : Text) → Look word → begins_with_hyphen word ≡ (is_some (long_of word) || is_some (short_of word))
begins_is w (long word name value is begins) = rw is begins
begins_is w (short word flags x no_long is first some begins) = rw (no_long, is) begins
begins_is w (other word no_long no_short plain) = rw (no_long, no_short) plain

-- ---- the options in order

-- Options added one after another, each new.
unfoldable extend : Given → Given → Option Given
extend pairs [] = Some pairs
extend pairs ((key, value) ∷ rest) = option_and_then (λ all. extend all rest) (added pairs key value)

abbrev own : Pending → Given
own None = []
own (Some (key, None)) = []
own (Some (key, Some value)) = (key, value) ∷ []

abbrev to_come : Pending → Option Key
to_come None = None
to_come (Some (key, None)) = Some key
to_come (Some (key, Some value)) = None

abbrev Told : List Text → Given → Pending → Type 0
Told words pairs p = split words pairs p ≡ option_and_then (λ rest. extend pairs (own p ++ rest)) (given_by words (to_come p))

lost : (o : Option Given) → option_and_then {T = Given} {U = Given} (λ a. None) o ≡ None
lost None = refl
lost (Some a) = refl

-- an option met where nothing is to come
met_none : (rest : List Text) (pairs : Given) → ((pairs : Given) (p : Pending) → Told rest pairs p) → (o : Option (Key × Option Text))
    → met o pairs None (split rest) ≡ option_and_then (extend pairs) (begun o (given_by rest))
unfolding extend
met_none rest pairs later None = refl
met_none rest pairs later (Some (key, None)) = later pairs (Some (key, None))
met_none rest pairs later (Some (key, Some value)) = go (added pairs key value) ∙ turn (given_by rest None)
  where
    turn : (g : Option Given) → option_and_then (λ all. option_and_then (extend all) g) (added pairs key value) ≡ option_and_then (extend pairs) (first_given key value g)
    turn None = lost (added pairs key value)
    turn (Some qs) = refl

    go : (o : Option Given) → option_and_then (λ all. split rest all None) o ≡ option_and_then (λ all. option_and_then (extend all) (given_by rest None)) o
    go None = refl
    go (Some all) = later all None

-- and where an option has its value
met_own : (rest : List Text) (pairs : Given) (old : Key) (text : Text) → ((pairs : Given) (p : Pending) → Told rest pairs p) → (o : Option (Key × Option Text))
    → met o pairs (Some (old, Some text)) (split rest) ≡ option_and_then (λ qs. extend pairs ((old, text) ∷ qs)) (begun o (given_by rest))
unfolding extend
met_own rest pairs old text later None = refl
met_own rest pairs old text later (Some (key, None)) = go (added pairs old text) ∙ turn (given_by rest (Some key))
  where
    turn : (g : Option Given) → option_and_then (λ all. option_and_then (extend all) g) (added pairs old text) ≡ option_and_then (λ qs. extend pairs ((old, text) ∷ qs)) g
    turn None = lost (added pairs old text)
    turn (Some qs) = refl

    go : (o : Option Given) → option_and_then (λ all. split rest all (Some (key, None))) o ≡ option_and_then (λ all. option_and_then (extend all) (given_by rest (Some key))) o
    go None = refl
    go (Some all) = later all (Some (key, None))
met_own rest pairs old text later (Some (key, Some value)) = go (added pairs old text) ∙ turn (given_by rest None)
  where
    turn : (g : Option Given) → option_and_then (λ all. option_and_then (λ more. option_and_then (extend more) g) (added all key value)) (added pairs old text)
        ≡ option_and_then (λ qs. extend pairs ((old, text) ∷ qs)) (first_given key value g)
    turn None = none (added pairs old text)
      where
        none : (o : Option Given) → option_and_then {T = Given} {U = Given} (λ all. option_and_then {T = Given} {U = Given} (λ more. None) (added all key value)) o ≡ None
        none None = refl
        none (Some all) = lost (added all key value)
    turn (Some qs) = refl

    inner : (o : Option Given) → option_and_then (λ all. split rest all None) o ≡ option_and_then (λ all. option_and_then (extend all) (given_by rest None)) o
    inner None = refl
    inner (Some all) = later all None

    go : (o : Option Given) → option_and_then (λ all. option_and_then (λ more. split rest more None) (added all key value)) o
        ≡ option_and_then (λ all. option_and_then (λ more. option_and_then (extend more) (given_by rest None)) (added all key value)) o
    go None = refl
    go (Some all) = inner (added all key value)

told : (words : List Text) → HaveLooks words → (pairs : Given) (p : Pending) → Told words pairs p
unfolding split given_by extend
told [] none pairs None = refl
told [] none pairs (Some (key, None)) = refl
told [] none pairs (Some (key, Some value)) = go (added pairs key value)
  where
    go : (o : Option Given) → o ≡ option_and_then (λ all. Some all) o
    go None = refl
    go (Some all) = refl
told (word ∷ rest) (more_words w r is more) pairs None =
    ap (λ o. met o pairs None (split r)) (sym (option_of_is w)) ∙ met_none r pairs (told r more) (option_of w)
told (word ∷ rest) (more_words w r is more) pairs (Some (key, Some value)) =
    ap (λ o. met o pairs (Some (key, Some value)) (split r)) (sym (option_of_is w)) ∙ met_own r pairs key value (told r more) (option_of w)
told (word ∷ rest) (more_words w r is more) pairs (Some (key, None)) =
    ap (λ b. if b then None else split r pairs (Some (key, Some w))) (sym (begins_is w is.look)) ∙ go (begins_with_hyphen w) (given_by r None) (told r more pairs (Some (key, Some w)))
  where
    go : (b : Bool) (g : Option Given) → split r pairs (Some (key, Some w)) ≡ option_and_then (λ qs. extend pairs ((key, w) ∷ qs)) g
        → (if b then None else split r pairs (Some (key, Some w))) ≡ option_and_then (extend pairs) (if b then None else first_given key w g)
    go true g later = refl
    go false None later = later
    go false (Some qs) later = later

-- ---- each option once

same_key : (a b : Key) → bytes_eq (name_of a) (name_of b) ≡ bytes_eq (name_of b) (name_of a)
same_key the_bits the_bits = refl
same_key the_bits the_document = refl
same_key the_bits the_seed = refl
same_key the_bits the_count = refl
same_key the_document the_bits = refl
same_key the_document the_document = refl
same_key the_document the_seed = refl
same_key the_document the_count = refl
same_key the_seed the_bits = refl
same_key the_seed the_document = refl
same_key the_seed the_seed = refl
same_key the_seed the_count = refl
same_key the_count the_bits = refl
same_key the_count the_document = refl
same_key the_count the_seed = refl
same_key the_count the_count = refl

-- No option of the second list stands in the first.
abbrev apart : Given → Given → Bool
apart pairs [] = true
apart pairs (q ∷ rest) = not (list_any (is_option q.0) pairs) && apart pairs rest

any_last : (key : Key) (pairs : Given) (q : Key × Text) → list_any (is_option key) (pairs ++ q ∷ []) ≡ (list_any (is_option key) pairs || is_option key q)
any_last key [] q = or_none (is_option key q)
  where
    or_none : (b : Bool) → (b || false) ≡ b
    or_none true = refl
    or_none false = refl
any_last key (x ∷ pairs) q = ap (λ b. is_option key x || b) (any_last key pairs q) ∙ go (is_option key x)
  where
    go : (b : Bool) → (b || (list_any (is_option key) pairs || is_option key q)) ≡ ((b || list_any (is_option key) pairs) || is_option key q)
    go true = refl
    go false = refl

-- one option more in front
apart_last : (pairs : Given) (q : Key × Text) (rest : Given) → apart (pairs ++ q ∷ []) rest ≡ (apart pairs rest && not (list_any (is_option q.0) rest))
apart_last pairs q [] = refl
apart_last pairs q (x ∷ rest) =
    rw (any_last x.0 pairs q, apart_last pairs q rest, same_key q.0 x.0) (go (list_any (is_option x.0) pairs) (bytes_eq (name_of x.0) (name_of q.0)) (apart pairs rest) (list_any (is_option q.0) rest))
  where
    go : (a b c d : Bool) → (not (a || b) && (c && not d)) ≡ ((not a && c) && not (b || d))
    go true b c d = refl
    go false true true d = refl
    go false true false d = refl
    go false false c d = refl

extend_is : (rest pairs : Given) → extend pairs rest ≡ (if apart pairs rest && each_once rest then Some (pairs ++ rest) else None)
unfolding extend
extend_is [] pairs = ap (λ xs. Some xs) (sym (append-nil pairs))
extend_is ((key, value) ∷ rest) pairs = go (list_any (is_option key) pairs) (extend_is rest (pairs ++ (key, value) ∷ []))
  where
    last : (a b c : Bool) → (if (a && not b) && c then Some ((pairs ++ (key, value) ∷ []) ++ rest) else None) ≡ (if a && (not b && c) then Some (pairs ++ (key, value) ∷ rest) else None)
    last true true c = refl
    last true false true = ap (λ xs. Some xs) (append_assoc pairs ((key, value) ∷ []) rest)
    last true false false = refl
    last false b c = refl

    go : (b : Bool) → extend (pairs ++ (key, value) ∷ []) rest
        ≡ (if apart (pairs ++ (key, value) ∷ []) rest && each_once rest then Some ((pairs ++ (key, value) ∷ []) ++ rest) else None)
        → option_and_then (λ all. extend all rest) (if b then None else Some (pairs ++ (key, value) ∷ []))
        ≡ (if (not b && apart pairs rest) && (not (list_any (is_option key) rest) && each_once rest) then Some (pairs ++ (key, value) ∷ rest) else None)
    go true later = refl
    go false later = later ∙ ap (λ b. if b && each_once rest then Some ((pairs ++ (key, value) ∷ []) ++ rest) else None) (apart_last pairs (key, value) rest)
        ∙ last (apart pairs rest) (list_any (is_option key) rest) (each_once rest)

apart_from_none : (rest : Given) → apart [] rest ≡ true
apart_from_none [] = refl
apart_from_none (q ∷ rest) = apart_from_none rest

-- What `clap` splits is what the grammar gives, each option once.
pub split_is : (words : List Text) → HaveLooks words → split words [] None ≡ option_and_then (λ all. if each_once all then Some all else None) (given_by words None)
split_is words are = told words are [] None ∙ go (given_by words None)
  where
    go : (g : Option Given) → option_and_then (extend []) g ≡ option_and_then (λ all. if each_once all then Some all else None) g
    go None = refl
    go (Some all) = extend_is all [] ∙ ap (λ b. if b && each_once all then Some all else None) (apart_from_none all)

-- ---- the words, and what they mean

nor : (a b : Bool) → (a || b) ≡ false → (a ≡ false) × (b ≡ false)
nor true b e = absurd (true≢false e)
nor false b e = (refl, e)

have_looks : (words : List Text) → AreWords words → HaveLooks words
have_looks [] are = no_words
have_looks (word ∷ rest) are =
    let plain = nor (bytes_eq word hyphen) (bytes_eq word hyphens) are.0.1 in
    more_words word rest (is_word word are.0.0 plain.0 plain.1) (have_looks rest are.1)

-- a bare word gives nothing, wherever it stands
bare_option : (word : Text) → is_bare word ≡ true → (option_of word ≡ None) × (begins_with_hyphen word ≡ true)
unfolding option_of key_named
bare_option word e = go (bytes_eq word hyphen) refl e
  where
    go : (b : Bool) → bytes_eq word hyphen ≡ b → (b || bytes_eq word hyphens) ≡ true → (option_of word ≡ None) × (begins_with_hyphen word ≡ true)
    go true one e = rw ((bytes_eq-Decides word hyphen).0 one) (refl, refl)
    go false one e = rw ((bytes_eq-Decides word hyphens).0 e) (refl, refl)

begun_none : (o : Option (Key × Option Text)) → begun o (λ key. None) ≡ None
begun_none None = refl
begun_none (Some (key, None)) = refl
begun_none (Some (key, Some value)) = refl

bare_given : (words : List Text) → list_any is_bare words ≡ true → (p : Option Key) → given_by words p ≡ None
unfolding given_by
bare_given [] e p = absurd (true≢false (sym e))
bare_given (word ∷ rest) e p = go (is_bare word) refl p e (λ e p. bare_given rest e p)
  where
    from : (o : Option (Key × Option Text)) → ((p : Option Key) → given_by rest p ≡ None) → begun o (given_by rest) ≡ None
    from None later = refl
    from (Some (key, None)) later = later (Some key)
    from (Some (key, Some value)) later = rw (later None) refl

    wait : (b : Bool) (key : Key) → ((p : Option Key) → given_by rest p ≡ None) → (if b then None else first_given key word (given_by rest None)) ≡ None
    wait true key later = refl
    wait false key later = rw (later None) refl

    go : (b : Bool) → is_bare word ≡ b → (p : Option Key) → (b || list_any is_bare rest) ≡ true → (list_any is_bare rest ≡ true → (p : Option Key) → given_by rest p ≡ None)
        → given_by (word ∷ rest) p ≡ None
    go true bare None e later = rw (bare_option word bare).0 refl
    go true bare (Some key) e later = rw (bare_option word bare).1 refl
    go false bare None e later = from (option_of word) (later e)
    go false bare (Some key) e later = wait (begins_with_hyphen word) key (later e)

pub bare_is_usage : (words : List Text) → list_any is_bare words ≡ true → options words ≡ None
unfolding options
bare_is_usage words e = rw (bare_given words e None) refl

value_is : (key : Key) (all : Given) → first_of (name_of key) (map row_of all) ≡ value_given key all
value_is key all = ap (option_and_then (λ (r : Row). slice_get r.values 0)) (sym (find-map (λ (r : Row). bytes_eq r.id (name_of key)) row_of all)) ∙ go (find (is_option key) all)
  where
    go : (o : Option (Key × Text)) → option_and_then (λ (r : Row). slice_get r.values 0) (option_map row_of o) ≡ option_map (λ p. p.1) o
    go None = refl
    go (Some p) = refl

abbrev options_in : List Row → Option PlainOptions
options_in rows = options_of (first_of (codes "bits") rows) (first_of (codes "open") rows) (first_of (codes "work") rows) (first_of (codes "count") rows)

values_are : (all : Given) → options_in (map row_of all) ≡ options_of (value_given the_bits all) (value_given the_document all) (value_given the_seed all) (value_given the_count all)
values_are all = rw (value_is the_bits all, value_is the_document all, value_is the_seed all, value_is the_count all) refl

abbrev once_only : Given → Option Given
once_only all = if each_once all then Some all else None

given_mean : (qs all : Given) (b : Bool) → each_once qs ≡ b → Some all ≡ (if b then Some qs else None) → options_given qs ≡ options_in (map row_of all)
unfolding options_given
given_mean qs all true once is =
    let same : all ≡ qs = ap (λ o. unwrap_or o all) is in
    subst (λ xs. options_given qs ≡ options_in (map row_of xs)) (sym same) (rw once (sym (values_are qs)))
given_mean qs all false once is = absurd (true≢false (ap is_some is))

given_nothing : (qs : Given) (b : Bool) → each_once qs ≡ b → None ≡ (if b then Some qs else None) → options_given qs ≡ None
unfolding options_given
given_nothing qs true once is = absurd (true≢false (sym (ap is_some is)))
given_nothing qs false once is = rw once refl

all_mean : (g : Option Given) (all : Given) → Some all ≡ option_and_then once_only g → option_and_then options_given g ≡ options_in (map row_of all)
all_mean None all is = absurd (true≢false (ap is_some is))
all_mean (Some qs) all is = given_mean qs all (each_once qs) refl is

none_mean : (g : Option Given) → None ≡ option_and_then once_only g → option_and_then options_given g ≡ None
none_mean None is = refl
none_mean (Some qs) is = given_nothing qs (each_once qs) refl is

-- Words that `clap` takes mean what it found.
pub taken_mean : (words : List Text) → AreWords words → fault_of app words ≡ [] → options words ≡ options_in (matches_of app words)
unfolding options options_given
taken_mean words are free = go (split words [] None) (parse_verdict words (have_looks words are)) (split_is words (have_looks words are))
  where
    go : (o : Option Given) → MatchOption o (Fails (fault_of app words)) (Parses words) → o ≡ option_and_then (λ all. if each_once all then Some all else None) (given_by words None)
        → option_and_then options_given (given_by words None) ≡ options_in (matches_of app words)
    go None f is = absurd (subst Fails free f)
    go (Some all) p is = all_mean (given_by words None) all is ∙ ap options_in (sym p.rows)

-- Words that it refuses mean nothing.
pub refused_mean_nothing : (words : List Text) → AreWords words → fault_of app words ≢ [] → options words ≡ None
unfolding options options_given
refused_mean_nothing words are fails = go (split words [] None) (parse_verdict words (have_looks words are)) (split_is words (have_looks words are))
  where
    go : (o : Option Given) → MatchOption o (Fails (fault_of app words)) (Parses words) → o ≡ option_and_then (λ all. if each_once all then Some all else None) (given_by words None)
        → option_and_then options_given (given_by words None) ≡ None
    go None f is = none_mean (given_by words None) is
    go (Some all) p is = absurd (fails p.free)

-- ---- from the contracts of the calls

splits_from_simple : (words : List Text) (r : Result ArgMatches Error) → FailsBy (fault_of app words) r → IfOk r (HasMatchesOf app words) → Splits words r
splits_from_simple words (Ok m) fails has = (fails, (has app_simple).0)
splits_from_simple words (Err e) (inl memory) has = inl memory
splits_from_simple words (Err e) (inr among) has = inr (λ none. subst (IsAmong (kind_of e)) none among)

pub splits_from : (a : App) (words : List Text) (r : Result ArgMatches Error) → a ≡ app → (is_simple_and_free a ≡ true → FailsBy (fault_of a words) r)
    → IfOk r (HasMatchesOf a words) → Splits words r
splits_from a words r same fails has =
    splits_from_simple words r (subst (λ x. FailsBy (fault_of x words) r) same (fails (ap is_simple_and_free same ∙ app_is_simple))) (subst (λ x. IfOk r (HasMatchesOf x words)) same has)

pub bare_from : (bytes one two : Text) (x y : Bool) → x ≡ bytes_eq bytes one → one ≡ hyphen → x ≡ false → y ≡ bytes_eq bytes two → two ≡ hyphens → y ≡ false
    → is_bare bytes ≡ false
bare_from bytes one two x y xe o xf ye t yf =
    let a : bytes_eq bytes hyphen ≡ false = ap (bytes_eq bytes) (sym o) ∙ sym xe ∙ xf in
    let b : bytes_eq bytes hyphens ≡ false = ap (bytes_eq bytes) (sym t) ∙ sym ye ∙ yf in
    rw (a, b) refl

module _ {Z : Type 0} where
  pub any_here : (words : List (String Z)) (i : ℕ) (item : String Z) → i < length words → item ≡ slice_index_or words i item → true ≡ is_bare (string_bytes item)
      → true ≡ list_any is_bare (map string_bytes (drop i words))
  any_here [] i item lt at e = absurd (omega arith)
  any_here (w ∷ words) zero item lt at e = ap (λ b. b || list_any is_bare (map string_bytes words)) (e ∙ ap (λ x. is_bare (string_bytes x)) at)
  any_here (w ∷ words) (suc i) item lt at e = any_here words i item (omega arith) at e

pub found_mean : (words : List Text) (m : ArgMatches) (b o w n : Option Text) → AreWords words → Splits words (Ok m)
    → b ≡ first_value (found_of m) (codes "bits") → o ≡ first_value (found_of m) (codes "open") → w ≡ first_value (found_of m) (codes "work")
    → n ≡ first_value (found_of m) (codes "count") → options words ≡ options_of b o w n
found_mean words m b o w n are splits bs os ws ns =
    taken_mean words are splits.0 ∙ ap options_in (sym splits.1)
    ∙ sym (rw (bs, os, ws, ns, first_value-rows (found_of m) (codes "bits"), first_value-rows (found_of m) (codes "open"), first_value-rows (found_of m) (codes "work"), first_value-rows (found_of m) (codes "count")) refl)

reads_nothing : (asked : Option PlainOptions) (fault : WordsFault) → asked ≡ None → ReadsWords asked (Err fault)
reads_nothing asked Usage e = e
reads_nothing asked Memory e = tt

pub refused_reads : (words : List Text) (e : Error) (fault : WordsFault) → AreWords words → Splits words (Err e) → fault ≡ fault_by (kind_of e) → ReadsWords (options words) (Err fault)
refused_reads words e fault are (inl memory) is = subst (λ f. ReadsWords (options words) (Err f)) (sym (is ∙ ap fault_by memory)) tt
refused_reads words e fault are (inr fails) is = reads_nothing (options words) fault (refused_mean_nothing words are fails)

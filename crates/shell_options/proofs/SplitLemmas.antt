-- What the words of `clap` say of the program's options.
use Rattle.std.proofs.Common.{◌≡◌, ◌∙◌, ◌++◌, ◌&&◌, ◌||◌, not, ℕ, Bool, true, false, List, [], ◌∷◌, map, Option, Some, None, option_map, is_some, bytes_eq, refl, sym, subst, ap, cond, length, ◌<◌, arith, append-nil, true≢false}
use Rattle.std.specs.Prelude.{⊤, if◌then◌else◌, MatchOption, fold, find, option_and_then, slice_get}
use Rattle.std.specs.List.{list_any}
use Rattle.std.specs.Str.{chars}
use Rattle.clap.specs.Lexer.{long_of, short_of}
use Rattle.clap.specs.Kinds.{Kinds, or_else}
use Rattle.clap.specs.Walk.{Held, Row, Rule, Walk, Waiting, idle, option, arg_by_id, arg_by_long, arg_by_short, at_row, default_rows, reading_by, has_long, has_row, more_values, nothing_held, settled, used, walk, walked, with_default}
use Rattle.clap.specs.Simple.{Shape, built, filled, entered, is_simple, matches_of}
use Rattle.clap.specs.Faults.{fault_of, is_simple_and_free, settle_fault, use_fault, turn_fault, walk_fault, defaults_fault, flags_fault, entered_fault, level_fault, default_fault, given_default_fault}
use Rattle.clap.specs.declared.parser.matches.ValueSource.TheVariants.{CommandLine}
use Rattle.shell_options.specs.Options.{Text, Key, the_bits, the_document, the_seed, the_count, name_of, key_named, Given, is_option, begins_with_hyphen}
use Rattle.shell_options.specs.Split.{app, hyphens, option_rule, row_of}

-- ---- the built program

abbrev pub rule : Key → Rule
rule key = filled (option_rule key)

abbrev rules : List Rule
rules = rule the_bits ∷ rule the_document ∷ rule the_seed ∷ rule the_count ∷ []

abbrev top : Shape
top = record app.top { rules = rules; is_built = true; disable_help_subcommand = true }

built_app : built app ≡ record { top = top; subs = [] }
unfolding app
built_app = refl

pub app_is_simple : is_simple_and_free app ≡ true
unfolding app
app_is_simple = refl

pub app_simple : is_simple app ≡ true
unfolding app
app_simple = refl

-- ---- kinds of error

abbrev pub Fails : Kinds → Type 0
Fails [] = ⊥
Fails (k ∷ ks) = ⊤

fails_first : (a b : Kinds) → Fails a → Fails (or_else a b)
fails_first [] b f = absurd f
fails_first (k ∷ ks) b f = tt

fails_then : (a b : Kinds) → Fails b → Fails (or_else a b)
fails_then [] b f = f
fails_then (k ∷ ks) b f = tt

nothing_more : (a : Kinds) → or_else a [] ≡ a
nothing_more [] = refl
nothing_more (k ∷ ks) = refl

-- ---- look-ups

by_id : (key : Key) → arg_by_id rules (name_of key) ≡ Some (rule key)
by_id the_bits = refl
by_id the_document = refl
by_id the_seed = refl
by_id the_count = refl

or_false : (b : Bool) → (b || false) ≡ b
or_false true = refl
or_false false = refl

abbrev keys : List Key
keys = the_bits ∷ the_document ∷ the_seed ∷ the_count ∷ []

find_rule : (p : Rule → Bool) (q : Key → Bool) → ((key : Key) → p (rule key) ≡ q key) → (ks : List Key) → find p (map rule ks) ≡ option_map rule (find q ks)
find_rule p q same [] = refl
find_rule p q same (key ∷ ks) = ap (λ b. cond b (Some (rule key)) (find p (map rule ks))) (same key) ∙ go (q key) (find_rule p q same ks)
  where
    go : (b : Bool) → find p (map rule ks) ≡ option_map rule (find q ks) → cond b (Some (rule key)) (find p (map rule ks)) ≡ option_map rule (cond b (Some key) (find q ks))
    go true later = refl
    go false later = later

by_long : (name : Text) → arg_by_long rules name ≡ option_map rule (key_named name)
unfolding key_named
by_long name = find_rule (λ a. not (is_some a.index) && has_long a name) (λ key. bytes_eq (name_of key) name) (λ key. named_so key) keys
  where
    named_so : (key : Key) → (not (is_some (rule key).index) && has_long (rule key) name) ≡ bytes_eq (name_of key) name
    named_so the_bits = or_false _
    named_so the_document = or_false _
    named_so the_seed = or_false _
    named_so the_count = or_false _

by_short : (x : ℕ) → arg_by_short rules x ≡ None
by_short x = refl

-- ---- the parse so far

-- An option whose value may still be to come.
abbrev pub Pending : Type 0
Pending = Option (Key × Option Text)

abbrev values_so_far : Option Text → List Text
values_so_far None = []
values_so_far (Some value) = value ∷ []

abbrev pending_of : Pending → Option (Text × List Text)
pending_of = option_map (λ p. (name_of p.0, values_so_far p.1))

abbrev waiting_of : Pending → Waiting
waiting_of None = idle
waiting_of (Some (key, None)) = option (name_of key)
waiting_of (Some (key, Some value)) = idle

abbrev held : Given → Pending → Held
held pairs p = record { rows = map row_of pairs; pending = pending_of p; skip = 0 }

abbrev at : Given → Pending → Walk
at pairs p = record { held = held pairs p; waiting = waiting_of p; position = 1; is_trailing = false; stopped = None }

-- ---- one use of an option

abbrev pub added : Given → Key → Text → Option Given
added pairs key value = if list_any (is_option key) pairs then None else Some (pairs ++ (key, value) ∷ [])

has_row_is : (key : Key) (pairs : Given) → has_row (name_of key) (map row_of pairs) ≡ list_any (is_option key) pairs
has_row_is key [] = refl
has_row_is key (pair ∷ rest) = ap (λ b. bytes_eq (name_of pair.0) (name_of key) || b) (has_row_is key rest)

use_fails : (key : Key) (value : Text) (rows : List Row) → has_row (name_of key) rows ≡ true → Fails (use_fault false (rule key) (value ∷ []) rows)
use_fails the_bits value rows e = rw e tt
use_fails the_document value rows e = rw e tt
use_fails the_seed value rows e = rw e tt
use_fails the_count value rows e = rw e tt

use_free : (key : Key) (value : Text) (rows : List Row) → has_row (name_of key) rows ≡ false → use_fault false (rule key) (value ∷ []) rows ≡ []
use_free the_bits value rows e = rw e refl
use_free the_document value rows e = rw e refl
use_free the_seed value rows e = rw e refl
use_free the_count value rows e = rw e refl

at_end : (id : Text) (change : Row → List Row) (missing rows : List Row) → has_row id rows ≡ false → at_row id change missing rows ≡ rows ++ missing
at_end id change missing [] e = refl
at_end id change missing (r ∷ rest) e = go (bytes_eq r.id id) e (at_end id change missing rest)
  where
    go : (b : Bool) → (b || has_row id rest) ≡ false → (has_row id rest ≡ false → at_row id change missing rest ≡ rest ++ missing)
        → cond b (change r ++ rest) (r ∷ at_row id change missing rest) ≡ r ∷ rest ++ missing
    go true e later = absurd (true≢false e)
    go false e later = ap (λ rs. r ∷ rs) (later e)

used_at_end : (key : Key) (value : Text) (rows : List Row) → has_row (name_of key) rows ≡ false → used (rule key) (value ∷ []) rows ≡ rows ++ row_of (key, value) ∷ []
used_at_end the_bits value rows e = rw (at_end (name_of the_bits) (λ _. []) [] rows e, append-nil rows) (at_end (name_of the_bits) (more_values CommandLine (value ∷ [])) (row_of (the_bits, value) ∷ []) rows e)
used_at_end the_document value rows e = rw (at_end (name_of the_document) (λ _. []) [] rows e, append-nil rows) (at_end (name_of the_document) (more_values CommandLine (value ∷ [])) (row_of (the_document, value) ∷ []) rows e)
used_at_end the_seed value rows e = rw (at_end (name_of the_seed) (λ _. []) [] rows e, append-nil rows) (at_end (name_of the_seed) (more_values CommandLine (value ∷ [])) (row_of (the_seed, value) ∷ []) rows e)
used_at_end the_count value rows e = rw (at_end (name_of the_count) (λ _. []) [] rows e, append-nil rows) (at_end (name_of the_count) (more_values CommandLine (value ∷ [])) (row_of (the_count, value) ∷ []) rows e)

rows_append : (a b : Given) → map row_of (a ++ b) ≡ map row_of a ++ map row_of b
rows_append [] b = refl
rows_append (x ∷ a) b = ap (λ rs. row_of x ∷ rs) (rows_append a b)

-- What a use of an option with this value comes to.
record Uses (pairs : Given) (key : Key) (value : Text) (all : Given) : Type 0 where
  free : use_fault false (rule key) (value ∷ []) (map row_of pairs) ≡ []
  rows : used (rule key) (value ∷ []) (map row_of pairs) ≡ map row_of all

use_of : (pairs : Given) (key : Key) (value : Text)
    → MatchOption (added pairs key value) (Fails (use_fault false (rule key) (value ∷ []) (map row_of pairs))) (Uses pairs key value)
use_of pairs key value = go (list_any (is_option key) pairs) refl
  where
    go : (b : Bool) → list_any (is_option key) pairs ≡ b
        → MatchOption (if b then None else Some (pairs ++ (key, value) ∷ [])) (Fails (use_fault false (rule key) (value ∷ []) (map row_of pairs))) (Uses pairs key value)
    go true e = use_fails key value (map row_of pairs) (has_row_is key pairs ∙ e)
    go false e = record {
      free = use_free key value (map row_of pairs) (has_row_is key pairs ∙ e);
      rows = used_at_end key value (map row_of pairs) (has_row_is key pairs ∙ e) ∙ sym (rows_append pairs ((key, value) ∷ []));
    }

-- ---- what is pending is used

abbrev pub settle_of : Given → Pending → Option Given
settle_of pairs None = Some pairs
settle_of pairs (Some (key, None)) = None
settle_of pairs (Some (key, Some value)) = added pairs key value

record Settles (pairs : Given) (p : Pending) (all : Given) : Type 0 where
  free : settle_fault rules false (held pairs p) ≡ []
  held_is : settled rules (held pairs p) ≡ held all None

settle_verdict : (pairs : Given) (p : Pending)
    → MatchOption (settle_of pairs p) (Fails (settle_fault rules false (held pairs p))) (Settles pairs p)
settle_verdict pairs None = record { free = refl; held_is = refl }
settle_verdict pairs (Some (key, None)) = rw (by_id key) tt
settle_verdict pairs (Some (key, Some value)) = go (added pairs key value) (use_of pairs key value)
  where
    go : (o : Option Given) → MatchOption o (Fails (use_fault false (rule key) (value ∷ []) (map row_of pairs))) (Uses pairs key value)
        → MatchOption o (Fails (settle_fault rules false (held pairs (Some (key, Some value))))) (Settles pairs (Some (key, Some value)))
    go None f = rw (by_id key) f
    go (Some all) u = record { free = rw (by_id key) u.free; held_is = rw (by_id key, u.rows) refl }

-- ---- what the rest of the words comes to

abbrev fault_from : Walk → List Text → Kinds
fault_from w words = or_else (walk_fault top [] w words) (settle_fault rules false (fold (walked rules []) w words).held)

record Ends (w : Walk) (words : List Text) (all : Given) : Type 0 where
  free : fault_from w words ≡ []
  rows : (settled rules (fold (walked rules []) w words).held).rows ≡ map row_of all

abbrev Verdict : Walk → List Text → Option Given → Type 0
Verdict w words r = MatchOption r (Fails (fault_from w words)) (Ends w words)

at_the_end : (pairs : Given) (p : Pending) → Verdict (at pairs p) [] (settle_of pairs p)
unfolding walk_fault
at_the_end pairs p = go (settle_of pairs p) (settle_verdict pairs p)
  where
    go : (o : Option Given) → MatchOption o (Fails (settle_fault rules false (held pairs p))) (Settles pairs p) → Verdict (at pairs p) [] o
    go None f = f
    go (Some all) s = record { free = s.free; rows = ap (λ (h : Held). h.rows) s.held_is }

stops : (w : Walk) (word : Text) (rest : List Text) → Fails (turn_fault top [] w word) → Verdict w (word ∷ rest) None
unfolding walk_fault
stops w word rest f = fails_first _ _ (fails_first _ _ f)

same_fault : (w after : Walk) (word : Text) (rest : List Text) → turn_fault top [] w word ≡ [] → walked rules [] w word ≡ after
    → fault_from w (word ∷ rest) ≡ fault_from after rest
unfolding walk_fault
same_fault w after word rest free step =
    ap (λ ks. or_else (or_else ks (walk_fault top [] (walked rules [] w word) rest)) (settle_fault rules false (fold (walked rules []) (walked rules [] w word) rest).held)) free
    ∙ ap (λ v. fault_from v rest) step

goes_on : (w after : Walk) (word : Text) (rest : List Text) (r : Option Given) → turn_fault top [] w word ≡ [] → walked rules [] w word ≡ after
    → Verdict after rest r → Verdict w (word ∷ rest) r
goes_on w after word rest None free step f = subst Fails (sym (same_fault w after word rest free step)) f
goes_on w after word rest (Some all) free step e = record {
  free = same_fault w after word rest free step ∙ e.free;
  rows = ap (λ v. (settled rules (fold (walked rules []) v rest).held).rows) step ∙ e.rows;
}

-- ---- one word

-- What a word is that is a text, and neither one hyphen nor two.
pub data Look : Text → Type 0 where
  long : (word name : Text) (value : Option Text) → long_of word ≡ Some (name, value) → begins_with_hyphen word ≡ true → Look word
  short : (word flags : Text) (x : ℕ) → long_of word ≡ None → short_of word ≡ Some flags → slice_get (chars flags) 0 ≡ Some x → 0 < length flags → begins_with_hyphen word ≡ true → Look word
  other : (word : Text) → long_of word ≡ None → short_of word ≡ None → begins_with_hyphen word ≡ false → Look word

bundle_fails : (flags : Text) (x : ℕ) (h : Held) → h.skip ≡ 0 → slice_get (chars flags) 0 ≡ Some x → 0 < length flags
    → Fails (flags_fault rules false (length flags) flags h.skip (record h { skip = 0 }))
unfolding flags_fault
bundle_fails [] x h none first some = absurd (omega arith)
bundle_fails (b ∷ rest) x h none first some = rw (none, first) tt

abbrev idle_at : Held → Walk
idle_at h = record { held = h; waiting = idle; position = 1; is_trailing = false; stopped = None }

abbrev option_at : Key → Held → Walk
option_at key h = record { held = h; waiting = option (name_of key); position = 1; is_trailing = false; stopped = None }

-- A word that is no option, where no value is to come.
idle_other : (h : Held) (word : Text) → bytes_eq word hyphens ≡ false → long_of word ≡ None → short_of word ≡ None → Fails (turn_fault top [] (idle_at h) word)
unfolding app
idle_other h word two no_long no_short = rw (two, no_long, no_short) tt

idle_short : (h : Held) (word flags : Text) (x : ℕ) → bytes_eq word hyphens ≡ false → long_of word ≡ None → short_of word ≡ Some flags
    → slice_get (chars flags) 0 ≡ Some x → 0 < length flags → h.skip ≡ 0 → Fails (turn_fault top [] (idle_at h) word)
unfolding app
idle_short h word flags x two no_long is first some none = rw (two, no_long, is) (fails_first _ _ (bundle_fails flags x h none first some))

option_short : (key : Key) (h : Held) (word flags : Text) (x : ℕ) → bytes_eq word hyphens ≡ false → long_of word ≡ None → short_of word ≡ Some flags
    → slice_get (chars flags) 0 ≡ Some x → 0 < length flags → h.skip ≡ 0 → Fails (turn_fault top [] (option_at key h) word)
unfolding app
option_short key h word flags x two no_long is first some none = rw (two, no_long, is) (fails_first _ _ (bundle_fails flags x h none first some))

idle_unknown : (h : Held) (word name : Text) (value : Option Text) → bytes_eq word hyphens ≡ false → long_of word ≡ Some (name, value) → key_named name ≡ None
    → Fails (turn_fault top [] (idle_at h) word)
unfolding app
idle_unknown h word name value two is none = rw (two, is, by_long name, none) tt

option_unknown : (key : Key) (h : Held) (word name : Text) (value : Option Text) → bytes_eq word hyphens ≡ false → long_of word ≡ Some (name, value) → key_named name ≡ None
    → Fails (turn_fault top [] (option_at key h) word)
unfolding app
option_unknown key h word name value two is none = rw (two, is, by_long name, none) tt

-- An option, where what was pending fails.
idle_settle_fails : (h : Held) (word name : Text) (value : Option Text) (key : Key) → bytes_eq word hyphens ≡ false → long_of word ≡ Some (name, value) → key_named name ≡ Some key
    → Fails (settle_fault rules false h) → Fails (turn_fault top [] (idle_at h) word)
unfolding app
idle_settle_fails h word name None key two is found f = rw (two, is, by_long name, found) (fails_first _ _ f)
idle_settle_fails h word name (Some value) key two is found f = rw (two, is, by_long name, found) (fails_first _ _ (fails_first _ _ f))

option_settle_fails : (old : Key) (h : Held) (word name : Text) (value : Option Text) (key : Key) → bytes_eq word hyphens ≡ false → long_of word ≡ Some (name, value) → key_named name ≡ Some key
    → Fails (settle_fault rules false h) → Fails (turn_fault top [] (option_at old h) word)
unfolding app
option_settle_fails old h word name None key two is found f = rw (two, is, by_long name, found) (fails_first _ _ f)
option_settle_fails old h word name (Some value) key two is found f = rw (two, is, by_long name, found) (fails_first _ _ (fails_first _ _ f))

-- An option that waits for its value.
idle_waits : (h : Held) (word name : Text) (key : Key) → bytes_eq word hyphens ≡ false → long_of word ≡ Some (name, None) → key_named name ≡ Some key
    → settle_fault rules false h ≡ [] → turn_fault top [] (idle_at h) word ≡ []
unfolding app
idle_waits h word name key two is found free = rw (two, is, by_long name, found, free) refl

idle_waits_at : (h : Held) (word name : Text) (key : Key) → bytes_eq word hyphens ≡ false → long_of word ≡ Some (name, None) → key_named name ≡ Some key
    → walked rules [] (idle_at h) word ≡ option_at key (record (settled rules h) { pending = Some (name_of key, []) })
unfolding walked
idle_waits_at h word name key two is found = rw (two, is, by_long name, found) refl

-- An option with its value.
idle_has : (h : Held) (word name value : Text) (key : Key) → bytes_eq word hyphens ≡ false → long_of word ≡ Some (name, Some value) → key_named name ≡ Some key
    → settle_fault rules false h ≡ [] → use_fault false (rule key) (value ∷ []) (settled rules h).rows ≡ [] → turn_fault top [] (idle_at h) word ≡ []
unfolding app
idle_has h word name value key two is found free fresh = rw (two, is, by_long name, found, free, fresh) refl

idle_has_fails : (h : Held) (word name value : Text) (key : Key) → bytes_eq word hyphens ≡ false → long_of word ≡ Some (name, Some value) → key_named name ≡ Some key
    → settle_fault rules false h ≡ [] → Fails (use_fault false (rule key) (value ∷ []) (settled rules h).rows) → Fails (turn_fault top [] (idle_at h) word)
unfolding app
idle_has_fails h word name value key two is found free f = rw (two, is, by_long name, found, free) (fails_first _ _ f)

idle_has_at : (h : Held) (word name value : Text) (key : Key) → bytes_eq word hyphens ≡ false → long_of word ≡ Some (name, Some value) → key_named name ≡ Some key
    → walked rules [] (idle_at h) word ≡ idle_at (record h { rows = used (rule key) (value ∷ []) (settled rules h).rows; pending = None })
unfolding walked
idle_has_at h word name value key two is found = rw (two, is, by_long name, found) refl

-- A value.
option_other : (key : Key) (h : Held) (word : Text) → bytes_eq word hyphens ≡ false → long_of word ≡ None → short_of word ≡ None → turn_fault top [] (option_at key h) word ≡ []
unfolding app
option_other key h word two no_long no_short = rw (two, no_long, no_short) refl

option_other_at : (pairs : Given) (key : Key) (word : Text) → bytes_eq word hyphens ≡ false → long_of word ≡ None → short_of word ≡ None
    → walked rules [] (at pairs (Some (key, None))) word ≡ at pairs (Some (key, Some word))
unfolding walked
option_other_at pairs the_bits word two no_long no_short = rw (two, no_long, no_short) refl
option_other_at pairs the_document word two no_long no_short = rw (two, no_long, no_short) refl
option_other_at pairs the_seed word two no_long no_short = rw (two, no_long, no_short) refl
option_other_at pairs the_count word two no_long no_short = rw (two, no_long, no_short) refl

-- ---- all words

-- The word is no single hyphen and no two, and is a text.
pub record Looks (word : Text) : Type 0 where
  pub two : bytes_eq word hyphens ≡ false
  pub look : Look word

pub data HaveLooks : List Text → Type 0 where
  no_words : HaveLooks []
  more_words : (word : Text) (rest : List Text) → Looks word → HaveLooks rest → HaveLooks (word ∷ rest)

-- What a word is for the program, from what it is for `clap`.
abbrev pub key_in : Text × Option Text → Option (Key × Option Text)
key_in p = option_map (λ key. (key, p.1)) (key_named p.0)

abbrev pub met : Option (Key × Option Text) → Given → Pending → (Given → Pending → Option Given) → Option Given
met None pairs p more = None
met (Some (key, None)) pairs p more = option_and_then (λ ps. more ps (Some (key, None))) (settle_of pairs p)
met (Some (key, Some value)) pairs p more = option_and_then (λ ps. option_and_then (λ all. more all None) (added ps key value)) (settle_of pairs p)

abbrev pub turned : Option (Key × Option Text) → Bool → Text → Given → Pending → (Given → Pending → Option Given) → Option Given
turned o hyphen word pairs None more = met o pairs None more
turned o hyphen word pairs (Some (key, Some value)) more = met o pairs (Some (key, Some value)) more
turned o hyphen word pairs (Some (key, None)) more = if hyphen then None else more pairs (Some (key, Some word))

-- What `clap` makes of the words, without `clap`.
unfoldable pub split : List Text → Given → Pending → Option Given
split [] pairs p = settle_of pairs p
split (word ∷ rest) pairs p = turned (option_and_then key_in (long_of word)) (is_some (long_of word) || is_some (short_of word)) word pairs p (split rest)

abbrev Later : List Text → Type 0
Later rest = (pairs : Given) (p : Pending) → Verdict (at pairs p) rest (split rest pairs p)

-- a word met where no value is to come
module _ (pairs : Given) (p : Pending) (rests : waiting_of p ≡ idle) (word : Text) (rest : List Text) (two : bytes_eq word hyphens ≡ false) (later : Later rest) where
  idle_is : at pairs p ≡ idle_at (held pairs p)
  idle_is = rw rests refl

  from_idle : (r : Option Given) → Verdict (idle_at (held pairs p)) (word ∷ rest) r → Verdict (at pairs p) (word ∷ rest) r
  from_idle r v = subst (λ w. Verdict w (word ∷ rest) r) (sym idle_is) v

  met_key : (name : Text) (value : Option Text) (key : Key) → long_of word ≡ Some (name, value) → key_named name ≡ Some key
      → (o : Option Given) → MatchOption o (Fails (settle_fault rules false (held pairs p))) (Settles pairs p) → settle_of pairs p ≡ o
      → Verdict (idle_at (held pairs p)) (word ∷ rest) (met (Some (key, value)) pairs p (split rest))
  met_key name None key is found None f e = rw e (stops _ _ _ (idle_settle_fails (held pairs p) word name None key two is found f))
  met_key name (Some value) key is found None f e = rw e (stops _ _ _ (idle_settle_fails (held pairs p) word name (Some value) key two is found f))
  met_key name None key is found (Some ps) s e = rw e
      (goes_on _ (at ps (Some (key, None))) word rest _ (idle_waits (held pairs p) word name key two is found s.free)
      (idle_waits_at (held pairs p) word name key two is found ∙ ap (λ (h : Held). option_at key (record h { pending = Some (name_of key, []) })) s.held_is)
      (later ps (Some (key, None))))
  met_key name (Some value) key is found (Some ps) s e = rw e (go (added ps key value) (use_of ps key value))
    where
      rows_are : (settled rules (held pairs p)).rows ≡ map row_of ps
      rows_are = ap (λ (h : Held). h.rows) s.held_is

      go : (o : Option Given) → MatchOption o (Fails (use_fault false (rule key) (value ∷ []) (map row_of ps))) (Uses ps key value)
          → Verdict (idle_at (held pairs p)) (word ∷ rest) (option_and_then (λ all. split rest all None) o)
      go None f = stops _ _ _ (idle_has_fails (held pairs p) word name value key two is found s.free (subst (λ rs. Fails (use_fault false (rule key) (value ∷ []) rs)) (sym rows_are) f))
      go (Some all) u = goes_on _ (at all None) word rest _
          (idle_has (held pairs p) word name value key two is found s.free (ap (λ rs. use_fault false (rule key) (value ∷ []) rs) rows_are ∙ u.free))
          (idle_has_at (held pairs p) word name value key two is found ∙ ap (λ rs. idle_at (record { rows = rs; pending = None; skip = 0 })) (ap (λ rs. used (rule key) (value ∷ []) rs) rows_are ∙ u.rows))
          (later all None)

  met_long : (name : Text) (value : Option Text) → long_of word ≡ Some (name, value) → (k : Option Key) → key_named name ≡ k
      → Verdict (idle_at (held pairs p)) (word ∷ rest) (met (option_map (λ key. (key, value)) k) pairs p (split rest))
  met_long name value is None e = stops _ _ _ (idle_unknown (held pairs p) word name value two is e)
  met_long name value is (Some key) e = met_key name value key is e (settle_of pairs p) (settle_verdict pairs p) refl

  met_look : Look word → Verdict (at pairs p) (word ∷ rest) (met (option_and_then key_in (long_of word)) pairs p (split rest))
  met_look l = from_idle _ (look l two)
    where
      look : Look word → bytes_eq word hyphens ≡ false → Verdict (idle_at (held pairs p)) (word ∷ rest) (met (option_and_then key_in (long_of word)) pairs p (split rest))
      look (long w name value is begins) two = rw is (met_long name value is (key_named name) refl)
      look (short w flags x no_long is first some begins) two = rw no_long (stops _ _ _ (idle_short (held pairs p) w flags x two no_long is first some refl))
      look (other w no_long no_short plain) two = rw no_long (stops _ _ _ (idle_other (held pairs p) w two no_long no_short))

-- a word met where an option's value is to come
module _ (pairs : Given) (old : Key) (word : Text) (rest : List Text) (two : bytes_eq word hyphens ≡ false) (later : Later rest) where
  unsettled : Fails (settle_fault rules false (held pairs (Some (old, None))))
  unsettled = settle_verdict pairs (Some (old, None))

  bare_long : (name : Text) (value : Option Text) → long_of word ≡ Some (name, value) → (k : Option Key) → key_named name ≡ k
      → Fails (turn_fault top [] (at pairs (Some (old, None))) word)
  bare_long name value is None e = option_unknown old (held pairs (Some (old, None))) word name value two is e
  bare_long name value is (Some key) e = option_settle_fails old (held pairs (Some (old, None))) word name value key two is e unsettled

  bare_look : Look word → Verdict (at pairs (Some (old, None))) (word ∷ rest)
      (if is_some (long_of word) || is_some (short_of word) then None else split rest pairs (Some (old, Some word)))
  bare_look l = look l two bare_long later
    where
      look : Look word → bytes_eq word hyphens ≡ false
          → ((name : Text) (value : Option Text) → long_of word ≡ Some (name, value) → (k : Option Key) → key_named name ≡ k → Fails (turn_fault top [] (at pairs (Some (old, None))) word))
          → Later rest
          → Verdict (at pairs (Some (old, None))) (word ∷ rest)
          (if is_some (long_of word) || is_some (short_of word) then None else split rest pairs (Some (old, Some word)))
      look (long w name value is begins) two bare later = rw is (stops _ _ _ (bare name value is (key_named name) refl))
      look (short w flags x no_long is first some begins) two bare later =
          rw (no_long, is) (stops _ _ _ (option_short old (held pairs (Some (old, None))) w flags x two no_long is first some refl))
      look (other w no_long no_short plain) two bare later = rw (no_long, no_short)
          (goes_on _ (at pairs (Some (old, Some w))) w rest _ (option_other old (held pairs (Some (old, None))) w two no_long no_short)
          (option_other_at pairs old w two no_long no_short) (later pairs (Some (old, Some w))))

-- The words fail just where they don't split, and else give these rows.
split_verdict : (words : List Text) → HaveLooks words → (pairs : Given) (p : Pending) → Verdict (at pairs p) words (split words pairs p)
unfolding split
split_verdict [] none pairs p = at_the_end pairs p
split_verdict (word ∷ rest) (more_words w r is more) pairs None = met_look pairs None refl w r is.two (split_verdict r more) is.look
split_verdict (word ∷ rest) (more_words w r is more) pairs (Some (key, Some value)) =
    met_look pairs (Some (key, Some value)) refl w r is.two (split_verdict r more) is.look
split_verdict (word ∷ rest) (more_words w r is more) pairs (Some (key, None)) = bare_look pairs key w r is.two (split_verdict r more) is.look

-- ---- the whole parse

no_default : (rows : List Row) (a : Rule) → a.defaults ≡ [] → with_default rows a ≡ rows
no_default rows a none = go (has_row a.id rows)
  where
    go : (b : Bool) → cond b rows (default_rows a.id (reading_by a) a.defaults rows) ≡ rows
    go true = refl
    go false = rw none refl

no_defaults : (rows : List Row) → fold with_default rows rules ≡ rows
no_defaults rows = rw (no_default rows (rule the_bits) refl, no_default rows (rule the_document) refl, no_default rows (rule the_seed) refl) (no_default rows (rule the_count) refl)

no_default_fault : (rows : List Row) (a : Rule) → a.defaults ≡ [] → default_fault rows a ≡ []
no_default_fault rows a none = rw none (go (has_row a.id rows))
  where
    go : (b : Bool) → (if b || true then [] else given_default_fault a []) ≡ []
    go true = refl
    go false = refl

no_defaults_fault : (rows : List Row) → defaults_fault rows rules ≡ []
unfolding defaults_fault
no_defaults_fault rows =
    rw (
      no_default_fault rows (rule the_bits) refl,
      no_default rows (rule the_bits) refl,
      no_default_fault rows (rule the_document) refl,
      no_default rows (rule the_document) refl,
      no_default_fault rows (rule the_seed) refl,
      no_default rows (rule the_seed) refl,
      no_default_fault rows (rule the_count) refl,
    ) refl

abbrev end_of : List Text → Held
end_of words = (fold (walked rules []) (at [] None) words).held

level_is : (words : List Text) → level_fault top [] nothing_held words false [] ≡ fault_from (at [] None) words
unfolding app
level_is words =
    ap (λ ks. or_else (walk_fault top [] (at [] None) words) (or_else (settle_fault rules false (end_of words)) (or_else ks []))) (no_defaults_fault (settled rules (end_of words)).rows)
    ∙ ap (λ ks. or_else (walk_fault top [] (at [] None) words) ks) (nothing_more _)

fault_is : (words : List Text) → fault_of app words ≡ fault_from (at [] None) words
unfolding app
fault_is words = go (walk rules [] nothing_held words).stopped ∙ level_is words
  where
    go : (stop : Option (Text × List Text)) → level_fault top [] nothing_held words (is_some (entered (record { top = top; subs = [] }) stop)) (entered_fault (record { top = top; subs = [] }) stop)
        ≡ level_fault top [] nothing_held words false []
    go None = refl
    go (Some p) = refl

matches_are : (words : List Text) → matches_of app words ≡ (settled rules (end_of words)).rows
unfolding app
matches_are words = no_defaults (settled rules (end_of words)).rows

-- What the parse says of the words.
pub record Parses (words : List Text) (all : Given) : Type 0 where
  pub free : fault_of app words ≡ []
  pub rows : matches_of app words ≡ map row_of all

pub parse_verdict : (words : List Text) → HaveLooks words → MatchOption (split words [] None) (Fails (fault_of app words)) (Parses words)
parse_verdict words are = go (split words [] None) (split_verdict words are [] None)
  where
    go : (r : Option Given) → Verdict (at [] None) words r → MatchOption r (Fails (fault_of app words)) (Parses words)
    go None f = subst Fails (sym (fault_is words)) f
    go (Some all) e = record { free = fault_is words ∙ e.free; rows = matches_are words ∙ e.rows }

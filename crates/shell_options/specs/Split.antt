-- The program's options, as `clap` has them.
use Rattle.std.specs.Prelude.{◌≡◌, ◌≢◌, ◌⊎◌, ◌||◌, ⊤, bytes_eq, Result, Ok, Err, Bool, true, false, List, [], ◌∷◌, Some, None, codes}
use Rattle.clap.specs.Words.{App, Row, Rule, new_rule, with_rule}
use Rattle.std.specs.Str.{is_utf8}
use Rattle.clap.specs.Words.{fault_of, found_of, kind_of, matches_of, rows_of}
use Rattle.clap.specs.declared.error.Error.{Error}
use Rattle.clap.specs.declared.error.kind.ErrorKind.TheVariants.{OutOfMemory}
use Rattle.clap.specs.declared.parser.matches.ArgMatches.{ArgMatches}
use Rattle.clap.specs.Simple.{new_shape}
use Rattle.clap.specs.declared.parser.matches.ValueSource.TheVariants.{CommandLine}
use Rattle.clap.specs.declared.builder.value_parser.Reading.TheVariants as reading
use Rattle.shell_options.specs.Options.{Text, Key, the_bits, the_document, the_seed, the_count, name_of}

-- An option with a value.
abbrev pub option_rule : Key → Rule
option_rule key = record (new_rule (name_of key)) { long = Some (name_of key) }

-- The program: no name of its own among the words, and no help.
abbrev pub bare_app : App
bare_app = record {
  top = record (new_shape (codes "ewig")) { no_binary_name = true; disable_help_flag = true };
  subs = [];
}

-- The program with its four options.
unfoldable pub app : App
app = with_rule (with_rule (with_rule (with_rule bare_app (option_rule the_bits)) (option_rule the_document))
    (option_rule the_seed)) (option_rule the_count)

-- What a parse finds for an option with its value.
abbrev pub row_of : Key × Text → Row
row_of pair = record {
  id = name_of pair.0;
  values = pair.1 ∷ [];
  count = None;
  source = Some CommandLine;
  reading = reading.AsWritten;
}

-- A hyphen alone, or two.
abbrev pub hyphen : Text
hyphen = 45 ∷ []

abbrev pub hyphens : Text
hyphens = 45 ∷ 45 ∷ []

-- Whether a word is one of these.
abbrev pub is_bare : Text → Bool
is_bare word = bytes_eq word hyphen || bytes_eq word hyphens

-- A word that is text, and neither of these.
abbrev pub IsWord : Text → Type 0
IsWord word = (is_utf8 word ≡ true) × (is_bare word ≡ false)

-- The same of each word.
abbrev pub AreWords : List Text → Type 0
AreWords [] = ⊤
AreWords (word ∷ rest) = IsWord word × AreWords rest

-- A parse gives the matches of the words, or is refused with a cause in them, or memory ran out.
abbrev pub Splits : List Text → Result ArgMatches Error → Type 0
Splits words (Ok m) = (fault_of app words ≡ []) × (rows_of (found_of m) ≡ matches_of app words)
Splits words (Err e) = (kind_of e ≡ OutOfMemory) ⊎ (fault_of app words ≢ [])

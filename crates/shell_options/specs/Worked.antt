-- Worked lists of words: what each asks for, and lists that don't read.
use Rattle.std.specs.Prelude.{◌≡◌, ℕ, List, [], ◌∷◌, Option, Some, None, map, length, replicate}
use Prim.Native.String.{String}
use lib.Chars.{codes}
use Rattle.shell_options.specs.Options.{Text, PlainOptions, options}

-- What a list of words asks for.
abbrev pub asked_by : List String → Option PlainOptions
asked_by words = options (map codes words)

-- So many bits, a document, and a seed with a count.
abbrev pub asks : ℕ → Option Text → Option (ℕ × ℕ) → Option PlainOptions
asks bits first work = Some (record { bits = bits; first = first; work = work })

-- Lists of words that read.
pub record WorkedOptions : Type 0 where
  pub none : asked_by [] ≡ asks 64 None None
  pub no_bits : asked_by ("--bits=0" ∷ []) ≡ asks 0 None None
  pub all_bits : asked_by ("--bits" ∷ "64" ∷ []) ≡ asks 64 None None
  pub document : asked_by ("--open" ∷ "a.b" ∷ []) ≡ asks 64 (Some (codes "a.b")) None
  pub two : asked_by ("--open=nothere" ∷ "--bits" ∷ "7" ∷ []) ≡ asks 7 (Some (codes "nothere")) None
  pub work : asked_by ("--work" ∷ "0" ∷ "--count" ∷ "2" ∷ []) ≡ asks 64 None (Some (0, 2))
  pub three :
      asked_by ("--count=100000" ∷ "--work=18446744073709551615" ∷ "--bits=5" ∷ [])
      ≡ asks 5 None (Some (18446744073709551615, 100000))

-- None of these lists of words reads.
abbrev pub NoneReads : List (List String) → Type 0
NoneReads lists = map asked_by lists ≡ replicate (length lists) None

-- Lists with a value that is no number up to the most, or no name.
pub record WorkedValues : Type 0 where
  pub bits : NoneReads (
      ("--bits" ∷ "65" ∷ []) ∷ ("--bits" ∷ "064" ∷ []) ∷ ("--bits=00" ∷ []) ∷ ("--bits=+5" ∷ []) ∷ ("--bits" ∷ " 5" ∷ [])
      ∷ ("--bits=" ∷ []) ∷ ("--bits" ∷ "" ∷ []) ∷ ("--bits=0x5" ∷ []) ∷ [])
  pub names : NoneReads (("--open=.x" ∷ []) ∷ ("--open=-x" ∷ []) ∷ ("--open=a=b" ∷ []) ∷ ("--open" ∷ "a/b" ∷ []) ∷ ("--open=" ∷ []) ∷ [])
  pub seeds : NoneReads (("--work=18446744073709551616" ∷ "--count" ∷ "2" ∷ []) ∷ ("--work=01" ∷ "--count" ∷ "2" ∷ []) ∷ [])
  pub counts : NoneReads (("--work" ∷ "0" ∷ "--count" ∷ "100001" ∷ []) ∷ ("--work" ∷ "0" ∷ "--count=" ∷ []) ∷ [])

-- Lists with a word that is no option, an option without a value, or options that don't go together.
pub record WorkedWords : Type 0 where
  pub hyphens : NoneReads (("--bits" ∷ "-1" ∷ []) ∷ ("--bits=-1" ∷ []) ∷ ("--bits" ∷ "--open" ∷ []) ∷ ("--open" ∷ "-" ∷ []) ∷ ("--" ∷ []) ∷ ("--bits" ∷ "--" ∷ "5" ∷ []) ∷ [])
  pub others : NoneReads (
      ("--bi" ∷ "5" ∷ []) ∷ ("-b" ∷ "5" ∷ []) ∷ ("--Bits" ∷ "5" ∷ []) ∷ ("--help" ∷ []) ∷ ("--version" ∷ []) ∷ ("-h" ∷ [])
      ∷ ("--=5" ∷ []) ∷ ("" ∷ []) ∷ [])
  pub further : NoneReads (("--bits" ∷ "5" ∷ "a" ∷ []) ∷ ("a" ∷ "--bits" ∷ "5" ∷ []) ∷ ("--bits=5" ∷ "6" ∷ []) ∷ [])
  pub nothing : NoneReads (("--bits" ∷ []) ∷ ("--bits=5" ∷ "--open" ∷ []) ∷ [])
  pub twice : NoneReads (("--bits" ∷ "5" ∷ "--bits=5" ∷ []) ∷ ("--open=a" ∷ "--bits=5" ∷ "--open=a" ∷ []) ∷ [])
  pub apart : NoneReads (
      ("--work" ∷ "0" ∷ []) ∷ ("--count" ∷ "0" ∷ []) ∷ ("--work" ∷ "0" ∷ "--count" ∷ "2" ∷ "--open" ∷ "a" ∷ [])
      ∷ ("--open=a" ∷ "--work=0" ∷ []) ∷ [])

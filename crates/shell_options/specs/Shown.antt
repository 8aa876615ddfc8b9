-- What the answers of `read_words` and of its parts show.
use Rattle.std.specs.Prelude.{◌≡◌, ◌≤◌, ⊤, ℕ, Option, Some, None, Result, Ok, Err, option_map}
use Rattle.std.specs.Option.{ForSome}
use Rattle.elem_core.specs.declared.codes.TheConstants.{CODE_BITS}
use Rattle.elem_core.specs.declared.words.Name.{Name}
use Rattle.elem_core.specs.Shown.{name_bytes}
use Rattle.clap.specs.declared.error.kind.ErrorKind.{ErrorKind}
use Rattle.clap.specs.declared.error.kind.ErrorKind.TheVariants.{OutOfMemory}
use Rattle.shell_options.specs.declared.Options.{Options}
use Rattle.shell_options.specs.declared.WordsFault.{WordsFault}
use Rattle.shell_options.specs.declared.WordsFault.TheVariants.{Usage, Memory}
use Rattle.shell_options.specs.Options.{Text, PlainOptions, most_count}

-- The options with the file's name as its bytes.
abbrev pub plain_options : Options → PlainOptions
plain_options o = record { bits = o.bits; first = o.first; work = o.work }

-- The answer is what the words ask for. `Usage` comes just where they ask for nothing, and `Memory` where memory ran out.
abbrev pub ReadsWords : Option PlainOptions → Result Options WordsFault → Type 0
ReadsWords asked (Ok o) = asked ≡ Some (plain_options o)
ReadsWords asked (Err Usage) = asked ≡ None
ReadsWords asked (Err Memory) = ⊤

-- A space takes so many bits, and the lines are as many as they may be.
pub record AreBounded (o : Options) : Type 0 where
  pub bits : o.bits ≤ CODE_BITS
  pub count : ForSome o.work (λ work. work.1 ≤ most_count)

-- What `ReadsWords` says, of a part of the options, for which no memory is taken, by what the answer shows.
abbrev pub ReadsPart : {A X : Type 0} → (A → X) → Option X → Result A WordsFault → Type 0
ReadsPart shown asked (Ok part) = asked ≡ Some (shown part)
ReadsPart shown asked (Err Usage) = asked ≡ None
ReadsPart shown asked (Err Memory) = ⊥

-- A number, a name, and a seed with a count, where they are given.
abbrev pub ReadsNumber : Option (Option ℕ) → Result (Option ℕ) WordsFault → Type 0
ReadsNumber = ReadsPart (λ given. given)

abbrev pub ReadsName : Option (Option Text) → Result (Option Name) WordsFault → Type 0
ReadsName = ReadsPart (option_map name_bytes)

abbrev pub ReadsPair : Option (Option (ℕ × ℕ)) → Result (Option (ℕ × ℕ)) WordsFault → Type 0
ReadsPair = ReadsPart (λ given. given)

-- The answer is a copy of the text, or memory ran out.
abbrev pub CopiesName : Text → Result Text WordsFault → Type 0
CopiesName text (Ok copy) = copy ≡ text
CopiesName text (Err fault) = fault ≡ Memory

-- What a fault of `clap` is here.
abbrev pub fault_by : ErrorKind → WordsFault
fault_by OutOfMemory = Memory
fault_by other = Usage

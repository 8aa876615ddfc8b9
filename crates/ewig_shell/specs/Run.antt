-- What a run does: from its words, its input and what it may take of it to its output, its status, and the space and the files
-- that it leaves.
use Rattle.std.specs.Prelude.{◌≡◌, ◌≢◌, ℕ, ◌+◌, ◌-◌, ◌<◌, ◌≤◌, ◌↔◌, ◌⊎◌, List, [], ◌∷◌, ◌++◌, length, take, codes, None, Some, IsNone, IfSome, IsSomeAnd, MatchOption}
use Rattle.std.specs.declared.option.Option.{Option}
use Rattle.std.specs.Io.KnownBytes.{Appends, Consumes}
use Rattle.shell_io.specs.Fault.{CountsFaults, Calls}
use Rattle.shell_io.specs.Pieces.{pieces_within, ended}
use Rattle.shell_io.specs.declared.device.Source as source_trait
use Rattle.shell_io.specs.declared.device.Sink as sink_trait
use Rattle.shell_io.specs.declared.device.Store as store_trait
use Rattle.shell_options.specs.Options.{PlainOptions, options}
use Rattle.space_state.specs.View.{SpaceView, start_view}
use Rattle.ewig_shell.specs.declared.run.Ended.{Ended}
use Rattle.ewig_shell.specs.declared.run.Status.{Status}
use Rattle.ewig_shell.specs.declared.run.Status.TheVariants.{Done, Memory, Usage, ReadFault, WriteFault, TooLong}
use Rattle.ewig_shell.specs.Quits.{HasQuit, until_quit}
use Rattle.ewig_shell.specs.Step.{StepsOn, StepsThrough}
use Rattle.ewig_shell.specs.Work.{Works, StepsBeside}

-- The statuses of a run that ended before its first line.
abbrev pub IsEarly : Status → Type 0
IsEarly Usage = Unit {0}
IsEarly Memory = Unit {0}
IsEarly Done = ⊥
IsEarly ReadFault = ⊥
IsEarly WriteFault = ⊥
IsEarly TooLong = ⊥

-- The number by which the program tells how a run ended.
abbrev pub exit_code : Status → ℕ
exit_code Done = 0
exit_code Memory = 1
exit_code Usage = 2
exit_code ReadFault = 3
exit_code WriteFault = 4
exit_code TooLong = 5

-- ## A run over an input

-- The line that loads the document, where the words name one: the run begins with it.
abbrev pub opening : Option (List ℕ) → List (List ℕ)
opening None = []
opening (Some file) = (codes "load " ++ file) ∷ []

-- What a run did.
pub record Run (C : Type 0) : Type 0 where
  -- the bytes that its source had to give, and those of them that it took
  pub input : List ℕ
  pub taken : List ℕ
  -- the replies to the pieces that it executed, joined, and the bytes that it wrote
  pub replies : List ℕ
  pub output : List ℕ
  -- how it ended, and the space that it left, if it had one
  pub status : Status
  pub last : Option SpaceView
  -- its store before and after it
  pub store : C
  pub store' : C

-- The document was loaded, where the words name one, and then these pieces were executed one after another, on a new space by so
-- many bits and the store, and their replies written whole.
pub record Executes {C : Type 0} (asked : PlainOptions) (pieces : List (List ℕ)) (D : store_trait.Ghosts C) (run : Run C) : Type 0 where
  pub steps : IsSomeAnd run.last (λ last. StepsThrough (opening asked.first ++ pieces) D (start_view asked.bits) run.store run.replies last run.store')
  pub written : run.output ≡ run.replies

-- Nothing was taken, executed or written, and the store is as it was.
pub record IsUnbegun {C : Type 0} (run : Run C) : Type 0 where
  pub untaken : run.taken ≡ []
  pub unanswered : run.replies ≡ []
  pub unwritten : run.output ≡ []
  pub none_left : run.last ≡ None
  pub untouched : run.store' ≡ run.store

-- The whole input was taken, and it is within the most; or a quit piece ended within the first most of the bytes
-- taken. All pieces were executed, or those up to the first quit piece.
pub record IsDone {C : Type 0} (most : ℕ) (asked : PlainOptions) (D : store_trait.Ghosts C) (run : Run C) : Type 0 where
  pub read : (run.taken ≡ run.input) × (length run.input ≤ most) ⊎ HasQuit (ended (take most run.taken))
  pub executes : Executes asked (until_quit (pieces_within most run.input)) D run

-- At most the most was taken. The pieces that had ended in it were executed, and none of them was to quit.
pub record HasReadFault {C : Type 0} (most : ℕ) (asked : PlainOptions) (D : store_trait.Ghosts C) (run : Run C) : Type 0 where
  pub few : length run.taken ≤ most
  pub goes_on : ¬ HasQuit (ended run.taken)
  pub executes : Executes asked (ended run.taken) D run

-- One byte more than the most was taken. The pieces that end before it were executed, and none was to quit.
pub record IsTooLong {C : Type 0} (most : ℕ) (asked : PlainOptions) (D : store_trait.Ghosts C) (run : Run C) : Type 0 where
  pub one_more : length run.taken ≡ most + 1
  pub goes_on : ¬ HasQuit (pieces_within most run.input)
  pub executes : Executes asked (pieces_within most run.input) D run

-- The pieces before were executed, one after another, and their replies written. The next was executed too, and of its reply only the
-- first bytes were written.
pub record BreaksOff {C : Type 0} (before : List (List ℕ)) (piece : List ℕ) (D : store_trait.Ghosts C) (space : SpaceView) (store : C)
    (replies output : List ℕ) (space' : SpaceView) (store' : C) : Type 0 where
  pub full_replies : List ℕ
  pub mid_space : SpaceView
  pub mid_store : C
  pub steps : StepsThrough before D space store full_replies mid_space mid_store
  pub reply : List ℕ
  pub step : StepsOn piece D mid_space mid_store reply space' store'
  pub replies_are : replies ≡ full_replies ++ reply
  pub count : ℕ
  pub cut : count < length reply
  pub output_is : output ≡ full_replies ++ take count reply

-- It broke off at a piece, before which none was to quit. The line that loads the document is the first piece, where the words name
-- one.
pub record HasWriteFault {C : Type 0} (most : ℕ) (asked : PlainOptions) (D : store_trait.Ghosts C) (run : Run C) : Type 0 where
  pub before : List (List ℕ)
  pub piece : List ℕ
  pub later : List (List ℕ)
  pub in_time : opening asked.first ++ pieces_within most run.input ≡ before ++ piece ∷ later
  pub goes_on : ¬ HasQuit before
  pub breaks : IsSomeAnd run.last (λ last. BreaksOff before piece D (start_view asked.bits) run.store run.replies run.output last run.store')

-- What the status says of a run of at most so many bytes, whose words read.
abbrev pub Says : {C : Type 0} → Status → ℕ → PlainOptions → store_trait.Ghosts C → Run C → Type 0
Says Done most asked D run = IsDone most asked D run
Says Memory most asked D run = IsUnbegun run
Says Usage most asked D run = ⊥
Says ReadFault most asked D run = HasReadFault most asked D run
Says WriteFault most asked D run = HasWriteFault most asked D run
Says TooLong most asked D run = IsTooLong most asked D run

-- A run over a source that had this input to give: what it did, that what the source has left and the sink show it, that the
-- store is the one that it left, and that its status says so.
pub record Runs {B C : Type 0} (most : ℕ) (asked : PlainOptions) (input : List ℕ) (left : Option (List ℕ)) (K : sink_trait.Ghosts B) (sink sink' : B)
    (D : store_trait.Ghosts C) (store store' : C) (status : Status) (last : Option SpaceView) : Type 0 where
  pub run : Run C
  pub input_is : run.input ≡ input
  pub status_is : run.status ≡ status
  pub last_is : run.last ≡ last
  pub store_is : run.store ≡ store
  pub store'_is : run.store' ≡ store'
  pub takes : Consumes (Some input) left run.taken
  pub few : length run.taken ≤ most + 1
  pub writes : Appends (K.written sink) (K.written sink') run.output
  pub says : Says run.status most asked D run
  -- a sink with room for the replies takes them without a fault
  pub sink_sure : (room : ℕ) → K.has_room sink room → length run.replies ≤ room →
      status ≢ WriteFault × (K.faults sink' ≡ K.faults sink) × K.has_room sink' (room - length run.replies)

-- The input is over within its first most bytes, or asks to quit there.
abbrev pub EndsInTime : ℕ → List ℕ → Type 0
EndsInTime most input = (length input ≤ most) ⊎ HasQuit (pieces_within most input)

-- The bytes alone decide, but that memory may have run out at the start.
pub record IsComplete (most : ℕ) (input : List ℕ) (status : Status) : Type 0 where
  pub in_time : EndsInTime most input → (status ≡ Done) ⊎ (status ≡ Memory)
  pub too_long : ¬ EndsInTime most input → (status ≡ TooLong) ⊎ (status ≡ Memory)

-- ## A run by its words

-- Whatever was executed: the store's count of faults hasn't fallen. A steady store stays so. A store that can't fail stays so,
-- and counted none.
pub record KeepsSure {C : Type 0} (D : store_trait.Ghosts C) (store store' : C) : Type 0 where
  pub counted : D.faults store ≤ D.faults store'
  pub steady : D.steady store → D.steady store'
  pub sure : D.faultless store → D.faultless store' × (D.faults store' ≡ D.faults store)

-- Whatever the source tells: behind the line that loads the document, where the words name one, some pieces were executed one after
-- another, on a new space by so many bits and the store. Their replies were written; where the run ended with a fault of its sink, all
-- but the last reply, of which only the first bytes were.
pub record HasAnswered {B C : Type 0} (asked : PlainOptions) (K : sink_trait.Ghosts B) (sink sink' : B) (D : store_trait.Ghosts C) (store store' : C)
    (space : SpaceView) (ends : Option Status) : Type 0 where
  pub pieces : List (List ℕ)
  pub replies : List ℕ
  pub steps : StepsThrough (opening asked.first ++ pieces) D (start_view asked.bits) store replies space store'
  pub output : List ℕ
  pub writes : Appends (K.written sink) (K.written sink') output
  pub whole : ends ≢ Some WriteFault → output ≡ replies
  pub cut : ends ≡ Some WriteFault →
      (before : List (List ℕ)) × (piece : List ℕ) × (opening asked.first ++ pieces ≡ before ++ piece ∷ [])
      × BreaksOff before piece D (start_view asked.bits) store replies output space store'

-- What a run promises whose words ask for no lines of the program's own. Where its source tells its bytes these are what it took and
-- executed, and without a fault they alone decide.
pub record RunsInput {A B C : Type 0} (most : ℕ) (asked : PlainOptions) (S : source_trait.Ghosts A) (source source' : A)
    (K : sink_trait.Ghosts B) (sink sink' : B) (D : store_trait.Ghosts C) (store store' : C) (ended : Ended) : Type 0 where
  pub answers : IfSome ended.space (λ last. HasAnswered asked K sink sink' D store store' last (Some ended.status))
  pub run : IfSome (S.left source) (λ input. Runs most asked input (S.left source') K sink sink' D store store' ended.status ended.space)
  pub complete : ended.status ≢ ReadFault → ended.status ≢ WriteFault →
      IfSome (S.left source) (λ input. IsComplete most input ended.status)

-- What a run promises that goes by lines of the program's own. It reads no source and uses no store, whatever they tell, and but for
-- want of memory it works on the lines. Without a fault, it is done then.
pub record RunsOwn {A B C : Type 0} (asked : PlainOptions) (seed count : ℕ) (source source' : A)
    (K : sink_trait.Ghosts B) (sink sink' : B) (D : store_trait.Ghosts C) (store store' : C) (ended : Ended) : Type 0 where
  pub unread : source' ≡ source
  pub unused : store' ≡ store
  pub run : (ended.status ≡ Memory) ⊎ Works asked.bits seed count (StepsBeside D store) K sink sink' ended
  pub complete : ended.status ≢ WriteFault → (ended.status ≡ Done) ⊎ (ended.status ≡ Memory)

-- What a run promises whose words ask for these options.
pub record RunsBy {A B C : Type 0} (most : ℕ) (asked : PlainOptions) (S : source_trait.Ghosts A) (source source' : A)
    (K : sink_trait.Ghosts B) (sink sink' : B) (D : store_trait.Ghosts C) (store store' : C) (ended : Ended) : Type 0 where
  pub bits : IfSome ended.space (λ s. s.pool.bits ≡ asked.bits)
  pub does : MatchOption asked.work
      (RunsInput most asked S source source' K sink sink' D store store' ended)
      (λ work. RunsOwn asked work.0 work.1 source source' K sink sink' D store store' ended)

-- What a run promises that takes at most so many bytes: of its words, of its source, its sink and its store before and after
-- it, and of how it ended.
pub record RunsAs {A B C : Type 0} (most : ℕ) (words : List (List ℕ)) (S : source_trait.Ghosts A) (source source' : A)
    (K : sink_trait.Ghosts B) (sink sink' : B) (D : store_trait.Ghosts C) (store store' : C) (ended : Ended) : Type 0 where
  -- Whatever the devices tell. The status is Usage exactly where the words don't read, but that memory may have run out before
  -- that was known.
  pub usage : ended.status ≡ Usage → options words ≡ None
  pub unread : options words ≡ None → (ended.status ≡ Usage) ⊎ (ended.status ≡ Memory)
  pub space : IsNone ended.space ↔ IsEarly ended.status
  pub unbegun : IsEarly ended.status → (source' ≡ source) × (sink' ≡ sink) × (store' ≡ store)
  -- The counts of faults never fall, and a fault has its cause in this call. A steady source stays so and counts a fault with
  -- no status but a read fault, a steady sink with none but a write fault. A source that can't fail has none.
  pub reads : Calls S.faults S.steady S.faultless source source' (ended.status ≡ ReadFault)
  pub writes : CountsFaults K.faults K.steady sink sink' (ended.status ≡ WriteFault)
  pub stores : KeepsSure D store store'
  -- Where the words read.
  pub runs : IfSome (options words) (λ asked. RunsBy most asked S source source' K sink sink' D store store' ended)

-- A run that goes on: the pieces given so far were executed, and their replies written.
use Rattle.std.specs.Prelude.{◌≡◌, ℕ, ◌-◌, ◌≤◌, List, ◌++◌, length, None, Some, IfSome, Result, Ok, Err, IfOk, codes, ◌⊎◌}
use Rattle.std.specs.declared.option.Option.{Option}
use Rattle.std.specs.Io.KnownBytes.{Appends}
use Rattle.shell_io.specs.Pieces.{pieces_within}
use Rattle.shell_io.specs.Reader.{Reading, StandsIn, pieces_given}
use Rattle.shell_io.specs.declared.device.Failed.{Failed}
use Rattle.shell_io.specs.declared.device.Sink as sink_trait
use Rattle.shell_io.specs.declared.device.Source as source_trait
use Rattle.shell_io.specs.declared.device.Store as store_trait
use Rattle.shell_io.specs.Fault.{CountsFaults, Calls}
use Rattle.shell_options.specs.Options.{PlainOptions}
use Rattle.shell_options.specs.declared.WordsFault.{WordsFault}
use Rattle.shell_options.specs.declared.WordsFault.TheVariants as words
use Rattle.space_state.specs.View.{SpaceView, start_view}
use Rattle.ewig_shell.specs.declared.execute.Went.{Went}
use Rattle.ewig_shell.specs.declared.execute.Went.TheVariants.{On, Quit}
use Rattle.ewig_shell.specs.declared.run.Ended.{Ended}
use Rattle.ewig_shell.specs.declared.run.Status.{Status}
use Rattle.ewig_shell.specs.declared.run.Status.TheVariants.{Done, Memory, Usage, ReadFault, WriteFault}
use Rattle.ewig_shell.specs.Quits.{HasQuit}
use Rattle.ewig_shell.specs.Run.{IsEarly, HasAnswered, KeepsSure, Runs, opening}
use Rattle.ewig_shell.specs.Step.{StepsOn, StepsThrough}
use Rattle.ewig_shell.specs.Sending.{Replies}

-- A sink has taken these bytes, and without a fault where it had room for them.
pub record TakesReplies {B : Type 0} (K : sink_trait.Ghosts B) (sink sink' : B) (bytes : List ℕ) : Type 0 where
  pub appends : Appends (K.written sink) (K.written sink') bytes
  pub room : (room : ℕ) → K.has_room sink room → length bytes ≤ room →
      (K.faults sink' ≡ K.faults sink) × K.has_room sink' (room - length bytes)

-- Where a run over this input stands between two pieces, the document loaded that the words name: its sink and its store were the
-- first at its begin and are the second now, and its space is this one.
pub record IsGoing {B C : Type 0} (most : ℕ) (asked : PlainOptions) (input : List ℕ) (reader : Reading) (left : Option (List ℕ)) (K : sink_trait.Ghosts B)
    (sink sink' : B) (D : store_trait.Ghosts C) (store store' : C) (space : SpaceView) : Type 0 where
  pub stands : StandsIn input reader left
  pub later : List (List ℕ)
  pub in_time : pieces_within most input ≡ pieces_given input reader ++ later
  pub goes_on : ¬ HasQuit (pieces_given input reader)
  pub replies : List ℕ
  pub steps : StepsThrough (opening asked.first ++ pieces_given input reader) D (start_view asked.bits) store replies space store'
  pub writes : TakesReplies K sink sink' replies

-- What the counts of faults say of a run that ended so, or that goes on.
pub record HasCauses {A B : Type 0} (S : source_trait.Ghosts A) (source source' : A)
    (K : sink_trait.Ghosts B) (sink sink' : B) (ends : Option Status) : Type 0 where
  pub reads : Calls S.faults S.steady S.faultless source source' (ends ≡ Some ReadFault)
  pub writes : CountsFaults K.faults K.steady sink sink' (ends ≡ Some WriteFault)

-- What some lines made of a run that ended so with them, or that goes on, whatever the devices tell: it didn't end before its first
-- line, its space goes by the same bits, and the counts of faults say this of it.
pub record GoesAs {A B C : Type 0} (S : source_trait.Ghosts A) (source source' : A) (K : sink_trait.Ghosts B) (sink sink' : B)
    (D : store_trait.Ghosts C) (store store' : C) (space space' : SpaceView) (ends : Option Status) : Type 0 where
  pub begun : IfSome ends (λ status. ¬ IsEarly status)
  pub bits : space'.pool.bits ≡ space.pool.bits
  pub causes : HasCauses S source source' K sink sink' ends
  pub stores : KeepsSure D store store'

-- The status of a run that ends with a piece that was executed so, or none.
abbrev pub status_of : Result Went Failed → Option Status
status_of (Ok On) = None
status_of (Ok Quit) = Some Done
status_of (Err failed) = Some WriteFault

-- The line that loads the document of this file was executed first, and the run goes on, or ends with it.
pub record OpensFile {B C : Type 0} (file : List ℕ) (K : sink_trait.Ghosts B) (sink sink' : B) (D : store_trait.Ghosts C) (store store' : C)
    (space space' : SpaceView) (ends : Option Status) : Type 0 where
  pub went : Result Went Failed
  pub ends_so : ends ≡ status_of went
  pub goes_on : IfOk went (λ w. w ≡ On)
  pub replies : Replies K sink sink' went (λ reply. StepsOn (codes "load " ++ file) D space store reply space' store')
  pub bits : space'.pool.bits ≡ space.pool.bits

-- The same where there is such a file, and else nothing has changed.
abbrev pub Opens : {B C : Type 0} → Option (List ℕ) → (K : sink_trait.Ghosts B) (sink sink' : B) (D : store_trait.Ghosts C) (store store' : C)
    (space space' : SpaceView) → Option Status → Type 0
Opens None K sink sink' D store store' space space' ends = (ends ≡ None) × (sink' ≡ sink) × (store' ≡ store) × (space' ≡ space)
Opens (Some file) K sink sink' D store store' space space' ends = OpensFile file K sink sink' D store store' space space' ends

-- ## How a run ends

-- The end of a run that did nothing.
abbrev pub unbegun_as : Status → Ended
unbegun_as status = record { status = status; space = None }

-- How a run ends that its words don't begin.
abbrev pub status_by_words : WordsFault → Status
status_by_words words.Usage = Usage
status_by_words words.Memory = Memory

-- A run over the lines of its input ended so, with this space.
pub record Follows {A B C : Type 0} (most : ℕ) (asked : PlainOptions) (S : source_trait.Ghosts A) (source source' : A) (K : sink_trait.Ghosts B) (sink sink' : B)
    (D : store_trait.Ghosts C) (store store' : C) (ended : Ended) : Type 0 where
  pub last : SpaceView
  pub last_is : ended.space ≡ Some last
  pub goes : GoesAs S source source' K sink sink' D store store' (start_view asked.bits) last (Some ended.status)
  pub answers : HasAnswered asked K sink sink' D store store' last (Some ended.status)
  pub told : (input : List ℕ) → S.left source ≡ Some input → Runs most asked input (S.left source') K sink sink' D store store' ended.status (Some last)

-- The same, or the run did nothing for want of memory.
abbrev pub EndsInput : {A B C : Type 0} (most : ℕ) (asked : PlainOptions) (S : source_trait.Ghosts A) (source source' : A) (K : sink_trait.Ghosts B) (sink sink' : B)
    (D : store_trait.Ghosts C) (store store' : C) (ended : Ended) → Type 0
EndsInput most asked S source source' K sink sink' D store store' ended =
    (source' ≡ source) × (sink' ≡ sink) × (store' ≡ store) × (ended ≡ unbegun_as Memory)
    ⊎ Follows most asked S source source' K sink sink' D store store' ended

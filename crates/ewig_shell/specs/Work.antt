-- What a run does that goes by lines which the program makes by itself.
use Rattle.std.specs.Prelude.{◌≡◌, ℕ, Bool, ◌+◌, ◌==◌, List, [], ◌∷◌, ◌++◌, length, sum_by, count_by, codes, bytes_eq, slice_index, Result, Ok, Err, Some}
use Rattle.shell_terms.specs.Command.{PlainCommand}
use Rattle.shell_io.specs.Pieces.{pieces, IsWhole}
use Rattle.shell_io.specs.declared.device.Failed.{Failed}
use Rattle.shell_io.specs.declared.device.Sink as sink_trait
use Rattle.shell_io.specs.declared.device.Store as store_trait
use Rattle.plain_space.specs.Workspace.{Workspace, sizes}
use Rattle.plain_space.specs.Answer.{ok_line, size_line}
use Rattle.state_rows.specs.Standing.{StandsFor}
use Rattle.plain_space.specs.declared.refusal.Refusal.{Refusal}
use Rattle.space_state.specs.View.{SpaceView, Ends, start_view}
use Rattle.work_lines.specs.Lines.{work_lines}
use Rattle.work_lines.specs.Commands.{IsLineOf}
use Rattle.ewig_shell.specs.declared.run.Ended.{Ended}
use Rattle.ewig_shell.specs.declared.run.Status.{Status}
use Rattle.ewig_shell.specs.declared.run.Status.TheVariants.{Done, WriteFault}
use Rattle.ewig_shell.specs.Sending.{Replies}
use Rattle.ewig_shell.specs.declared.work.Summary.{Summary}
use Rattle.ewig_shell.specs.declared.work.Tally.{Tally}
use Rattle.ewig_shell.specs.Step.{StepsThrough, reply_of, done_reply}

-- The number of the byte that a refusal begins with: `!`.
abbrev pub is_refusal : List ℕ → Bool
is_refusal line = slice_index line 0 == 33

-- How many of the reply lines say `ok`, and how many refuse.
abbrev pub ok_count : List ℕ → ℕ
ok_count replies = count_by (λ line. bytes_eq line ok_line) (pieces replies)

abbrev pub refused_count : List ℕ → ℕ
refused_count replies = count_by is_refusal (pieces replies)

-- How many lines the buffers have in all.
abbrev pub line_count : Workspace → ℕ
line_count work = sum_by (λ size. size.1) (sizes work.current)

-- The lines of a summary of five numbers.
abbrev pub summary : (commands ok refused buffers lines : ℕ) → List ℕ
summary commands ok refused buffers lines = reply_of (
    size_line (codes "commands", commands)
    ∷ size_line (codes "ok", ok)
    ∷ size_line (codes "refused", refused)
    ∷ size_line (codes "names", buffers)
    ∷ size_line (codes "lines", lines)
    ∷ ok_line ∷ [])

-- The lines get these replies, joined, and leave this space and the store as it is.
abbrev pub StepsBeside : {C : Type 0} → store_trait.Ghosts C → C → List (List ℕ) → SpaceView → List ℕ → SpaceView → Type 0
StepsBeside D store lines old replies new = StepsThrough lines D old store replies new store

-- The lines of the seed, eight that make buffers and so many behind them, were executed so from a new space by so many bits. These
-- bytes are their summary.
pub record IsSummary (bits seed count : ℕ) (AreSteps : List (List ℕ) → SpaceView → List ℕ → SpaceView → Type 0) (last : SpaceView) (bytes : List ℕ) : Type 0 where
  pub replies : List ℕ
  pub steps : AreSteps (work_lines seed count) (start_view bits) replies last
  pub work : Workspace
  pub stands : StandsFor last.pool work
  pub bytes_are : bytes ≡ summary (8 + count) (ok_count replies) (refused_count replies) (length (sizes work.current)) (line_count work)

-- The status of a run that sent its summary so.
abbrev pub status_by : Result (Unit {0}) Failed → Status
status_by (Ok sent) = Done
status_by (Err failed) = WriteFault

-- The summary of the lines was sent: whole, and the run is done, or a part of it, and the sink failed.
pub record Works {B : Type 0} (bits seed count : ℕ) (AreSteps : List (List ℕ) → SpaceView → List ℕ → SpaceView → Type 0)
    (K : sink_trait.Ghosts B) (sink sink' : B) (ended : Ended) : Type 0 where
  pub sent : Result (Unit {0}) Failed
  pub status_is : ended.status ≡ status_by sent
  pub last : SpaceView
  pub last_is : ended.space ≡ Some last
  pub replies : Replies K sink sink' sent (IsSummary bits seed count AreSteps last)

-- ## Without a store

-- The line is a command that changes a space: it was carried out, or refused, with this reply. It uses no device.
pub record ChangesBy (line : List ℕ) (old : SpaceView) (reply : List ℕ) (new : SpaceView) : Type 0 where
  pub command : PlainCommand
  pub line_is : IsLineOf line command
  pub done : Result (Unit {0}) Refusal
  pub ends : Ends command old done new
  pub reply_is : reply ≡ done_reply done

-- Each of the lines does, one after another.
abbrev pub StepsAlone : List (List ℕ) → SpaceView → List ℕ → SpaceView → Type 0
StepsAlone [] old replies new = (replies ≡ []) × (new ≡ old)
StepsAlone (line ∷ rest) old replies new =
    (reply : List ℕ) × (mid : SpaceView) × (more : List ℕ) × ChangesBy line old reply mid × StepsAlone rest mid more new × (replies ≡ reply ++ more)

-- One command more was carried out, or refused.
abbrev pub CountsOne : Tally → Result (Unit {0}) Refusal → Tally → Type 0
CountsOne old (Ok done) new = (new.ok ≡ old.ok + 1) × (new.refused ≡ old.refused)
CountsOne old (Err reason) new = (new.ok ≡ old.ok) × (new.refused ≡ old.refused + 1)

-- The lines were executed, and so many replies say `ok`, and so many refuse.
pub record Counts (lines : List (List ℕ)) (old : SpaceView) (tally : Tally) (new : SpaceView) : Type 0 where
  pub replies : List ℕ
  pub steps : StepsAlone lines old replies new
  pub ended : IsWhole replies
  pub ok : tally.ok ≡ ok_count replies
  pub refused : tally.refused ≡ refused_count replies

-- These numbers are those of the lines of the seed.
pub record SumsUp (seed count : ℕ) (old : SpaceView) (summary : Summary) (new : SpaceView) : Type 0 where
  pub replies : List ℕ
  pub steps : StepsAlone (work_lines seed count) old replies new
  pub commands : summary.commands ≡ 8 + count
  pub ok : summary.ok ≡ ok_count replies
  pub refused : summary.refused ≡ refused_count replies
  pub work : Workspace
  pub stands : StandsFor new.pool work
  pub buffers : summary.buffers ≡ length (sizes work.current)
  pub lines : summary.lines ≡ line_count work

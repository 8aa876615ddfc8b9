-- How a reply is sent, and how a run goes on then.
use Rattle.std.specs.Prelude.{◌≡◌, ℕ, List, ◌++◌, Result, Ok, Err, OnOk}
use Rattle.shell_io.specs.Sending.{Sends}
use Rattle.shell_io.specs.declared.device.Failed.{Failed}
use Rattle.shell_io.specs.declared.device.Sink as sink_trait
use Rattle.ewig_shell.specs.declared.execute.Went.{Went}

-- A reply that is due was sent.
pub record Replies {A B : Type 0} (K : sink_trait.Ghosts B) (sink sink' : B) (result : Result A Failed)
    (IsDue : List ℕ → Type 0) : Type 0 where
  pub reply : List ℕ
  pub due : IsDue reply
  pub sends : Sends K.written K.faults K.steady K.has_room sink sink' result reply

-- How a run goes on where a reply was sent, and else the fault.
abbrev pub sent_then : Result (Unit {0}) Failed → Went → Result Went Failed
sent_then (Ok sent) went = Ok went
sent_then (Err failed) went = Err failed

-- Bytes were put behind those of a page. Of all these the first were sent, and at Ok the page has the others.
pub record Puts {B : Type 0} (K : sink_trait.Ghosts B) (sink : B) (page : List ℕ) (sink' : B) (page' : List ℕ)
    (result : Result (Unit {0}) Failed) (bytes : List ℕ) : Type 0 where
  pub sent : List ℕ
  pub kept : List ℕ
  pub parts : sent ++ kept ≡ page ++ bytes
  pub page_is : OnOk result (page' ≡ kept)
  pub sends : Sends K.written K.faults K.steady K.has_room sink sink' result sent

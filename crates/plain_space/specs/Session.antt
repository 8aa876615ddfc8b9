-- What a list of commands replies, one after another.
use Rattle.std.specs.Prelude.{List, [], ◌∷◌, ◌++◌, Ok, Err}
use lib.Chars.{codes}
use Rattle.plain_space.specs.declared.refusal.Refusal.{Refusal}
use Rattle.plain_space.specs.declared.refusal.Refusal.TheVariants.{Absent, Exists, Range, Limit, Batch, Empty, Memory}
use Rattle.shell_terms.specs.Edit.{Bytes}
use Rattle.shell_terms.specs.Command.{PlainCommand}
use Rattle.plain_space.specs.Workspace.{Workspace}
use Rattle.plain_space.specs.Answer.{Answer, tells, elsewhere, answer}

-- The word for why a command is refused.
abbrev pub reason_of : Refusal → Bytes
reason_of Absent = codes "none"
reason_of Exists = codes "exists"
reason_of Range = codes "range"
reason_of Limit = codes "limit"
reason_of Batch = codes "batch"
reason_of Empty = codes "empty"
reason_of Memory = codes "memory"

-- The reply line that refuses, with its reason.
abbrev pub refusal_line : Refusal → Bytes
refusal_line reason = codes "! " ++ reason_of reason

-- The reply lines of an answer; of what is said elsewhere there are none here.
abbrev pub reply_lines : Answer → List Bytes
reply_lines (Ok (tells reply after)) = reply
reply_lines (Ok elsewhere) = []
reply_lines (Err reason) = refusal_line reason ∷ []

-- Goes on from the workspace that an answer leaves.
abbrev pub left_by : {X : Type 0} → Workspace → Answer → (Workspace → X) → X
left_by work (Ok (tells reply after)) next = next after
left_by work (Ok elsewhere) next = next work
left_by work (Err reason) next = next work

-- The reply lines to the commands, one after another, from this workspace.
unfoldable pub replies : Workspace → List PlainCommand → List Bytes
replies work [] = []
replies work (command ∷ rest) = reply_lines (answer work command) ++ left_by work (answer work command) (λ after. replies after rest)

-- What is asked of the workspace that the commands leave, one after another.
unfoldable pub from : {X : Type 0} → Workspace → List PlainCommand → (Workspace → X) → X
from work [] next = next work
from work (command ∷ rest) next = left_by work (answer work command) (λ after. from after rest next)

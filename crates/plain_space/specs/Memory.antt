-- Where a command may be refused for want of memory.
use Rattle.std.specs.Prelude.{IsTrue, IsOk}
use Rattle.shell_terms.specs.Command.{PlainCommand}
use Rattle.shell_terms.specs.Kinds.{wants_memory}
use Rattle.plain_space.specs.Workspace.{Workspace}
use Rattle.plain_space.specs.Answer.{answer}

-- Memory may be refused to such a command, and only where nothing in the workspace refuses it. What the store would refuse comes
-- later.
pub record MayLackMemory (work : Workspace) (command : PlainCommand) : Type 0 where
  pub wants : IsTrue (wants_memory command)
  pub granted : IsOk (answer work command)

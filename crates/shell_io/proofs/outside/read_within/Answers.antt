use Rattle.std.proofs.Common.{arith}
use Rattle.shell_io.proofs.KnownLemmas.{known-all}
use Rattle.shell_io.proofs.outside.read_within.Goals as goal

pub returns-in-Ok-2-clause-all : goal.returns-in-Ok-2-clause-all
returns-in-Ok-2-clause-all g c =
    rw (← c.take.ensures.inner) (known-all _ _ _ _ c.in-Ok.ensures.bytes
    (omega (arith, c.if-len-limit.false, c.len.ensures, c.take.ensures.limit, c.saturating_add-most.ensures)))

use Rattle.std.proofs.Common.{arith}
use Rattle.std.proofs.lemmas.Bool.{leb-true, le-leb}
use Rattle.space_state.proofs.Keeping.{lines-length}
use Rattle.space_state.proofs.lines.has_part.Goals as goal

pub returns-then-from-to : goal.returns-then-from-to
returns-then-from-to c = λ bits texts are. (
  λ yes. (omega (arith, c.if-from-to.true), omega (arith, leb-true c.args.to c.len.result yes, c.len.ensures.value, lines-length are)),
  λ part. le-leb c.args.to c.len.result (omega (arith, part.1, c.len.ensures.value, lines-length are)),
)

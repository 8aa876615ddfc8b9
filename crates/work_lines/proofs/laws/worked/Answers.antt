use Rattle.std.proofs.Common.{refl}
use Rattle.std.specs.Fmt.{digits}
use Rattle.work_lines.specs.Lines.{next_number, line_by, lines_from, work_lines}
use Rattle.work_lines.proofs.laws.worked.Goals as goal

pub returns : goal.returns
unfolding next_number line_by lines_from work_lines digits
returns c = record { first = refl; second = refl; lines = refl; longest = refl; shortest = refl }

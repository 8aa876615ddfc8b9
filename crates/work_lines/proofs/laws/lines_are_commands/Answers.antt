use Rattle.work_lines.proofs.LineLemmas.{makes, means-by}
use Rattle.work_lines.proofs.laws.lines_are_commands.Goals as goal

pub returns : goal.returns
returns c = record { first = makes; later = means-by }

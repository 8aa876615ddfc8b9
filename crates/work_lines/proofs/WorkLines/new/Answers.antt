use Rattle.std.proofs.Common.{◌++◌, ap}
use Rattle.work_lines.specs.Lines.{lines_from, work_lines}
use Rattle.work_lines.proofs.LineLemmas.{all-new}
use Rattle.work_lines.proofs.WorkLines.new.Goals as goal

pub returns-clause-all : goal.returns-clause-all
unfolding work_lines
returns-clause-all c = ap (◌++ lines_from c.args.count c.args.seed) all-new

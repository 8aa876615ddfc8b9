use Rattle.plain_space.proofs.LineLemmas.{lines-decided}
use Rattle.plain_space.proofs.laws.all_lines_pass.Goals as goal

pub returns : goal.returns
returns c = lines-decided

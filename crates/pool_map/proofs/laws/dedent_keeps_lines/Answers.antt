use Rattle.pool_map.proofs.Spaced.{dedent-keeps}
use Rattle.pool_map.proofs.laws.dedent_keeps_lines.Goals as goal

pub returns : goal.returns
returns c = dedent-keeps

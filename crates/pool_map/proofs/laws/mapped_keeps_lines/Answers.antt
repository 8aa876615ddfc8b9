use Rattle.pool_map.proofs.KeptLines.{mapped-keeps}
use Rattle.pool_map.proofs.laws.mapped_keeps_lines.Goals as goal

pub returns : goal.returns
returns c = mapped-keeps

use Rattle.pool_map.proofs.Spaced.{indent-needs}
use Rattle.pool_map.proofs.laws.indent_needs_room.Goals as goal

pub returns : goal.returns
returns c = indent-needs

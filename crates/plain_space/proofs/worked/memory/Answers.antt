use Rattle.std.proofs.Common.{refl}
use Rattle.plain_space.proofs.worked.memory.Goals as goal

pub returns : goal.returns
returns c = record { buffers = refl; names = refl; merges = refl; states = refl; sorting = refl; files = refl; looking = refl }

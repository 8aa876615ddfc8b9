use Rattle.std.proofs.Common.{refl}
use Rattle.plain_space.proofs.worked.last.Goals as goal

pub returns : goal.returns
returns c =
    record {
      none = refl;
      two = refl;
      three = refl;
      no_more = refl;
    }

use Rattle.std.proofs.Common.{ap}
use Rattle.plain_space.proofs.Merging.{joined-itself, common-itself, apart-itself}
use Rattle.plain_space.proofs.laws.merges_with_equal.Goals as goal

pub returns : goal.returns
returns c =
    record {
      stars_joined = λ now. ap (λ m. record now { stars = m }) (joined-itself now.stars);
      stars_common = λ now. ap (λ m. record now { stars = m }) (common-itself now.stars);
      no_stars = λ now. ap (λ m. record now { stars = m }) (apart-itself now.stars);
      buffers_joined = λ now. ap (λ m. record now { buffers = m }) (joined-itself now.buffers);
    }

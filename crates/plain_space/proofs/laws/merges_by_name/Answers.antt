use Rattle.std.proofs.Common.{refl}
use Rattle.plain_space.proofs.Merging.{get-joined, has-joined, has-common, has-apart}
use Rattle.plain_space.proofs.laws.merges_by_name.Goals as goal

pub returns : goal.returns
returns c =
    record {
      lines_stay = λ now version name. (refl, refl, refl);
      stars_stay = λ now version name. refl;
      stars_joined = λ now version name. has-joined now.stars version.stars name;
      stars_common = λ now version name. has-common now.stars version.stars name;
      other_stars = λ now version name. has-apart now.stars version.stars name;
      buffers_joined = λ now version name. get-joined now.buffers version.buffers name;
    }

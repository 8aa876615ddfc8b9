use Rattle.std.proofs.Common.{[]}
use Rattle.versions.proofs.CallerLemmas.{new-held}
use Rattle.old_number.proofs.run.Goals as goal

pub numbered-requires : goal.numbered-requires
numbered-requires g c = new-held c.args.maps.now c.empty.new.self c.in_ok-none.none [] c.in_ok-none.ensures.made

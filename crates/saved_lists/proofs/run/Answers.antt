use Rattle.std.proofs.Common.{[]}
use Rattle.versions.proofs.CallerLemmas.{new-held}
use Rattle.saved_lists.proofs.run.Goals as goal

pub push-requires : goal.push-requires
push-requires g c = new-held c.args.lists.now c.empty.new.self c.in_ok-none.none [] c.in_ok-none.ensures.made

pub push-requires-2 : goal.push-requires-2
push-requires-2 g c = new-held c.empty.new.self c.push.new.self c.in_ok-one.one _ c.in_ok-one.ensures.made

pub push-requires-3 : goal.push-requires-3
push-requires-3 g c = new-held c.push.new.self c.push-2.new.self c.in_ok-two.two _ c.in_ok-two.ensures.made

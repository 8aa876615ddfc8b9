use Rattle.std.proofs.Common.{[]}
use Rattle.versions.proofs.CallerLemmas.{new-held, made-held}
use Rattle.two_versions.proofs.run.Goals as goal

pub push-requires : goal.push-requires
push-requires g c = new-held c.args.lists.now c.empty.new.self c.in_ok-none.none [] c.in_ok-none.ensures.made

pub push-requires-2 : goal.push-requires-2
push-requires-2 g c = new-held c.empty.new.self c.push.new.self c.in_ok-left.left _ c.in_ok-left.ensures.made

pub merged-requires-clause-left : goal.merged-requires-clause-left
merged-requires-clause-left g c = made-held c.push.new.self c.push-2.new.self c.in_ok-right.right _ c.in_ok-left.left c.in_ok-right.ensures.made c.in_ok-right.ensures.fresh (new-held c.empty.new.self c.push.new.self c.in_ok-left.left _ c.in_ok-left.ensures.made)

pub merged-requires-clause-right : goal.merged-requires-clause-right
merged-requires-clause-right g c = new-held c.push.new.self c.push-2.new.self c.in_ok-right.right _ c.in_ok-right.ensures.made

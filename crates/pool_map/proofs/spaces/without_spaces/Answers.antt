use Rattle.std.proofs.Common.{◌-◌, sym, ◌∙◌}
use Rattle.pool_map.proofs.LeadingSpaces.{none-leading}
use Rattle.pool_map.proofs.spaces.without_spaces.Goals as goal

pub returns-in_default : goal.returns-in_default
unfolding lib.Utf8.encode
returns-in_default c = sym (c.loop-space.invariant.1 ∙ none-leading (c.args.most - c.loop-space._space) c.loop-space.rest.now (λ shorter is. c.in_default.ensures.cases shorter is))

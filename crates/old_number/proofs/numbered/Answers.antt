use Rattle.std.proofs.Common.{[], ap, ◌∙◌}
use Rattle.std.specs.Prelude.{unwrap_or}
use Rattle.std.specs.FinMap.{find}
use Rattle.old_number.proofs.numbered.Goals as goal

pub renumbered-requires-2 : goal.renumbered-requires-2
renumbered-requires-2 g c = c.in_ok-old.ensures.held.0

pub returns-clause-held : goal.returns-clause-held
returns-clause-held g c = (c.in_ok-new.ensures.held.1, c.in_ok-new.ensures.held.0)

pub returns-clause-two : goal.returns-clause-two
returns-clause-two g c = ap (λ o. find g.K.Ord.cmp c.args.key (unwrap_or o [])) c.in_ok-new.ensures.old_number ∙ c.in_ok-old.ensures.new_number

use Rattle.rrb_core.proofs.flex.Flex.share.Goals as goal

pub returns-clause-good : goal.returns-clause-good
returns-clause-good g c = rw (c.share.ensures.same, c.view.ensures) (c.share.ensures.vectors c.args.self.now c.requires.good).0

pub returns-clause-items : goal.returns-clause-items
returns-clause-items g c = rw (c.share.ensures.same, c.view.ensures) (c.share.ensures.vectors c.args.self.now c.requires.good).1

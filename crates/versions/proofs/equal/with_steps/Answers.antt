use Rattle.versions.proofs.equal.with_steps.Goals as goal

pub returns : goal.returns
returns g c = c.in_few_steps.ensures.equal

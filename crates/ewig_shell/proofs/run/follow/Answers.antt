use Rattle.ewig_shell.proofs.run.follow.Goals as goal

pub returns-in-Some-clause-told : goal.returns-in-Some-clause-told
returns-in-Some-clause-told g c = λ asked input begin first going. c.in-Some.ensures.told asked input begin first (c.lines.invariant.told asked input begin first going)

pub returns-in-Some-clause-answers : goal.returns-in-Some-clause-answers
returns-in-Some-clause-answers g c = λ asked begin first so_far. c.in-Some.ensures.answers asked begin first (c.lines.invariant.answers asked begin first so_far)

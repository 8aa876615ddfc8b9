use Rattle.std.proofs.lemmas.Grind.{common_steps}
use Rattle.std.proofs.Common.{rules, arith}
use Rattle.shell_io.proofs.StandsLemmas.{stands_behind, answers_line, answers_long}
use Rattle.shell_io.proofs.reader.LineReader.give.Goals as goal

pub returns-then-piece-clause-passes : goal.returns-then-piece-clause-passes
returns-then-piece-clause-passes c =
    record { taken = grind (arith, common_steps); given = search rules; let_go = search rules; held = search rules; most = search rules; at_end = search rules; settled = search rules }

pub returns-clause-passes : goal.returns-clause-passes
returns-clause-passes c =
    record { taken = grind (arith, common_steps); given = search rules; let_go = search rules; held = search rules; most = search rules; at_end = search rules; settled = search rules }

pub returns-then-piece-clause-stands : goal.returns-then-piece-clause-stands
returns-then-piece-clause-stands c = λ input left s.
    stands_behind input _ _ left c.args.count c.args.end s c.requires.within c.requires.clean c.requires.ends
    (returns-then-piece-clause-passes c)

pub returns-then-piece-clause-answers : goal.returns-then-piece-clause-answers
returns-then-piece-clause-answers c = λ input left most s known.
    let in_time = rw known at c.requires.in_time in
    answers_long input _ _ left c.args.count c.args.end most s c.requires.within c.requires.clean c.requires.ends
    (returns-then-piece-clause-passes c)
    (search rules) (search rules)

pub returns-clause-stands : goal.returns-clause-stands
returns-clause-stands c = λ input left s.
    stands_behind input _ _ left c.args.count c.args.end s c.requires.within c.requires.clean c.requires.ends
    (returns-clause-passes c)

pub returns-clause-answers : goal.returns-clause-answers
returns-clause-answers c = λ input left most s known.
    let in_time = rw known at c.requires.in_time in
    answers_line input _ _ left c.args.count c.args.end most s c.requires.within c.requires.clean c.requires.ends
    (returns-clause-passes c)
    (search rules) (search rules) (search rules)

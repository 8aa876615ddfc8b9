use Rattle.std.proofs.lemmas.Grind.{common_steps}
use Rattle.std.proofs.lemmas.List.{drop_all}
use Rattle.std.proofs.Common.{rules, arith, length, ap, ◌∙◌}
use Rattle.shell_io.proofs.StandsLemmas.{stands-let_go}
use Rattle.shell_io.proofs.reader.LineReader.let_go_of_front.Goals as goal

pub returns-then-self-length-clause-stands : goal.returns-then-self-length-clause-stands
returns-then-self-length-clause-stands c = λ input left s.
    let shown = c.held-length.ensures.shown in
    stands-let_go input _ _ left s
    (record { taken = grind (arith, common_steps); given = search rules; most = search rules; at_end = search rules; settled = search rules })
    c.requires (search rules)
    (ap (λ w. w.held) c.skip.ensures ∙ drop_all (length c.held-length.result.now) c.self.inside.window.held (omega (arith, ap length shown)))

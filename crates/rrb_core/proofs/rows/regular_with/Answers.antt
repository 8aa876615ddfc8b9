use Rattle.rrb_core.proofs.rows.regular_with.Goals as goal

pub placed_with-requires-clause-sums : goal.placed_with-requires-clause-sums
placed_with-requires-clause-sums g c = record { none = (λ _. c.requires.regular, λ _. c.from_slice.ensures); kept = λ other. absurd (other c.requires.regular) }

use Rattle.rrb_join.proofs.joining.+stand_beside.Given as goal

abbrev pub decreases-stand_beside : goal.decreases-stand_beside
decreases-stand_beside g l = l.height

use Rattle.rrb_core.proofs.rows.+size.Given as goal

abbrev pub decreases-size : goal.decreases-size
decreases-size g l = l.height

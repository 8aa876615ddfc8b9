use Rattle.rrb_join.proofs.rests.+prepend.Given as goal

abbrev pub decreases-prepend : goal.decreases-prepend
decreases-prepend g l = l.height

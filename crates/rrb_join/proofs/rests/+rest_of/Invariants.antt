use Rattle.rrb_join.proofs.rests.+rest_of.Given as goal

abbrev pub decreases-rest_of : goal.decreases-rest_of
decreases-rest_of g l = l.height

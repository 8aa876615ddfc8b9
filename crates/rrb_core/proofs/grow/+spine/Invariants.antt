use Rattle.rrb_core.proofs.grow.+spine.Given as goal

abbrev pub decreases-spine : goal.decreases-spine
decreases-spine g l = l.height

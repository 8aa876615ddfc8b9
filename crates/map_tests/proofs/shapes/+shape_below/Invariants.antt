use Rattle.map_tests.proofs.shapes.+shape_below.Given as goal

abbrev pub decreases-shape_below : goal.decreases-shape_below
decreases-shape_below g l = l.levels

use Rattle.rrb_core.proofs.search.+only_element.Given as goal

abbrev pub decreases-only_element : goal.decreases-only_element
decreases-only_element g l = l.height

use Rattle.rrb_join.proofs.inserting.+insert_links.Given as goal

abbrev pub decreases-insert_links : goal.decreases-insert_links
decreases-insert_links g l = l.height

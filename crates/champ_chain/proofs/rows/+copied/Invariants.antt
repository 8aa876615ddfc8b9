use Rattle.champ_chain.proofs.rows.+copied.Given as goal

abbrev pub decreases-copied : goal.decreases-copied
decreases-copied g l = l.number

use Rattle.container_tests.proofs.writes.check_reads_through_a_glass.Given as goal

abbrev pub ghosts-is_seven : goal.ghosts-is_seven
ghosts-is_seven g a = record { name = a.blank.name; parts = a.blank.parts }

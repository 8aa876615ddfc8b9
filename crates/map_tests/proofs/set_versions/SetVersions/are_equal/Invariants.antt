use Rattle.map_tests.proofs.set_versions.SetVersions.are_equal.Given as goal

abbrev pub ghosts-are_same : goal.ghosts-are_same
ghosts-are_same g a = record { name = a.blank.name; parts = a.blank.parts }

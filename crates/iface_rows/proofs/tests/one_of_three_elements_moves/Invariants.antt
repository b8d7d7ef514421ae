use Rattle.iface_rows.proofs.tests.one_of_three_elements_moves.Given as goal

abbrev pub ghosts-first_round : goal.ghosts-first_round
ghosts-first_round g a = record { name = a.blank.name; parts = a.blank.parts }

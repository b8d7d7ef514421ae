use Rattle.iface_rows.proofs.tests.the_second_place_of_a_pair_moves.Given as goal

abbrev pub ghosts-first_round : goal.ghosts-first_round
ghosts-first_round g a = record { name = a.blank.name; parts = a.blank.parts }

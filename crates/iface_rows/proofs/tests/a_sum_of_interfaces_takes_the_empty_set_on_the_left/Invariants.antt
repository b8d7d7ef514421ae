use Rattle.iface_rows.proofs.tests.a_sum_of_interfaces_takes_the_empty_set_on_the_left.Given as goal

abbrev pub ghosts-first_round : goal.ghosts-first_round
ghosts-first_round g a = record { name = a.blank.name; parts = a.blank.parts }

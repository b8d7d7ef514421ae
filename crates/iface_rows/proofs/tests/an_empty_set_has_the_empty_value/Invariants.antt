use Rattle.iface_rows.proofs.tests.an_empty_set_has_the_empty_value.Given as goal

abbrev pub ghosts-first_round : goal.ghosts-first_round
ghosts-first_round g a = record { name = a.blank.name; parts = a.blank.parts }

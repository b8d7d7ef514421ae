use Rattle.iface_rows.proofs.sums_tests.fractions_stand_in_lowest_terms.Given as goal

abbrev pub ghosts-two_rounds : goal.ghosts-two_rounds
ghosts-two_rounds g a = record { name = a.blank.name; parts = a.blank.parts }

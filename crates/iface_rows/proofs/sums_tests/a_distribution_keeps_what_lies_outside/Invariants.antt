use Rattle.iface_rows.proofs.sums_tests.a_distribution_keeps_what_lies_outside.Given as goal

abbrev pub ghosts-two_rounds : goal.ghosts-two_rounds
ghosts-two_rounds g a = record { name = a.blank.name; parts = a.blank.parts }

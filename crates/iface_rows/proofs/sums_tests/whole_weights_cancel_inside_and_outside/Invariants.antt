use Rattle.iface_rows.proofs.sums_tests.whole_weights_cancel_inside_and_outside.Given as goal

abbrev pub ghosts-two_rounds : goal.ghosts-two_rounds
ghosts-two_rounds g a = record { name = a.blank.name; parts = a.blank.parts }

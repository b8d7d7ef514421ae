use Rattle.iface_rows.proofs.sums_tests.wide_sums_are_kept_narrow_again.Given as goal

abbrev pub ghosts-two_rounds : goal.ghosts-two_rounds
ghosts-two_rounds g a = record { name = a.blank.name; parts = a.blank.parts }

use Rattle.classes_rows.proofs.tests.labels_of.Given as goal

abbrev pub ghosts-from_zero : goal.ghosts-from_zero
ghosts-from_zero a = record { name = a.blank.name; parts = a.blank.parts }

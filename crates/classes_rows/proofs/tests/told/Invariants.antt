use Rattle.classes_rows.proofs.tests.told.Given as goal

abbrev pub ghosts-from_zero : goal.ghosts-from_zero
ghosts-from_zero g a = record { name = a.blank.name; parts = a.blank.parts }

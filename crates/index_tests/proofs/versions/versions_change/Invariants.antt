-- The counter of rows and steps is the one that the test makes.
use Rattle.index_tests.proofs.versions.versions_change.Given as goal

abbrev pub ghosts-all_work : goal.ghosts-all_work
ghosts-all_work g a = record { name = a.blank.name; parts = a.blank.parts }

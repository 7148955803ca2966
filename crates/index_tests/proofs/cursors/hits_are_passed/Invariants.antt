-- The steps stand on the ledger that is opened for them.
use Rattle.index_tests.proofs.cursors.hits_are_passed.Given as goal

abbrev pub ghosts-all_work : goal.ghosts-all_work
ghosts-all_work g a = record { name = a.blank.name; parts = a.blank.parts }

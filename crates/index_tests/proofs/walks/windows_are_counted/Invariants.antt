-- The steps stand on the ledger that is opened for them.
use Rattle.index_tests.proofs.walks.windows_are_counted.Given as goal

abbrev pub ghosts-counts : goal.ghosts-counts
ghosts-counts g a = record { name = a.blank.name; parts = a.blank.parts }

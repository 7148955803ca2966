-- The count of rows stands on the ledger that is opened for it.
use Rattle.index_tests.proofs.document_indexes.leaves_come_and_go.Given as goal

abbrev pub ghosts-all_work : goal.ghosts-all_work
ghosts-all_work g a = record { name = a.blank.name; parts = a.blank.parts }

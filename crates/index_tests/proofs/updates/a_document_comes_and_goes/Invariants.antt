-- The count of rows stands on the ledger that is opened for it.
use Rattle.index_tests.proofs.updates.a_document_comes_and_goes.Given as goal

abbrev pub ghosts-all_work : goal.ghosts-all_work
ghosts-all_work g a = record { name = a.blank.name; parts = a.blank.parts }

-- The count of rows stands on the ledger that is opened for it.
use Rattle.call_tests.proofs.posting_lists.rows_of_one_block_are_found_together.Given as goal

abbrev pub ghosts-rows_of_a_leaf : goal.ghosts-rows_of_a_leaf
ghosts-rows_of_a_leaf g a = record { name = a.rows.name; parts = a.rows.parts }

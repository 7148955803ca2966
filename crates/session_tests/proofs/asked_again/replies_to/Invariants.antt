-- The two counts stand on the ledgers that are opened for them.
use Rattle.session_tests.proofs.asked_again.replies_to.Given as goal

abbrev pub ghosts-replies_of-L-Ledger : goal.ghosts-replies_of-L-Ledger
ghosts-replies_of-L-Ledger g a = record { name = a.rows.name; parts = a.rows.parts }

abbrev pub ghosts-replies_of-M-Ledger : goal.ghosts-replies_of-M-Ledger
ghosts-replies_of-M-Ledger g a = record { name = a.moves.name; parts = a.moves.parts }

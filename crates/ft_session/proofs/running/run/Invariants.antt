-- The two counts stand on the ledgers that are opened for them.
use Rattle.ft_session.proofs.running.run.Given as goal

abbrev pub ghosts-answer_file-L-Ledger : goal.ghosts-answer_file-L-Ledger
ghosts-answer_file-L-Ledger g a = record { name = a.rows.name; parts = a.rows.parts }

abbrev pub ghosts-answer_file-M-Ledger : goal.ghosts-answer_file-M-Ledger
ghosts-answer_file-M-Ledger g a = record { name = a.moves.name; parts = a.moves.parts }

abbrev pub ghosts-answer_made-L-Ledger : goal.ghosts-answer_made-L-Ledger
ghosts-answer_made-L-Ledger g a = record { name = a.rows.name; parts = a.rows.parts }

abbrev pub ghosts-answer_made-M-Ledger : goal.ghosts-answer_made-M-Ledger
ghosts-answer_made-M-Ledger g a = record { name = a.moves.name; parts = a.moves.parts }

-- What is lent to the test.
use Rattle.session_state.proofs.selected.select.Given as goal

abbrev pub ghosts-select_with : goal.ghosts-select_with
ghosts-select_with g a = record { abbreviations = g.A.Abbreviated.abbreviations; runs = a.runs.now; moves = a.moves.now }

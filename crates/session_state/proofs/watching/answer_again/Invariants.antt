-- The elements are asked under the abbreviations of the documents.
use Rattle.session_state.proofs.watching.answer_again.Given as goal

abbrev pub ghosts-answer_planned : goal.ghosts-answer_planned
ghosts-answer_planned g a = record { abbreviations = a.stamped.now.indexed.abbreviations }

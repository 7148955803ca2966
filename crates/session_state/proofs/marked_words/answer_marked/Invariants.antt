-- The elements are asked under the abbreviations of the collection.
use Rattle.session_state.proofs.marked_words.answer_marked.Given as goal

abbrev pub ghosts-answer_planned : goal.ghosts-answer_planned
ghosts-answer_planned g a = record { abbreviations = a.collection.now.abbreviations }

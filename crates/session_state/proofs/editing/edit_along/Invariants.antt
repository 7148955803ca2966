-- The elements are asked under the abbreviations of the collection.
use Rattle.session_state.proofs.editing.edit_along.Given as goal

abbrev pub ghosts-choose_along : goal.ghosts-choose_along
ghosts-choose_along g a = record { abbreviations = a.collection.now.abbreviations }

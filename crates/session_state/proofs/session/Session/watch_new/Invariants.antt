-- The elements are asked under the abbreviations of the documents.
use Rattle.session_state.proofs.session.Session.watch_new.Given as goal

abbrev pub ghosts-set_watch : goal.ghosts-set_watch
ghosts-set_watch g a = record { abbreviations = a.stamped.now.indexed.abbreviations }

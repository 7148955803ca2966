-- The counter is the one of the blank.
use Rattle.match_marks.proofs.marks.Marks.best.Given as goal

abbrev pub ghosts-best_places : goal.ghosts-best_places
ghosts-best_places a = record { name = a.blank.name; parts = a.blank.parts }

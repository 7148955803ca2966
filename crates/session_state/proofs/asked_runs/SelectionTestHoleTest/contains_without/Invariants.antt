-- The counters are those of the blanks.
use Rattle.session_state.proofs.asked_runs.SelectionTestHoleTest.contains_without.Given as goal

abbrev pub ghosts-left_without : goal.ghosts-left_without
ghosts-left_without g a = record { name = a.blank.name; parts = a.blank.parts }

abbrev pub ghosts-judge_left : goal.ghosts-judge_left
ghosts-judge_left g a = record { name = a.blank.name; parts = a.blank.parts }

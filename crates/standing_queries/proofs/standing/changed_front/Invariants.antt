-- A line of those that change has the front, or is still to come.
use Rattle.std.proofs.Common.{◌≡◌, ◌||◌, ℕ, List, true}
use Rattle.standing_queries.specs.Changes.{is_among}
use Rattle.standing_queries.specs.steps.Fronts.{has_front}
use Rattle.standing_queries.specs.steps.Staying.{changed_lines, is_in}
use Rattle.standing_queries.proofs.standing.changed_front.Given as goal

abbrev pub invariant-loop-stamp : goal.invariant-loop-stamp
invariant-loop-stamp l = (line : List ℕ) → is_among (changed_lines (is_in l.staying) l.answers) line ≡ true
    → (has_front l.front line || is_among (changed_lines (is_in l.staying) l.stamp-iterator) line) ≡ true

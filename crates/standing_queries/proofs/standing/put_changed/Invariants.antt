-- What is in the set, and what is still to come into it, is all that comes.
use Rattle.std.proofs.Common.{◌≡◌, ◌||◌, ℕ, List}
use Rattle.standing_queries.specs.Changes.{is_among}
use Rattle.standing_queries.specs.steps.Staying.{changed_lines, has_line, is_in}
use Rattle.standing_queries.proofs.standing.put_changed.Given as goal

abbrev pub invariant-loop-stamp : goal.invariant-loop-stamp
invariant-loop-stamp l = (line : List ℕ)
    → (is_among (changed_lines (is_in l.staying) l.stamp-iterator) line || has_line l.set line)
    ≡ (is_among (changed_lines (is_in l.staying) l.answers) line || has_line l.fn.set line)

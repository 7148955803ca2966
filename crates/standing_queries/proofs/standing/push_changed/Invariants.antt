-- What stands there, with what is still to come, is all.
use Rattle.std.proofs.Common.{◌≡◌, ◌++◌, filter}
use Rattle.standing_queries.specs.Changes.{behind}
use Rattle.standing_queries.specs.steps.Staying.{changed_lines, has_line, is_in}
use Rattle.standing_queries.proofs.standing.push_changed.Given as goal

abbrev pub invariant-loop-stamp : goal.invariant-loop-stamp
invariant-loop-stamp l =
    l.out ++ behind l.mark (filter (has_line l.set) (changed_lines (is_in l.staying) l.stamp-iterator))
    ≡ l.fn.out ++ behind l.mark (filter (has_line l.set) (changed_lines (is_in l.staying) l.answers))

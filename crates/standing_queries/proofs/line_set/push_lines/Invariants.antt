-- Those of the first lines that are in the set stand behind the mark.
use Rattle.std.proofs.Common.{◌≡◌, ◌++◌, filter, take}
use Rattle.standing_queries.specs.Changes.{behind}
use Rattle.standing_queries.specs.steps.Staying.{has_line}
use Rattle.standing_queries.proofs.line_set.push_lines.Given as goal

abbrev pub invariant-loop-number : goal.invariant-loop-number
invariant-loop-number l = l.out ≡ l.fn.out ++ behind l.mark (filter (has_line l.set) (take l.number l.lines))

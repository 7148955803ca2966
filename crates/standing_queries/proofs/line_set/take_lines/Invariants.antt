-- The first lines are out of the set, and all in it has the front.
use Rattle.std.proofs.Common.{◌≡◌, ◌&&◌, ℕ, List, not, take, true}
use Rattle.standing_queries.specs.Changes.{is_among}
use Rattle.standing_queries.specs.steps.Fronts.{begins_with}
use Rattle.standing_queries.specs.steps.Staying.{has_line}
use Rattle.standing_queries.proofs.line_set.take_lines.Given as goal

abbrev pub invariant-loop-number : goal.invariant-loop-number
invariant-loop-number l = record {
  taken : (line : List ℕ) → has_line l.set line ≡ (not (is_among (take l.number l.lines) line) && has_line l.fn.set line);
  fronted : (line : List ℕ) → has_line l.set line ≡ true → begins_with l.front line ≡ true;
}

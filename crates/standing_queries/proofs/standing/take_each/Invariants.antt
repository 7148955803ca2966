-- What is in the set, without what is still to be taken out, is all that stays in it; and all in it has the front.
use Rattle.std.proofs.Common.{◌≡◌, ◌&&◌, ℕ, List, not, true}
use Rattle.standing_queries.specs.Answers.{all_lines}
use Rattle.standing_queries.specs.Changes.{is_among}
use Rattle.standing_queries.specs.steps.Fronts.{begins_with}
use Rattle.standing_queries.specs.steps.Staying.{has_line}
use Rattle.standing_queries.proofs.standing.take_each.Given as goal

abbrev pub invariant-loop-lines : goal.invariant-loop-lines
invariant-loop-lines l = record {
  taken : (line : List ℕ)
      → (not (is_among (all_lines l.lines-iterator) line) && has_line l.set line)
      ≡ (not (is_among (all_lines l.answers) line) && has_line l.fn.set line);
  fronted : (line : List ℕ) → has_line l.set line ≡ true → begins_with l.front line ≡ true;
}

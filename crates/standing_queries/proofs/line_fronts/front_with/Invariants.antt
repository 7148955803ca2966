-- The first lines have the front, and what had the front before has it still.
use Rattle.std.proofs.Common.{◌≡◌, ℕ, List, take, true}
use Rattle.standing_queries.specs.Changes.{is_among}
use Rattle.standing_queries.specs.steps.Fronts.{has_front}
use Rattle.standing_queries.proofs.line_fronts.front_with.Given as goal

abbrev pub invariant-loop-number : goal.invariant-loop-number
invariant-loop-number l = record {
  before : (line : List ℕ) → has_front l.fn.front line ≡ true → has_front l.front line ≡ true;
  first : (line : List ℕ) → is_among (take l.number l.lines) line ≡ true → has_front l.front line ≡ true;
}

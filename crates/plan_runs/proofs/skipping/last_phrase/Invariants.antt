-- The last of those so far and of those that are left is the last of all; a step was counted for each term of those so far.
use Rattle.std.proofs.Common.{◌≡◌, ◌≤◌, ◌+◌, drop, fold, map, take, Some}
use Rattle.std.specs.List.{sum_by}
use Rattle.plan_runs.specs.steps.RunCosts.{phrase_cost, term_count}
use Rattle.plan_runs.specs.steps.RunShapes.{phrase_shape}
use Rattle.plan_runs.specs.steps.RunSkips.{phrase_skip}
use Rattle.plan_runs.specs.steps.Skips.{later, latest}
use Rattle.plan_runs.proofs.skipping.last_phrase.Given as goal

abbrev pub invariant-loop-phrase : goal.invariant-loop-phrase
invariant-loop-phrase g l = record {
  skip : fold later (Some l.last) (map (λ phrase. phrase_skip l.doc.0 l.part (phrase_shape phrase)) (drop l.phrase-index l.phrases.items)) ≡ latest (map (λ phrase. phrase_skip l.doc.0 l.part (phrase_shape phrase)) l.phrases.items);
  price : l.moves ≤ l.fn.moves + sum_by (λ phrase. phrase_cost term_count (phrase_shape phrase)) (take l.phrase-index l.phrases.items);
  grown : l.fn.moves ≤ l.moves;
}

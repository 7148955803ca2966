-- The first of those so far and of those that are left is the first of all; a step was counted for each term of those so far.
use Rattle.std.proofs.Common.{◌≡◌, ◌≤◌, ◌+◌, drop, fold, map, take}
use Rattle.std.specs.List.{sum_by}
use Rattle.index_versions.specs.FirstPlaces.{soonest, sooner}
use Rattle.plan_runs.specs.steps.RunCosts.{phrase_cost, term_count}
use Rattle.plan_runs.specs.steps.RunShapes.{phrase_shape}
use Rattle.plan_runs.specs.steps.RunSkips.{phrase_skip}
use Rattle.plan_runs.proofs.skipping.first_phrase.Given as goal

abbrev pub invariant-loop-phrase : goal.invariant-loop-phrase
invariant-loop-phrase g l = record {
  skip : fold sooner l.first (map (λ phrase. phrase_skip l.doc.0 l.part (phrase_shape phrase)) (drop l.phrase-index l.phrases.items)) ≡ soonest (map (λ phrase. phrase_skip l.doc.0 l.part (phrase_shape phrase)) l.phrases.items);
  price : l.moves ≤ l.fn.moves + sum_by (λ phrase. phrase_cost term_count (phrase_shape phrase)) (take l.phrase-index l.phrases.items);
  grown : l.fn.moves ≤ l.moves;
}

-- The first of those so far and of those that are left is the first of all; a step was counted for each term of those so far.
use Rattle.std.proofs.Common.{◌≡◌, ◌≤◌, ◌+◌, drop, fold, map, take}
use Rattle.std.specs.List.{sum_by}
use Rattle.index_versions.specs.FirstPlaces.{soonest, sooner}
use Rattle.plan_runs.specs.steps.RunCosts.{term_count}
use Rattle.plan_runs.specs.steps.Skips.{variant_skip}
use Rattle.plan_runs.proofs.skipping.variants_skip.Given as goal

abbrev pub invariant-loop-words : goal.invariant-loop-words
invariant-loop-words g l = record {
  skip : fold sooner l.first (map (λ words. variant_skip l.doc.0 l.part words.items) (drop l.words-index l.variants.items)) ≡ soonest (map (λ words. variant_skip l.doc.0 l.part words.items) l.variants.items);
  price : l.moves ≤ l.fn.moves + sum_by (λ words. sum_by term_count words.items) (take l.words-index l.variants.items);
  grown : l.fn.moves ≤ l.moves;
}

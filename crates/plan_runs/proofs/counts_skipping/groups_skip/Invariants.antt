-- The first of those so far and of those that are left is the first of all; a step was counted for each term of those so far.
use Rattle.std.proofs.Common.{◌≡◌, ◌≤◌, ◌+◌, drop, fold, map, take}
use Rattle.std.specs.List.{sum_by}
use Rattle.index_versions.specs.FirstPlaces.{soonest, sooner}
use Rattle.plan_runs.specs.steps.RunCosts.{term_count}
use Rattle.plan_runs.specs.steps.Skips.{vectors_skip}
use Rattle.plan_runs.proofs.counts_skipping.groups_skip.Given as goal

abbrev pub invariant-loop-group : goal.invariant-loop-group
invariant-loop-group g l = record {
  skip : fold sooner l.first (map (λ group. vectors_skip l.doc.0 l.part group.variants.items) (drop l.group-index l.groups.items)) ≡ soonest (map (λ group. vectors_skip l.doc.0 l.part group.variants.items) l.groups.items);
  price : l.moves ≤ l.fn.moves + sum_by (λ group. sum_by (λ words. sum_by term_count words.items) group.variants.items) (take l.group-index l.groups.items);
  grown : l.fn.moves ≤ l.moves;
}

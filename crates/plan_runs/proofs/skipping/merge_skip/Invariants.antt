-- The last of those so far and of those that are left is the last of all; a step was counted for each term of those so far.
use Rattle.std.proofs.Common.{◌≡◌, ◌≤◌, ◌+◌, drop, fold, length, map, take, Some}
use Rattle.std.specs.List.{sum_by}
use Rattle.plan_runs.specs.steps.RunSkips.{terms_skip}
use Rattle.plan_runs.specs.steps.Skips.{later, latest}
use Rattle.plan_runs.proofs.skipping.merge_skip.Given as goal

abbrev pub invariant-loop-terms : goal.invariant-loop-terms
invariant-loop-terms g l = record {
  skip : fold later (Some l.last) (map (terms_skip l.doc.0 l.part) (drop l.terms-index l.words.items)) ≡ latest (map (terms_skip l.doc.0 l.part) l.words.items);
  price : l.moves ≤ l.fn.moves + sum_by (λ terms. length terms) (take l.terms-index l.words.items);
  grown : l.fn.moves ≤ l.moves;
}

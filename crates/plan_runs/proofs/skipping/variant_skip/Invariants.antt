-- The last of those so far and of those that are left is the last of all; a step was counted for each term of those so far.
use Rattle.std.proofs.Common.{◌≡◌, ◌≤◌, ◌+◌, drop, fold, map, take, Some}
use Rattle.std.specs.List.{sum_by}
use Rattle.plan_runs.specs.steps.RunCosts.{term_count}
use Rattle.plan_runs.specs.steps.Skips.{later, latest, word_skip}
use Rattle.plan_runs.proofs.skipping.variant_skip.Given as goal

abbrev pub invariant-loop-word : goal.invariant-loop-word
invariant-loop-word g l = record {
  skip : fold later (Some l.last) (map (word_skip l.doc.0 l.part) (drop l.word-index l.words.items)) ≡ latest (map (word_skip l.doc.0 l.part) l.words.items);
  price : l.moves ≤ l.fn.moves + sum_by term_count (take l.word-index l.words.items);
  grown : l.fn.moves ≤ l.moves;
}

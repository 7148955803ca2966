-- The cursors of the first words were aimed.
use Rattle.std.proofs.Common.{◌≡◌, ◌≤◌, ◌+◌, length, map, take}
use Rattle.std.specs.List.{sum_by}
use Rattle.index_versions.specs.Terms.{aimed_at}
use Rattle.plan_runs.specs.steps.RunShapes.{count_of, cursors_of}
use Rattle.plan_runs.proofs.merge_holding.aim_words.Given as goal

abbrev pub invariant-loop-number : goal.invariant-loop-number
invariant-loop-number g l = record {
  words : l.words.items ≡ l.fn.words.items;
  sized : map count_of l.cursors.items ≡ map length l.fn.words.items;
  done : map cursors_of (take l.number l.cursors.items) ≡ map (map (aimed_at l.place.doc.0 l.place.span)) (take l.number l.fn.words.items);
  price : l.moves ≤ l.fn.moves + sum_by length (take l.number l.fn.words.items);
  grown : l.fn.moves ≤ l.moves;
}

-- What is left follows the last hit so far as all follow the last one before them.
use Rattle.std.proofs.Common.{◌≡◌, drop}
use Rattle.std.specs.Prelude.{filter}
use Rattle.window_distance.specs.steps.Sorting.{stands_with, all_follow, last_of}
use Rattle.window_distance.proofs.neighbours.all_follow.Given as goal

abbrev pub invariant-loop-hit : goal.invariant-loop-hit
invariant-loop-hit l = record {
  followed : all_follow l.range l.unit l.last (filter (stands_with l.place) (drop l.hit-index l.hits)) ≡ all_follow l.range l.unit l.fn.last (filter (stands_with l.place) l.hits);
  last : last_of l.last (filter (stands_with l.place) (drop l.hit-index l.hits)) ≡ last_of l.fn.last (filter (stands_with l.place) l.hits);
}

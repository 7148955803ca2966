-- The best hit so far, and what is left, have the first hit of all.
use Rattle.std.proofs.Common.{◌≡◌, ◌++◌, drop}
use Rattle.std.specs.Prelude.{filter, option_to_list}
use Rattle.window_distance.specs.steps.Sorting.{is_after, first_of}
use Rattle.window_distance.proofs.neighbours.first_after.Given as goal

abbrev pub invariant-loop-hit : goal.invariant-loop-hit
invariant-loop-hit l = first_of (option_to_list l.best ++ filter (is_after l.place) (drop l.hit-index l.hits)) ≡ first_of (filter (is_after l.place) l.hits)

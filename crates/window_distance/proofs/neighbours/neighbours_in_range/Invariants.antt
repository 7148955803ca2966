-- The hits up to the place have their distances in the range, so that those after it decide.
use Rattle.std.proofs.Common.{◌≡◌, length}
use Rattle.std.specs.Prelude.{filter}
use Rattle.all_matches.specs.Distance.{neighbours_in_range, in_order}
use Rattle.window_distance.specs.steps.Sorting.{is_after, all_follow}
use Rattle.window_distance.proofs.neighbours.neighbours_in_range.Given as goal

abbrev pub invariant-loop-next : goal.invariant-loop-next
invariant-loop-next l = all_follow l.range l.unit l.last (in_order (filter (is_after l.place) l.hits)) ≡ neighbours_in_range l.range l.unit (in_order l.hits)

abbrev pub decreases-loop-next : goal.decreases-loop-next
decreases-loop-next l = length (filter (is_after l.place) l.hits)

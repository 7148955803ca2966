-- The words up to the end so far are covered, and the end has moved unless what is left decides whether the place is covered.
use Rattle.std.proofs.Common.{◌≡◌, ◌≤◌, ◌-◌, ◌||◌, nat_lt, true, drop}
use Rattle.std.specs.List.{list_all, range_with_len}
use Rattle.window_distance.specs.steps.Covering.{is_covered}
use Rattle.window_distance.proofs.covering.end_of_cover.Given as goal

abbrev pub invariant-loop-hit : goal.invariant-loop-hit
invariant-loop-hit l = record {
  within : l.place ≤ l.end;
  moved : (nat_lt l.place l.end || is_covered (drop l.hit-index l.hits) l.place) ≡ is_covered l.hits l.place;
  covered : list_all (is_covered l.hits) (range_with_len l.place (l.end - l.place)) ≡ true;
}

-- With what is left to pass all are passed, and each is counted.
use Rattle.std.proofs.Common.{◌≡◌, ◌≤◌, ◌+◌, ◌-◌, drop}
use Rattle.std.specs.List.{prefix_len}
use Rattle.index_cursors.specs.SpanHits.{is_before_both}
use Rattle.index_cursors.proofs.cursor.walk.Given as goal

abbrev pub invariant-loop-at : goal.invariant-loop-at
invariant-loop-at g l = record {
  start : l.start ≤ l.at;
  left : l.at + prefix_len (is_before_both l.from l.to) (drop l.at l.places) ≡ l.start + prefix_len (is_before_both l.from l.to) (drop l.start l.places);
  counted : l.steps + l.start ≡ l.initial.steps + l.at;
}

abbrev pub decreases-loop-at : goal.decreases-loop-at
decreases-loop-at g l = l.len - l.at

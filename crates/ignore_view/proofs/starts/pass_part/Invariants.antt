-- The places of the part up to the next one are passed.
use Rattle.std.proofs.Common.{◌≡◌, ◌+◌, ◌-◌, ◌≤◌, ◌++◌, ℕ, List, map}
use Rattle.std.specs.List.{range_with_len}
use Rattle.std.specs.Option.{ForSome}
use Rattle.ft_base.specs.Places.{last_place}
use Rattle.all_matches.specs.Spans.{places_in}
use Rattle.index_cursors.specs.SpanHits.{started}
use Rattle.ignore_view.specs.steps.Kept.{found_with}
use Rattle.ignore_view.proofs.starts.pass_part.Given as goal

abbrev pub invariant-loop-place : goal.invariant-loop-place
invariant-loop-place l = record {
  found : (rest : List ℕ) → found_with l.walk (map (started l.starts) (range_with_len l.place (l.fn.part.to - l.place)) ++ rest)
      ≡ found_with l.fn.walk (map (started l.starts) (places_in l.fn.part) ++ rest);
  passed : l.walk.passed + (l.fn.part.to - l.place) ≡ l.fn.walk.passed + (l.fn.part.to - l.fn.part.from);
  ahead : ForSome (last_place l.walk.found) (λ last. last ≤ l.walk.passed);
  number : l.number ≤ started l.starts l.place;
}

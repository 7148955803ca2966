-- The places of the parts up to the next one are passed.
use Rattle.std.proofs.Common.{◌≡◌, ◌+◌, ◌≤◌, None, map, length, drop}
use Rattle.std.specs.Option.{ForSome}
use Rattle.ft_base.specs.Places.{last_place}
use Rattle.index_cursors.specs.SpanHits.{started}
use Rattle.ignore_view.specs.steps.Kept.{changes, found_with, places_of}
use Rattle.ignore_view.proofs.starts.kept_starts.Given as goal

abbrev pub invariant-loop-part : goal.invariant-loop-part
invariant-loop-part l = record {
  found : found_with l.walk (map (started l.starts) (places_of (drop l.part-index l.parts.items))) ≡ changes None 1 (map (started l.starts) (places_of l.parts.items));
  passed : l.walk.passed + length (places_of (drop l.part-index l.parts.items)) ≡ length (places_of l.parts.items);
  ahead : ForSome (last_place l.walk.found) (λ last. last ≤ l.walk.passed);
}
